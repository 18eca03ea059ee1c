-- What is handed to a structure at rest that settles.
use Rattle.std.proofs.Common.{◌≡◌, sym, ◌∙◌, subst, List, [], ℕ, Bool, true, false, Result, Ok, Err}
use Rattle.std.specs.Prelude.{Contains, IsFalse, OnOk}
use Rattle.std.proofs.lemmas.List.Elements.{All-contains}
use Rattle.kin_motion.specs.declared.fact.Placed.{Placed}
use Rattle.kin_motion.specs.Kinetics.{AllHold, ListsFailing}
use Rattle.kin_motion.specs.Scene.{Scene, Holds}
use Rattle.kin_motion.specs.Sets.{ListsExactly}
use Rattle.kin_motion.specs.Forms.{names}
use Rattle.kin_motion.specs.Numbers.{is_in, HasEntered}
use Rattle.kin_motion.proofs.SetLaws.{exactly_in_words, exactly_none}
use Rattle.kin_motion.proofs.Members.{in_head}

-- where nothing is spared, all that fail are listed
pub none_spared : (facts : List Placed) (is_spared : Placed → Bool) (s : Scene) (failed : List Placed) → ((p : Placed) → is_spared p ≡ false)
    → ListsExactly failed (λ p. Contains facts p × ¬ (Holds s p.fact)) → ListsFailing facts is_spared s failed
none_spared facts is_spared s failed none listed =
    exactly_in_words failed (λ p. Contains facts p × ¬ (Holds s p.fact)) (λ p. Contains facts p × IsFalse (is_spared p) × ¬ (Holds s p.fact))
    (λ p. ((λ h. (h.0, none p, h.1)), (λ h. (h.0, h.2)))) listed

-- the number that has entered is there
pub entered_in : (entering : ℕ) (before after : List ℕ) → HasEntered entering before after → is_in entering after ≡ true
entered_in entering before after entered = sym (entered.lists.same entering) ∙ in_head entering before

-- where each fact that isn't spared names the leaving number or holds, none is left that fails
pub none_left : (facts after : List Placed) (is_spared : Placed → Bool) (s : Scene) (leaving : ℕ) → after ≡ facts → ((p : Placed) → Contains facts p → is_spared p ≡ false → names p.fact.form leaving ≡ false)
    → ((p : Placed) → Contains facts p → names p.fact.form leaving ≡ false → Holds s p.fact) → ListsFailing after is_spared s []
none_left facts after is_spared s leaving same spares hold =
    subst (λ (ps : List Placed). ListsFailing ps is_spared s []) (sym same) (exactly_none _ (λ p h. h.2 (hold p h.0 (spares p h.0 h.1))))

-- where all facts hold, none fails
pub none_fails : (facts after : List Placed) (is_spared : Placed → Bool) (s : Scene) → after ≡ facts → AllHold s facts → ListsFailing after is_spared s []
none_fails facts after is_spared s same hold =
    subst (λ (ps : List Placed). ListsFailing ps is_spared s []) (sym same) (exactly_none _ (λ p h. h.2 (All-contains (λ (q : Placed). Holds s q.fact) facts p hold h.0)))

-- what follows from five clauses that speak of an `Ok` alone
pub from_five : {T E A B C D F P : Type 0} (r : Result T E) → (A → B → C → D → F → P) → OnOk r A → OnOk r B → OnOk r C → OnOk r D → OnOk r F → OnOk r P
from_five (Ok v) h a b c d f = h a b c d f
from_five (Err e) h a b c d f = tt
