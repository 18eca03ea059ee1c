-- Laws of a kept structure, whatever its kind.
use Rattle.kin_world.proofs.Vocabulary.{subst, List, ℕ, Contains, All, Contains-get_or, IsAskable, AllHold, HaveSameLive, IsKeepFact, IsSmallKeep, IsReal, Scene, ListsExactly, Placed, Keep, HasMembers, kinetic, placed_facts, IsGroundedIn, IsSettledFor}
use Rattle.kin_world.proofs.Vocabulary.{Structure, hull_before, refl, ap, ◌∙◌, ◌≡◌, Some, slice_get, IsTrue, Holds}
use Rattle.kin_motion.specs.declared.keep.Keep.TheVariants as keep
use Rattle.kin_motion.specs.Agreements.{FitsSize}
use Rattle.kin_motion.specs.Keeps.{may_keep}
use Rattle.kin_motion.specs.Merges.{IsHullFact}
use Rattle.kin_chain.proofs.HullDetermined.{same_chains}
use Rattle.kin_diameter.specs.Diameter.{Diameter as FarthestPair}
use Rattle.kin_world.specs.declared.structure.Structure.TheVariants.{Order, Extreme, Hull, Closest, Range, Nearest, Diameter, Boxes}
use Rattle.kin_motion.proofs.AskableLaws.{keep_fact_askable}
use Rattle.kin_motion.proofs.LiveFactsHold.{keep_fact_holds}

-- what every item of a list has all of them have
pub all_from_each : {A : Type 0} {P : A → Type 0} (xs : List A) → ((x : A) → Contains xs x → P x) → All P xs
all_from_each {A} {P} xs each k d low = each _ (Contains-get_or xs k d low)

-- its facts are those of its keep
pub settled_facts : (size : ℕ) (kept : Keep) (s : Scene) (st : Structure) → IsSettledFor size kept s st → ListsExactly (placed_facts st) (IsKeepFact size s kept)
settled_facts size kept s st k = (kinetic st).exact size kept s k.kind k.members k.settled

-- each of them holds
pub settled_holds : (size : ℕ) (kept : Keep) (s : Scene) (st : Structure) → IsSettledFor size kept s st → AllHold s (placed_facts st)
settled_holds size kept s st k = all_from_each (placed_facts st) (λ p there. keep_fact_holds size s kept p (((settled_facts size kept s st k).each p).0 there))

-- each of them may be asked for
pub settled_askable : (size : ℕ) (kept : Keep) (s : Scene) (st : Structure) → IsSmallKeep kept → IsSettledFor size kept s st → All (λ (p : Placed). IsAskable s.live p.fact.form) (placed_facts st)
settled_askable size kept s st small k =
    all_from_each (placed_facts st) (λ p there. keep_fact_askable size s kept p small (((settled_facts size kept s st k).each p).0 there))

-- what it is made of is the same in another scene, where the facts of the hull hold that a farthest pair is made of
pub grounded_where : (size : ℕ) (keeps : List Keep) (v w : Scene) → IsReal v → IsReal w → FitsSize size v → HaveSameLive v w → IsTrue (may_keep keeps) → (k : ℕ) (kept : Keep) (st : Structure) → slice_get keeps k ≡ Some kept
    → IsSettledFor size kept v st → ((pair : FarthestPair) (h : ℕ) → st ≡ Diameter pair → slice_get keeps h ≡ Some keep.Hull → (p : Placed) → IsHullFact size v p → Holds w p.fact) → IsGroundedIn w st
grounded_where size keeps v w real real' fits same few k kept (Order x) there was hold = tt
grounded_where size keeps v w real real' fits same few k kept (Extreme x) there was hold = tt
grounded_where size keeps v w real real' fits same few k kept (Hull x) there was hold = tt
grounded_where size keeps v w real real' fits same few k kept (Closest x) there was hold = tt
grounded_where size keeps v w real real' fits same few k kept (Range x) there was hold = tt
grounded_where size keeps v w real real' fits same few k kept (Nearest x) there was hold = tt
grounded_where size keeps v w real real' fits same few k kept (Boxes x) there was hold = tt
grounded_where size keeps v w real real' fits same few k kept (Diameter x) there was hold =
    let h = hull_before keeps few k (there ∙ ap (λ (y : Keep). Some y) was.kind.0) in
    same_chains size v w real real' fits same (hold x h.0 refl h.2) x.upper x.lower (was.settled.swept.upper_chain, was.settled.swept.lower_chain)

-- it is settled in each scene with the same live numbers in which they hold, and in which what it is made of is the same
pub settled_where_hold : (size : ℕ) (kept : Keep) (v w : Scene) (st : Structure) → IsReal v → IsReal w → IsSettledFor size kept v st → HaveSameLive v w → IsGroundedIn w st → AllHold w (placed_facts st)
    → IsSettledFor size kept w st
settled_where_hold size kept v w st real real' k same ground hold = record {
  kind = k.kind;
  rest = k.rest;
  members = subst (λ live. HasMembers live st) same k.members;
  settled = (kinetic st).determined v w k.rest real k.settled same real' ground hold;
}
