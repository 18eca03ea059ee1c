-- The facts of a tournament name live numbers, where its items do.
use Rattle.std.proofs.Common.{◌≡◌, ◌⊎◌, inl, inr, sym, ap, subst, List, ℕ, min, max, arith}
use Rattle.std.specs.Prelude.{Option, Some}
use Rattle.kin_motion.specs.declared.fact.Placed.{Placed}
use Rattle.kin_motion.specs.ClosestFacts.{near}
use Rattle.kin_motion.specs.ClosestPairs.{Near}
use Rattle.kin_motion.specs.Forms.{IsAskable}
use Rattle.kin_motion.specs.Numbers.{IsIn}
use Rattle.kin_motion.specs.Scene.{Scene}
use Rattle.kin_motion.specs.Tournaments.{Key, item_in, IsNodeFact}

-- where the form of the items of two slots may be asked for, the fact of a node may be
pub node_fact_askable : {Item : Type 0} (s : Scene) (key : Key Item) (size : ℕ) (slots : List (Option Item))
    → ((i j : ℕ) (a b : Item) → item_in slots i ≡ Some a → item_in slots j ≡ Some b → IsAskable s.live (key.form a b))
    → (p : Placed) → IsNodeFact s key size slots p → IsAskable s.live p.fact.form
node_fact_askable {Item} s key size slots each p f =
    let form : key.form f.left f.right ≡ p.fact.form = sym (ap (λ (q : Placed). q.fact.form) f.fact) in
    subst (IsAskable s.live) form (each f.left_best.slot f.right_best.slot f.left f.right f.left_best.held f.right_best.held)

-- both numbers of a pair are live
abbrev pub AreTwoLive : List ℕ → Near → Type 0
AreTwoLive live n = IsIn n.i live × IsIn n.j live

pub near_live : (live : List ℕ) (slot p c : ℕ) → IsIn p live → IsIn c live → AreTwoLive live (near slot p c)
near_live live slot p c x y = (of_two (min p c) (least p c), of_two (max p c) (most p c))
  where
    least : (p c : ℕ) → (min p c ≡ p) ⊎ (min p c ≡ c)
    least p c = grind arith

    most : (p c : ℕ) → (max p c ≡ p) ⊎ (max p c ≡ c)
    most p c = grind arith

    of_two : (k : ℕ) → (k ≡ p) ⊎ (k ≡ c) → IsIn k live
    of_two k (inl e) = subst (λ i. IsIn i live) (sym e) x
    of_two k (inr e) = subst (λ i. IsIn i live) (sym e) y
