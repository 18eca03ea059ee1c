-- A node without work.
use Rattle.std.proofs.Common.{◌≡◌, ◌≢◌, ◌⊎◌, inl, inr, sym, ◌∙◌, subst, List, [], ◌∷◌, ℕ, Bool, true, false}
use Rattle.std.specs.Prelude.{Option, Some, None, Contains}
use Rattle.std.proofs.lemmas.Bool.{false_from_ne_true}
use Rattle.std.proofs.lemmas.List.Elements.{All-nil, All-cons}
use Rattle.kin_algebra.proofs.Members.{contains_none, contains_head, contains_tail}
use Rattle.kin_algebra.proofs.Signs.{equal_or_not}
use Rattle.kin_motion.specs.declared.fact.Placed.{Placed}
use Rattle.kin_motion.specs.Chains.{IsUpperChain}
use Rattle.kin_motion.specs.Kinetics.{ListsFailing, AllHold}
use Rattle.kin_motion.specs.Numbers.{is_in}
use Rattle.kin_motion.specs.Scene.{Scene, IsReal, Holds}
use Rattle.kin_chain.proofs.MergeDetermined.{merge_is_determined}
use Rattle.kin_overlay.specs.Overlays.{Merge}
use Rattle.kin_env.specs.Nodes.{facts_with}
use Rattle.kin_env.specs.Joints.{IsJoint, IsSettledThere, AreHalves, AreSpared}
use Rattle.kin_env.proofs.Tellings.{merge_fact_names}

-- where no fact has failed all hold: a spared one would name a number that isn't there
all_hold : (s : Scene) (spared : Placed → Bool) (facts : List Placed) → ((p : Placed) → Contains facts p → spared p ≡ true → ⊥) → ListsFailing facts spared s [] → AllHold s facts
all_hold s spared facts none lists = from facts (λ p c. holds p c (equal_or_not (s.sign p.fact.form) p.fact.sign))
  where
    holds : (p : Placed) → Contains facts p → (s.sign p.fact.form ≡ p.fact.sign) ⊎ (s.sign p.fact.form ≢ p.fact.sign) → Holds s p.fact
    holds p c (inl e) = e
    holds p c (inr n) = absurd (contains_none p ((lists.each p).1 (c, false_from_ne_true (spared p) (none p c), n)))

    from : (fs : List Placed) → ((p : Placed) → Contains fs p → Holds s p.fact) → AllHold s fs
    from [] h = All-nil (λ (p : Placed). Holds s p.fact)
    from (p ∷ fs) h = All-cons (λ (p : Placed). Holds s p.fact) p fs (h p (contains_head p fs)) (from fs (λ q c. h q (contains_tail p q fs c)))

-- its merge is settled still
pub settled_still : (s : Scene) (real : IsReal s) (v : ℕ) (merge : Option Merge) (passed a b : List ℕ) (spared : Placed → Bool) → AreHalves s a b → AreSpared s spared → IsJoint v merge passed a b
    → ListsFailing (facts_with merge) spared s [] → IsSettledThere s merge
settled_still s real v None passed a b spared halves are joint lists = tt
settled_still s real v (Some m) passed a b spared halves are of lists =
    merge_is_determined of.before s m.a m.b m.chain m.part m.facts of.real real of.settled
    (subst (λ (l : List ℕ). IsUpperChain s l l) (sym of.a_is) halves.a_chain)
    (subst (λ (l : List ℕ). IsUpperChain s l l) (sym of.b_is) halves.b_chain)
    (all_hold s spared m.facts none lists)
  where
    none : (p : Placed) → Contains m.facts p → spared p ≡ true → ⊥
    none p c e = at (merge_fact_names of.before m.a m.b m.part p (are p e).0 ((of.settled.exact.each p).0 c) (are p e).1)
      where
        at : (is_in (are p e).0 m.a ≡ true) ⊎ (is_in (are p e).0 m.b ≡ true) → ⊥
        at (inl h) = let z : true ≡ false = sym (halves.a_live (are p e).0 (subst (λ (l : List ℕ). is_in (are p e).0 l ≡ true) of.a_is h)) ∙ (are p e).2 in absurd cc
        at (inr h) = let z : true ≡ false = sym (halves.b_live (are p e).0 (subst (λ (l : List ℕ). is_in (are p e).0 l ≡ true) of.b_is h)) ∙ (are p e).2 in absurd cc
