-- A tree without points.
use Rattle.std.proofs.Common.{◌≡◌, refl, sym, ap, ◌∙◌, subst, List, [], ◌∷◌, ◌++◌, ℕ, zero, suc, ◌+◌, ◌-◌, ◌*◌, ◌^◌, true, false, replicate, flat_map, length}
use Rattle.std.specs.Prelude.{Option, Some, None, filter, slice_get}
use Rattle.std.proofs.lemmas.List.{length-replicate}
use Rattle.kin_algebra.proofs.Places.{get_or-replicate_any}
use Rattle.kin_motion.specs.declared.fact.Placed.{Placed}
use Rattle.kin_motion.specs.Chains.{IsUpperChain}
use Rattle.kin_motion.specs.Merges.{IsListedForm, IsTreeFact, points_under}
use Rattle.kin_motion.specs.Numbers.{IsIn, numbers_from}
use Rattle.kin_motion.specs.Scene.{Scene}
use Rattle.kin_motion.specs.Sets.{ListsExactly}
use Rattle.kin_motion.specs.Tournaments.{is_under}
use Rattle.kin_motion.proofs.ChainLaws.{chain_within}
use Rattle.kin_motion.proofs.Members.{in_head}
use Rattle.kin_motion.proofs.SetLaws.{exactly_none}
use Rattle.kin_env.specs.declared.branches.Branches.{Branches}
use Rattle.kin_env.specs.declared.node.Node.{Node}
use Rattle.kin_env.specs.Nodes.{chain_with, merge_from, passed_from, edits_from, failed_from, passed_at, chain_at, facts_with, facts_at}
use Rattle.kin_env.specs.Trees.{chain_told, IsEnvelopeAtRest, IsSettledEnvelope, seen_as}
use Rattle.kin_env.specs.Walks.{AreBlank, slot_in, own_chain, tree_facts}
use Rattle.kin_env.proofs.Trees.{told_is}

nothing_in_turn : (f : ℕ → List Placed) → ((v : ℕ) → f v ≡ []) → (a n : ℕ) → flat_map f (numbers_from a n) ≡ []
nothing_in_turn f h a zero = refl
nothing_in_turn f h a (suc n) = ap (λ (l : List Placed). l ++ flat_map f (numbers_from (a + 1) n)) (h a) ∙ nothing_in_turn f h (a + 1) n

-- ---- one node more without points
read_more : {A : Type 0} (read : Option Node → A) (z : A) (ns : List Node) (n : Node) → read None ≡ z → read (Some n) ≡ z → ((v : ℕ) → read (slice_get ns v) ≡ z) → (v : ℕ) → read (slice_get (ns ++ n ∷ []) v) ≡ z
read_more {A} read z [] n none some h zero = some
read_more {A} read z [] n none some h (suc v) = none
read_more {A} read z (m ∷ ns) n none some h zero = h 0
read_more {A} read z (m ∷ ns) n none some h (suc v) = read_more read z ns n none some (λ u. h (suc u)) v

pub blank_none : AreBlank []
blank_none = record { merge = λ v. refl; passed = λ v. refl; edits = λ v. refl; failed = λ v. refl }

pub blank_more : (ns : List Node) (n : Node) → n.merge ≡ None → n.passed.items ≡ [] → n.edits.items ≡ [] → n.failed.items ≡ [] → AreBlank ns → AreBlank (ns ++ n ∷ [])
blank_more ns n merge passed edits failed h = record {
  merge = read_more merge_from None ns n refl merge h.merge;
  passed = read_more passed_from [] ns n refl passed h.passed;
  edits = read_more edits_from [] ns n refl edits h.edits;
  failed = read_more failed_from [] ns n refl failed h.failed;
}

module _ (b : Branches) (blank : AreBlank b.nodes.items) where
  chain_none : (v : ℕ) → chain_at b.nodes.items v ≡ []
  chain_none v = ap (λ m. chain_with m (passed_at b.nodes.items v)) (blank.merge v) ∙ blank.passed v

  pub no_chain : (v : ℕ) → chain_told (seen_as b true) v ≡ []
  no_chain v = told_is b.nodes.items v ∙ chain_none v

  pub no_facts : tree_facts b.size b.nodes.items ≡ []
  no_facts = nothing_in_turn (facts_at b.nodes.items) (λ v. ap facts_with (blank.merge v)) 1 (2 ^ b.size - 1)

  pub blank_rest : b.slots.items ≡ replicate (2 ^ b.size) false → IsEnvelopeAtRest (seen_as b true)
  blank_rest slots = record { unmarked = λ i low. no_chain (2 ^ b.size + i) ∙ ap (own_chain i) (sym (ap (λ l. slot_in l i) slots ∙ get_or-replicate_any (2 ^ b.size) i false)); room = ap length slots ∙ length-replicate (2 ^ b.size) false; whole = refl }

  module _ (s : Scene) (none : s.live ≡ []) where
    empty_chain : (test : ℕ → _) → IsUpperChain s (filter test s.live) []
    empty_chain test = subst (λ l. IsUpperChain s (filter test l) []) (sym none) (record { members = λ p. refl; rising = tt })

    no_fact : (p : Placed) → IsTreeFact b.size s p → ⊥
    no_fact p f = at f.merge.a f.merge.a_chain f.merge.listed
      where
        at : (a : List ℕ) → IsUpperChain s (points_under b.size s (2 * p.part)) a → IsListedForm s a f.merge.b f.merge.breakpoints f.form → ⊥
        at [] u l = l
        at (x ∷ xs) u l = absurd (let e : false ≡ true = subst (λ l. IsIn x (filter (is_under b.size (2 * p.part)) l)) none (chain_within s (points_under b.size s (2 * p.part)) (x ∷ xs) u x (in_head x xs)) in cc)

    pub blank_settled : IsSettledEnvelope (seen_as b true) s
    blank_settled = record {
      tree = record {
        chain = subst (λ (l : List ℕ). IsUpperChain s s.live l) (sym (no_chain 1)) (subst (λ (l : List ℕ). IsUpperChain s l []) (sym none) (record { members = λ p. refl; rising = tt }));
        exact = subst (λ (l : List Placed). ListsExactly l (IsTreeFact b.size s)) (sym no_facts) (exactly_none (IsTreeFact b.size s) no_fact);
      };
      chains = λ v some low. subst (λ (l : List ℕ). IsUpperChain s (points_under b.size s v) l) (sym (no_chain v)) (empty_chain (is_under b.size v));
      fits = λ i h. absurd (let e : false ≡ true = subst (λ (l : List ℕ). IsIn i l) none h in cc);
    }
