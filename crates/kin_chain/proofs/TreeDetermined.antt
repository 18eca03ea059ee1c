-- The facts of a tree of upper chains determine its chains, from the leaves up.
use Rattle.std.proofs.Common.{◌≡◌, ◌⊎◌, inl, inr, refl, sym, ap, subst, arith, List, [], ◌∷◌, length, ℕ, zero, suc, ◌+◌, ◌-◌, ◌*◌, ◌^◌, ◌<◌, ◌≤◌, Bool, true, false, cond, nat_eq, nat_lt}
use Rattle.std.proofs.lemmas.Bool.Decides.{nat_tests}
use Rattle.std.proofs.lemmas.List.Elements.{All-filter}
use Rattle.kin_motion.specs.declared.fact.Placed.{Placed}
use Rattle.kin_motion.specs.Agreements.{FitsSize}
use Rattle.kin_motion.specs.Chains.{IsUpperChain, upper_chain_of}
use Rattle.kin_motion.specs.Contents.{IsSettledMerge}
use Rattle.kin_motion.specs.Kinetics.{HaveSameLive, AllHold}
use Rattle.kin_motion.specs.Merges.{IsMergeFact, IsTreeFact, points_under}
use Rattle.kin_motion.specs.Numbers.{is_in, IsIn, IsOnce}
use Rattle.kin_motion.specs.Scene.{Scene, IsReal, Holds}
use Rattle.kin_motion.specs.Sets.{ListsExactly}
use Rattle.kin_motion.specs.Tournaments.{is_under}
use Rattle.kin_motion.proofs.AgreementLaws.{kept-once}
use Rattle.kin_motion.proofs.ChainLaws.{one_upper_chain}
use Rattle.kin_motion.proofs.HullFactLaws.{node_is_inner}
use Rattle.kin_motion.proofs.Proved.{chain_proved, live-once}
use Rattle.kin_motion.proofs.RealLaws.{real_line_laws}
use Rattle.kin_motion.proofs.SetLaws.{exactly_in_words, filter-sound, filter-complete}
use Rattle.kin_motion.proofs.UnderNodes.{is_under-none, is_under-le}
use Rattle.kin_chain.specs.Merging.{AreTold}
use Rattle.kin_chain.specs.Trees.{TreeIsDetermined}
use Rattle.kin_chain.proofs.ChainsOfChains.{told_of_chains}
use Rattle.kin_chain.proofs.MergeDetermined.{merge_is_determined}
use Rattle.kin_chain.proofs.NodeChains.{told_halves, under_live, only_left, only_right, of_both, both_of, facts_of_node, none_at_left, none_at_right, leaf_right, empty_chain}
use Rattle.kin_chain.proofs.NodeFacts.{IsFactOfNode, exact_by_node, facts_in, facts_in_part}

module _ (size : ℕ) (v w : Scene) (told : ℕ → List ℕ) (facts : List Placed) (real : IsReal v) (real' : IsReal w) (fits : FitsSize size v) (same : HaveSameLive v w)
    (here : (u : ℕ) → 0 < u → u < 2 * 2 ^ size → IsUpperChain v (points_under size v u) (told u)) (exact : ListsExactly facts (IsTreeFact size v)) (hold : AllHold w facts) where
  fits' : FitsSize size w
  fits' i h = fits i (subst (λ l. IsIn i l) (sym same) h)

  -- a node whose halves have their chains has its own, and its facts
  record IsSo (u : ℕ) : Type 0 where
    pub chain : IsUpperChain w (points_under size w u) (told u)
    pub listed : ListsExactly (facts_in facts u) (IsFactOfNode size w u)

  module _ (u : ℕ) (some : 0 < u) (inner : u < 2 ^ size) where
    was : IsUpperChain v (points_under size v u) (told u)
    was = here u some (omega arith)

    facts_were : ListsExactly (facts_in facts u) (IsFactOfNode size v u)
    facts_were = facts_in_part size facts v exact u

    passes_right : (b : List ℕ) → IsUpperChain v (points_under size v (2 * u)) [] → IsUpperChain v (points_under size v (2 * u + 1)) b
        → IsUpperChain w (points_under size w (2 * u)) [] → IsUpperChain w (points_under size w (2 * u + 1)) b → IsSo u
    passes_right b va vb wa wb =
        let is : told u ≡ b = one_upper_chain v (real_line_laws v real) (points_under size v u) (told u) b was (only_right v size fits u some inner real [] b va vb refl) in
        record {
          chain = subst (λ (l : List ℕ). IsUpperChain w (points_under size w u) l) (sym is) (only_right w size fits' u some inner real' [] b wa wb refl);
          listed = exactly_in_words (facts_in facts u) (IsFactOfNode size v u) (IsFactOfNode size w u) (λ p. ((λ m. absurd (none_at_left v real va m)), (λ m. absurd (none_at_left w real' wa m)))) facts_were;
        }

    passes_left : (a : List ℕ) → IsUpperChain v (points_under size v (2 * u)) a → IsUpperChain v (points_under size v (2 * u + 1)) []
        → IsUpperChain w (points_under size w (2 * u)) a → IsUpperChain w (points_under size w (2 * u + 1)) [] → IsSo u
    passes_left a va vb wa wb =
        let is : told u ≡ a = one_upper_chain v (real_line_laws v real) (points_under size v u) (told u) a was (only_left v size fits u some inner real a [] va vb refl) in
        record {
          chain = subst (λ (l : List ℕ). IsUpperChain w (points_under size w u) l) (sym is) (only_left w size fits' u some inner real' a [] wa wb refl);
          listed = exactly_in_words (facts_in facts u) (IsFactOfNode size v u) (IsFactOfNode size w u) (λ p. ((λ m. absurd (none_at_right v real vb m)), (λ m. absurd (none_at_right w real' wb m)))) facts_were;
        }

    merges : (a b : List ℕ) → 0 < length a → 0 < length b → IsUpperChain v (points_under size v (2 * u)) a → IsUpperChain v (points_under size v (2 * u + 1)) b
        → IsUpperChain w (points_under size w (2 * u)) a → IsUpperChain w (points_under size w (2 * u + 1)) b → IsSo u
    merges a b a_some b_some va vb wa wb = record {
      chain = of_both w size fits' u some inner real' a b wa wb (told u) now.is_chain;
      listed = exactly_in_words (facts_in facts u) (IsMergeFact w a b u) (IsFactOfNode size w u) (facts_of_node w size fits' u some inner real' a b wa wb) now.exact;
    }
      where
        halves : AreTold v a b a b
        halves = told_of_chains v (points_under size v (2 * u)) (points_under size v (2 * u + 1)) a b (told_halves v size fits u some inner real a b va vb)

        halves' : AreTold w a b a b
        halves' = told_of_chains w (points_under size w (2 * u)) (points_under size w (2 * u + 1)) a b (told_halves w size fits' u some inner real' a b wa wb)

        merge : IsSettledMerge v a b (told u) u (facts_in facts u)
        merge = record {
          a_some = a_some;
          b_some = b_some;
          less = halves.less;
          a_chain = halves.a_chain;
          b_chain = halves.b_chain;
          is_chain = both_of v size fits u some inner real a b va vb (told u) was;
          exact = exactly_in_words (facts_in facts u) (IsFactOfNode size v u) (IsMergeFact v a b u) (λ p. ((facts_of_node v size fits u some inner real a b va vb p).1, (facts_of_node v size fits u some inner real a b va vb p).0)) facts_were;
        }

        now : IsSettledMerge w a b (told u) u (facts_in facts u)
        now = merge_is_determined v w a b (told u) u (facts_in facts u) real real' merge halves'.a_chain halves'.b_chain (All-filter (λ p. nat_eq p.part u) (λ p. Holds w p.fact) facts hold)

    above : (a b : List ℕ) → IsUpperChain v (points_under size v (2 * u)) a → IsUpperChain v (points_under size v (2 * u + 1)) b
        → IsUpperChain w (points_under size w (2 * u)) a → IsUpperChain w (points_under size w (2 * u + 1)) b → IsSo u
    above [] b = passes_right b
    above (x ∷ xs) [] = passes_left (x ∷ xs)
    above (x ∷ xs) (y ∷ ys) = merges (x ∷ xs) (y ∷ ys) (omega arith) (omega arith)

    so : IsUpperChain w (points_under size w (2 * u)) (told (2 * u)) → IsUpperChain w (points_under size w (2 * u + 1)) (told (2 * u + 1)) → IsSo u
    so = above (told (2 * u)) (told (2 * u + 1)) (here (2 * u) (omega arith) (omega arith)) (here (2 * u + 1) (omega arith) (omega arith))

  -- the chain of a leaf is that of its slot
  leaf : (i : ℕ) → i < 2 ^ size → IsUpperChain w (points_under size w (2 ^ size + i)) (told (2 ^ size + i))
  leaf i low =
      let held = is_in i v.live in
      let is : told (2 ^ size + i) ≡ cond held (i ∷ []) [] = one_upper_chain v (real_line_laws v real) (points_under size v (2 ^ size + i)) (told (2 ^ size + i)) (cond held (i ∷ []) [])
      (here (2 ^ size + i) (omega arith) (omega arith)) (leaf_right v real size i held low fits refl) in
      subst (λ (l : List ℕ). IsUpperChain w (points_under size w (2 ^ size + i)) l) (sym is) (leaf_right w real' size i held low fits' (ap (λ l. is_in i l) (sym same)))

  -- from the leaves up, by the distance to the last node
  chains : (far u : ℕ) → 0 < u → u < 2 * 2 ^ size → 2 * 2 ^ size ≤ u + far → IsUpperChain w (points_under size w u) (told u)
  chains zero u some inside near = absurd (omega arith)
  chains (suc far) u some inside near = at (nat_lt u (2 ^ size)) refl (λ h. chains far (2 * u) (omega arith) h (omega arith)) (λ h. chains far (2 * u + 1) (omega arith) h (omega arith))
    where
      at : (b : Bool) → nat_lt u (2 ^ size) ≡ b → (2 * u < 2 * 2 ^ size → IsUpperChain w (points_under size w (2 * u)) (told (2 * u)))
          → (2 * u + 1 < 2 * 2 ^ size → IsUpperChain w (points_under size w (2 * u + 1)) (told (2 * u + 1))) → IsUpperChain w (points_under size w u) (told u)
      at true e l r = let inner : u < 2 ^ size = grind (arith, nat_tests, e) in (so u some inner (l (omega arith)) (r (omega arith))).chain
      at false e l r =
          let high : 2 ^ size ≤ u = grind (arith, nat_tests, e) in
          let back : 2 ^ size + (u - 2 ^ size) ≡ u = omega arith in
          subst (λ n. IsUpperChain w (points_under size w n) (told n)) back (leaf (u - 2 ^ size) (omega arith))

  pub chain_of_node : (u : ℕ) → 0 < u → u < 2 * 2 ^ size → IsUpperChain w (points_under size w u) (told u)
  chain_of_node u some inside = chains (2 * 2 ^ size) u some inside (omega arith)

  node_there : (u : ℕ) → 0 < u → u < 2 ^ size → IsSo u
  node_there u some inner = so u some inner (chain_of_node (2 * u) (omega arith) (omega arith)) (chain_of_node (2 * u + 1) (omega arith) (omega arith))

  pub facts_there : ListsExactly facts (IsTreeFact size w)
  facts_there =
      exact_by_node size facts w real' fits' exact.once
      (λ p c. let f = (exact.each p).0 c in let i = node_is_inner size v real fits p.part f.form f.merge in let low = i.0 in (omega arith, i.1))
      (λ p some inner. (
        (λ c. ((node_there p.part some inner).listed.each p).0 (filter-complete (λ q. nat_eq q.part p.part) facts p c (grind (arith, nat_tests)))),
        (λ m. (filter-sound (λ q. nat_eq q.part p.part) facts p (((node_there p.part some inner).listed.each p).1 m)).0),
      ))

-- ---- the law
-- no slot is under what is no node
none_outside : (s : Scene) (size u : ℕ) → FitsSize size s → (u ≡ 0) ⊎ (2 * 2 ^ size ≤ u) → (p : ℕ) → IsIn p (points_under size s u) → ⊥
none_outside s size u fits outside p h = at outside (under_live s size u p h)
  where
    at : (u ≡ 0) ⊎ (2 * 2 ^ size ≤ u) → IsIn p s.live × (is_under size u p ≡ true) → ⊥
    at (inl e) k = is_under-none size p (subst (λ n. is_under size n p ≡ true) e k.1)
    at (inr high) k = let low = fits p k.0 in let le = is_under-le size u p k.1 in absurd (omega (arith, low, le, high))

under_is_once : (size : ℕ) (s : Scene) → IsReal s → (u : ℕ) → IsOnce (points_under size s u)
under_is_once size s real u = kept-once (is_under size u) s.live (live-once s real)

pub tree_is_determined : TreeIsDetermined
tree_is_determined size v w node chain facts real real' fits same is_chain exact hold = (
  at (nat_eq node 0) refl (nat_lt node (2 * 2 ^ size)) refl,
  facts_there size v w told facts real real' fits same (λ u some inside. here u) exact hold,
)
  where
    told : ℕ → List ℕ
    told u = upper_chain_of v (points_under size v u)

    here : (u : ℕ) → IsUpperChain v (points_under size v u) (told u)
    here u = chain_proved v (points_under size v u) real (under_is_once size v real u)

    one : (xs : List ℕ) → IsUpperChain v (points_under size v node) xs → IsUpperChain w (points_under size w node) xs → IsUpperChain w (points_under size w node) chain
    one xs a b = subst (IsUpperChain w (points_under size w node)) (one_upper_chain v (real_line_laws v real) (points_under size v node) xs chain a is_chain) b

    outside : (node ≡ 0) ⊎ (2 * 2 ^ size ≤ node) → IsUpperChain w (points_under size w node) chain
    outside o = one [] (empty_chain v (points_under size v node) (none_outside v size node fits o)) (empty_chain w (points_under size w node) (none_outside w size node (λ i h. fits i (subst (IsIn i) (sym same) h)) o))

    at : (z : Bool) → nat_eq node 0 ≡ z → (t : Bool) → nat_lt node (2 * 2 ^ size) ≡ t → IsUpperChain w (points_under size w node) chain
    at true e t f = outside (inl (grind (arith, nat_tests, e)))
    at false e false f = outside (inr (grind (arith, nat_tests, f)))
    at false e true f = one (told node) (here node) (chain_of_node size v w told facts real real' fits same (λ u some inside. here u) exact hold node (grind (arith, nat_tests, e)) (grind (arith, nat_tests, f)))
