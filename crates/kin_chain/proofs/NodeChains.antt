-- The upper chains of the points under a node, and under its halves.
use Rattle.std.proofs.Common.{◌≡◌, ◌⊎◌, inl, inr, refl, sym, ap, ap₂, ◌∙◌, subst, arith, List, [], ◌∷◌, ◌++◌, ℕ, ◌+◌, ◌*◌, ◌^◌, ◌<◌, Bool, true, false, cond, not, ◌&&◌, ◌||◌, nat_lt, pos}
use Rattle.std.specs.Prelude.{◌↔◌}
use Rattle.std.proofs.lemmas.Bool.{false_from_ne_true, and_parts}
use Rattle.std.proofs.lemmas.Bool.Decides.{nat_tests}
use Rattle.kin_algebra.proofs.Tests.{and_same}
use Rattle.kin_algebra.specs.declared.sign.Sign.{Sign}
use Rattle.kin_algebra.specs.Signs.{opposite_of}
use Rattle.kin_motion.specs.declared.form.Form.TheVariants.{Turn}
use Rattle.kin_motion.specs.declared.fact.Placed.{Placed}
use Rattle.kin_motion.specs.Chains.{is_plus, is_zero, is_left, is_double, is_above, is_under_segment, is_bare, IsUpperChain}
use Rattle.kin_motion.specs.Merges.{IsListedForm, IsMergeFact, points_under}
use Rattle.kin_motion.specs.Numbers.{is_in, IsIn}
use Rattle.kin_motion.specs.Scene.{Scene, IsReal, x_sign, y_sign}
use Rattle.kin_motion.specs.Tournaments.{is_under}
use Rattle.kin_motion.proofs.AgreementLaws.{kept-members}
use Rattle.kin_motion.proofs.ChainLaws.{one_upper_chain, never_left}
use Rattle.kin_motion.proofs.Members.{in_head, in_cases, in_left, in_right, in_either}
use Rattle.kin_motion.proofs.RealLaws.{real_line_laws}
use Rattle.kin_motion.proofs.UnderNodes.{under_root, is_under-left, is_under-right, is_under-cases, is_under-leaf, is_under-leaf_alone}
use Rattle.kin_chain.specs.Covering.{IsCovered, IsCovered.{in_place, below, under}}
use Rattle.kin_chain.specs.Merging.{AreTold}
use Rattle.kin_chain.proofs.ChainsOfChains.{chain_of_chains, facts_of_chains}
use Rattle.kin_chain.proofs.Covering.{chain_covers}
use Rattle.kin_chain.proofs.Levels.{halves_apart}
use Rattle.kin_chain.proofs.MergedChain.{same_set}

-- ---- sets and chains
-- nothing is covered by an empty chain
none_covered : (s : Scene) (p : ℕ) → IsCovered s [] p → ⊥
none_covered s p (in_place c i d) = absurd (let e : false ≡ true = i in cc)
none_covered s p (below c i d) = absurd (let e : false ≡ true = i in cc)
none_covered s p (under [] c d behind split u) = absurd cc
none_covered s p (under (x ∷ xs) c d behind split u) = absurd cc

-- a set whose chain is empty is empty
pub none_in_set : (s : Scene) → IsReal s → (set : List ℕ) → IsUpperChain s set [] → (p : ℕ) → IsIn p set → ⊥
none_in_set s real set u p i = none_covered s p (chain_covers s set [] p real u i refl)

-- and an empty set has an empty chain
pub empty_chain : (s : Scene) (set : List ℕ) → ((p : ℕ) → IsIn p set → ⊥) → IsUpperChain s set []
empty_chain s set none = record { members = λ p. sym (nowhere (is_in p set) (is_bare s set p) (none p)); rising = tt }
  where
    nowhere : (a b : Bool) → (a ≡ true → ⊥) → a && b ≡ false
    nowhere true b n = absurd (n refl)
    nowhere false b n = refl

-- with an empty chain there is no fact
pub none_at_left : (s : Scene) → IsReal s → {left right : List ℕ} {part : ℕ} {p : Placed} → IsUpperChain s left [] → IsMergeFact s left right part p → ⊥
none_at_left s real {left} u m = at m.merge.a m.merge.a_chain m.merge.listed
  where
    at : (a : List ℕ) → IsUpperChain s left a → IsListedForm s a m.merge.b m.merge.breakpoints m.form → ⊥
    at [] w l = l
    at (x ∷ xs) w l = absurd (let e : [] ≡ x ∷ xs = one_upper_chain s (real_line_laws s real) left [] (x ∷ xs) u w in cc)

pub none_at_right : (s : Scene) → IsReal s → {left right : List ℕ} {part : ℕ} {p : Placed} → IsUpperChain s right [] → IsMergeFact s left right part p → ⊥
none_at_right s real {left} {right} u m = at m.merge.a m.merge.b m.merge.b_chain m.merge.listed
  where
    at : (a b : List ℕ) → IsUpperChain s right b → IsListedForm s a b m.merge.breakpoints m.form → ⊥
    at [] b w l = l
    at (x ∷ xs) [] w l = l
    at (x ∷ xs) (y ∷ ys) w l = absurd (let e : [] ≡ y ∷ ys = one_upper_chain s (real_line_laws s real) right [] (y ∷ ys) u w in cc)

module _ (s : Scene) (size : ℕ) where
  -- the live numbers under a node
  pub under_live : (v i : ℕ) → IsIn i (points_under size s v) → IsIn i s.live × (is_under size v i ≡ true)
  under_live v i h = let k = and_parts (is_in i s.live) (is_under size v i) (sym (kept-members (is_under size v) s.live i) ∙ h) in (k.0, k.1)

  pub live_under : (v i : ℕ) → IsIn i s.live → is_under size v i ≡ true → IsIn i (points_under size s v)
  live_under v i h k = kept-members (is_under size v) s.live i ∙ ap₂ (λ a b. a && b) h k

  module _ (fits : (i : ℕ) → IsIn i s.live → i < 2 ^ size) where
    pub slot_under : (v i : ℕ) → IsIn i (points_under size s v) → (i < 2 ^ size) × (is_under size v i ≡ true)
    slot_under v i h = let k = under_live v i h in (fits i k.0, k.1)

    -- every live number is under the root
    pub at_root : (xs : List ℕ) → IsReal s → IsUpperChain s (points_under size s 1) xs → IsUpperChain s s.live xs
    at_root xs real u = same_set s real (λ i h. (under_live 1 i h).0) (λ i h. live_under 1 i h (under_root size i (fits i h))) u

    pub from_root : (xs : List ℕ) → IsReal s → IsUpperChain s s.live xs → IsUpperChain s (points_under size s 1) xs
    from_root xs real u = same_set s real (λ i h. live_under 1 i h (under_root size i (fits i h))) (λ i h. (under_live 1 i h).0) u

    module _ (v : ℕ) (some : 0 < v) (inner : v < 2 ^ size) where
      from_left : (i : ℕ) → IsIn i (points_under size s (2 * v)) → IsIn i (points_under size s v)
      from_left i h = let k = under_live (2 * v) i h in live_under v i k.0 (is_under-left size v i some inner (fits i k.0) k.1)

      from_right : (i : ℕ) → IsIn i (points_under size s (2 * v + 1)) → IsIn i (points_under size s v)
      from_right i h = let k = under_live (2 * v + 1) i h in live_under v i k.0 (is_under-right size v i some inner (fits i k.0) k.1)

      to_halves : (i : ℕ) → IsIn i (points_under size s v) → IsIn i (points_under size s (2 * v)) ⊎ IsIn i (points_under size s (2 * v + 1))
      to_halves i h = let k = under_live v i h in at k (is_under-cases size v i some inner (fits i k.0) k.1)
        where
          at : IsIn i s.live × (is_under size v i ≡ true) → (is_under size (2 * v) i ≡ true) ⊎ (is_under size (2 * v + 1) i ≡ true) → IsIn i (points_under size s (2 * v)) ⊎ IsIn i (points_under size s (2 * v + 1))
          at k (inl u) = inl (live_under (2 * v) i k.0 u)
          at k (inr u) = inr (live_under (2 * v + 1) i k.0 u)

      module _ (real : IsReal s) (a b : List ℕ) (a_chain : IsUpperChain s (points_under size s (2 * v)) a) (b_chain : IsUpperChain s (points_under size s (2 * v + 1)) b) where
        pub told_halves : AreTold s (points_under size s (2 * v)) (points_under size s (2 * v + 1)) a b
        told_halves = record { a_chain = a_chain; b_chain = b_chain; less = λ i j h k. halves_apart size v i j some (slot_under (2 * v) i h) (slot_under (2 * v + 1) j k) }

        -- where one half is empty, the chain of the other is that of the node
        pub only_right : a ≡ [] → IsUpperChain s (points_under size s v) b
        only_right e = same_set s real from_right (λ i h. at i (to_halves i h)) b_chain
          where
            at : (i : ℕ) → IsIn i (points_under size s (2 * v)) ⊎ IsIn i (points_under size s (2 * v + 1)) → IsIn i (points_under size s (2 * v + 1))
            at i (inl k) = absurd (none_in_set s real (points_under size s (2 * v)) (subst (λ (l : List ℕ). IsUpperChain s (points_under size s (2 * v)) l) e a_chain) i k)
            at i (inr k) = k

        pub only_left : b ≡ [] → IsUpperChain s (points_under size s v) a
        only_left e = same_set s real from_left (λ i h. at i (to_halves i h)) a_chain
          where
            at : (i : ℕ) → IsIn i (points_under size s (2 * v)) ⊎ IsIn i (points_under size s (2 * v + 1)) → IsIn i (points_under size s (2 * v))
            at i (inl k) = k
            at i (inr k) = absurd (none_in_set s real (points_under size s (2 * v + 1)) (subst (λ (l : List ℕ). IsUpperChain s (points_under size s (2 * v + 1)) l) e b_chain) i k)

        to_node : (i : ℕ) → IsIn i (points_under size s (2 * v) ++ points_under size s (2 * v + 1)) → IsIn i (points_under size s v)
        to_node i h = at (in_either i (points_under size s (2 * v)) (points_under size s (2 * v + 1)) h)
          where
            at : IsIn i (points_under size s (2 * v)) ⊎ IsIn i (points_under size s (2 * v + 1)) → IsIn i (points_under size s v)
            at (inl k) = from_left i k
            at (inr k) = from_right i k

        to_both : (i : ℕ) → IsIn i (points_under size s v) → IsIn i (points_under size s (2 * v) ++ points_under size s (2 * v + 1))
        to_both i h = at (to_halves i h)
          where
            at : IsIn i (points_under size s (2 * v)) ⊎ IsIn i (points_under size s (2 * v + 1)) → IsIn i (points_under size s (2 * v) ++ points_under size s (2 * v + 1))
            at (inl k) = in_left i (points_under size s (2 * v)) (points_under size s (2 * v + 1)) k
            at (inr k) = in_right i (points_under size s (2 * v)) (points_under size s (2 * v + 1)) k

        -- the chain of both chains is that of the node
        pub of_both : (xs : List ℕ) → IsUpperChain s (a ++ b) xs → IsUpperChain s (points_under size s v) xs
        of_both xs u = same_set s real to_node to_both ((chain_of_chains s (points_under size s (2 * v)) (points_under size s (2 * v + 1)) a b xs real told_halves).0 u)

        pub both_of : (xs : List ℕ) → IsUpperChain s (points_under size s v) xs → IsUpperChain s (a ++ b) xs
        both_of xs u = (chain_of_chains s (points_under size s (2 * v)) (points_under size s (2 * v + 1)) a b xs real told_halves).1 (same_set s real to_both to_node u)

        -- the facts of its merge are those of the node
        pub facts_of_node : (p : Placed) → IsMergeFact s a b v p ↔ IsMergeFact s (points_under size s (2 * v)) (points_under size s (2 * v + 1)) v p
        facts_of_node p = facts_of_chains s (points_under size s (2 * v)) (points_under size s (2 * v + 1)) a b v p real told_halves

-- ---- a leaf
module _ (s : Scene) (real : IsReal s) where
  not_plus : (t : Sign) → t ≡ opposite_of t → is_plus t ≡ false
  not_plus t e = false_from_ne_true (is_plus t) (never_left t e)

  -- nothing keeps a point off that is alone
  alone_bare : (i : ℕ) → is_bare s (i ∷ []) i ≡ true
  alone_bare i = all_false (is_double s i i) (is_above s i i) (is_under_segment s i i i) double above under_it
    where
      all_false : (a b c : Bool) → a ≡ false → b ≡ false → c ≡ false → not (a || false) && not (b || false) && not ((c || false) || false) ≡ true
      all_false false false false e f g = refl
      all_false true b c e f g = absurd cc
      all_false false true c e f g = absurd cc
      all_false false false true e f g = absurd cc

      last_false : (a b : Bool) → b ≡ false → a && b ≡ false
      last_false true b e = e
      last_false false b e = refl

      first_false : (a b c : Bool) → a ≡ false → a && b && c ≡ false
      first_false true b c e = absurd cc
      first_false false b c e = refl

      double : is_double s i i ≡ false
      double = last_false (is_zero (x_sign s i i) && is_zero (y_sign s i i)) (nat_lt i i) (grind (arith, nat_tests))

      above : is_above s i i ≡ false
      above = last_false (is_zero (x_sign s i i)) (is_plus (y_sign s i i)) (not_plus (y_sign s i i) ((real_line_laws s real).opposite (pos 0) (pos 1) i i))

      under_it : is_under_segment s i i i ≡ false
      under_it = first_false (is_left s i i) (is_left s i i) (not (is_plus (s.sign (Turn i i i)))) (not_plus (x_sign s i i) ((real_line_laws s real).opposite (pos 1) (pos 0) i i))

  alone : (i : ℕ) → IsUpperChain s (i ∷ []) (i ∷ [])
  alone i = record { members = λ p. and_same (is_in p (i ∷ [])) (is_bare s (i ∷ []) p) (λ h. only p (in_cases p i [] h)); rising = tt }
    where
      only : (p : ℕ) → (p ≡ i) ⊎ IsIn p [] → is_bare s (i ∷ []) p ≡ true
      only p (inl e) = subst (λ q. is_bare s (i ∷ []) q ≡ true) (sym e) (alone_bare i)
      only p (inr k) = absurd (let z : false ≡ true = k in cc)

  -- the chain of a slot is the upper chain of the points under it
  pub leaf_right : (size i : ℕ) (held : Bool) → i < 2 ^ size → ((j : ℕ) → IsIn j s.live → j < 2 ^ size) → is_in i s.live ≡ held → IsUpperChain s (points_under size s (2 ^ size + i)) (cond held (i ∷ []) [])
  leaf_right size i true low fits e = same_set s real to from (alone i)
    where
      to : (j : ℕ) → IsIn j (i ∷ []) → IsIn j (points_under size s (2 ^ size + i))
      to j h = at (in_cases j i [] h)
        where
          at : (j ≡ i) ⊎ IsIn j [] → IsIn j (points_under size s (2 ^ size + i))
          at (inl q) = subst (λ k. IsIn k (points_under size s (2 ^ size + i))) (sym q) (live_under s size (2 ^ size + i) i e (is_under-leaf size i))
          at (inr k) = absurd (let z : false ≡ true = k in cc)

      from : (j : ℕ) → IsIn j (points_under size s (2 ^ size + i)) → IsIn j (i ∷ [])
      from j h = let k = under_live s size (2 ^ size + i) j h in subst (λ k. IsIn k (i ∷ [])) (sym (is_under-leaf_alone size j i (fits j k.0) k.1)) (in_head i [])
  leaf_right size i false low fits e = empty_chain s (points_under size s (2 ^ size + i)) none
    where
      none : (p : ℕ) → IsIn p (points_under size s (2 ^ size + i)) → ⊥
      none p h =
          let k = under_live s size (2 ^ size + i) p h in
          let same = is_under-leaf_alone size p i (fits p k.0) k.1 in
          let z : true ≡ false = sym k.0 ∙ ap (λ j. is_in j s.live) same ∙ e in cc
