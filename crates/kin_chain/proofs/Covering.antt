-- Each point of a set that isn't in its upper chain is covered by it.
use Rattle.std.proofs.Common.{◌≡◌, ◌≢◌, ◌⊎◌, inl, inr, refl, sym, ap, ◌∙◌, subst, arith, List, [], ◌∷◌, ◌++◌, ℕ, Bool, true, false, not, nat_lt, append_assoc}
use Rattle.std.proofs.lemmas.Bool.Decides.{nat_tests}
use Rattle.std.proofs.lemmas.Bool.{both_ways, and_from}
use Rattle.kin_algebra.proofs.Tests.{three_from}
use Rattle.kin_algebra.proofs.Ring.{by_identity, quotes_in}
use Rattle.kin_algebra.proofs.OrderedRings.{OrderedRing}
use Rattle.kin_motion.specs.declared.form.Form.TheVariants.{Turn}
use Rattle.kin_motion.specs.Numbers.{is_in, IsChain, IsIn}
use Rattle.kin_motion.specs.Scene.{Scene, x_sign, y_sign}
use Rattle.kin_motion.specs.Chains.{is_plus, is_zero, is_left}
use Rattle.kin_motion.proofs.Members.{in_head, in_tail, in_cases}
use Rattle.kin_chain.specs.Covering.{IsCovered, in_place, below, under, ChainCovers}
use Rattle.kin_chain.proofs.Comparisons.{way, AtMost, Below, Level, not_both, own_most, most_most, below_most, level_most, level_turned, most_or_below, below_or_level}
use Rattle.kin_chain.proofs.Planes.{Places, Shows, step, height}
use Rattle.kin_chain.proofs.Geometry.{up, along, level_ends}
use Rattle.kin_chain.proofs.Stays.{apart, left_test, left_is, low_turn}
use Rattle.kin_chain.proofs.Outer.{Outer, outer}
use Rattle.kin_chain.proofs.Sides.{ChainOf}
use Rattle.kin_chain.proofs.ChainEnds.{behind_first}
use Rattle.kin_chain.proofs.RealPlanes.{here, places, shown}
use Rattle.kin_chain.proofs.MergedChain.{chain_of}

module _ {R : Type 0} (o : OrderedRing R) (ps : Places o) where
  -- ---- three points: the middle one is above the segment exactly where the others are below the lines
  -- seen from the left point
  first_turn : (m c d : ℕ) → way o (height o ps (step o ps c d)) m c ≡ way o (height o ps (step o ps m d)) m c
  unfolding height
  first_turn m c d = by_identity o.ring (ps.x m ∷ ps.y m ∷ ps.x c ∷ ps.y c ∷ ps.x d ∷ ps.y d ∷ []) _ _ (search quotes_in depth 40 fits 80000) (search quotes_in depth 40 fits 80000) refl

  last_turn : (c d m : ℕ) → way o (height o ps (step o ps c d)) m c ≡ way o (height o ps (step o ps c m)) c d
  unfolding height
  last_turn c d m = by_identity o.ring (ps.x m ∷ ps.y m ∷ ps.x c ∷ ps.y c ∷ ps.x d ∷ ps.y d ∷ []) _ _ (search quotes_in depth 40 fits 80000) (search quotes_in depth 40 fits 80000) refl

  module _ (s : Scene) (shows : Shows o s ps) {set xs : List ℕ} (known : ChainOf o ps set xs) (rising : IsChain (is_left s) xs) where
    -- a point of the chain lies above the segment of two others of the set on both sides of it
    above_segment : (c q r : ℕ) → IsIn c xs → IsIn q set → IsIn r set → Below o ps.x q c → Below o ps.x c r → Below o (height o ps (step o ps q r)) q c
    above_segment c q r i j k left right = at (most_or_below o (height o ps (step o ps q r)) c q)
      where
        at : AtMost o (height o ps (step o ps q r)) c q ⊎ Below o (height o ps (step o ps q r)) q c → Below o (height o ps (step o ps q r)) q c
        at (inl m) = absurd ((known.stays c i).no_segment q r j k left right m)
        at (inr b) = b

    -- all of the chain is at c or farther left, or at d or farther right
    record AreNeighbours (c d : ℕ) : Type 0 where
      pub c_in : IsIn c xs
      pub d_in : IsIn d xs
      pub right : Below o ps.x c d
      pub none_between : (m : ℕ) → IsIn m xs → AtMost o ps.x m c ⊎ AtMost o ps.x d m

    -- along two neighbours no other is higher
    chain_below : {c d : ℕ} (n : AreNeighbours c d) (m : ℕ) → IsIn m xs → AtMost o (height o ps (step o ps c d)) m c
    chain_below {c} {d} n m i = at (n.none_between m i)
      where
        to_left : (m ≡ c) ⊎ Below o ps.x m c → AtMost o (height o ps (step o ps c d)) m c
        to_left (inl e) = subst (λ k. AtMost o (height o ps (step o ps c d)) k c) (sym e) (own_most o (height o ps (step o ps c d)) c)
        to_left (inr b) = below_most o (record { is = ap o.sign (first_turn m c d) ∙ (above_segment c m d n.c_in (known.inside m i) (known.inside d n.d_in) b n.right).is })

        to_right : (d ≡ m) ⊎ Below o ps.x d m → AtMost o (height o ps (step o ps c d)) m c
        to_right (inl e) = subst (λ k. AtMost o (height o ps (step o ps c d)) k c) e (level_most o (level_turned o (level_ends o ps c d)))
        to_right (inr b) = below_most o (record { is = ap o.sign (last_turn c d m) ∙ (above_segment d c m n.d_in (known.inside c n.c_in) (known.inside m i) n.right b).is })

        at : AtMost o ps.x m c ⊎ AtMost o ps.x d m → AtMost o (height o ps (step o ps c d)) m c
        at (inl k) = to_left (apart o ps (known.inside m i) (known.inside c n.c_in) (known.stays m i) (known.stays c n.c_in) k)
        at (inr k) = to_right (apart o ps (known.inside d n.d_in) (known.inside m i) (known.stays d n.d_in) (known.stays m i) k)

    -- a point of the set between two neighbours is on or below their segment
    set_below : {c d p : ℕ} (n : AreNeighbours c d) → IsIn p set → AtMost o (height o ps (step o ps c d)) p c
    set_below {c} {d} {p} n i = let b = known.best (along o ps c d n.right) p i in most_most o b.2 (chain_below n b.0 b.1)

    -- ---- where p is along the chain
    module _ (p : ℕ) where
      data Where : Type 0 where
        level : (c : ℕ) → IsIn c xs → Level o ps.x c p → Where
        between : (before : List ℕ) (c d : ℕ) (behind : List ℕ) → xs ≡ before ++ c ∷ d ∷ behind → AreNeighbours c d → Below o ps.x c p → Below o ps.x p d → Where

      -- the chain is known up to c, which isn't right of p
      record Reached (before : List ℕ) (c : ℕ) (rest : List ℕ) : Type 0 where
        pub split : xs ≡ before ++ c ∷ rest
        pub inside : (m : ℕ) → IsIn m (c ∷ rest) → IsIn m xs
        pub passed : (m : ℕ) → IsIn m xs → AtMost o ps.x m c ⊎ IsIn m rest
        pub rises : IsChain (is_left s) (c ∷ rest)
        pub not_right : AtMost o ps.x c p

      to_neighbours : {before : List ℕ} {c d : ℕ} {rest : List ℕ} → Reached before c (d ∷ rest) → AreNeighbours c d
      to_neighbours {before} {c} {d} {rest} r = record {
        c_in = r.inside c (in_head c (d ∷ rest));
        d_in = r.inside d (in_tail d c (d ∷ rest) (in_head d rest));
        right = left_is o ps s shows r.rises.0;
        none_between = λ m i. at m (r.passed m i);
      }
        where
          of_rest : (m : ℕ) → (m ≡ d) ⊎ IsIn m rest → AtMost o ps.x d m
          of_rest m (inl e) = subst (λ k. AtMost o ps.x d k) (sym e) (own_most o ps.x d)
          of_rest m (inr k) = below_most o (behind_first o ps s shows d rest r.rises.1 m k)

          at : (m : ℕ) → AtMost o ps.x m c ⊎ IsIn m (d ∷ rest) → AtMost o ps.x m c ⊎ AtMost o ps.x d m
          at m (inl k) = inl k
          at m (inr k) = inr (of_rest m (in_cases m d rest k))

      reach_on : {before : List ℕ} {c d : ℕ} {rest : List ℕ} → Reached before c (d ∷ rest) → AtMost o ps.x d p → Reached (before ++ c ∷ []) d rest
      reach_on {before} {c} {d} {rest} r most = record {
        split = r.split ∙ sym (append_assoc before (c ∷ []) (d ∷ rest));
        inside = λ m i. r.inside m (in_tail m c (d ∷ rest) i);
        passed = λ m i. at m (r.passed m i);
        rises = r.rises.1;
        not_right = most;
      }
        where
          of_rest : (m : ℕ) → (m ≡ d) ⊎ IsIn m rest → AtMost o ps.x m d ⊎ IsIn m rest
          of_rest m (inl e) = inl (subst (λ k. AtMost o ps.x k d) (sym e) (own_most o ps.x d))
          of_rest m (inr k) = inr k

          at : (m : ℕ) → AtMost o ps.x m c ⊎ IsIn m (d ∷ rest) → AtMost o ps.x m d ⊎ IsIn m rest
          at m (inl k) = inl (most_most o k (below_most o (left_is o ps s shows r.rises.0)))
          at m (inr k) = of_rest m (in_cases m d rest k)

      find : (before : List ℕ) (c : ℕ) (rest : List ℕ) → Reached before c rest → (m : ℕ) → IsIn m (c ∷ rest) → AtMost o ps.x p m → Where
      find before c [] r m i most = at (in_cases m c [] i)
        where
          at : (m ≡ c) ⊎ IsIn m [] → Where
          at (inl e) = by_x (below_or_level o r.not_right)
            where
              by_x : Below o ps.x c p ⊎ Level o ps.x c p → Where
              by_x (inl b) = absurd (not_both o b (subst (λ k. AtMost o ps.x p k) e most))
              by_x (inr l) = level c (r.inside c (in_head c [])) l
          at (inr k) = absurd cc
      find before c (d ∷ rest) r m i most = by_x (below_or_level o r.not_right) (λ k n h. find (before ++ c ∷ []) d rest (reach_on r k) n h)
        where
          not_first : Below o ps.x c p → (m ≡ c) ⊎ IsIn m (d ∷ rest) → IsIn m (d ∷ rest)
          not_first b (inl e) = absurd (not_both o b (subst (λ k. AtMost o ps.x p k) e most))
          not_first b (inr k) = k

          by_next : Below o ps.x c p → AtMost o ps.x d p ⊎ Below o ps.x p d → ((k : AtMost o ps.x d p) (n : ℕ) → IsIn n (d ∷ rest) → AtMost o ps.x p n → Where) → Where
          by_next b (inl k) on = on k m (not_first b (in_cases m c (d ∷ rest) i)) most
          by_next b (inr k) on = between before c d rest r.split (to_neighbours r) b k

          by_x : Below o ps.x c p ⊎ Level o ps.x c p → ((k : AtMost o ps.x d p) (n : ℕ) → IsIn n (d ∷ rest) → AtMost o ps.x p n → Where) → Where
          by_x (inl b) on = by_next b (most_or_below o ps.x d p) on
          by_x (inr l) on = level c (r.inside c (in_head c (d ∷ rest))) l

      -- ---- the ends
      module _ (ends : Outer o ps set) (inside : IsIn p set) where
        not_right_of_all : (c : ℕ) × IsIn c xs × AtMost o ps.x c p
        not_right_of_all = let b = known.best ends.left p inside in (b.0, b.1, at b.0 b.1 b.2 (most_or_below o ps.x b.0 p))
          where
            at : (c : ℕ) → IsIn c xs → AtMost o (up o ps ends.left) p c → AtMost o ps.x c p ⊎ Below o ps.x p c → AtMost o ps.x c p
            at c i high (inl k) = k
            at c i high (inr k) = absurd (not_both o (ends.by_left p c inside (known.inside c i) k) high)

        not_left_of_all : (c : ℕ) × IsIn c xs × AtMost o ps.x p c
        not_left_of_all = let b = known.best ends.right p inside in (b.0, b.1, at b.0 b.1 b.2 (most_or_below o ps.x p b.0))
          where
            at : (c : ℕ) → IsIn c xs → AtMost o (up o ps ends.right) p c → AtMost o ps.x p c ⊎ Below o ps.x c p → AtMost o ps.x p c
            at c i high (inl k) = k
            at c i high (inr k) = absurd (not_both o (ends.by_right c p (known.inside c i) inside k) high)

        first_reached : (c : ℕ) (rest : List ℕ) → xs ≡ c ∷ rest → Reached [] c rest
        first_reached c rest q = record {
          split = q;
          inside = λ m i. subst (λ ys. IsIn m ys) (sym q) i;
          passed = λ m i. of_first m (in_cases m c rest (subst (λ ys. IsIn m ys) q i));
          rises = chain;
          not_right = from_some not_right_of_all;
        }
          where
            chain : IsChain (is_left s) (c ∷ rest)
            chain = subst (λ ys. IsChain (is_left s) ys) q rising

            of_first : (m : ℕ) → (m ≡ c) ⊎ IsIn m rest → AtMost o ps.x m c ⊎ IsIn m rest
            of_first m (inl e) = inl (subst (λ k. AtMost o ps.x k c) (sym e) (own_most o ps.x c))
            of_first m (inr k) = inr k

            from_some : (b : ℕ) × IsIn b xs × AtMost o ps.x b p → AtMost o ps.x c p
            from_some (b, i, most) = at (in_cases b c rest (subst (λ ys. IsIn b ys) q i))
              where
                at : (b ≡ c) ⊎ IsIn b rest → AtMost o ps.x c p
                at (inl e) = subst (λ k. AtMost o ps.x k p) e most
                at (inr k) = most_most o (below_most o (behind_first o ps s shows c rest chain b k)) most

        somewhere : Where
        somewhere = at xs refl not_left_of_all
          where
            at : (ys : List ℕ) → xs ≡ ys → (c : ℕ) × IsIn c xs × AtMost o ps.x p c → Where
            at [] q (c, i, most) = absurd (let k : IsIn c [] = subst (λ zs. IsIn c zs) q i in cc)
            at (y ∷ ys) q (c, i, most) = find [] y ys (first_reached y ys q) c (subst (λ zs. IsIn c zs) q i) most

        -- ---- covered
        by_level : is_in p xs ≡ false → (c : ℕ) → IsIn c xs → Level o ps.x c p → IsCovered s xs p
        by_level out c i x = by_y (most_or_below o ps.y p c)
          where
            same_x : is_zero (x_sign s p c) ≡ true
            same_x = ap is_zero (shows.x_signs p c ∙ (level_turned o x).is)

            other : p ≢ c
            other e = both_ways _ (ap (λ n. is_in n xs) (sym e) ∙ out) i

            at_place : Level o ps.y p c → IsCovered s xs p
            at_place y = in_place c i (three_from (is_zero (x_sign s p c)) (is_zero (y_sign s p c)) (nat_lt c p) same_x (ap is_zero (shows.y_signs p c ∙ y.is)) (less (nat_lt c p) refl (nat_lt p c) refl))
              where
                less : (d : Bool) → nat_lt c p ≡ d → (e : Bool) → nat_lt p c ≡ e → d ≡ true
                less true f e g = refl
                less false f true g = absurd ((known.stays c i).no_double p inside x (level_turned o y) (grind (arith, nat_tests, g)))
                less false f false g = absurd (other (grind (arith, nat_tests, f, g)))

            by_height : Below o ps.y p c ⊎ Level o ps.y p c → IsCovered s xs p
            by_height (inl b) = below c i (and_from (is_zero (x_sign s p c)) (is_plus (y_sign s p c)) same_x (ap is_plus (shows.y_signs p c ∙ b.is)))
            by_height (inr y) = at_place y

            by_y : AtMost o ps.y p c ⊎ Below o ps.y c p → IsCovered s xs p
            by_y (inl m) = by_height (below_or_level o m)
            by_y (inr b) = absurd ((known.stays c i).no_above p inside x b)

        pub covered : is_in p xs ≡ false → IsCovered s xs p
        covered out = at somewhere
          where
            at : Where → IsCovered s xs p
            at (level c i x) = by_level out c i x
            at (between before c d behind split n left right) =
                under before c d behind split
                (three_from (is_left s c p) (is_left s p d) (not (is_plus (s.sign (Turn c d p)))) (left_test o ps s shows left) (left_test o ps s shows right) (ap not (low_turn o ps s shows c d p (set_below n inside))))

pub chain_covers : ChainCovers
chain_covers s set xs p real u inside out = covered (here s real) (places s real) s (shown s real) (chain_of s real u) u.rising p (outer (here s real) (places s real) set) inside out
