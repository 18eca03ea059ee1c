-- The points that nothing keeps off, in terms of places.
use Rattle.std.proofs.Common.{◌≡◌, ◌⊎◌, inl, inr, refl, sym, ap, ◌∙◌, arith, ◌<◌, List, [], ◌∷◌, ℕ, Bool, true, false, not, nat_lt}
use Rattle.std.specs.List.{list_any}
use Rattle.std.proofs.lemmas.Bool.Decides.{nat_tests}
use Rattle.std.proofs.lemmas.Bool.{both_ways, false_from_ne_true, and_from, and_parts, not-true, or_from}
use Rattle.kin_algebra.proofs.Tests.{three_from, three_parts}
use Rattle.kin_algebra.specs.declared.sign.Sign.{Sign}
use Rattle.kin_algebra.specs.Signs.{opposite_of}
use Rattle.kin_algebra.proofs.Signs.{AtLeast}
use Rattle.kin_algebra.proofs.OrderedRings.{OrderedRing}
use Rattle.kin_motion.specs.declared.form.Form.TheVariants.{Turn}
use Rattle.kin_motion.specs.Scene.{Scene, x_sign, y_sign}
use Rattle.kin_motion.specs.Chains.{is_plus, is_zero, is_left, is_double, is_above, is_under_segment, is_bare}
use Rattle.kin_motion.proofs.AgreementLaws.{none_passes}
use Rattle.kin_motion.specs.Numbers.{IsIn}
use Rattle.kin_motion.proofs.Members.{in_head, in_tail}
use Rattle.kin_motion.proofs.ChainLaws.{plus_from, zero_from}
use Rattle.kin_chain.proofs.Comparisons.{AtMost, Below, Level, turned, level_turned, most_or_below, below_or_level}
use Rattle.kin_chain.proofs.Planes.{Places, Shows, step, height}

-- where no member passes
pub none_in : (test : ℕ → Bool) (xs : List ℕ) → ((i : ℕ) → IsIn i xs → test i ≡ false) → list_any test xs ≡ false
none_in test [] h = refl
none_in test (x ∷ xs) h = or_from (test x) (list_any test xs) (h x (in_head x xs)) (none_in test xs (λ i k. h i (in_tail i x xs k)))

module _ {R : Type 0} (o : OrderedRing R) (ps : Places o) where
  -- no point of the set keeps p off the chain
  pub record Stays (set : List ℕ) (p : ℕ) : Type 0 where
    pub no_double : (q : ℕ) → IsIn q set → Level o ps.x p q → Level o ps.y p q → q < p → ⊥
    pub no_above : (q : ℕ) → IsIn q set → Level o ps.x p q → Below o ps.y p q → ⊥
    pub no_segment : (q r : ℕ) → IsIn q set → IsIn r set → Below o ps.x q p → Below o ps.x p r → AtMost o (height o ps (step o ps q r)) p q → ⊥

  -- smaller set
  pub stays_in_part : {set part : List ℕ} {p : ℕ} → ((q : ℕ) → IsIn q part → IsIn q set) → Stays set p → Stays part p
  stays_in_part {set} {part} {p} within st = record {
    no_double = λ q i. st.no_double q (within q i);
    no_above = λ q i. st.no_above q (within q i);
    no_segment = λ q r i j. st.no_segment q r (within q i) (within r j);
  }

  -- it is the same number, or lies to the right
  abbrev pub Comes : ℕ → ℕ → Type 0
  Comes p q = (p ≡ q) ⊎ Below o ps.x p q

  -- different x: of two points that stay, one lies to the left of the other
  pub apart : {set : List ℕ} {p q : ℕ} → IsIn p set → IsIn q set → Stays set p → Stays set q → AtMost o ps.x p q → Comes p q
  apart {set} {p} {q} i j sp sq most = at (below_or_level o most)
    where
      numbers : Level o ps.x p q → Level o ps.y p q → (nat_lt p q ≡ true → p < q) → (nat_lt q p ≡ true → q < p) → p ≡ q
      numbers x y f g = by_tests (nat_lt p q) refl (nat_lt q p) refl
        where
          by_tests : (c : Bool) → nat_lt p q ≡ c → (d : Bool) → nat_lt q p ≡ d → p ≡ q
          by_tests true c d e = absurd (sq.no_double p i (level_turned o x) (level_turned o y) (f c))
          by_tests false c true d = absurd (sp.no_double q j x y (g d))
          by_tests false c false d = grind (arith, nat_tests, c, d)

      by_y : Level o ps.x p q → AtMost o ps.y p q ⊎ Below o ps.y q p → p ≡ q
      by_y x (inr b) = absurd (sq.no_above p i (level_turned o x) b)
      by_y x (inl m) = level (below_or_level o m)
        where
          level : Below o ps.y p q ⊎ Level o ps.y p q → p ≡ q
          level (inl b) = absurd (sp.no_above q j x b)
          level (inr y) = numbers x y (λ c. grind (arith, nat_tests, c)) (λ c. grind (arith, nat_tests, c))

      at : Below o ps.x p q ⊎ Level o ps.x p q → Comes p q
      at (inl b) = inr b
      at (inr x) = inl (by_y x (most_or_below o ps.y p q))

  module _ (s : Scene) (shows : Shows o s ps) where
    pub left_test : {i j : ℕ} → Below o ps.x i j → is_left s i j ≡ true
    left_test {i} {j} b = ap is_plus (shows.x_signs i j ∙ b.is)

    pub left_is : {i j : ℕ} → is_left s i j ≡ true → Below o ps.x i j
    left_is {i} {j} e = record { is = sym (shows.x_signs i j) ∙ plus_from e }

    -- the turn isn't + where p is at most as high as q along the way from q to r
    pub low_turn : (q r p : ℕ) → AtMost o (height o ps (step o ps q r)) p q → is_plus (s.sign (Turn q r p)) ≡ false
    low_turn q r p m = ap is_plus (shows.turns q r p ∙ turned o (height o ps (step o ps q r)) p q) ∙ at m.is
      where
        at : {t : Sign} → AtLeast t → is_plus (opposite_of t) ≡ false
        at {t} (inl e) = ap (λ u. is_plus (opposite_of u)) e
        at {t} (inr e) = ap (λ u. is_plus (opposite_of u)) e

    turn_low : (q r p : ℕ) → is_plus (s.sign (Turn q r p)) ≡ false → AtMost o (height o ps (step o ps q r)) p q
    turn_low q r p e = at (most_or_below o (height o ps (step o ps q r)) p q)
      where
        at : AtMost o (height o ps (step o ps q r)) p q ⊎ Below o (height o ps (step o ps q r)) q p → AtMost o (height o ps (step o ps q r)) p q
        at (inl m) = m
        at (inr b) = absurd (both_ways _ e (ap is_plus (shows.turns q r p ∙ b.is)))

    module _ (set : List ℕ) (p : ℕ) where
      pub bare_stays : is_bare s set p ≡ true → Stays set p
      bare_stays bare = record {
        no_double = λ q i x y lt. both_ways _ (none_passes (is_double s p) set q (not-true _ parts.0) i) (three_from (is_zero (x_sign s p q)) (is_zero (y_sign s p q)) (nat_lt q p) (ap is_zero (shows.x_signs p q ∙ x.is)) (ap is_zero (shows.y_signs p q ∙ y.is)) (grind (arith, nat_tests, lt)));
        no_above = λ q i x y. both_ways _ (none_passes (is_above s p) set q (not-true _ parts.1) i) (and_from (is_zero (x_sign s p q)) (is_plus (y_sign s p q)) (ap is_zero (shows.x_signs p q ∙ x.is)) (ap is_plus (shows.y_signs p q ∙ y.is)));
        no_segment = λ q r i j left right low. both_ways _ (none_passes (is_under_segment s p q) set r (none_passes (λ t. list_any (is_under_segment s p t) set) set q (not-true _ parts.2) i) j) (three_from (is_left s q p) (is_left s p r) (not (is_plus (s.sign (Turn q r p)))) (left_test left) (left_test right) (ap not (low_turn q r p low)));
      }
        where
          parts : (not (list_any (is_double s p) set) ≡ true) × (not (list_any (is_above s p) set) ≡ true) × (not (list_any (λ q. list_any (is_under_segment s p q) set) set) ≡ true)
          parts = three_parts (not (list_any (is_double s p) set)) (not (list_any (is_above s p) set)) (not (list_any (λ q. list_any (is_under_segment s p q) set) set)) bare

      pub stays_bare : Stays set p → is_bare s set p ≡ true
      stays_bare st = three_from (not (list_any (is_double s p) set)) (not (list_any (is_above s p) set)) (not (list_any (λ q. list_any (is_under_segment s p q) set) set))
          (ap not (none_in (is_double s p) set (λ q i. false_from_ne_true (is_double s p q) (double q i))))
          (ap not (none_in (is_above s p) set (λ q i. false_from_ne_true (is_above s p q) (above q i))))
          (ap not (none_in (λ q. list_any (is_under_segment s p q) set) set (λ q i. none_in (is_under_segment s p q) set (λ r j. false_from_ne_true (is_under_segment s p q r) (segment q r i j)))))
        where
          double : (q : ℕ) → IsIn q set → is_double s p q ≡ true → ⊥
          double q i e =
              let k = three_parts (is_zero (x_sign s p q)) (is_zero (y_sign s p q)) (nat_lt q p) e in
              let lt : nat_lt q p ≡ true = k.2 in
              st.no_double q i (record { is = sym (shows.x_signs p q) ∙ zero_from k.0 }) (record { is = sym (shows.y_signs p q) ∙ zero_from k.1 }) (grind (arith, nat_tests, lt))

          above : (q : ℕ) → IsIn q set → is_above s p q ≡ true → ⊥
          above q i e =
              let k = and_parts (is_zero (x_sign s p q)) (is_plus (y_sign s p q)) e in
              st.no_above q i (record { is = sym (shows.x_signs p q) ∙ zero_from k.0 }) (record { is = sym (shows.y_signs p q) ∙ plus_from k.1 })

          segment : (q r : ℕ) → IsIn q set → IsIn r set → is_under_segment s p q r ≡ true → ⊥
          segment q r i j e =
              let k = three_parts (is_left s q p) (is_left s p r) (not (is_plus (s.sign (Turn q r p)))) e in
              st.no_segment q r i j (left_is k.0) (left_is k.1) (turn_low q r p (not-true _ k.2))
