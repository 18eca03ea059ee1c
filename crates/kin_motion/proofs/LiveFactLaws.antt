-- The computed live facts are the live facts, and the computed failures are the failures.
use Rattle.std.proofs.Common.{◌≡◌, ◌≢◌, ◌⊎◌, inl, inr, refl, sym, ap, ◌∙◌, subst, arith, List, [], ◌∷◌, ◌++◌, ℕ, zero, suc, ◌+◌, Bool, true, false, not, map, pos}
use Rattle.std.specs.Prelude.{Some, slice_get, Contains, filter}
use Rattle.kin_algebra.specs.declared.sign.Sign.{Sign}
use Rattle.kin_algebra.specs.declared.sign.Sign.TheVariants.{Minus, Zero, Plus}
use Rattle.kin_num.specs.declared.instant.Moment.{Moment}
use Rattle.kin_motion.specs.declared.fact.Placed.{Placed}
use Rattle.kin_motion.specs.declared.keep.Keep.{Keep}
use Rattle.kin_motion.specs.declared.keep.Keep.TheVariants.{Order, Extreme, Hull, Closest, Range, Nearest, Diameter, Boxes}
use Rattle.kin_motion.specs.Sets.{ListsExactly}
use Rattle.kin_motion.specs.Scene.{Scene, IsReal}
use Rattle.kin_motion.specs.Orders.{IsOrderFact, order_facts}
use Rattle.kin_motion.specs.Live.{Certificate, IsKeepFact, IsLiveFact, ListsLive, keep_facts, owned_by, live_facts_from, live_facts}
use Rattle.kin_motion.specs.Journal.{Setting, Failure, IsFailure, failures_at, seen_in, has_failed, is_listed_before, same_sign}
use Rattle.kin_motion.specs.Agreements.{FitsSize, LiveFactsAgree, FailuresAgree}
use Rattle.kin_motion.proofs.Sorting.{sorted-has}
use Rattle.kin_motion.proofs.SetLaws.{contains_mapped, contains_map, exactly_none, exactly_both, exactly_in_words, exactly_mapped, filter-sound, filter-complete}
use Rattle.kin_motion.proofs.HullFactLaws.{hull_facts_agree}
use Rattle.kin_motion.proofs.ExtremeFactLaws.{extreme_facts_agree}
use Rattle.kin_motion.proofs.ClosestFactLaws.{order_facts_agree, part_of_order, wedge_exact, closest_facts_agree}
use Rattle.kin_motion.proofs.BoxFactLaws.{facts_agree}
use Rattle.kin_motion.proofs.DiameterFactLaws.{diameter_facts_agree}

module _ (size : ℕ) (s : Scene) (real : IsReal s) (fits : FitsSize size s) where
  pub keep_exact : (keep : Keep) → ListsExactly (keep_facts size s keep) (IsKeepFact size s keep)
  keep_exact (Order dx dy) = order_facts_agree s dx dy 0 real
  keep_exact (Extreme dx dy) = extreme_facts_agree size s dx dy real
  keep_exact Hull = hull_facts_agree size s real fits
  keep_exact Closest = closest_facts_agree size s real
  keep_exact Range =
      exactly_both (order_facts s (pos 1) (pos 0) 0) (order_facts s (pos 0) (pos 1) 1) (IsOrderFact s (pos 1) (pos 0) 0) (IsOrderFact s (pos 0) (pos 1) 1)
      (order_facts_agree s (pos 1) (pos 0) 0 real) (order_facts_agree s (pos 0) (pos 1) 1 real)
      (λ p f g. let e = part_of_order s (pos 1) (pos 0) 0 p f in let h = part_of_order s (pos 0) (pos 1) 1 p g in omega (arith, e, h))
  keep_exact Nearest = wedge_exact s real
  keep_exact Diameter = diameter_facts_agree size s real
  keep_exact (Boxes width height) = facts_agree s width height real

  -- a fact of the k-th of these keeps, which are numbered from n on
  abbrev IsFactOf : ℕ → List Keep → Certificate → Type 0
  IsFactOf n keeps c = (k : ℕ) × (keep : Keep) × (slice_get keeps k ≡ Some keep) × (c.structure ≡ n + k) × IsKeepFact size s keep c.placed

  abbrev Owns : ℕ → Keep → Certificate → Type 0
  Owns n keep c = (p : Placed) × IsKeepFact size s keep p × (c ≡ owned_by n p)

  owned_one : (n : ℕ) (p q : Placed) → owned_by n p ≡ owned_by n q → p ≡ q
  owned_one n p q e = ap (λ (c : Certificate). c.placed) e

  keeps_exact : (n : ℕ) (keeps : List Keep) → ListsExactly (live_facts_from n size keeps s) (IsFactOf n keeps)
  keeps_exact n [] = exactly_none _ (λ c w. absurd (let e = w.2 in cc))
  keeps_exact n (keep ∷ keeps) =
      exactly_in_words (map (owned_by n) (keep_facts size s keep) ++ live_facts_from (n + 1) size keeps s) _ _ (λ c. (to c, from c))
      (exactly_both (map (owned_by n) (keep_facts size s keep)) (live_facts_from (n + 1) size keeps s) (Owns n keep) (IsFactOf (n + 1) keeps)
      (exactly_mapped (owned_by n) (keep_facts size s keep) (IsKeepFact size s keep) (owned_one n) (keep_exact keep))
      (keeps_exact (n + 1) keeps)
      (λ c f g. let e : c.structure ≡ n = ap (λ (x : Certificate). x.structure) f.2 in let h : c.structure ≡ n + 1 + g.0 = g.3 in omega (arith, e, h)))
    where
      to : (c : Certificate) → Owns n keep c ⊎ IsFactOf (n + 1) keeps c → IsFactOf n (keep ∷ keeps) c
      to c (inl (p, f, e)) =
          let g : c.structure ≡ n = ap (λ (x : Certificate). x.structure) e in
          let h : c.placed ≡ p = ap (λ (x : Certificate). x.placed) e in
          (zero, keep, refl, omega (arith, g), subst (IsKeepFact size s keep) (sym h) f)
      to c (inr (k, kept, e, h, f)) = (suc k, kept, e, omega (arith, h), f)

      from : (c : Certificate) → IsFactOf n (keep ∷ keeps) c → Owns n keep c ⊎ IsFactOf (n + 1) keeps c
      from c (zero, kept, e, h, f) =
          let g : c.structure ≡ n = omega (arith, h) in
          let same : keep ≡ kept = cc in
          inl (c.placed, subst (λ (x : Keep). IsKeepFact size s x c.placed) (sym same) f, λ t. record { structure = g t; placed = c.placed })
      from c (suc k, kept, e, h, f) = inr (k, kept, e, omega (arith, h), f)

pub live_facts_agree : LiveFactsAgree
live_facts_agree size keeps s real fits = exactly_in_words (live_facts size keeps s) _ _ (λ c. (to c, from c)) (keeps_exact size s real fits 0 keeps)
  where
    to : (c : Certificate) → IsFactOf size s real fits 0 keeps c → IsLiveFact size keeps s c
    to c (k, keep, e, h, f) = let g : k ≡ c.structure = omega (arith, h) in record { keep = keep; kept = sym (ap (slice_get keeps) g) ∙ e; fact = f }

    from : (c : Certificate) → IsLiveFact size keeps s c → IsFactOf size s real fits 0 keeps c
    from c w = (c.structure, w.keep, w.kept, omega arith, w.fact)

-- ---- failures
same_signs : (a b : Sign) → same_sign a b ≡ true → a ≡ b
same_signs Minus Minus e = refl
same_signs Zero Zero e = refl
same_signs Plus Plus e = refl
same_signs Minus Zero e = absurd cc
same_signs Minus Plus e = absurd cc
same_signs Zero Minus e = absurd cc
same_signs Zero Plus e = absurd cc
same_signs Plus Minus e = absurd cc
same_signs Plus Zero e = absurd cc

itself : (a : Sign) → same_sign a a ≡ true
itself Minus = refl
itself Zero = refl
itself Plus = refl

pub differs : (a b : Sign) → not (same_sign a b) ≡ true → a ≢ b
differs a b e f = let g : same_sign a b ≡ true = sym (ap (same_sign a) f) ∙ itself a in let clash : false ≡ true = sym (ap not g) ∙ e in cc

pub differ : (a b : Sign) → a ≢ b → not (same_sign a b) ≡ true
differ a b n = at (same_sign a b) refl
  where
    at : (t : Bool) → same_sign a b ≡ t → not t ≡ true
    at true e = absurd (n (same_signs a b e))
    at false e = refl

abbrev seen_all : Setting → Moment → Moment → List Failure
seen_all t now m = map (seen_in (t.scene m)) (live_facts t.size t.keeps (t.scene now))

pub failures_agree : FailuresAgree
failures_agree t now m real fits f = (to, from)
  where
    listed : ListsLive t.size t.keeps (t.scene now) (live_facts t.size t.keeps (t.scene now))
    listed = live_facts_agree t.size t.keeps (t.scene now) real fits

    to : Contains (failures_at t now m) f → IsFailure t now m f
    to h =
        let w = filter-sound has_failed (seen_all t now m) f ((sorted-has is_listed_before (filter has_failed (seen_all t now m)) f).0 h) in
        let c = contains_mapped (seen_in (t.scene m)) (live_facts t.size t.keeps (t.scene now)) f w.0 in
        let was : f.was ≡ c.0 = ap (λ (x : Failure). x.was) c.2 in
        let sign : f.now ≡ (t.scene m).sign c.0.placed.fact.form = ap (λ (x : Failure). x.now) c.2 in
        let sign' : f.now ≡ (t.scene m).sign f.was.placed.fact.form = sign ∙ ap (λ (x : Certificate). (t.scene m).sign x.placed.fact.form) (sym was) in
        record {
          live = subst (IsLiveFact t.size t.keeps (t.scene now)) (sym was) ((listed.each c.0).0 c.1);
          fails = λ e. differs f.now f.was.placed.fact.sign w.1 (sign' ∙ e);
          sign = sign';
        }

    from : IsFailure t now m f → Contains (failures_at t now m) f
    from w =
        let there = contains_map (seen_in (t.scene m)) (live_facts t.size t.keeps (t.scene now)) f.was ((listed.each f.was).1 w.live) in
        let sign = w.sign in
        let same : seen_in (t.scene m) f.was ≡ f = λ i. record { was = f.was; now = sym sign i } in
        (sorted-has is_listed_before (filter has_failed (seen_all t now m)) f).1 (filter-complete has_failed (seen_all t now m) f (subst (λ (x : Failure). Contains (seen_all t now m) x) same there) (differ f.now f.was.placed.fact.sign (λ e. w.fails (sym sign ∙ e))))
