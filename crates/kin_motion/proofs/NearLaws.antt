-- The computed slots of pairs are the slots of pairs, and there is one such list.
use Rattle.std.proofs.Common.{◌≡◌, refl, sym, ap, ◌∙◌, subst, arith, List, [], ◌∷◌, ◌++◌, ℕ, zero, suc, ◌+◌, ◌*◌, ◌/◌, ◌%◌, ◌^◌, ◌<◌, Bool, true, false, cond, length}
use Rattle.std.specs.Prelude.{Option, Some, None, slice_get, flat_map}
use Rattle.std.proofs.lemmas.Nat.{pow-add}
use Rattle.std.proofs.lemmas.Option.{slice_get_within}
use Rattle.kin_motion.specs.Numbers.{is_in, numbers_from}
use Rattle.kin_motion.specs.Scene.{Scene, IsReal}
use Rattle.kin_motion.specs.Octants.{Octant, octants, candidate_of, IsCandidateAnswer}
use Rattle.kin_motion.specs.ClosestPairs.{Near}
use Rattle.kin_motion.specs.ClosestFacts.{near, near_of, HoldsNear, AreNearSlots, near_slots_of_point, near_slots}
use Rattle.kin_motion.proofs.CandidateLaws.{candidate_agrees, one_candidate}

-- ---- places in lists
get_left : {A : Type 0} (xs ys : List A) (i : ℕ) → i < length xs → slice_get (xs ++ ys) i ≡ slice_get xs i
get_left {A} [] ys i h = absurd (omega (arith, h))
get_left {A} (x ∷ xs) ys zero h = refl
get_left {A} (x ∷ xs) ys (suc i) h = get_left xs ys i (omega (arith, h))

get_right : {A : Type 0} (xs ys : List A) (i : ℕ) → slice_get (xs ++ ys) (length xs + i) ≡ slice_get ys i
get_right {A} [] ys i = ap (slice_get ys) (omega arith)
get_right {A} (x ∷ xs) ys i = let e : length (x ∷ xs) + i ≡ suc (length xs + i) = omega arith in ap (slice_get (x ∷ (xs ++ ys))) e ∙ get_right xs ys i

-- lists of one length that agree at each place
pub same_lists : {A : Type 0} (xs ys : List A) → length xs ≡ length ys → ((i : ℕ) (x y : A) → slice_get xs i ≡ Some x → slice_get ys i ≡ Some y → x ≡ y) → xs ≡ ys
same_lists {A} [] [] n f = refl
same_lists {A} [] (y ∷ ys) n f = absurd (omega (arith, n))
same_lists {A} (x ∷ xs) [] n f = absurd (omega (arith, n))
same_lists {A} (x ∷ xs) (y ∷ ys) n f =
    let e : x ≡ y = f 0 x y refl refl in
    let g : xs ≡ ys = same_lists xs ys (omega (arith, n)) (λ i a b h k. f (suc i) a b h k) in
    λ t. e t ∷ g t

-- ---- rows of eight
module _ {A : Type 0} (f : ℕ → List A) (eight : (p : ℕ) → length (f p) ≡ 8) where
  row_count : (a n : ℕ) → length (flat_map f (numbers_from a n)) ≡ 8 * n
  row_count a zero = refl
  row_count a (suc n) = length_append (f a) (flat_map f (numbers_from (a + 1) n)) ∙ (let e = eight a in let g = row_count (a + 1) n in omega (arith, e, g))
    where
      length_append : (xs ys : List A) → length (xs ++ ys) ≡ length xs + length ys
      length_append [] ys = omega arith
      length_append (x ∷ xs) ys = let e = length_append xs ys in omega (arith, e)

  row_at : (a n k w : ℕ) → k < n → w < 8 → slice_get (flat_map f (numbers_from a n)) (8 * k + w) ≡ slice_get (f (a + k)) w
  row_at a zero k w h low = absurd (omega (arith, h))
  row_at a (suc n) zero w h low =
      ap (slice_get (f a ++ flat_map f (numbers_from (a + 1) n))) (omega arith)
      ∙ get_left (f a) (flat_map f (numbers_from (a + 1) n)) w (let e = eight a in omega (arith, e, low))
      ∙ ap (λ p. slice_get (f p) w) (omega arith)
  row_at a (suc n) (suc k) w h low =
      ap (slice_get (f a ++ flat_map f (numbers_from (a + 1) n))) (let e = eight a in omega (arith, e))
      ∙ get_right (f a) (flat_map f (numbers_from (a + 1) n)) (8 * k + w)
      ∙ row_at (a + 1) n k w (omega (arith, h)) low
      ∙ ap (λ p. slice_get (f p) w) (omega arith)

eight_times : (size : ℕ) → 2 ^ (size + 3) ≡ 8 * 2 ^ size
eight_times size = let p = pow-add 2 size 3 in omega (arith, p)

pub octant_at : (w : ℕ) → w < 8 → (o : Octant) × (slice_get octants w ≡ Some o)
octant_at zero h = (_, refl)
octant_at (suc zero) h = (_, refl)
octant_at (suc (suc zero)) h = (_, refl)
octant_at (suc (suc (suc zero))) h = (_, refl)
octant_at (suc (suc (suc (suc zero)))) h = (_, refl)
octant_at (suc (suc (suc (suc (suc zero))))) h = (_, refl)
octant_at (suc (suc (suc (suc (suc (suc zero)))))) h = (_, refl)
octant_at (suc (suc (suc (suc (suc (suc (suc zero))))))) h = (_, refl)
octant_at (suc (suc (suc (suc (suc (suc (suc (suc w)))))))) h = absurd (omega (arith, h))

-- ---- the slots
module _ (s : Scene) where
  entry : (p slot w : ℕ) (os : List Octant) (o : Octant) → slice_get os w ≡ Some o → slice_get (near_slots_of_point s p slot os) w ≡ Some (cond (is_in p s.live) (near_of (slot + w) p (candidate_of s o p)) None)
  entry p slot w [] o e = absurd cc
  entry p slot zero (x ∷ os) o e =
      let f : x ≡ o = cc in
      let g : slot ≡ slot + 0 = omega arith in
      λ t. Some (cond (is_in p s.live) (near_of (g t) p (candidate_of s (f t) p)) None)
  entry p slot (suc w) (x ∷ os) o e =
      let g : slot + 1 + w ≡ slot + suc w = omega arith in
      entry p (slot + 1) w os o e ∙ (λ t. Some (cond (is_in p s.live) (near_of (g t) p (candidate_of s o p)) None))

  row : ℕ → List (Option Near)
  row p = near_slots_of_point s p (8 * p) octants

  row-eight : (p : ℕ) → length (row p) ≡ 8
  unfolding row
  row-eight p = refl

  near-count : (size : ℕ) → length (near_slots size s) ≡ 2 ^ (size + 3)
  unfolding row
  near-count size = row_count row row-eight 0 (2 ^ size) ∙ sym (eight_times size)

  -- what stands in slot 8p + w
  near-entry : (size p w : ℕ) (o : Octant) → p < 2 ^ size → slice_get octants w ≡ Some o → slice_get (near_slots size s) (8 * p + w) ≡ Some (cond (is_in p s.live) (near_of (8 * p + w) p (candidate_of s o p)) None)
  unfolding row
  near-entry size p w o low e =
      let below : w < 8 = slice_get_within octants w o e in
      let same : 0 + p ≡ p = omega arith in
      row_at row row-eight 0 (2 ^ size) p w low below ∙ ap (λ q. slice_get (row q) w) same ∙ entry p (8 * p) w octants o e

  module _ (real : IsReal s) where
    held-rightly : (o : Octant) (p slot : ℕ) → HoldsNear s o p slot (cond (is_in p s.live) (near_of slot p (candidate_of s o p)) None)
    held-rightly o p slot = at (is_in p s.live) refl (candidate_of s o p) (candidate_agrees s o p real)
      where
        at : (b : Bool) → is_in p s.live ≡ b → (a : Option ℕ) → IsCandidateAnswer s o p a → HoldsNear s o p slot (cond b (near_of slot p a) None)
        at false e a k = λ c h. absurd (let clash : false ≡ true = sym e ∙ h in cc)
        at true e None k = λ c h. k c
        at true e (Some c) k = (c, e, k, refl)

    pub near_agrees : (size : ℕ) → AreNearSlots size s (near_slots size s)
    near_agrees size = record {
      count = near-count size;
      each = λ p w o held e f.
          let low : p < 2 ^ size = (let h = slice_get_within (near_slots size s) (8 * p + w) held f in let c = near-count size in let g = eight_times size in omega (arith, h, c, g)) in
          let same : Some (cond (is_in p s.live) (near_of (8 * p + w) p (candidate_of s o p)) None) ≡ Some held = sym (near-entry size p w o low e) ∙ f in
          subst (HoldsNear s o p (8 * p + w)) (content same) (held-rightly o p (8 * p + w));
    }
      where
        content : {x y : Option Near} → Some x ≡ Some y → x ≡ y
        content {x} {y} e = cc

    held-once : (o : Octant) (p slot : ℕ) (x y : Option Near) → HoldsNear s o p slot x → HoldsNear s o p slot y → x ≡ y
    held-once o p slot None None h k = refl
    held-once o p slot None (Some n) h k = absurd (h k.0 k.1 k.2)
    held-once o p slot (Some n) None h k = absurd (k h.0 h.1 h.2)
    held-once o p slot (Some n) (Some m) h k =
        let e : h.0 ≡ k.0 = one_candidate s o p h.0 k.0 real h.2 k.2 in
        ap (λ (x : Near). Some x) (h.3 ∙ ap (near slot p) e ∙ sym k.3)

    -- there is one list of slots
    pub one_near : (size : ℕ) (xs ys : List (Option Near)) → AreNearSlots size s xs → AreNearSlots size s ys → xs ≡ ys
    one_near size xs ys h k = same_lists xs ys (h.count ∙ sym k.count) at
      where
        at : (i : ℕ) (x y : Option Near) → slice_get xs i ≡ Some x → slice_get ys i ≡ Some y → x ≡ y
        at i x y e f =
            let o = octant_at (i % 8) (omega arith) in
            let place : i ≡ 8 * (i / 8) + i % 8 = omega arith in
            held-once o.0 (i / 8) (8 * (i / 8) + i % 8) x y
            (h.each (i / 8) (i % 8) o.0 x o.1 (sym (ap (slice_get xs) place) ∙ e))
            (k.each (i / 8) (i % 8) o.0 y o.1 (sym (ap (slice_get ys) place) ∙ f))

    -- a slot holds a pair that names it
    pub own-slot : (size i : ℕ) (slots : List (Option Near)) (n : Near) → AreNearSlots size s slots → slice_get slots i ≡ Some (Some n) → n.slot ≡ i
    own-slot size i slots n h e =
        let o = octant_at (i % 8) (omega arith) in
        let place : i ≡ 8 * (i / 8) + i % 8 = omega arith in
        let held = h.each (i / 8) (i % 8) o.0 (Some n) o.1 (sym (ap (slice_get slots) place) ∙ e) in
        ap (λ (m : Near). m.slot) held.3 ∙ sym place
