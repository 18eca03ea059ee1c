-- An order has a fact for each two neighbours, so one fewer than live numbers; a range has twice as many.
use Rattle.std.proofs.Common.{◌≡◌, refl, ap, ◌∙◌, arith, List, [], ◌∷◌, ℕ, suc, ◌*◌, ◌-◌, length, Bool, true, false, cond, ℤ, pos}
use Rattle.std.proofs.lemmas.List.{length-append, length-map}
use Rattle.kin_motion.specs.Numbers.{put_in, sorted_by}
use Rattle.kin_motion.specs.Scene.{Scene, placed_at}
use Rattle.kin_motion.specs.Orders.{is_before, order_of, neighbour_forms, neighbour_facts, order_facts}
use Rattle.kin_motion.specs.Live.{keep_facts}
use Rattle.kin_motion.specs.declared.keep.Keep.TheVariants.{Range}

-- ---- a sorted list has as many members as before
module _ {A : Type 0} (lt : A → A → Bool) where
  put-length : (x : A) (xs : List A) → length (put_in lt x xs) ≡ suc (length xs)
  put-length x [] = refl
  put-length x (y ∷ ys) = at (lt x y) (put-length x ys)
    where
      at : (b : Bool) → length (put_in lt x ys) ≡ suc (length ys) → length (cond b (x ∷ y ∷ ys) (y ∷ put_in lt x ys)) ≡ suc (suc (length ys))
      at true e = refl
      at false e = ap suc e

  pub sorted-length : (xs : List A) → length (sorted_by lt xs) ≡ length xs
  sorted-length [] = refl
  sorted-length (x ∷ xs) = put-length x (sorted_by lt xs) ∙ ap suc (sorted-length xs)

-- ---- neighbours
neighbours-length : (dx dy : ℤ) (x : ℕ) (xs : List ℕ) → length (neighbour_forms dx dy (x ∷ xs)) ≡ length xs
neighbours-length dx dy x [] = refl
neighbours-length dx dy x (y ∷ ys) = ap suc (neighbours-length dx dy y ys)

pub order_count : (s : Scene) (dx dy : ℤ) (part : ℕ) → length (order_facts s dx dy part) ≡ length s.live - 1
order_count s dx dy part = of_list (order_of s dx dy) ∙ ap (λ n. n - 1) (sorted-length (is_before s dx dy) s.live)
  where
    of_list : (xs : List ℕ) → length (neighbour_facts s dx dy part xs) ≡ length xs - 1
    of_list [] = refl
    of_list (x ∷ xs) =
        let mapped = length-map (neighbour_forms dx dy (x ∷ xs)) (placed_at s part) in
        let one_fewer = neighbours-length dx dy x xs in
        omega (arith, mapped, one_fewer)

pub range_count : (size : ℕ) (s : Scene) → length (keep_facts size s Range) ≡ 2 * (length s.live - 1)
range_count size s =
    let both = length-append (order_facts s (pos 1) (pos 0) 0) (order_facts s (pos 0) (pos 1) 1) in
    let by_x = order_count s (pos 1) (pos 0) 0 in
    let by_y = order_count s (pos 0) (pos 1) 1 in
    omega (arith, both, by_x, by_y)
