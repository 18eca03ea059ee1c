-- The eight orders and the eight octants, one after another.
use Rattle.std.proofs.Common.{◌≡◌, refl, sym, ap, ◌∙◌, arith, List, [], ◌∷◌, ◌++◌, ℕ, zero, suc, ◌+◌, ◌*◌, ◌^◌, ◌≤◌, ℤ, w32, to_z, of_z, cond, drop, append_assoc, length}
use Rattle.std.specs.Prelude.{Option, Some, None, slice_get, flat_map, unsigned_abs}
use Rattle.std.proofs.lemmas.Int.{to_z-of_z, fits_signed_from_abs}
use Rattle.std.proofs.lemmas.List.{length-append}
use Rattle.std.proofs.lemmas.Nat.{pow-add}
use Rattle.kin_motion.specs.declared.fact.Placed.{Placed}
use Rattle.kin_motion.specs.ClosestFacts.{near_of, near_slots, near_slots_of_point, wedge_facts_from}
use Rattle.kin_motion.specs.ClosestPairs.{Near}
use Rattle.kin_motion.specs.Numbers.{is_in, numbers_from}
use Rattle.kin_motion.specs.Octants.{Direction, Octant, candidate_of, direction, eight_directions, octants}
use Rattle.kin_motion.specs.Orders.{order_facts}
use Rattle.kin_motion.specs.Scene.{Scene}

-- the item at a place is the first from there on
pub drop_got : {A : Type 0} (xs : List A) (i : ℕ) (x : A) → slice_get xs i ≡ Some x → drop i xs ≡ x ∷ drop (i + 1) xs
drop_got [] i x e = absurd cc
drop_got (y ∷ ys) zero x e = let same : y ≡ x = cc in ap (λ z. z ∷ ys) same
drop_got (y ∷ ys) (suc i) x e = let next : suc i + 1 ≡ suc (i + 1) = omega arith in drop_got ys i x e ∙ ap (λ n. x ∷ drop n (y ∷ ys)) (sym next)

-- the parts of a small direction, as the code reads them
pub small_read : (x : ℤ) → unsigned_abs x ≤ 16 → to_z w32 (of_z w32 x) ≡ x
small_read x h = to_z-of_z w32 x (fits_signed_from_abs w32 x (omega arith))

-- the facts of one more order are put
pub wedge_more : (s : Scene) (part : ℕ) (dx dy x y : ℤ) (xs ys all : List Placed) → x ≡ dx → y ≡ dy → slice_get eight_directions part ≡ Some (direction dx dy) → ys ≡ xs ++ order_facts s x y part
    → xs ++ wedge_facts_from s part (drop part eight_directions) ≡ all → ys ++ wedge_facts_from s (part + 1) (drop (part + 1) eight_directions) ≡ all
wedge_more s part dx dy x y xs ys all same_x same_y known put whole =
    let rest = wedge_facts_from s (part + 1) (drop (part + 1) eight_directions) in
    ap (λ (l : List Placed). l ++ rest) (put ∙ ap (λ (d : ℤ). xs ++ order_facts s d y part) same_x ∙ ap (λ (d : ℤ). xs ++ order_facts s dx d part) same_y)
    ∙ append_assoc xs (order_facts s dx dy part) rest
    ∙ ap (λ (l : List Direction). xs ++ wedge_facts_from s part l) (sym (drop_got eight_directions part (direction dx dy) known)) ∙ whole

-- one more slot of a point is put
pub slot_more : (s : Scene) (p slot next w : ℕ) (o : Octant) (held : Option Near) (xs ys all : List (Option Near)) → slot + 1 ≡ next → slice_get octants w ≡ Some o
    → held ≡ cond (is_in p s.live) (near_of slot p (candidate_of s o p)) None
    → ys ≡ xs ++ held ∷ [] → xs ++ near_slots_of_point s p slot (drop w octants) ≡ all → ys ++ near_slots_of_point s p next (drop (w + 1) octants) ≡ all
slot_more s p slot next w o held xs ys all step known is put whole =
    let rest = near_slots_of_point s p (slot + 1) (drop (w + 1) octants) in
    ap (λ (n : ℕ). ys ++ near_slots_of_point s p n (drop (w + 1) octants)) (sym step) ∙ ap (λ (l : List (Option Near)). l ++ rest) put ∙ append_assoc xs (held ∷ []) rest
    ∙ ap (λ (h : Option Near). xs ++ h ∷ rest) is
    ∙ ap (λ (l : List Octant). xs ++ near_slots_of_point s p slot l) (sym (drop_got octants w o known)) ∙ whole

-- ---- their count
module _ (s : Scene) where
  rows_count : (a n : ℕ) → length (flat_map (λ (p : ℕ). near_slots_of_point s p (8 * p) octants) (numbers_from a n)) ≡ 8 * n
  rows_count a zero = refl
  rows_count a (suc n) =
      let both = length-append (near_slots_of_point s a (8 * a) octants) (flat_map (λ (p : ℕ). near_slots_of_point s p (8 * p) octants) (numbers_from (a + 1) n)) in
      let rest = rows_count (a + 1) n in
      let eight : length (near_slots_of_point s a (8 * a) octants) ≡ 8 = refl in
      omega (arith, both, rest, eight)

  -- slots have their count
  pub near_slots_count : (size : ℕ) (slots : List (Option Near)) → slots ≡ near_slots size s → length slots ≡ 2 ^ (size + 3)
  near_slots_count size slots e =
      let count : length slots ≡ 8 * 2 ^ size = ap length e ∙ rows_count 0 (2 ^ size) in
      let eight : 2 ^ (size + 3) ≡ 2 ^ size * 2 ^ 3 = pow-add 2 size 3 in
      omega (arith, count, eight)
