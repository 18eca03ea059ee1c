-- In the orders of the ends, places are as the signs say.
use Rattle.std.proofs.Common.{◌≡◌, refl, sym, ap, ap₂, ◌∙◌, arith, List, [], ◌∷◌, ℕ, ℤ, pos, ◌-ℤ◌, ◌*ℤ◌, true, ◌&&◌, nat_eq, nat_lt}
use Rattle.std.proofs.lemmas.Bool.{or_left}
use Rattle.kin_algebra.specs.declared.sign.Sign.{Sign}
use Rattle.kin_algebra.specs.declared.sign.Sign.TheVariants.{Minus, Zero, Plus}
use Rattle.kin_algebra.proofs.Ring.{by_ring, quotes}
use Rattle.kin_motion.specs.declared.form.Form.TheVariants.{Line}
use Rattle.kin_motion.specs.BoxEnds.{ends}
use Rattle.kin_motion.specs.BoxFacts.{low_end, high_end, kind, point, offset, end_form, end_leads, IsEndOrder}
use Rattle.kin_motion.specs.Boxes.{is_not_minus}
use Rattle.kin_motion.specs.Numbers.{is_in}
use Rattle.kin_motion.specs.Overlaps.{reaches}
use Rattle.kin_motion.specs.Ranks.{is_before}
use Rattle.kin_motion.specs.Records.{stands_before}
use Rattle.kin_motion.specs.Scene.{Scene, IsReal}
use Rattle.kin_motion.proofs.EndOrders.{from_order, ends_live}
use Rattle.kin_motion.proofs.EndRanks.{ends_strict}
use Rattle.kin_motion.proofs.RankedOrders.{stands_in_order}

-- a low end isn't a high one
pub never_same : (i j : ℕ) → low_end i ≡ high_end j → ⊥
never_same i j e = omega (arith, e)

one_size : (size : ℤ) → (pos 1 -ℤ pos 0) *ℤ size ≡ size
one_size size = by_ring (size ∷ []) _ _ (search quotes depth 20 fits 20000) (search quotes depth 20 fits 20000) refl

low_kind : (i : ℕ) → kind (low_end i) ≡ 0
low_kind i = omega arith

high_kind : (i : ℕ) → kind (high_end i) ≡ 1
high_kind i = omega arith

pub low_point : (i : ℕ) → point (low_end i) ≡ i
low_point i = omega arith

pub high_point : (i : ℕ) → point (high_end i) ≡ i
high_point i = omega arith

form_is : (dx dy size : ℤ) (i j : ℕ) → end_form dx dy size (low_end i) (high_end j) ≡ Line dx dy size i j
form_is dx dy size i j =
    let off : offset size (low_end i) (high_end j) ≡ size = ap₂ (λ (m n : ℕ). (pos m -ℤ pos n) *ℤ size) (high_kind j) (low_kind i) ∙ one_size size in
    λ t. Line dx dy (off t) (low_point i t) (high_point j t)

leads_is : (t : Sign) (i j : ℕ) → end_leads t (low_end i) (high_end j) ≡ is_not_minus t
leads_is Minus i j = refl
leads_is Zero i j = or_left (nat_lt (kind (low_end i)) (kind (high_end j)))
    (nat_eq (kind (low_end i)) (kind (high_end j)) && nat_lt (point (low_end i)) (point (high_end j))) (ap₂ nat_lt (low_kind i) (high_kind j))
leads_is Plus i j = refl

module _ (s : Scene) (dx dy size : ℤ) (real : IsReal s) (xs : List ℕ) (order : IsEndOrder s dx dy size xs) where
  -- a low end is before a high one exactly where the box of the high one reaches that far
  low_high : (i j : ℕ) → is_before s (ends 0 dx dy size) (low_end i) (high_end j) ≡ reaches s dx dy size i j
  low_high i j =
      leads_is (s.sign (end_form dx dy size (low_end i) (high_end j))) i j
      ∙ ap (λ f. is_not_minus (s.sign f)) (form_is dx dy size i j)

  pub in_places : (a b : ℕ) → (a ≡ b → ⊥) → is_in a xs ≡ true → is_in b xs ≡ true → stands_before xs a b ≡ is_before s (ends 0 dx dy size) a b
  in_places a b n h k =
      let o = from_order s 0 dx dy size xs xs order.all order in
      stands_in_order s (ends 0 dx dy size) (ends_strict 0 dx dy size s real) xs b a (ends_live s 0 dx dy size xs order.all) o.chain order.once n k h

  pub low_there : (i : ℕ) → is_in i s.live ≡ true → is_in (low_end i) xs ≡ true
  low_there i h = order.all (low_end i) ∙ ap (λ n. is_in n s.live) (low_point i) ∙ h

  pub high_there : (i : ℕ) → is_in i s.live ≡ true → is_in (high_end i) xs ≡ true
  high_there i h = order.all (high_end i) ∙ ap (λ n. is_in n s.live) (high_point i) ∙ h

  pub low_live : (i : ℕ) → is_in (low_end i) xs ≡ true → is_in i s.live ≡ true
  low_live i h = ap (λ n. is_in n s.live) (sym (low_point i)) ∙ sym (order.all (low_end i)) ∙ h

  pub high_live : (i : ℕ) → is_in (high_end i) xs ≡ true → is_in i s.live ≡ true
  high_live i h = ap (λ n. is_in n s.live) (sym (high_point i)) ∙ sym (order.all (high_end i)) ∙ h

  pub reach_is : (i j : ℕ) → is_in i s.live ≡ true → is_in j s.live ≡ true → stands_before xs (low_end i) (high_end j) ≡ reaches s dx dy size i j
  reach_is i j h k = in_places (low_end i) (high_end j) (never_same i j) (low_there i h) (high_there j k) ∙ low_high i j
