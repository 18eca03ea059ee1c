-- Ends of the boxes of live points.
use Rattle.std.proofs.Common.{◌≡◌, refl, sym, ap, ◌∙◌, subst, arith, List, [], ◌∷◌, ◌++◌, ℕ, ◌-◌, ◌≤◌, ◌<◌, ◌^◌, ℤ, pos, ◌≤ℤ◌, unsigned_abs, Bool, length, drop, w32, to_z, of_z}
use Rattle.std.specs.List.{All}
use Rattle.std.proofs.lemmas.Int.{ints, to_z-of_z, fits_signed_from_abs}
use Rattle.std.proofs.lemmas.List.{append-nil, length-drop}
use Rattle.std.proofs.lemmas.List.Elements.{All-nil, All-cons, All-head, All-tail, All-drop, All-weaker}
use Rattle.std.proofs.lemmas.Nat.{mod_below}
use Rattle.kin_motion.specs.declared.fact.Placed.{Placed}
use Rattle.kin_motion.specs.declared.form.Form.{Form}
use Rattle.kin_motion.specs.Agreements.{FitsSize}
use Rattle.kin_motion.specs.BoxFacts.{kind, point, low_end, high_end, offset, end_form, ends_of, end_facts}
use Rattle.kin_motion.specs.Forms.{IsAskable}
use Rattle.kin_motion.specs.Numbers.{IsIn, sorted_by}
use Rattle.kin_motion.specs.Scene.{Scene}
use Rattle.kin_motion.proofs.EndPlaces.{low_point, high_point}
use Rattle.kin_motion.proofs.EndRanks.{small_offset}
use Rattle.kin_plain.specs.Live.{AreEndsOfLive, AreLive}
use Rattle.kin_plain.proofs.LiveLists.{all_live, all_sorted, number_small}

-- the width and the height of boxes, as the code reads them
pub size_read : (size : ℤ) → pos 0 ≤ℤ size → size ≤ℤ pos 4096 → to_z w32 (of_z w32 size) ≡ size
size_read size low high = to_z-of_z w32 size (fits_signed_from_abs w32 size (omega (arith, ints, low, high)))

-- the form of two ends of live points may be asked for
pub end_askable : (s : Scene) (dx dy size : ℤ) (a b : ℕ) (f : Form) → unsigned_abs dx ≤ 16 → unsigned_abs dy ≤ 16 → unsigned_abs size ≤ 2 ^ 16
    → IsIn (point a) s.live → IsIn (point b) s.live → f ≡ end_form dx dy size a b → IsAskable s.live f
end_askable s dx dy size a b f x_small y_small small a_live b_live e = subst (IsAskable s.live) (sym e) (record {
  i_live = a_live;
  j_live = b_live;
  dx_small = x_small;
  dy_small = y_small;
  off_small = small_offset (kind b) (kind a) size (mod_below b 2 (omega arith)) (mod_below a 2 (omega arith)) small;
})

-- ---- lists of ends
-- live points are small enough for their ends
pub points_small : (s : Scene) (size : ℕ) (live : List ℕ) → FitsSize size s → size ≤ 12 → live ≡ s.live → All (λ (i : ℕ). i < 2 ^ 12) live
points_small s size live fits le same =
    All-weaker (λ (i : ℕ). IsIn i s.live) (λ (i : ℕ). i < 2 ^ 12) (λ i here. number_small s size fits le i here) live (all_live s live same)

module _ (s : Scene) where
  abbrev IsEndOfLive : ℕ → Type 0
  IsEndOfLive e = IsIn (point e) s.live

  both_ends : (is : List ℕ) → AreLive s is → AreEndsOfLive s (ends_of is)
  both_ends [] all = All-nil IsEndOfLive
  both_ends (i ∷ is) all =
      let here = All-head (λ (n : ℕ). IsIn n s.live) i is all in
      let rest = both_ends is (All-tail (λ (n : ℕ). IsIn n s.live) i is all) in
      All-cons IsEndOfLive (low_end i) (high_end i ∷ ends_of is) (subst (λ (n : ℕ). IsIn n s.live) (sym (low_point i)) here)
      (All-cons IsEndOfLive (high_end i) (ends_of is) (subst (λ (n : ℕ). IsIn n s.live) (sym (high_point i)) here) rest)

  -- all ends
  pub ends_live : (live ends : List ℕ) → live ≡ s.live → ends ≡ ends_of live → AreEndsOfLive s ends
  ends_live live ends same e = subst (AreEndsOfLive s) (sym e) (both_ends live (all_live s live same))

  -- ends that are sorted from the last ones
  pub sorted_ends : (lt : ℕ → ℕ → Bool) (ends order : List ℕ) (i : ℕ) → AreEndsOfLive s ends → order ≡ sorted_by lt (drop i ends) → AreEndsOfLive s order
  sorted_ends lt ends order i all e = subst (AreEndsOfLive s) (sym e) (all_sorted IsEndOfLive lt (drop i ends) (All-drop IsEndOfLive i ends all))

  -- ---- facts of neighbours
  module _ (dx dy size : ℤ) (first : ℕ) where
    alone : (xs : List ℕ) → length xs ≤ 1 → end_facts s dx dy size first xs ≡ []
    alone [] le = refl
    alone (x ∷ []) le = refl
    alone (x ∷ y ∷ xs) le = absurd (omega (arith, le))

    -- the last end has no next one
    pub all_end_facts : (xs : List ℕ) (i : ℕ) (fs old : List Placed) → length xs ≤ i → 1 ≤ i
        → fs ++ end_facts s dx dy size first (drop (i - 1) xs) ≡ old ++ end_facts s dx dy size first xs → fs ≡ old ++ end_facts s dx dy size first xs
    all_end_facts xs i fs old high low e =
        let few : length (drop (i - 1) xs) ≤ 1 = let n = length-drop (i - 1) xs in omega (arith, n, high, low) in
        sym (append-nil fs) ∙ ap (λ (l : List Placed). fs ++ l) (sym (alone (drop (i - 1) xs) few)) ∙ e
