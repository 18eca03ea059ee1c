-- The slots under a node are one after another.
use Rattle.std.proofs.Common.{◌≡◌, ◌⊎◌, inl, inr, refl, sym, ap, ◌∙◌, subst, arith, List, [], ◌∷◌, ℕ, zero, suc, ◌+◌, ◌-◌, ◌*◌, ◌^◌, ◌<◌, ◌≤◌, true, false, cond, drop, length, get_or, le_refl, ◌↔◌}
use Rattle.std.specs.Prelude.{Option, Some, None}
use Rattle.std.proofs.lemmas.Bool.{cases_lt, false_from_ne_true, cond-true, cond-false}
use Rattle.std.proofs.lemmas.List.{drop_more, length-drop}
use Rattle.std.proofs.Math.Seq.{drop-length}
use Rattle.std.proofs.Math.Nat.{pow-succ'}
use Rattle.std.proofs.lemmas.Nat.{pow-add, mul-le}
use Rattle.std.proofs.Math.Pow.{pow_mono, pow_pos}
use Rattle.kin_motion.specs.Scene.{Scene}
use Rattle.kin_motion.specs.Tournaments.{Key, best_of, better_of, is_under, items_from}
use Rattle.kin_motion.proofs.UnderNodes.{is_under-leaf, is_under-leaf_alone, is_under-left, is_under-right, is_under-cases}
use Rattle.kin_plain.specs.Nodes.{AreUnder}

-- ---- node k of a level that has more levels below it
module _ (h d size k : ℕ) (levels : d + suc h ≡ size) (low : k < 2 ^ d) where
  twice : 2 ^ suc d ≡ 2 * 2 ^ d
  twice = pow-succ' 2 d

  some : 0 < 2 ^ d + k
  some = omega (arith, pow_pos d)

  inner : 2 ^ d + k < 2 ^ size
  inner =
      let deep : suc d ≤ size = omega (arith, levels) in
      let most : 2 ^ suc d ≤ 2 ^ size = pow_mono deep in
      omega (arith, low, twice, most)

  left_half : 2 * (2 ^ d + k) ≡ 2 ^ suc d + 2 * k
  left_half = omega (arith, twice)

  right_half : 2 * (2 ^ d + k) + 1 ≡ 2 ^ suc d + (2 * k + 1)
  right_half = omega (arith, twice)

  low_left : 2 * k < 2 ^ suc d
  low_left = omega (arith, twice, low)

  low_right : 2 * k + 1 < 2 ^ suc d
  low_right = omega (arith, twice, low)

-- its slots begin where those of its left half do; those of its right half begin in the middle
width_halves : (h : ℕ) → 2 ^ suc h ≡ 2 ^ h + 2 ^ h
width_halves h = let twice : 2 ^ suc h ≡ 2 * 2 ^ h = pow-succ' 2 h in omega (arith, twice)

left_begins : (h k : ℕ) → 2 * k * 2 ^ h ≡ k * 2 ^ suc h
left_begins h k = let same : 2 * k * 2 ^ h ≡ k * (2 ^ h + 2 ^ h) = omega arith in same ∙ ap (λ n. k * n) (sym (width_halves h))

right_begins : (h k : ℕ) → (2 * k + 1) * 2 ^ h ≡ k * 2 ^ suc h + 2 ^ h
right_begins h k = let more : (2 * k + 1) * 2 ^ h ≡ 2 * k * 2 ^ h + 2 ^ h = omega arith in more ∙ ap (λ n. n + 2 ^ h) (left_begins h k)

-- ---- which slots are under node k of level d, with h levels below it
under_within : (h d size k i : ℕ) → d + h ≡ size → k < 2 ^ d → i < 2 ^ size → is_under size (2 ^ d + k) i ≡ true → (k * 2 ^ h ≤ i) × (i < k * 2 ^ h + 2 ^ h)
under_within zero d size k i levels low small under =
    let same : d ≡ size = omega (arith, levels) in
    let leaf : i ≡ k = is_under-leaf_alone size i k small (subst (λ n. is_under size (2 ^ n + k) i ≡ true) same under) in
    (omega (arith, leaf), omega (arith, leaf))
under_within (suc h) d size k i levels low small under =
    at (is_under-cases size (2 ^ d + k) i (some h d size k levels low) (inner h d size k levels low) small under) (λ j. under_within h (suc d) size j i (omega (arith, levels)))
  where
    at : (is_under size (2 * (2 ^ d + k)) i ≡ true) ⊎ (is_under size (2 * (2 ^ d + k) + 1) i ≡ true)
        → ((j : ℕ) → j < 2 ^ suc d → i < 2 ^ size → is_under size (2 ^ suc d + j) i ≡ true → (j * 2 ^ h ≤ i) × (i < j * 2 ^ h + 2 ^ h)) → (k * 2 ^ suc h ≤ i) × (i < k * 2 ^ suc h + 2 ^ suc h)
    at (inl u) within =
        let half = within (2 * k) (low_left h d size k levels low) small (subst (λ v. is_under size v i ≡ true) (left_half h d size k levels low) u) in
        let from = half.0 in
        let until = half.1 in
        (omega (arith, from, left_begins h k), omega (arith, until, left_begins h k, width_halves h))
    at (inr u) within =
        let half = within (2 * k + 1) (low_right h d size k levels low) small (subst (λ v. is_under size v i ≡ true) (right_half h d size k levels low) u) in
        let from = half.0 in
        let until = half.1 in
        (omega (arith, from, right_begins h k), omega (arith, until, right_begins h k, width_halves h))

under_reached : (h d size k i : ℕ) → d + h ≡ size → k < 2 ^ d → i < 2 ^ size → k * 2 ^ h ≤ i → i < k * 2 ^ h + 2 ^ h → is_under size (2 ^ d + k) i ≡ true
under_reached zero d size k i levels low small from until =
    let same : d ≡ size = omega (arith, levels) in
    let leaf : i ≡ k = omega (arith, from, until) in
    subst (λ n. is_under size (2 ^ n + k) i ≡ true) (sym same) (subst (λ n. is_under size (2 ^ size + n) i ≡ true) leaf (is_under-leaf size i))
under_reached (suc h) d size k i levels low small from until = at (cases_lt i (k * 2 ^ suc h + 2 ^ h)) (λ j. under_reached h (suc d) size j i (omega (arith, levels)))
  where
    at : (i < k * 2 ^ suc h + 2 ^ h) ⊎ (k * 2 ^ suc h + 2 ^ h ≤ i)
        → ((j : ℕ) → j < 2 ^ suc d → i < 2 ^ size → j * 2 ^ h ≤ i → i < j * 2 ^ h + 2 ^ h → is_under size (2 ^ suc d + j) i ≡ true) → is_under size (2 ^ d + k) i ≡ true
    at (inl left) reached =
        is_under-left size (2 ^ d + k) i (some h d size k levels low) (inner h d size k levels low) small
        (subst (λ v. is_under size v i ≡ true) (sym (left_half h d size k levels low))
        (reached (2 * k) (low_left h d size k levels low) small (omega (arith, from, left_begins h k)) (omega (arith, left, left_begins h k))))
    at (inr right) reached =
        is_under-right size (2 ^ d + k) i (some h d size k levels low) (inner h d size k levels low) small
        (subst (λ v. is_under size v i ≡ true) (sym (right_half h d size k levels low))
        (reached (2 * k + 1) (low_right h d size k levels low) small (omega (arith, right, right_begins h k)) (omega (arith, until, right_begins h k, width_halves h))))

-- a node has its level in the tree
pub level_in : (size level node : ℕ) → 2 ^ level ≤ node → node < 2 ^ (size + 1) → level ≤ size
level_in size level node above inside = at (cases_lt size level)
  where
    at : (size < level) ⊎ (level ≤ size) → level ≤ size
    at (inr h) = h
    at (inl deep) =
        let next : size + 1 ≤ level = omega (arith, deep) in
        let most : 2 ^ (size + 1) ≤ 2 ^ level = pow_mono next in
        absurd (omega (arith, most, above, inside))

-- ---- a node by its level
module _ (size level node above width : ℕ) (from : 2 ^ level ≤ node) (until : node < 2 * 2 ^ level) (inside : node < 2 ^ (size + 1)) (above_is : above ≡ 2 ^ level)
    (width_is : width ≡ 2 ^ (size - level)) where
  levels : level + (size - level) ≡ size
  levels = let deep = level_in size level node from inside in omega (arith, deep)

  itself : node ≡ 2 ^ level + (node - above)
  itself = omega (arith, from, above_is)

  low : node - above < 2 ^ level
  low = omega (arith, from, until, above_is)

  pub node_slots : AreUnder size node ((node - above) * width) ((node - above) * width + width)
  node_slots i small =
      subst (λ w. (is_under size node i ≡ true) ↔ (((node - above) * w ≤ i) × (i < (node - above) * w + w))) (sym width_is)
      (subst (λ v. (is_under size v i ≡ true) ↔ (((node - above) * 2 ^ (size - level) ≤ i) × (i < (node - above) * 2 ^ (size - level) + 2 ^ (size - level)))) (sym itself)
      (under_within (size - level) level size (node - above) i levels low small, λ range. under_reached (size - level) level size (node - above) i levels low small range.0 range.1))

  pub node_slots_end : (node - above) * width + width ≤ 2 ^ size
  node_slots_end =
      let whole : 2 ^ (level + (size - level)) ≡ 2 ^ level * 2 ^ (size - level) = pow-add 2 level (size - level) in
      let same : 2 ^ (level + (size - level)) ≡ 2 ^ size = ap (λ n. 2 ^ n) levels in
      let next : node - above + 1 ≤ 2 ^ level = omega (arith, low) in
      let most : (node - above + 1) * width ≤ 2 ^ level * width = mul-le (node - above + 1) width (2 ^ level) width next (le_refl width) in
      let is : 2 ^ level * width ≡ 2 ^ level * 2 ^ (size - level) = ap (λ w. 2 ^ level * w) width_is in
      omega (arith, whole, same, most, is)

-- ---- the items under a node
module _ {Item : Type 0} (size v : ℕ) where
  -- slots that aren't under the node count for nothing
  skipped : (n i : ℕ) (slots : List (Option Item)) → ((j : ℕ) → i ≤ j → j < i + n → j < i + length slots → is_under size v j ≡ false)
      → items_from size v i slots ≡ items_from size v (i + n) (drop n slots)
  skipped zero i slots none = ap (λ k. items_from size v k slots) (omega arith)
  skipped (suc n) i [] none = refl
  skipped (suc n) i (x ∷ slots) none = first x refl ∙ skipped n (i + 1) slots others ∙ ap (λ k. items_from size v k (drop n slots)) (omega arith)
    where
      others : (j : ℕ) → i + 1 ≤ j → j < i + 1 + n → j < i + 1 + length slots → is_under size v j ≡ false
      others j low high there = none j (omega (arith, low)) (omega (arith, high)) (omega (arith, there))

      first : (y : Option Item) → y ≡ x → items_from size v i (x ∷ slots) ≡ items_from size v (i + 1) slots
      first None e = ap (λ z. items_from size v i (z ∷ slots)) (sym e)
      first (Some a) e =
          ap (λ z. items_from size v i (z ∷ slots)) (sym e)
          ∙ cond-false (is_under size v i) (a ∷ items_from size v (i + 1) slots) (items_from size v (i + 1) slots) (none i (omega arith) (omega arith) (omega arith))

  module _ (slots : List (Option Item)) (first end : ℕ) (all : length slots ≡ 2 ^ size) (under : AreUnder size v first end) where
    -- from the end of its slots on there is nothing
    pub none_after : items_from size v end (drop end slots) ≡ []
    none_after =
        skipped (length (drop end slots)) end (drop end slots) outside
        ∙ ap (λ (l : List (Option Item)). items_from size v (end + length (drop end slots)) l) (drop-length (drop end slots))
      where
        count : length (drop end slots) ≡ 2 ^ size - end
        count = length-drop end slots ∙ ap (λ n. n - end) all

        outside : (j : ℕ) → end ≤ j → j < end + length (drop end slots) → j < end + length (drop end slots) → is_under size v j ≡ false
        outside j past there again = false_from_ne_true (is_under size v j) (λ u. let low = ((under j (omega (arith, past, there, count))).0 u).1 in omega (arith, past, low))

    -- nor is there anything before them
    pub none_before : (n : ℕ) → n ≤ first → items_from size v 0 slots ≡ items_from size v n (drop n slots)
    none_before n low =
        skipped n 0 slots (λ j from high there. false_from_ne_true (is_under size v j) (λ u. let past = ((under j (omega (arith, there, all))).0 u).0 in omega (arith, past, high, low)))
        ∙ ap (λ k. items_from size v k (drop n slots)) (omega arith)

    -- one more of them
    pub one_more : (s : Scene) (key : Key Item) (n : ℕ) (d : Option Item) (a : Item) (best result : Option Item) → first < n → n ≤ end → n ≤ length slots → get_or slots (n - 1) d ≡ Some a
        → best ≡ best_of s key (items_from size v n (drop n slots)) → result ≡ better_of s key a best → result ≡ best_of s key (items_from size v (n - 1) (drop (n - 1) slots))
    one_more s key n d a best result from until low held so_far is =
        let next : n - 1 + 1 ≡ n = omega (arith, from) in
        let here : drop (n - 1) slots ≡ Some a ∷ drop n slots =
        drop_more slots (n - 1) d (omega (arith, from, low)) ∙ ap (λ x. x ∷ drop (n - 1 + 1) slots) held ∙ ap (λ k. Some a ∷ drop k slots) next in
        let rest = items_from size v n (drop n slots) in
        let counts : items_from size v (n - 1) (drop (n - 1) slots) ≡ a ∷ rest =
        ap (items_from size v (n - 1)) here
        ∙ ap (λ k. cond (is_under size v (n - 1)) (a ∷ items_from size v k (drop n slots)) (items_from size v k (drop n slots))) next
        ∙ cond-true (is_under size v (n - 1)) (a ∷ rest) rest ((under (n - 1) (omega (arith, from, low, all))).1 (omega (arith, from), omega (arith, from, until))) in
        is ∙ ap (better_of s key a) so_far ∙ sym (ap (best_of s key) counts)
