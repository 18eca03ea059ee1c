-- Pairs of points whose boxes overlap, one point after another.
use Rattle.std.proofs.Common.{◌≡◌, sym, ap, ◌∙◌, List, [], ◌++◌, ℕ, ◌+◌, ◌-◌, ◌<◌, ◌≤◌, ℤ, length, drop, take, map, append_assoc, get_or}
use Rattle.std.specs.Prelude.{filter}
use Rattle.std.proofs.Math.ListN.{drop_of_length-le}
use Rattle.std.proofs.lemmas.List.{append-nil, drop_more, take_rest}
use Rattle.std.proofs.lemmas.List.Elements.{All-drop, All-take, filter-append}
use Rattle.kin_motion.specs.Numbers.{IsIn}
use Rattle.kin_motion.specs.Overlaps.{overlap, overlaps_of, pairs_of}
use Rattle.kin_motion.specs.Scene.{Scene}
use Rattle.kin_plain.specs.Live.{AreLive}
use Rattle.kin_plain.proofs.LiveLists.{all_live}

module _ (s : Scene) where
  -- those of one point and of later ones
  abbrev with_later : ℤ → ℤ → ℕ → List ℕ → List (ℕ × ℕ)
  with_later w h i js = filter (λ (p : ℕ × ℕ). overlap s w h p.0 p.1) (map (λ (j : ℕ). (i, j)) js)

  abbrev among : ℤ → ℤ → List ℕ → List (ℕ × ℕ)
  among w h is = filter (λ (p : ℕ × ℕ). overlap s w h p.0 p.1) (pairs_of is)

  -- those of one point more are put
  pub overlaps_more : (w h : ℤ) (live : List ℕ) (i : ℕ) (old new all : List (ℕ × ℕ)) → i < length live
      → new ≡ old ++ with_later w h (get_or live i 0) (take (length live - (i + 1)) (drop (i + 1) live)) → old ++ among w h (drop i live) ≡ all
      → new ++ among w h (drop (i + 1) live) ≡ all
  overlaps_more w h live i old new all lt put whole =
      let later = drop (i + 1) live in
      let here = with_later w h (get_or live i 0) later in
      let is : new ≡ old ++ here = put ∙ ap (λ (l : List ℕ). old ++ with_later w h (get_or live i 0) l) (take_rest live (i + 1)) in
      ap (λ (l : List (ℕ × ℕ)). l ++ among w h later) is ∙ append_assoc old here (among w h later)
      ∙ ap (λ (l : List (ℕ × ℕ)). old ++ l)
      (sym (filter-append (λ (p : ℕ × ℕ). overlap s w h p.0 p.1) (map (λ (j : ℕ). (get_or live i 0, j)) later) (pairs_of later)))
      ∙ ap (λ (l : List ℕ). old ++ among w h l) (sym (drop_more live i 0 lt)) ∙ whole

  -- no point is left
  pub all_overlaps : (w h x y : ℤ) (live : List ℕ) (i : ℕ) (pairs : List (ℕ × ℕ)) → x ≡ w → y ≡ h → length live ≤ i
      → pairs ++ among x y (drop i live) ≡ overlaps_of s x y → pairs ≡ overlaps_of s w h
  all_overlaps w h x y live i pairs same_x same_y le whole =
      sym (append-nil pairs) ∙ ap (λ (l : List ℕ). pairs ++ among x y l) (sym (drop_of_length-le live le)) ∙ whole
      ∙ ap (λ (v : ℤ). overlaps_of s v y) same_x ∙ ap (overlaps_of s w) same_y

  -- the later points are live
  pub later_live : (live : List ℕ) (i n : ℕ) → live ≡ s.live → AreLive s (take n (drop i live))
  later_live live i n same = All-take (λ (j : ℕ). IsIn j s.live) n (drop i live) (All-drop (λ (j : ℕ). IsIn j s.live) i live (all_live s live same))
