-- Cells are put in their places one after another, and then the places are freed.
use Rattle.std.proofs.Common.{◌≡◌, ◌≢◌, ◌⊎◌, inl, inr, refl, sym, ap, ◌∙◌, subst, arith, List, ℕ, ◌+◌, ◌<◌, ◌≤◌, length, set, get_or}
use Rattle.std.specs.Prelude.{Contains, Option, Some, None, MatchOption, slice_get}
use Rattle.std.proofs.lemmas.Bool.{cases_eq}
use Rattle.std.proofs.lemmas.List.{length-set, get_or-set_same, get_or-set_other}
use Rattle.std.proofs.lemmas.Option.{same_Some, slice_get_within, slice_get-get_or}
use Rattle.kin_algebra.proofs.Members.{get_from_contains, contains_from_get}
use Rattle.kin_motion.specs.ClosestPairs.{Near}
use Rattle.kin_motion.specs.Sweeps.{HoldsCell}
use Rattle.kin_motion.specs.Tournaments.{item_in}
use Rattle.kin_diameter.specs.Seats.{AreWithin, HoldCells}

-- of the first k cells none has the slot, or its place holds one that has it
abbrev HoldsOneOf : List Near → ℕ → ℕ → Option Near → Type 0
HoldsOneOf cells k i held = MatchOption held ((j : ℕ) (n : Near) → j < k → slice_get cells j ≡ Some n → n.slot ≢ i) (λ n. Contains cells n × (n.slot ≡ i))

-- the first k cells are in their places
pub record AreLaidOut (cells : List Near) (first places : List (Option Near)) (k : ℕ) : Type 0 where
  pub room : length places ≡ length first
  pub each : (i : ℕ) → HoldsOneOf cells k i (item_in places i)

-- the places of the first k cells are free, and no place is taken by another
pub record AreFreed (cells : List Near) (first places : List (Option Near)) (k : ℕ) : Type 0 where
  pub room : length places ≡ length first
  pub each : (i : ℕ) → (item_in places i ≡ None) ⊎ ((j : ℕ) × (n : Near) × (k ≤ j) × (slice_get cells j ≡ Some n) × (n.slot ≡ i))

-- the k-th cell
pub cell_here : (cells : List Near) (k : ℕ) (n : Near) → k < length cells → n ≡ get_or cells k n → slice_get cells k ≡ Some n
cell_here cells k n inside is = slice_get-get_or cells k n inside ∙ ap (λ (m : Near). Some m) (sym is)

pub cell_within : (room : ℕ) (cells : List Near) (k slot : ℕ) (n : Near) → AreWithin room cells → k < length cells → n ≡ get_or cells k n → slot ≡ n.slot → slot < room
cell_within room cells k slot n within inside is e = subst (λ m. m < room) (sym e) (within n (contains_from_get cells k n (cell_here cells k n inside is)))

pub last_or_before : (j k : ℕ) → j < k + 1 → (j ≡ k) ⊎ (j < k)
last_or_before j k low = at (cases_eq j k)
  where
    at : (j ≡ k) ⊎ (j ≢ k) → (j ≡ k) ⊎ (j < k)
    at (inl e) = inl e
    at (inr n) = inr (omega (arith, low, n))

module _ (cells : List Near) (first : List (Option Near)) where
  pub laid_none : ((i : ℕ) → item_in first i ≡ None) → AreLaidOut cells first first 0
  laid_none free = record { room = refl; each = λ i. subst (HoldsOneOf cells 0 i) (sym (free i)) (λ j n low. absurd (omega (arith, low))) }

  pub laid_more : (places : List (Option Near)) (k : ℕ) (n : Near) → slice_get cells k ≡ Some n → n.slot < length places → AreLaidOut cells first places k → AreLaidOut cells first (set places n.slot (Some n)) (k + 1)
  laid_more places k n here inside h = record { room = length-set places n.slot (Some n) ∙ h.room; each = λ i. at i (cases_eq i n.slot) }
    where
      kept : (i : ℕ) (x : Option Near) → i ≢ n.slot → HoldsOneOf cells k i x → HoldsOneOf cells (k + 1) i x
      kept i (Some m) other r = r
      kept i None other r = λ j m low e. with_last j m (last_or_before j k low) e
        where
          with_last : (j : ℕ) (m : Near) → (j ≡ k) ⊎ (j < k) → slice_get cells j ≡ Some m → m.slot ≢ i
          with_last j m (inr before) e = r j m before e
          with_last j m (inl same) e = λ f. other (sym f ∙ ap (λ (x : Near). x.slot) (same_Some m n (sym e ∙ ap (slice_get cells) same ∙ here)))

      at : (i : ℕ) → (i ≡ n.slot) ⊎ (i ≢ n.slot) → HoldsOneOf cells (k + 1) i (item_in (set places n.slot (Some n)) i)
      at i (inl e) = subst (HoldsOneOf cells (k + 1) i) (sym (ap (item_in (set places n.slot (Some n))) e ∙ get_or-set_same places n.slot (Some n) None inside)) (contains_from_get cells k n here, sym e)
      at i (inr other) = subst (HoldsOneOf cells (k + 1) i) (sym (get_or-set_other places n.slot i (Some n) None other)) (kept i (item_in places i) other (h.each i))

  pub laid_next : (places : List (Option Near)) (k slot : ℕ) (n : Near) → AreWithin (length first) cells → k < length cells → n ≡ get_or cells k n → slot ≡ n.slot → AreLaidOut cells first places k → AreLaidOut cells first (set places slot (Some n)) (k + 1)
  laid_next places k slot n within inside is e h =
      subst (λ i. AreLaidOut cells first (set places i (Some n)) (k + 1)) (sym e)
      (laid_more places k n (cell_here cells k n inside is) (subst (λ m. n.slot < m) (sym h.room) (cell_within (length first) cells k n.slot n within inside is refl)) h)

  pub laid_all : (places : List (Option Near)) (k : ℕ) → length cells ≤ k → AreLaidOut cells first places k → HoldCells cells places
  laid_all places k ended h i = at (item_in places i) (h.each i)
    where
      at : (x : Option Near) → HoldsOneOf cells k i x → HoldsCell cells i x
      at (Some n) r = r
      at None r = λ n c. let place = get_from_contains cells n c in r place.0 n (let low = slice_get_within cells place.0 n place.1 in omega (arith, low, ended)) place.1

  pub freed_none : HoldCells cells first → AreFreed cells first first 0
  freed_none held = record { room = refl; each = λ i. at i (item_in first i) (held i) }
    where
      at : (i : ℕ) (x : Option Near) → HoldsCell cells i x → (x ≡ None) ⊎ ((j : ℕ) × (n : Near) × (0 ≤ j) × (slice_get cells j ≡ Some n) × (n.slot ≡ i))
      at i None r = inl refl
      at i (Some n) r = let place = get_from_contains cells n r.0 in inr (place.0, n, omega arith, place.1, r.1)

  pub freed_more : (places : List (Option Near)) (k : ℕ) (n : Near) → slice_get cells k ≡ Some n → n.slot < length places → AreFreed cells first places k → AreFreed cells first (set places n.slot None) (k + 1)
  freed_more places k n here inside h = record { room = length-set places n.slot None ∙ h.room; each = λ i. at i (cases_eq i n.slot) (h.each i) }
    where
      later : (i j : ℕ) (m : Near) → i ≢ n.slot → k ≤ j → slice_get cells j ≡ Some m → m.slot ≡ i → (j ≡ k) ⊎ (j ≢ k) → (j : ℕ) × (m : Near) × (k + 1 ≤ j) × (slice_get cells j ≡ Some m) × (m.slot ≡ i)
      later i j m other from e f (inl same) = absurd (other (sym f ∙ ap (λ (x : Near). x.slot) (same_Some m n (sym e ∙ ap (slice_get cells) same ∙ here))))
      later i j m other from e f (inr apart) = (j, m, omega (arith, from, apart), e, f)

      at : (i : ℕ) → (i ≡ n.slot) ⊎ (i ≢ n.slot) → (item_in places i ≡ None) ⊎ ((j : ℕ) × (m : Near) × (k ≤ j) × (slice_get cells j ≡ Some m) × (m.slot ≡ i))
          → (item_in (set places n.slot None) i ≡ None) ⊎ ((j : ℕ) × (m : Near) × (k + 1 ≤ j) × (slice_get cells j ≡ Some m) × (m.slot ≡ i))
      at i (inl e) r = inl (ap (item_in (set places n.slot None)) e ∙ get_or-set_same places n.slot None None inside)
      at i (inr other) (inl free) = inl (get_or-set_other places n.slot i None None other ∙ free)
      at i (inr other) (inr (j, m, from, e, f)) = inr (later i j m other from e f (cases_eq j k))

  pub freed_next : (places : List (Option Near)) (k slot : ℕ) (n : Near) → AreWithin (length first) cells → k < length cells → n ≡ get_or cells k n → slot ≡ n.slot → AreFreed cells first places k → AreFreed cells first (set places slot None) (k + 1)
  freed_next places k slot n within inside is e h =
      subst (λ i. AreFreed cells first (set places i None) (k + 1)) (sym e)
      (freed_more places k n (cell_here cells k n inside is) (subst (λ m. n.slot < m) (sym h.room) (cell_within (length first) cells k n.slot n within inside is refl)) h)

  pub freed_all : (places : List (Option Near)) (k : ℕ) → length cells ≤ k → AreFreed cells first places k → (i : ℕ) → item_in places i ≡ None
  freed_all places k ended h i = at (h.each i)
    where
      at : (item_in places i ≡ None) ⊎ ((j : ℕ) × (n : Near) × (k ≤ j) × (slice_get cells j ≡ Some n) × (n.slot ≡ i)) → item_in places i ≡ None
      at (inl free) = free
      at (inr (j, n, from, e, f)) = absurd (let low = slice_get_within cells j n e in omega (arith, low, from, ended))
