-- Eight empty lists, and eight empty rows.
use Rattle.std.proofs.Common.{◌≡◌, refl, sym, ap, ◌∙◌, subst, List, [], ◌∷◌, ◌++◌, ℕ, zero, suc, ◌+◌, length, Some, inl, inr, ◌⊎◌}
use Rattle.std.specs.Prelude.{slice_get}
use Rattle.std.proofs.lemmas.List.{length_push}
use Rattle.kin_algebra.proofs.Places.{get-push_cases}
use Rattle.kin_list.specs.Listing.{Listing}
use Rattle.kin_wedge.specs.Parts.{AreVacant, vacant_listing}
use Rattle.kin_wedge.specs.Passages.{AreVacantRows}
use Rattle.kin_wedge.specs.Rows.{row_of}

-- so many empty lists
pub record AreVacantBelow (size : ℕ) (lists : List Listing) (n : ℕ) : Type 0 where
  pub count : length lists ≡ n
  pub each : (part : ℕ) (l : Listing) → slice_get lists part ≡ Some l → l ≡ vacant_listing size part

pub vacant_none : (size : ℕ) → AreVacantBelow size [] 0
vacant_none size = record { count = refl; each = λ part l e. absurd cc }

pub vacant_more : (size : ℕ) (lists next : List Listing) (n : ℕ) (l : Listing) → AreVacantBelow size lists n → l ≡ vacant_listing size n → next ≡ lists ++ l ∷ [] → AreVacantBelow size next (n + 1)
vacant_more size lists next n l a e p = subst (λ (v : List Listing). AreVacantBelow size v (n + 1)) (sym p) (record {
  count = length_push lists l ∙ ap (λ k. k + 1) a.count;
  each = λ part m f. at part m (get-push_cases lists l part m f);
})
  where
    at : (part : ℕ) (m : Listing) → (slice_get lists part ≡ Some m) ⊎ ((part ≡ length lists) × (m ≡ l)) → m ≡ vacant_listing size part
    at part m (inl h) = a.each part m h
    at part m (inr h) = h.1 ∙ e ∙ ap (vacant_listing size) (sym (h.0 ∙ a.count))

pub vacant_all : (size : ℕ) (lists : List Listing) (n : ℕ) → n ≡ 8 → AreVacantBelow size lists n → AreVacant size lists
vacant_all size lists n e a = record { count = a.count ∙ e; each = a.each }

-- so many empty rows
pub record AreEmptyRows (rows : List (List ℕ)) (n : ℕ) : Type 0 where
  pub count : length rows ≡ n
  pub each : (part : ℕ) → row_of rows part ≡ []

pub rows_none : AreEmptyRows [] 0
rows_none = record { count = refl; each = λ part. refl }

empty-push : (rows : List (List ℕ)) (part : ℕ) → ((k : ℕ) → row_of rows k ≡ []) → row_of (rows ++ [] ∷ []) part ≡ []
empty-push [] zero h = refl
empty-push [] (suc part) h = refl
empty-push (r ∷ rs) zero h = h zero
empty-push (r ∷ rs) (suc part) h = empty-push rs part (λ k. h (suc k))

pub rows_more : (rows next : List (List ℕ)) (row : List ℕ) (n : ℕ) → AreEmptyRows rows n → row ≡ [] → next ≡ rows ++ row ∷ [] → AreEmptyRows next (n + 1)
rows_more rows next row n a e p = subst (λ (v : List (List ℕ)). AreEmptyRows v (n + 1)) (sym (p ∙ ap (λ (r : List ℕ). rows ++ r ∷ []) e)) (record {
  count = length_push rows [] ∙ ap (λ k. k + 1) a.count;
  each = λ part. empty-push rows part a.each;
})

pub rows_all : (rows : List (List ℕ)) (n : ℕ) → n ≡ 8 → AreEmptyRows rows n → AreVacantRows rows
rows_all rows n e a = record { count = a.count ∙ e; each = a.each }
