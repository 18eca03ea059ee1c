-- Facts that are sorted out.
use Rattle.std.proofs.Common.{◌≤◌, ◌++◌, ℕ, length, drop, ◌≡◌, refl, sym, ap, ◌∙◌, List, [], ◌∷◌, Bool, true, false, cond, not, nat_lt, map, filter}
use Rattle.kin_motion.specs.declared.fact.Placed.{Placed}
use Rattle.std.proofs.lemmas.List.{drop_all, append-nil}
use Rattle.kin_pairs.specs.Sorting.{is_before, is_beyond, taken_back, IsSortedMail}

module _ (n : ℕ) where
  -- where none is of the tournament, all are in the first parts
  all_before : (fs : List Placed) → map (taken_back n) (filter (is_beyond n) fs) ≡ [] → filter (is_before n) fs ≡ fs
  all_before [] h = refl
  all_before (f ∷ fs) h = at (nat_lt f.part n) refl (all_before fs)
    where
      at : (t : Bool) → nat_lt f.part n ≡ t → (map (taken_back n) (filter (is_beyond n) fs) ≡ [] → filter (is_before n) fs ≡ fs) → cond (nat_lt f.part n) (f ∷ filter (is_before n) fs) (filter (is_before n) fs) ≡ f ∷ fs
      at true e rest =
          ap (λ (t : Bool). cond t (f ∷ filter (is_before n) fs) (filter (is_before n) fs)) e
          ∙ ap (λ (xs : List Placed). f ∷ xs) (rest (sym (ap (λ (t : Bool). map (taken_back n) (cond (not t) (f ∷ filter (is_beyond n) fs) (filter (is_beyond n) fs))) e) ∙ h))
      at false e rest = absurd (let k : taken_back n f ∷ map (taken_back n) (filter (is_beyond n) fs) ≡ [] = sym (ap (λ (t : Bool). map (taken_back n) (cond (not t) (f ∷ filter (is_beyond n) fs) (filter (is_beyond n) fs))) e) ∙ h in cc)

  -- at the end all are sorted out
  pub sorted_all : (fs first second : List Placed) (i : ℕ) → length fs ≤ i → first ++ filter (is_before n) (drop i fs) ≡ filter (is_before n) fs
      → second ++ map (taken_back n) (filter (is_beyond n) (drop i fs)) ≡ map (taken_back n) (filter (is_beyond n) fs) → IsSortedMail n fs (record { others = first; pairs = second })
  sorted_all fs first second i ended others pairs = record {
    pairs = seconds;
    others = λ some. sym (ap (λ (v : List Placed). first ++ filter (is_before n) v) (drop_all i fs ended) ∙ append-nil first) ∙ others;
    all = λ e. all_before fs (sym seconds ∙ e);
  }
    where
      seconds : second ≡ map (taken_back n) (filter (is_beyond n) fs)
      seconds = sym (ap (λ (v : List Placed). second ++ map (taken_back n) (filter (is_beyond n) v)) (drop_all i fs ended) ∙ append-nil second) ∙ pairs
