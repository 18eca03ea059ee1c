-- What a list has at an index after a write.
use Rattle.std.proofs.Common.{◌≡◌, ◌≢◌, ◌⊎◌, inl, inr, ap, ◌∙◌, List, ℕ, ◌<◌, length, set, get_or}
use Rattle.std.proofs.lemmas.List.{get_or-set_same, get_or-set_other}
use Rattle.std.proofs.lemmas.Bool.{cases_eq}

pub read_set : {A : Type 0} (xs : List A) (i j : ℕ) (a d : A) → i < length xs → ((j ≡ i) × (get_or (set xs i a) j d ≡ a)) ⊎ ((j ≢ i) × (get_or (set xs i a) j d ≡ get_or xs j d))
read_set {A} xs i j a d inside = at (cases_eq j i)
  where
    at : (j ≡ i) ⊎ (j ≢ i) → ((j ≡ i) × (get_or (set xs i a) j d ≡ a)) ⊎ ((j ≢ i) × (get_or (set xs i a) j d ≡ get_or xs j d))
    at (inl e) = inl (e, ap (λ k. get_or (set xs i a) k d) e ∙ get_or-set_same xs i a d inside)
    at (inr n) = inr (n, get_or-set_other xs i j a d n)
