-- What two lists have between what they share at both ends.
use Rattle.std.proofs.Common.{◌≡◌, ◌⊎◌, inl, inr, sym, ap, ◌∙◌, subst, List, [], ◌∷◌, ◌++◌}
use Rattle.std.specs.Prelude.{Contains}
use Rattle.std.proofs.lemmas.List.{append-nil, append_assoc}
use Rattle.std.proofs.lemmas.List.Elements.{Contains-append_left, Contains-append_right, Contains-append_cases}
use Rattle.kin_diameter.specs.Changes.{DifferBetween}

pub between_all : {A : Type 0} → (old new : List A) → DifferBetween old new old new
between_all {A} old new = ([], [], sym (append-nil old), sym (append-nil new))

pub between_turned : {A : Type 0} → (old new olds news : List A) → DifferBetween old new olds news → DifferBetween new old news olds
between_turned {A} old new olds news w = (w.0, w.1, w.3, w.2)

more_front : {A : Type 0} → (old front olds rest end : List A) (x : A) → old ≡ front ++ (olds ++ end) → olds ≡ x ∷ rest → old ≡ (front ++ x ∷ []) ++ (rest ++ end)
more_front {A} old front olds rest end x is first = is ∙ ap (λ (l : List A). front ++ (l ++ end)) first ∙ sym (append_assoc front (x ∷ []) (rest ++ end))

-- the first is the same
pub between_first : {A : Type 0} → (old new olds news olds' news' : List A) (x : A) → DifferBetween old new olds news → olds ≡ x ∷ olds' → news ≡ x ∷ news' → DifferBetween old new olds' news'
between_first {A} old new olds news olds' news' x w e f = (w.0 ++ x ∷ [], w.1, more_front old w.0 olds olds' w.1 x w.2 e, more_front new w.0 news news' w.1 x w.3 f)

more_end : {A : Type 0} → (old front olds rest end : List A) (x : A) → old ≡ front ++ (olds ++ end) → olds ≡ rest ++ x ∷ [] → old ≡ front ++ (rest ++ x ∷ end)
more_end {A} old front olds rest end x is last = is ∙ ap (λ (l : List A). front ++ l) (ap (λ (l : List A). l ++ end) last ∙ append_assoc rest (x ∷ []) end)

-- the last is the same
pub between_last : {A : Type 0} → (old new olds news olds' news' : List A) (x : A) → DifferBetween old new olds news → olds ≡ olds' ++ x ∷ [] → news ≡ news' ++ x ∷ [] → DifferBetween old new olds' news'
between_last {A} old new olds news olds' news' x w e f = (w.0, x ∷ w.1, more_end old w.0 olds olds' w.1 x w.2 e, more_end new w.0 news news' w.1 x w.3 f)

within : {A : Type 0} → (old front olds end front' olds' end' : List A) → old ≡ front ++ (olds ++ end) → olds ≡ front' ++ (olds' ++ end') → old ≡ (front ++ front') ++ (olds' ++ (end' ++ end))
within {A} old front olds end front' olds' end' is in_it =
    is
    ∙ ap (λ (l : List A). front ++ l) (ap (λ (l : List A). l ++ end) in_it ∙ append_assoc front' (olds' ++ end') end ∙ ap (λ (l : List A). front' ++ l) (append_assoc olds' end' end))
    ∙ sym (append_assoc front front' (olds' ++ (end' ++ end)))

pub between_within : {A : Type 0} → (old new olds news olds' news' : List A) → DifferBetween old new olds news → DifferBetween olds news olds' news' → DifferBetween old new olds' news'
between_within {A} old new olds news olds' news' w v = (w.0 ++ v.0, v.1 ++ w.1, within old w.0 olds w.1 v.0 olds' v.1 w.2 v.2, within new w.0 news w.1 v.0 news' v.1 w.3 v.3)

-- an item of the one list is between, or both lists have it
pub between_or_both : {A : Type 0} → (old new olds news : List A) → DifferBetween old new olds news → (x : A) → Contains old x → Contains olds x ⊎ Contains new x
between_or_both {A} old new olds news w x c = at (Contains-append_cases w.0 (olds ++ w.1) x (subst (λ (l : List A). Contains l x) w.2 c))
  where
    in_new : Contains (w.0 ++ (news ++ w.1)) x → Contains new x
    in_new h = subst (λ (l : List A). Contains l x) (sym w.3) h

    rest : Contains olds x ⊎ Contains w.1 x → Contains olds x ⊎ Contains new x
    rest (inl h) = inl h
    rest (inr h) = inr (in_new (Contains-append_right w.0 (news ++ w.1) x (Contains-append_right news w.1 x h)))

    at : Contains w.0 x ⊎ Contains (olds ++ w.1) x → Contains olds x ⊎ Contains new x
    at (inl h) = inr (in_new (Contains-append_left w.0 (news ++ w.1) x h))
    at (inr h) = rest (Contains-append_cases olds w.1 x h)

-- what is between is in the list
pub between_in : {A : Type 0} → (old new olds news : List A) → DifferBetween old new olds news → (x : A) → Contains olds x → Contains old x
between_in {A} old new olds news w x c = subst (λ (l : List A). Contains l x) (sym w.2) (Contains-append_right w.0 (olds ++ w.1) x (Contains-append_left olds w.1 x c))
