-- The first breakpoint of a chain, and the left points of records.
use Rattle.std.proofs.Common.{◌≡◌, ◌⊎◌, inl, inr, refl, sym, ap, ap₂, arith, List, [], ◌∷◌, ◌++◌, ℕ, ◌<◌, Bool, true, false, ◌||◌, nat_eq, length, Some}
use Rattle.std.proofs.lemmas.Bool.Decides.{nat_tests}
use Rattle.kin_motion.specs.Numbers.{is_in}
use Rattle.kin_motion.specs.Merges.{Half, Breakpoint, breakpoints_of}
use Rattle.kin_motion.proofs.Members.{in_tail}
use Rattle.kin_overlay.specs.declared.record.Record.{Record}
use Rattle.kin_overlay.specs.Lists.{first_of, behind}
use Rattle.kin_overlay.specs.Remembered.{left_points}

-- ---- the first breakpoint of a chain
pub first-shape : (h : Half) (xs : List ℕ) (e : Breakpoint) → first_of (breakpoints_of h xs) ≡ Some e → (t : List ℕ) × (xs ≡ e.left ∷ e.right ∷ t) × (e.half ≡ h)
first-shape h [] e q = absurd cc
first-shape h (i ∷ []) e q = absurd cc
first-shape h (i ∷ j ∷ t) e q =
    let same : record { half = h; left = i; right = j } ≡ e = cc in
    (t, ap₂ (λ (x y : ℕ). x ∷ y ∷ t) (ap (λ (f : Breakpoint). f.left) same) (ap (λ (f : Breakpoint). f.right) same), sym (ap (λ (f : Breakpoint). f.half) same))

pub single : (h : Half) (xs : List ℕ) → 0 < length xs → breakpoints_of h xs ≡ [] → behind xs ≡ []
single h [] l q = absurd (omega arith)
single h (x ∷ []) l q = refl
single h (x ∷ y ∷ xs) l q = absurd cc

-- ---- left points
pub lefts-push : (x : ℕ) (rs : List Record) (r : Record) → is_in x (left_points (rs ++ r ∷ [])) ≡ true → (is_in x (left_points rs) ≡ true) ⊎ (x ≡ r.at.left)
lefts-push x [] r h = inr (grind (arith, nat_tests, h))
lefts-push x (q ∷ rs) r h = at (nat_eq x q.at.left) refl h (lefts-push x rs r)
  where
    at : (b : Bool) → nat_eq x q.at.left ≡ b → b || is_in x (left_points (rs ++ r ∷ [])) ≡ true → (is_in x (left_points (rs ++ r ∷ [])) ≡ true → (is_in x (left_points rs) ≡ true) ⊎ (x ≡ r.at.left))
        → (is_in x (left_points (q ∷ rs)) ≡ true) ⊎ (x ≡ r.at.left)
    at true e k rest = inl (ap (λ (b : Bool). b || is_in x (left_points rs)) e)
    at false e k rest = behind-it (rest k)
      where
        behind-it : (is_in x (left_points rs) ≡ true) ⊎ (x ≡ r.at.left) → (is_in x (left_points (q ∷ rs)) ≡ true) ⊎ (x ≡ r.at.left)
        behind-it (inl l) = inl (in_tail x q.at.left (left_points rs) l)
        behind-it (inr m) = inr m
