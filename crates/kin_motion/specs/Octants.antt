-- Octants and candidates.
use Rattle.std.specs.Prelude.{◌≡◌, ◌≢◌, ℕ, ◌+◌, ◌*◌, ◌^◌, ◌<◌, Bool, true, false, ◌&&◌, cond, nat_lt, ℤ, pos, negsuc, List, [], ◌∷◌, filter, Option, Some, None, MatchOption, slice_get, slice_index_or, ◌⊎◌, ◌↔◌}
use Rattle.kin_motion.specs.Numbers.{IsIn, IsChain}
use Rattle.kin_motion.specs.Sets.{ListsExactly}
use Rattle.kin_motion.specs.Scene.{Scene}
use Rattle.kin_motion.specs.Orders.{is_before}

-- a direction along which points are ordered
pub record Direction : Type 0 where
  pub dx : ℤ
  pub dy : ℤ

-- a direction by its two parts
abbrev pub direction : ℤ → ℤ → Direction
direction dx dy = record { dx = dx; dy = dy }

-- the directions of the parts 0 to 7: y, x - y, x, x + y, 2x + y, x + 2y, -x + 2y and -2x + y
abbrev pub eight_directions : List Direction
eight_directions =
    direction (pos 0) (pos 1) ∷ direction (pos 1) (negsuc 0) ∷ direction (pos 1) (pos 0) ∷ direction (pos 1) (pos 1)
    ∷ direction (pos 2) (pos 1) ∷ direction (pos 1) (pos 2) ∷ direction (negsuc 0) (pos 2) ∷ direction (negsuc 1) (pos 1) ∷ []

-- the direction of one of the parts 0 to 7
abbrev pub direction_of : ℕ → Direction
direction_of part = slice_index_or eight_directions part (direction (pos 0) (pos 0))

-- the order of one of the parts 0 to 7, read forward or backward
pub record Reading : Type 0 where
  pub part : ℕ
  pub from_end : Bool

-- whether i is before j in the order of a part
abbrev pub is_before_in : Scene → ℕ → ℕ → ℕ → Bool
is_before_in s part i j = is_before s (direction_of part).dx (direction_of part).dy i j

-- q comes after p as the order is read
abbrev pub comes_after : Scene → Reading → ℕ → ℕ → Bool
comes_after s r p q = cond r.from_end (is_before_in s r.part q p) (is_before_in s r.part p q)

-- the order of a part, read forward
abbrev pub forward : ℕ → Reading
forward part = record { part = part; from_end = false }

-- the order of a part, read backward
abbrev pub back : ℕ → Reading
back part = record { part = part; from_end = true }

-- the three orders of an octant
pub record Octant : Type 0 where
  pub first : Reading
  pub second : Reading
  pub third : Reading

-- an octant by its three orders
abbrev pub octant : Reading → Reading → Reading → Octant
octant f g t = record { first = f; second = g; third = t }

-- the eight octants
abbrev pub octants : List Octant
octants =
    octant (forward 0) (forward 1) (forward 4)
    ∷ octant (back 1) (forward 2) (forward 5)
    ∷ octant (back 2) (forward 3) (forward 6)
    ∷ octant (back 3) (forward 0) (forward 7)
    ∷ octant (back 0) (back 1) (back 4)
    ∷ octant (forward 1) (back 2) (back 5)
    ∷ octant (forward 2) (back 3) (back 6)
    ∷ octant (forward 3) (back 0) (back 7)
    ∷ []

-- q is in the octant of the apex p
abbrev pub is_in_octant : Scene → Octant → ℕ → ℕ → Bool
is_in_octant s o p q = comes_after s o.first p q && comes_after s o.second p q

-- the live numbers in the octant of p
abbrev pub octant_members : Scene → Octant → ℕ → List ℕ
octant_members s o p = filter (is_in_octant s o p) s.live

-- the member of the octant that comes first in the third order
pub record IsCandidate (s : Scene) (o : Octant) (p c : ℕ) : Type 0 where
  pub member : IsIn c (octant_members s o p)
  pub first : (q : ℕ) → IsIn q (octant_members s o p) → (q ≡ c) ⊎ (comes_after s o.third c q ≡ true)

-- the candidate of p, or none where the octant is empty
abbrev pub IsCandidateAnswer : Scene → Octant → ℕ → Option ℕ → Type 0
IsCandidateAnswer s o p answer = MatchOption answer ((c : ℕ) → ¬ (IsCandidate s o p c)) (IsCandidate s o p)

-- the earlier of p and another, in an order as it is read
abbrev pub earlier_of : Scene → Reading → ℕ → Option ℕ → Option ℕ
earlier_of s r p None = Some p
earlier_of s r p (Some q) = Some (cond (comes_after s r p q) p q)

-- the first of these numbers in an order as it is read
abbrev pub first_in : Scene → Reading → List ℕ → Option ℕ
first_in s r [] = None
first_in s r (p ∷ ps) = earlier_of s r p (first_in s r ps)

-- the candidate by computation
abbrev pub candidate_of : Scene → Octant → ℕ → Option ℕ
candidate_of s o p = first_in s o.third (octant_members s o p)

-- Below, `candidate p w` is the answer for the apex p and the octant w.

-- it is the candidate of each live apex, and none for the other numbers below 2^size
pub record AreCandidates (size : ℕ) (s : Scene) (candidate : ℕ → ℕ → Option ℕ) : Type 0 where
  pub of_live : (p w : ℕ) (o : Octant) → IsIn p s.live → slice_get octants w ≡ Some o → IsCandidateAnswer s o p (candidate p w)
  pub of_others : (p w : ℕ) → p < 2 ^ size → w < 8 → ¬ (IsIn p s.live) → candidate p w ≡ None

-- the list has exactly the apexes and octants whose candidate is c, each once, in any order
abbrev pub ListsHits : ℕ → (ℕ → ℕ → Option ℕ) → ℕ → List (ℕ × ℕ) → Type 0
ListsHits size candidate c hits = ListsExactly hits (λ h. (h.0 < 2 ^ size) × (h.1 < 8) × (candidate h.0 h.1 ≡ Some c))

-- the slots, rising, at which two states have different candidates; slot 8p + w is that of the apex p and octant w
pub record ListsChanged (size : ℕ) (old new : ℕ → ℕ → Option ℕ) (slots : List ℕ) : Type 0 where
  pub rising : IsChain nat_lt slots
  pub within : (n : ℕ) → IsIn n slots → n < 2 ^ (size + 3)
  pub each : (p w : ℕ) → p < 2 ^ size → w < 8 → IsIn (8 * p + w) slots ↔ (old p w ≢ new p w)
