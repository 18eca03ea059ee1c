-- A point p that stays, and the current point q of the other chain: where p isn't the higher one at an end, q passes it.
use Rattle.std.proofs.Common.{◌⊎◌, inl, inr, subst, List, ℕ}
use Rattle.kin_algebra.proofs.Signs.{AtLeast}
use Rattle.kin_algebra.proofs.OrderedRings.{OrderedRing}
use Rattle.kin_motion.specs.Numbers.{IsIn}
use Rattle.kin_chain.proofs.Comparisons.{AtMost, Below, Level, most_most, level_most, level_turned, most_or_below, both_most}
use Rattle.kin_chain.proofs.Planes.{Places}
use Rattle.kin_chain.proofs.Geometry.{Direction, up, along, straight, under, level_ends}
use Rattle.kin_chain.proofs.Stays.{Stays}

module _ {R : Type 0} (o : OrderedRing R) (ps : Places o) where
  -- at an end of direction l: q isn't farther right than p, or p is higher
  abbrev pub Enters : Direction o → ℕ → ℕ → Type 0
  Enters l p q = AtMost o ps.x q p ⊎ Below o (up o ps l) q p

  -- at an end of direction r: q isn't farther left than p, or p is higher
  abbrev pub Leaves : Direction o → ℕ → ℕ → Type 0
  Leaves r p q = AtMost o ps.x p q ⊎ Below o (up o ps r) q p

  -- both are at one place
  abbrev pub Together : ℕ → ℕ → Type 0
  Together p q = Level o ps.x p q × Level o ps.y p q

  -- a point that stays, and another
  pub record Pair (all : List ℕ) (p q : ℕ) : Type 0 where
    pub stays : Stays o ps all p
    pub other : IsIn q all

  module _ {all : List ℕ} {p q : ℕ} (pair : Pair all p q) where
    -- at the end where p becomes current, behind i
    pub enters_step : (i : ℕ) → IsIn i all → (r : Below o ps.x i p) → Enters (along o ps i p r) p q
    enters_step i k r = by_height (most_or_below o (up o ps (along o ps i p r)) p q)
      where
        by_x : AtMost o (up o ps (along o ps i p r)) p q → AtMost o ps.x q p ⊎ Below o ps.x p q → Enters (along o ps i p r) p q
        by_x m (inl n) = inl n
        by_x m (inr b) = absurd (pair.stays.no_segment i q k pair.other r b (under o ps (along o ps i p r) r b (level_most o (level_turned o (level_ends o ps i p))) m))

        by_height : AtMost o (up o ps (along o ps i p r)) p q ⊎ Below o (up o ps (along o ps i p r)) q p → Enters (along o ps i p r) p q
        by_height (inl m) = by_x m (most_or_below o ps.x q p)
        by_height (inr b) = inr b

    -- at the end where p is left for j
    pub leaves_step : (j : ℕ) → IsIn j all → (r : Below o ps.x p j) → Leaves (along o ps p j r) p q
    leaves_step j k r = by_height (most_or_below o (up o ps (along o ps p j r)) p q)
      where
        by_x : AtMost o (up o ps (along o ps p j r)) p q → AtMost o ps.x p q ⊎ Below o ps.x q p → Leaves (along o ps p j r) p q
        by_x m (inl n) = inl n
        by_x m (inr b) = absurd (pair.stays.no_segment q j pair.other k b r (under o ps (along o ps p j r) b r m (level_most o (level_ends o ps p j))))

        by_height : AtMost o (up o ps (along o ps p j r)) p q ⊎ Below o (up o ps (along o ps p j r)) q p → Leaves (along o ps p j r) p q
        by_height (inl m) = by_x m (most_or_below o ps.x p q)
        by_height (inr b) = inr b

    -- at an end where q is left for j: the cell is the last one that matters, or j isn't farther right than p
    pub passes : (j : ℕ) → IsIn j all → (r : Below o ps.x q j) → Leaves (along o ps q j r) p q ⊎ AtMost o ps.x j p
    passes j k r = by_height (most_or_below o (up o ps (along o ps q j r)) p q)
      where
        by_next : AtMost o (up o ps (along o ps q j r)) p q → Below o ps.x q p → AtMost o ps.x j p ⊎ Below o ps.x p j → Leaves (along o ps q j r) p q ⊎ AtMost o ps.x j p
        by_next m b (inl n) = inr n
        by_next m b (inr c) = absurd (pair.stays.no_segment q j pair.other k b c (under o ps (along o ps q j r) b c m (most_most o m (level_most o (level_ends o ps q j)))))

        by_x : AtMost o (up o ps (along o ps q j r)) p q → AtMost o ps.x p q ⊎ Below o ps.x q p → Leaves (along o ps q j r) p q ⊎ AtMost o ps.x j p
        by_x m (inl n) = inl (inl n)
        by_x m (inr b) = by_next m b (most_or_below o ps.x j p)

        by_height : AtMost o (up o ps (along o ps q j r)) p q ⊎ Below o (up o ps (along o ps q j r)) q p → Leaves (along o ps q j r) p q ⊎ AtMost o ps.x j p
        by_height (inl m) = by_x m (most_or_below o ps.x p q)
        by_height (inr b) = inl (inr b)

    -- between such ends p is higher at one of them, or both points are at one place
    pub meets : (l r : Direction o) → Enters l p q → Leaves r p q → (Below o (up o ps l) q p ⊎ Below o (up o ps r) q p) ⊎ Together p q
    meets l r (inr b) h = inl (inl b)
    meets l r (inl m) (inr b) = inl (inr b)
    meets l r (inl m) (inl n) = by_height (most_or_below o (up o ps l) p q)
      where
        x : Level o ps.x p q
        x = both_most o n m

        by_y : AtMost o (up o ps l) p q → AtMost o ps.y q p ⊎ Below o ps.y p q → Together p q
        by_y h (inl k) = (both_most o n m, both_most o (record { is = subst AtLeast (straight o ps l (both_most o n m)) h.is }) k)
        by_y h (inr b) = absurd (pair.stays.no_above q pair.other (both_most o n m) b)

        by_height : AtMost o (up o ps l) p q ⊎ Below o (up o ps l) q p → (Below o (up o ps l) q p ⊎ Below o (up o ps r) q p) ⊎ Together p q
        by_height (inl h) = inr (by_y h (most_or_below o ps.y q p))
        by_height (inr b) = inl (inl b)
