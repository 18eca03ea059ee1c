-- What a sweep along the first axis finds.
use Rattle.std.specs.Prelude.{◌≡◌, ◌⊎◌, ℕ, ◌*◌, ◌<◌, Bool, true, false, cond, nat_lt, ◌&&◌, List, map, filter}
use Rattle.kin_motion.specs.Numbers.{is_in, IsOnce}
use Rattle.kin_motion.specs.Records.{stands_before}
use Rattle.kin_sorted.specs.declared.ends.Ends.{Ends}
use Rattle.kin_sorted.specs.Sorting.{Sorting}
use Rattle.kin_motion.specs.BoxFacts.{low_end, high_end, point}

-- in this order of ends the low end of each comes before the high end of the other
abbrev pub meets : List ℕ → ℕ → ℕ → Bool
meets xs i j = stands_before xs (low_end i) (high_end j) && stands_before xs (low_end j) (high_end i)

-- the lesser number first
abbrev pub pair_of : ℕ → ℕ → ℕ × ℕ
pair_of i j = cond {A = ℕ × ℕ} (nat_lt i j) (i, j) (j, i)

-- a box with each open one that it meets along the other axis
abbrev pub met : (ℕ → ℕ → Bool) → ℕ → List ℕ → List (ℕ × ℕ)
met meet i open' = map (pair_of i) (filter (meet i) open')

-- a pair that a sweep finds, with these boxes open and these ends ahead: the later one opens while the earlier one is open, and they meet
pub record IsFound (meet : ℕ → ℕ → Bool) (open' es : List ℕ) (p : ℕ × ℕ) : Type 0 where
  pub later : ℕ
  pub earlier : ℕ
  pub opened : (is_in earlier open' ≡ true) ⊎ (stands_before es (low_end earlier) (low_end later) ≡ true)
  pub not_closed : stands_before es (low_end later) (high_end earlier) ≡ true
  pub meeting : meet later earlier ≡ true
  pub pair : p ≡ pair_of later earlier

-- what may be ahead: each end once, the high ends of the open boxes but not their low ones, and of each other box the low end before the high one
pub record IsAhead (open' es : List ℕ) : Type 0 where
  pub once : IsOnce es
  pub open_once : IsOnce open'
  pub no_low : (j : ℕ) → is_in j open' ≡ true → is_in (low_end j) es ≡ false
  pub high : (j : ℕ) → is_in j open' ≡ true → is_in (high_end j) es ≡ true
  pub both : (i : ℕ) → is_in (low_end i) es ≡ true → stands_before es (low_end i) (high_end i) ≡ true

-- the list has both ends of the box
pub record HasBox (k : Sorting Ends) (i : ℕ) : Type 0 where
  pub within : high_end i < 2 * k.rank.count
  pub low : is_in (low_end i) k.items ≡ true
  pub high : is_in (high_end i) k.items ≡ true

-- each end of the one list is of a box of the other
abbrev pub HasBoxes : List ℕ → Sorting Ends → Type 0
HasBoxes xs k = (e : ℕ) → is_in e xs ≡ true → HasBox k (point e)
