-- How passed blocks are counted.
use Rattle.std.specs.Prelude.{◌≡◌, ℕ, ◌+◌, ◌-◌, ◌^◌, min, List, ◌++◌, fold, length, codes, Option, Some, None}
use Rattle.std.specs.Fmt.{decimal}
use Rattle.kin_motion.specs.Journal.{Block}
use Rattle.kin_status.specs.declared.tally.Tally.{Tally}

-- one more block, with so many failures; both counts stop at 2^64 - 1
abbrev pub one_more : ℕ → Tally → Tally
one_more failures t = record { moments = min (t.moments + 1) (2 ^ 64 - 1); failures = min (t.failures + failures) (2 ^ 64 - 1) }

-- one more block, if the counts are asked for
abbrev pub counted_on : ℕ → Option Tally → Option Tally
counted_on failures None = None
counted_on failures (Some t) = Some (one_more failures t)

-- these blocks in turn
abbrev pub tallied_on : Option Tally → List Block → Option Tally
tallied_on t bs = fold (λ u b. counted_on (length b.failures) u) t bs

-- such blocks were passed, and counted if the counts are asked for
pub record HasTallied (IsPassed : List Block → Type 0) (old new : Option Tally) : Type 0 where
  pub blocks : List Block
  pub passed : IsPassed blocks
  pub counted : new ≡ tallied_on old blocks

-- both counts, as a line
abbrev pub tally_line : Tally → List ℕ
tally_line t = codes "demo " ++ decimal t.moments ++ codes " " ++ decimal t.failures ++ codes "\n"
