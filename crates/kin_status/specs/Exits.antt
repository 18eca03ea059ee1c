-- The exit status of the program.
use Rattle.std.specs.Prelude.{ℕ}
use Rattle.kin_status.specs.declared.status.Status.{Status}
use Rattle.kin_status.specs.declared.status.Status.TheVariants as status

-- 0 where the whole text was written or a claim is true; 2 for a script with a bad line, an input that is too long, and one without a claim
abbrev pub exit_status_of : Status → ℕ
exit_status_of status.Done = 0
exit_status_of (status.Fault side) = 1
exit_status_of (status.Script line) = 2
exit_status_of status.TooLong = 2
exit_status_of (status.Command line refusal) = 3
exit_status_of status.NoMemory = 4
exit_status_of status.Words = 5
exit_status_of status.Differs = 6
exit_status_of status.Unsplit = 2
