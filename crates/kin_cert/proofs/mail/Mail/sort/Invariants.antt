use Rattle.std.proofs.Common.{◌≡◌, ℕ, ◌<◌, ◌≤◌, ◌++◌, length}
use Rattle.kin_cert.specs.Mails.{gathered, told_to}
use Rattle.kin_cert.proofs.mail.Mail.sort.Given as goal

abbrev pub invariant-loop-owned : goal.invariant-loop-owned
invariant-loop-owned l = record {
  sorted : (k : ℕ) → k < length l.self → told_to l.self k ++ gathered k l.rest ≡ gathered k l.taken;
  count : l.count ≤ length l.self;
}

abbrev pub decreases-loop-owned : goal.decreases-loop-owned
decreases-loop-owned l = length l.rest
