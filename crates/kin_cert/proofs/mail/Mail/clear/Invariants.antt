use Rattle.std.proofs.Common.{◌≡◌, ℕ, ◌<◌, [], length}
use Rattle.kin_cert.specs.Mails.{told_to}
use Rattle.kin_cert.proofs.mail.Mail.clear.Given as goal

abbrev pub invariant-loop-k : goal.invariant-loop-k
invariant-loop-k l = record {
  empty : (j : ℕ) → j < l.k → told_to l.self-inside.boxes.items j ≡ [];
  all : l.k-end ≡ length l.self-inside.boxes.items;
}
