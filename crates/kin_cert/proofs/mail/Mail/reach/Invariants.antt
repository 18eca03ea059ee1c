use Rattle.std.proofs.Common.{◌≡◌, ℕ, ◌≤◌, [], length}
use Rattle.kin_cert.specs.Mails.{told_to}
use Rattle.kin_cert.proofs.mail.Mail.reach.Given as goal

abbrev pub invariant-loop : goal.invariant-loop
invariant-loop l = record {
  empty : (k : ℕ) → told_to l.self-inside.boxes.items k ≡ [];
  reached : l.counter ≤ length l.self-inside.boxes.items;
}
