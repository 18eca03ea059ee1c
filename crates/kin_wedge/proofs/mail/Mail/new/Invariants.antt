use Rattle.std.proofs.Common.{◌≡◌, length}
use Rattle.kin_wedge.proofs.mail.Mail.new.Given as goal

abbrev pub invariant-loop-part : goal.invariant-loop-part
invariant-loop-part l = length l.boxes.items ≡ l.part
