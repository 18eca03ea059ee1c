use Rattle.std.proofs.Common.{◌≡◌, drop}
use Rattle.kin_script.specs.Questions.{kept_boxes}
use Rattle.kin_check.proofs.reply.kept_boxes.Given as goal

abbrev pub invariant-loop-keep : goal.invariant-loop-keep
invariant-loop-keep l = kept_boxes (drop l.keep-index l.keeps) ≡ kept_boxes l.keeps
