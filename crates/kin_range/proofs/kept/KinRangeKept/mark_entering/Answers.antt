use Rattle.std.proofs.lemmas.Result.{on_ok_weaker}
use Rattle.kin_list.specs.declared.mark.Mark.TheVariants.{Enters}
use Rattle.kin_range.proofs.Settling.{range_follows}
use Rattle.kin_range.proofs.kept.KinRangeKept.mark_entering.Goals as goal

pub returns-clause-follows : goal.returns-clause-follows
returns-clause-follows c = on_ok_weaker c.insert.result (λ marked s after members settled entered. range_follows (Enters c.args.no) c.args.self.now c.insert.new.self s after marked settled entered) c.insert.ensures.ok
