use Rattle.std.proofs.Common.{◌∙◌, sym}
use Rattle.kin_proved_example.proofs.Watching.{can_go_on}
use Rattle.kin_proved_example.proofs.watch.Goals as goal

pub go_on-requires : goal.go_on-requires
go_on-requires g c =
    can_go_on c.compare_moments.result _ _ c.loop-limit.world c.loop-limit.invariant.watched c.now.ensures.value (sym c.is_lt.ensures ∙ c.loop-limit-test.true) c.compare_moments.ensures.less c.compare_moments.ensures.greater
