use Rattle.std.proofs.Common.{sym, subst, List, false, ◌≡◌}
use Rattle.kin_motion.specs.Numbers.{is_in, IsOnce}
use Rattle.kin_overlay.specs.declared.record.Record.{Record}
use Rattle.kin_overlay.specs.Remembered.{Remembered, left_points}
use Rattle.kin_overlay.proofs.LookupLaws.{once-push}
use Rattle.kin_overlay.proofs.list.BreakpointList.push.Goals as goal

pub invariant_of-self-2 : goal.invariant_of-self-2
invariant_of-self-2 c =
    let new = subst (λ (m : Remembered). is_in c.args.noted.at.left (left_points m.records) ≡ false) (sym c.self.view_is) c.requires.new in
    subst (λ (rs : List Record). IsOnce (left_points rs)) (sym c.in-Ok.ensures.items) (once-push c.self.inside.records.items c.args.noted c.self.invariant new)
