use Rattle.std.proofs.Common.{refl, subst, sym}
use Rattle.kin_check.specs.declared.event.Event.TheVariants.{Nothing}
use Rattle.kin_check.specs.Events.{IsFirst, IsFirstBy}
use Rattle.kin_check.proofs.Firsts.{IsPast, none_by, still_first}
use Rattle.kin_check.proofs.event.by_last.Goals as goal
use Rattle.kin_check.proofs.event.by_last.Goals.{in-Failure+else-is_past, in-Leg+else-is_past-2, in-Nothing}

pub returns-then-is_past : goal.returns-then-is_past
returns-then-is_past g c = λ plans from cs first.
    none_by c.args.last.now c.requires plans from cs c.args.event.now first (subst (IsPast c.args.last.now) (sym c.in-Failure.is) (c.if-is_past.ensures.0 refl))

pub returns-then-is_past-2 : goal.returns-then-is_past-2
returns-then-is_past-2 g c = λ plans from cs first.
    none_by c.args.last.now c.requires plans from cs c.args.event.now first (subst (IsPast c.args.last.now) (sym c.in-Leg.is) (c.if-is_past-2.ensures.0 refl))

pub returns : goal.returns
returns g c = λ plans from cs first.
    let last = c.args.last.now in
    let event = c.args.event.now in
    elim c.match-event.branch [
      | in-Failure+else-is_past w ↦
          still_first last c.requires plans from cs event first (λ past. let t = w.if-is_past.ensures.1 (subst (IsPast last) w.in-Failure.is past) in cc)
      | in-Leg+else-is_past-2 w ↦
          still_first last c.requires plans from cs event first (λ past. let t = w.if-is_past-2.ensures.1 (subst (IsPast last) w.in-Leg.is past) in cc)
      | in-Nothing w ↦
          subst (IsFirstBy plans from last cs) (sym w.in-Nothing.is) (none_by last c.requires plans from cs Nothing (subst (IsFirst plans from cs) w.in-Nothing.is first) tt)
    ]
