use Rattle.std.proofs.Common.{refl, inl, inr, ap, subst, sym}
use Rattle.kin_num.specs.declared.instant.Shape.{Shape}
use Rattle.kin_num.specs.Order.{IsEarlier}
use Rattle.kin_motion.specs.Turning.{just_at}
use Rattle.kin_legs.specs.Paths.{whole}
use Rattle.kin_check.specs.declared.event.Event.TheVariants.{Failure, Leg as Begins, Nothing}
use Rattle.kin_check.proofs.Firsts.{first_is}
use Rattle.kin_check.proofs.event.first_of.Goals as goal

pub returns-in-None-None : goal.returns-in-None-None
returns-in-None-None c = λ plans from cs paths here least next.
    first_is plans paths from here cs c.args.fails c.args.begins Nothing least next (rw (c.in-None-None.is-0, c.in-None-None.is-1) refl)

pub returns-in-None-Some : goal.returns-in-None-Some
returns-in-None-Some c = λ plans from cs paths here least next.
    first_is plans paths from here cs c.args.fails c.args.begins (Begins c.whole_moment.result) least next
    (rw (c.in-None-Some.is-0, c.in-None-Some.is-1) (ap Begins c.whole_moment.ensures))

pub returns-in-Some-None : goal.returns-in-Some-None
returns-in-Some-None c = λ plans from cs paths here least next.
    first_is plans paths from here cs c.args.fails c.args.begins (Failure c.in-Some-None.moment) least next (rw (c.in-Some-None.is-0, c.in-Some-None.is-1) refl)

pub returns-then-is_before : goal.returns-then-is_before
returns-then-is_before c = λ plans from cs paths here least next.
    let sooner = subst (λ (w : Shape). IsEarlier (just_at w) c.in-Some-Some.moment) c.whole.ensures (c.if-is_before.ensures.0 refl) in
    first_is plans paths from here cs c.args.fails c.args.begins (Begins c.whole_moment-then-is_before.result) least next
    (rw (c.in-Some-Some.is-0, c.in-Some-Some.is-1) (inl (ap Begins c.whole_moment-then-is_before.ensures, sooner)))

pub returns-else-is_before : goal.returns-else-is_before
returns-else-is_before c = λ plans from cs paths here least next.
    let not_sooner : ¬ (IsEarlier (just_at (whole c.in-Some-Some.number)) c.in-Some-Some.moment) =
    λ sooner. let t = c.if-is_before.ensures.1 (subst (λ (w : Shape). IsEarlier (just_at w) c.in-Some-Some.moment) (sym c.whole.ensures) sooner) in cc in
    first_is plans paths from here cs c.args.fails c.args.begins (Failure c.in-Some-Some.moment) least next
    (rw (c.in-Some-Some.is-0, c.in-Some-Some.is-1) (inr (refl, not_sooner)))
