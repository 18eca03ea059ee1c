use Rattle.std.proofs.Common.{refl}
use Rattle.kin_tracker.specs.declared.time.Event.TheVariants.{Failures, Nothing}
use Rattle.kin_tracker.specs.Times.{IsRefusedGoing, MayGo}
use Rattle.kin_c.specs.Times.{HasFound, LeavesFewer}
use Rattle.kin_c.proofs.Reporting.{comes}
use Rattle.kin_c.proofs.time.step_to.Goals as goal

pub returns-in-Ok-Some : goal.returns-in-Ok-Some
returns-in-Ok-Some c =
    let old = c.args.tracker.now in
    let new = c.step.new.self in
    let m = c.args.limit.now in
    let stepped = rw c.in-Ok-Some.field-0-is at c.in-Ok-Some.ensures.stepped in
    let fewer = rw c.in-Ok-Some.field-0-is at c.in-Ok-Some.ensures.fewer in
    comes old new (λ event. MayGo old m × HasFound m old new event × LeavesFewer old new event) (IsRefusedGoing old m) _ _ (Failures c.in-Ok-Some.block) c.tell.result
    (c.in-Ok-Some.ensures.may, stepped, λ come. fewer refl) c.tell.ensures

pub returns-in-Ok-None : goal.returns-in-Ok-None
returns-in-Ok-None c =
    let old = c.args.tracker.now in
    let new = c.step.new.self in
    let m = c.args.limit.now in
    let stepped = rw c.in-Ok-None.field-0-is at c.in-Ok-None.ensures.stepped in
    let said = c.tell-in-Ok-None.ensures in
    comes old new (λ event. MayGo old m × HasFound m old new event × LeavesFewer old new event) (IsRefusedGoing old m) _ _ Nothing c.tell-in-Ok-None.result
    (c.in-Ok-None.ensures.may, stepped, λ come. absurd come) said
