use Rattle.std.proofs.Common.{◌≡◌, Ordering, sym, subst}
use Rattle.std.specs.Ordering.{MatchOrdering}
use Rattle.kin_num.specs.Order.{IsEarlier}
use Rattle.kin_instant.specs.declared.key.Key.{Key}
use Rattle.kin_instant.specs.Keys.{IsKeyOf}
use Rattle.kin_queue.specs.Tickets.{moment_in}
use Rattle.kin_queue.proofs.tie.is_at_once.Goals as goal

pub returns-in-Some-Equal : goal.returns-in-Some-Equal
returns-in-Some-Equal c = λ t s left right.
    let m = moment_in s c.args.x.now in
    let n = moment_in s c.args.y.now in
    let told : MatchOrdering c.in-Some-Equal.field-0 (IsEarlier (moment_in s c.args.x.now) (moment_in s c.args.y.now)) (moment_in s c.args.x.now ≡ moment_in s c.args.y.now) (IsEarlier (moment_in s c.args.y.now) (moment_in s c.args.x.now)) =
    c.in-Some-Equal.ensures.told m n left.canonical right.canonical (subst (λ (k : Key). IsKeyOf k (moment_in s c.args.x.now)) (sym c.key.ensures) left.key) (subst (λ (k : Key). IsKeyOf k (moment_in s c.args.y.now)) (sym c.key-then-x-y.ensures) right.key) in
    subst (λ (o : Ordering). MatchOrdering o (IsEarlier (moment_in s c.args.x.now) (moment_in s c.args.y.now)) (moment_in s c.args.x.now ≡ moment_in s c.args.y.now) (IsEarlier (moment_in s c.args.y.now) (moment_in s c.args.x.now))) c.in-Some-Equal.field-0-is told
