use Rattle.std.proofs.Common.{◌≡◌, sym, subst, arith}
use Rattle.std.specs.Ordering.{MatchOrdering}
use Rattle.kin_num.specs.Order.{IsEarlier}
use Rattle.kin_instant.specs.declared.key.Key.{Key}
use Rattle.kin_instant.specs.Keys.{IsKeyOf}
use Rattle.kin_instant.proofs.Places.{moments_exactly}
use Rattle.kin_queue.specs.Tickets.{moment_in}
use Rattle.kin_queue.proofs.heap.is_earlier_in_span.Goals as goal

pub returns-in_default : goal.returns-in_default
returns-in_default g c =
    let m = moment_in c.args.instants.now c.args.x.now in
    let n = moment_in c.args.instants.now c.args.y.now in
    let left = c.requires.left in
    let right = c.requires.right in
    let told : MatchOrdering c.in-Some.order (IsEarlier (moment_in c.args.instants.now c.args.x.now) (moment_in c.args.instants.now c.args.y.now)) (moment_in c.args.instants.now c.args.x.now ≡ moment_in c.args.instants.now c.args.y.now) (IsEarlier (moment_in c.args.instants.now c.args.y.now) (moment_in c.args.instants.now c.args.x.now)) =
    c.in-Some.ensures.told m n left.canonical right.canonical (subst (λ (k : Key). IsKeyOf k (moment_in c.args.instants.now c.args.x.now)) (sym c.key.ensures) left.key) (subst (λ (k : Key). IsKeyOf k (moment_in c.args.instants.now c.args.y.now)) (sym c.key-2.ensures) right.key) in
    let x = moments_exactly m n c.in-Some.order left.canonical.form right.canonical.form told in
    record { earlier = (λ e. absurd cc, λ h. absurd (c.in_default.not-Less (x.less.1 h))); low = omega arith; high = omega arith }
