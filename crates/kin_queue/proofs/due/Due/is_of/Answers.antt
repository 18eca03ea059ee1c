use Rattle.std.proofs.Common.{◌≡◌, refl, sym, subst, ◌∙◌}
use Rattle.std.specs.Ordering.{MatchOrdering}
use Rattle.kin_num.specs.Order.{IsEarlier}
use Rattle.kin_instant.specs.declared.key.Key.{Key}
use Rattle.kin_instant.specs.Keys.{IsKeyOf}
use Rattle.kin_instant.proofs.Places.{moments_exactly}
use Rattle.kin_queue.specs.Tickets.{moment_in}
use Rattle.kin_queue.proofs.due.Due.is_of.Goals as goal

pub returns-in-Equal : goal.returns-in-Equal
returns-in-Equal c =
    let m = moment_in c.args.instants.now c.args.entry.now in
    let n = c.self.inside.at in
    let told : MatchOrdering c.in-Some.order (IsEarlier (moment_in c.args.instants.now c.args.entry.now) c.self.inside.at) (moment_in c.args.instants.now c.args.entry.now ≡ c.self.inside.at) (IsEarlier c.self.inside.at (moment_in c.args.instants.now c.args.entry.now)) =
    c.in-Some.ensures.told m n c.requires.stamped.canonical c.self.invariant.canonical (subst (λ (k : Key). IsKeyOf k (moment_in c.args.instants.now c.args.entry.now)) (sym c.key.ensures) c.requires.stamped.key) c.self.invariant.key in
    let x = moments_exactly m n c.in-Some.order c.requires.stamped.canonical.form c.self.invariant.canonical.form told in
    (λ t. x.equal.0 c.in-Equal.is ∙ c.self.view_is, λ e. refl)

pub returns-in_default : goal.returns-in_default
returns-in_default c =
    let m = moment_in c.args.instants.now c.args.entry.now in
    let n = c.self.inside.at in
    let told : MatchOrdering c.in-Some.order (IsEarlier (moment_in c.args.instants.now c.args.entry.now) c.self.inside.at) (moment_in c.args.instants.now c.args.entry.now ≡ c.self.inside.at) (IsEarlier c.self.inside.at (moment_in c.args.instants.now c.args.entry.now)) =
    c.in-Some.ensures.told m n c.requires.stamped.canonical c.self.invariant.canonical (subst (λ (k : Key). IsKeyOf k (moment_in c.args.instants.now c.args.entry.now)) (sym c.key.ensures) c.requires.stamped.key) c.self.invariant.key in
    let x = moments_exactly m n c.in-Some.order c.requires.stamped.canonical.form c.self.invariant.canonical.form told in
    (λ t. absurd cc, λ e. absurd (c.in_default.not-Equal (x.equal.1 (e ∙ sym c.self.view_is))))
