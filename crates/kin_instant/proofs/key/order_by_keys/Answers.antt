use Rattle.std.proofs.Common.{◌≡◌, ℕ, inl, sym, subst, arith}
use Rattle.std.specs.Ordering.{MatchOrdering}
use Rattle.kin_num.specs.declared.instant.Phase.{Phase}
use Rattle.kin_num.specs.declared.instant.Phase.TheVariants.{At, After}
use Rattle.kin_instant.specs.Keys.{IsSpanOf}
use Rattle.kin_instant.proofs.Places.{by_phases}
use Rattle.kin_instant.proofs.KeyOrder.{lesser_span, clear_at, same_coarse}
use Rattle.kin_instant.proofs.key.order_by_keys.Goals as goal

pub returns-then-x-y-clause-told : goal.returns-then-x-y-clause-told
returns-then-x-y-clause-told c = λ m n fm fn k l. inl (lesser_span m.at n.at fm.form fn.form c.args.x.now.span c.args.y.now.span k.span l.span c.if-x-y.true)

pub returns-then-x-y-2-clause-told : goal.returns-then-x-y-2-clause-told
returns-then-x-y-2-clause-told c = λ m n fm fn k l. inl (lesser_span n.at m.at fn.form fm.form c.args.y.now.span c.args.x.now.span l.span k.span c.if-x-y-2.true)

pub returns-clause-told : goal.returns-clause-told
returns-clause-told c = λ m n fm fn k l.
    let span : c.args.x.now.span ≡ c.args.y.now.span = omega arith in
    let same : m.at ≡ n.at = same_coarse m.at n.at fm.form fn.form (clear_at c.args.x.now m k c.if-x.false) (clear_at c.args.y.now n l c.if-y.false) c.args.x.now.span k.span (subst (λ (s : ℕ). IsSpanOf s n.at) (sym span) l.span) in
    by_phases m n c.phase_order.result same
    (subst (λ (f : Phase). MatchOrdering c.phase_order.result ((f ≡ At) × (n.phase ≡ After)) (f ≡ n.phase) ((f ≡ After) × (n.phase ≡ At))) k.phase
    (subst (λ (f : Phase). MatchOrdering c.phase_order.result ((c.args.x.now.phase ≡ At) × (f ≡ After)) (c.args.x.now.phase ≡ f) ((c.args.x.now.phase ≡ After) × (f ≡ At))) l.phase c.phase_order.ensures))
