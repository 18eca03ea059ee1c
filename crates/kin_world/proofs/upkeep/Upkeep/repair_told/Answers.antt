use Rattle.kin_world.proofs.Vocabulary.{rules, ◌≡◌, sym, ap, ◌∙◌, subst, arith, ℕ, length, few_at_most, HavePaid, Stage, sight, stage_of}
use Rattle.kin_world.proofs.MailLaws.{repairing_none, repairing_on, repaired_all, same_count}
use Rattle.kin_world.proofs.PaidLaws.{have_paid_none, step_paid}
use Rattle.kin_world.proofs.upkeep.Upkeep.repair_told.Goals as goal

pub loop-k-init : goal.loop-k-init
loop-k-init g c =
    let count : c.len-count.result ≡ length c.args.self.now.structures.items = search rules in
    record { repairing = repairing_none c.requires.repair; boxes = rw count c.requires.boxes; low = omega arith; paid = have_paid_none _ (stage_of c.args.self.now) c.args.steps.now; all = count }

pub overflow_cast-k : goal.overflow_cast-k
overflow_cast-k g c =
    let h = c.loop-k.invariant in
    let few = few_at_most c.loop-k.self.keeps.items h.repairing.repair.1.in_order.fit.keepable.few in
    omega (arith, few, h.repairing.repair.1.in_order.count, h.all, c.loop-k-test.true)

pub loop-k-preserved : goal.loop-k-preserved
loop-k-preserved g c =
    let h = c.loop-k.invariant in
    let did = c.in_ok-repair.ensures.goes_on in
    let frame = c.repair.ensures.frame in
    let order = h.repairing.repair.1.in_order in
    let paid = step_paid (λ live now. live ≡ now) h.repairing.frame h.repairing.come did.others order.count (omega (arith, h.all, c.loop-k-test.true)) c.requires.repair.1.in_order.count h.paid c.in_ok-repair.ensures.cost in
    record { repairing = rw c.repair.ensures.mail (repairing_on h.repairing did frame); boxes = rw c.repair.ensures.mail h.boxes; low = omega (arith, c.loop-k-test.true); paid = paid; all = h.all ∙ sym (same_count h.repairing did frame) }

pub returns-clause-settled : goal.returns-clause-settled
returns-clause-settled g c = let h = c.loop-k.invariant in repaired_all h.repairing (omega (arith, h.all, c.loop-k-test.false))

pub returns-clause-cost : goal.returns-clause-cost
returns-clause-cost g c =
    let h = c.loop-k.invariant in
    let start = stage_of c.args.self.now in
    let all : c.loop-k.k ≡ length start.keeps = omega (arith, h.all, h.low, c.loop-k-test.false, h.repairing.repair.1.in_order.count, ap (λ (x : Stage). length x.keeps) h.repairing.frame) in
    subst (λ (n : ℕ). HavePaid (λ live. live ≡ (sight start).live) n start (stage_of c.loop-k.self) c.args.steps.now c.loop-k.steps) all h.paid
