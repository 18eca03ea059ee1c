use Rattle.kin_world.proofs.Vocabulary.{rules, ◌≡◌, refl, sym, ap, ◌∙◌, subst, arith, ℕ, length, few_at_most, AreLiveAfter, HavePaid, Stage, sight, stage_of}
use Rattle.kin_world.proofs.MarkLaws.{carried_out_all}
use Rattle.kin_world.proofs.MailLaws.{come_none, frame_through}
use Rattle.kin_world.proofs.Certificates.{come_on}
use Rattle.kin_world.proofs.PaidLaws.{have_paid_none, step_paid}
use Rattle.kin_world.proofs.upkeep.Upkeep.carry_out_each.Goals as goal

pub loop-k-init : goal.loop-k-init
loop-k-init g c = let marked = c.requires.marked in record { marked = marked; come = come_none c.args.self.now.table marked.1.in_order.counted; frame = refl; low = omega arith; paid = have_paid_none _ (stage_of c.args.self.now) c.args.steps.now; all = search rules }

pub overflow_cast-k : goal.overflow_cast-k
overflow_cast-k g c = search (rules, arith, few_at_most)

pub loop-k-preserved : goal.loop-k-preserved
loop-k-preserved g c =
    let h = c.loop-k.invariant in
    let told = c.in_ok-carry_out_one.ensures.goes_on in
    let frame = c.carry_out_one.ensures.frame in
    let marked = told.next h.marked in
    let all = h.all ∙ h.marked.1.in_order.count ∙ ap (λ (s : Stage). length s.keeps) (sym frame) ∙ sym marked.1.in_order.count in
    let paid = step_paid (AreLiveAfter c.args.mark) h.frame h.come told.others h.marked.1.in_order.count (omega (arith, h.all, c.loop-k-test.true)) c.requires.marked.1.in_order.count h.paid c.in_ok-carry_out_one.ensures.cost in
    record {
      marked = marked;
      come = come_on c.loop-k.k c.loop-k.k c.args.self.now.table c.loop-k.self.table c.carry_out_one.new.self.table (omega arith) h.come told.others told.made;
      frame = frame_through (stage_of c.args.self.now) (stage_of c.loop-k.self) (stage_of c.carry_out_one.new.self) h.frame frame;
      low = omega (arith, c.loop-k-test.true);
      paid = paid;
      all = all;
    }

pub returns-clause-settled : goal.returns-clause-settled
returns-clause-settled g c =
    let h = c.loop-k.invariant in
    record { sound = carried_out_all c.args.mark h.marked (omega (arith, h.all, c.loop-k-test.false)); made = h.come.made }

pub returns-clause-cost : goal.returns-clause-cost
returns-clause-cost g c =
    let h = c.loop-k.invariant in
    let start = stage_of c.args.self.now in
    let all : c.loop-k.k ≡ length start.keeps = omega (arith, h.all, h.low, c.loop-k-test.false, h.marked.1.in_order.count, ap (λ (x : Stage). length x.keeps) h.frame) in
    subst (λ (n : ℕ). HavePaid (λ live. AreLiveAfter c.args.mark live (sight start).live) n start (stage_of c.loop-k.self) c.args.steps.now c.loop-k.steps) all h.paid
