use Rattle.std.proofs.Common.{◌∙◌, refl, subst, arith, ℕ, length}
use Rattle.kin_cert.specs.Cost.{TakesAtMost}
use Rattle.kin_cert.proofs.Costs.{one_more}
use Rattle.kin_cert.proofs.Posting.{posted_more, posted_none}
use Rattle.kin_cert.proofs.table.Table.post_each.Goals as goal

pub loop-next-init : goal.loop-next-init
loop-next-init g c = record {
  posted = posted_none c.args.moment.now c.args.self.now.live c.args.mail.now c.requires.empty c.requires.none_waits c.requires.due;
  boxes = refl;
  left = omega arith;
  count = refl;
  made = refl;
  cost = λ r e. omega arith;
}

pub loop-next-preserved : goal.loop-next-preserved
loop-next-preserved g c =
    let h = c.loop-next.invariant in
    let given = c.in-Some.ensures.given in
    record {
      posted = posted_more c.args.moment.now c.args.self.now.live c.loop-next.self.live c.give.new.self.live c.loop-next.mail c.tell.new.self c.loop-next.given c.in-Some.next given.0 h.posted c.give.ensures.once given.1 given.2 c.tell.ensures.count c.in_ok-tell.ensures.told;
      boxes = c.tell.ensures.count ∙ h.boxes;
      left = let fewer = c.in-Some.ensures.fewer in omega (arith, fewer, h.left);
      count = c.give.ensures.count ∙ h.count;
      made = c.give.ensures.made ∙ h.made;
      cost =
          one_more (length c.args.self.now.live) c.loop-next.given _ _ _ (λ r. r) h.cost
          (subst (λ (n : ℕ). TakesAtMost n (λ r. r) c.loop-next.steps c.give.new.steps) h.count c.give.ensures.cost);
    }
