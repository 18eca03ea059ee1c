use Rattle.kin_world.proofs.Vocabulary.{◌≡◌, sym, ◌∙◌, ap, subst, arith, ℕ, length, length-map, Block, Failure, Owned, certificate_of, scene_at, seen_in, stage_of}
use Rattle.kin_world.specs.Paid.{IsRepaid}
use Rattle.kin_world.proofs.Frugal.{block_frugal}
use Rattle.kin_world.proofs.TakeLaws.{as_given, given_waiting, given_askable, taken_under_repair, taken_block, settled_since}
use Rattle.kin_world.proofs.upkeep.Upkeep.step.Goals as goal

pub block_of-requires : goal.block_of-requires
block_of-requires g c =
    rw c.deref.ensures.value (given_askable c.requires.sound c.take_failing.new.self (as_given c.in_ok-taken.ensures.taken))

pub repair_each-requires : goal.repair_each-requires
repair_each-requires g c =
    let out = as_given c.in_ok-taken.ensures.taken in
    record {
      repair = (_, taken_under_repair c.requires.sound c.take_failing.new.self out c.args.moment.now c.requires.failing c.in_ok-taken.ensures.once c.take_failing.ensures.made);
      waiting = rw c.deref-2.ensures.value (given_waiting c.requires.sound c.take_failing.new.self out);
    }

pub returns-clause-next : goal.returns-clause-next
returns-clause-next g c =
    taken_block c.requires.sound c.take_failing.new.self (as_given c.in_ok-taken.ensures.taken) c.args.moment.now c.requires.failing c.in_ok-block.block (rw c.deref.ensures.value at c.in_ok-block.ensures.value)

pub returns-clause-settled : goal.returns-clause-settled
returns-clause-settled g c = settled_since c.requires.sound c.take_failing.new.self (as_given c.in_ok-taken.ensures.taken) c.take_failing.ensures.made c.in_ok-repair_each.ensures.settled

pub returns-clause-cost : goal.returns-clause-cost
returns-clause-cost g c =
    let out = as_given c.in_ok-taken.ensures.taken in
    let seen : Owned → Failure = λ o. seen_in (scene_at c.args.self.now.motions c.args.moment.now) (certificate_of o) in
    let is = rw c.deref.ensures.value at c.in_ok-block.ensures.value in
    let next = taken_block c.requires.sound c.take_failing.new.self out c.args.moment.now c.requires.failing c.in_ok-block.block is in
    let count : length c.in_ok-block.block.failures ≡ length c.in_ok-taken.taken.items = ap (λ (b : Block). length b.failures) is ∙ length-map c.in_ok-taken.taken.items seen in
    λ v before_now.
    subst (λ (n : ℕ). IsRepaid v (stage_of c.args.self.now) (stage_of c.repair_each.new.self) n c.args.steps.now c.repair_each.new.steps) (sym count)
    (block_frugal c.requires.sound before_now c.take_failing.new.self out (given_waiting c.requires.sound c.take_failing.new.self out) c.args.moment.now c.in_ok-block.block next (ap (λ (b : Block). b.moment) is) c.repair_each.ensures.frame c.in_ok-repair_each.ensures.settled.sound c.in_ok-repair_each.ensures.cost
    (λ r e. let took = c.in_ok-taken.ensures.cost r e in let listed = c.in_ok-block.ensures.count in omega (arith, took, listed)))
