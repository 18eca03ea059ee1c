use Rattle.std.specs.Prelude.{◌*◌}
use Rattle.kin_world.proofs.Vocabulary.{rules, ap, ◌+◌, ◌≡◌, length, map, refl, sym, ◌∙◌, length-map, length_permutation, Block, Failure, seen_in, scene_at, certificate_of, Owned, arith, subst, ℕ, stage_of}
use Rattle.kin_world.specs.Paid.{IsRepaid}
use Rattle.kin_world.proofs.Frugal.{block_frugal}
use Rattle.kin_world.proofs.MailLaws.{boxed_first}
use Rattle.kin_world.proofs.TakeLaws.{given_waiting, taken_under_repair, taken_block, settled_since}
use Rattle.kin_world.proofs.upkeep.Upkeep.pass.Goals as goal

pub repair_told-requires : goal.repair_told-requires
repair_told-requires g c =
    let structures : c.len-structures.result ≡ length c.args.self.now.structures.items = search rules in
    let posted = c.in_ok-count.ensures.posted in
    record {
      repair = boxed_first (taken_under_repair c.requires.sound c.post_failing.new.self posted.out c.args.moment.now c.requires.failing c.in_ok-count.ensures.once c.post_failing.ensures.made)
          (given_waiting c.requires.sound c.post_failing.new.self posted.out) c.post_failing.new.mail (λ k within. posted.told k (rw structures within));
      boxes = rw structures at posted.reached;
    }

pub returns-clause-next : goal.returns-clause-next
returns-clause-next g c =
    let posted = c.in_ok-count.ensures.posted in
    let m = c.args.moment.now in
    let seen : Owned → Failure = λ o. seen_in (scene_at c.args.self.now.motions m) (certificate_of o) in
    let b : Block = record { moment = m; failures = map seen posted.out.taken } in (
      b,
      taken_block c.requires.sound c.post_failing.new.self posted.out m c.requires.failing b refl,
      refl,
      length-map posted.out.taken seen ∙ length_permutation posted.given posted.out.taken posted.out.reordered ∙ sym posted.all,
    )

pub returns-clause-settled : goal.returns-clause-settled
returns-clause-settled g c = settled_since c.requires.sound c.post_failing.new.self c.in_ok-count.ensures.posted.out c.post_failing.ensures.made c.in_ok-repair_told.ensures.settled

pub returns-clause-cost : goal.returns-clause-cost
returns-clause-cost g c =
    let posted = c.in_ok-count.ensures.posted in
    let m = c.args.moment.now in
    let seen : Owned → Failure = λ o. seen_in (scene_at c.args.self.now.motions m) (certificate_of o) in
    let b : Block = record { moment = m; failures = map seen posted.out.taken } in
    let next = taken_block c.requires.sound c.post_failing.new.self posted.out m c.requires.failing b refl in
    λ v before_now.
    subst (λ (n : ℕ). IsRepaid v (stage_of c.args.self.now) (stage_of c.repair_told.new.self) n c.args.steps.now c.repair_told.new.steps) (sym posted.all)
    (block_frugal c.requires.sound before_now c.post_failing.new.self posted.out (given_waiting c.requires.sound c.post_failing.new.self posted.out) m b next refl c.repair_told.ensures.frame c.in_ok-repair_told.ensures.settled.sound c.in_ok-repair_told.ensures.cost
    (λ r e. let took = c.in_ok-count.ensures.cost r e in let times = ap (λ (n : ℕ). n * (r + 1)) posted.all in omega (arith, took, times, posted.all)))
