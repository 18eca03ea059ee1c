use Rattle.std.proofs.Common.{refl, arith, ◌∙◌, get_or, pos}
use Rattle.std.proofs.lemmas.List.{take_more, length-set}
use Rattle.kin_algebra.specs.declared.sign.Sign.TheVariants.{Minus}
use Rattle.kin_motion.specs.declared.fact.Placed.{Placed}
use Rattle.kin_motion.specs.declared.form.Form.TheVariants.{Line}
use Rattle.kin_env.proofs.Gifts.{none_given, given_more}
use Rattle.kin_env.proofs.branches.Branches.give_failed.Goals as goal

pub loop-placed-init : goal.loop-placed-init
loop-placed-init c = record { given = none_given c.args.self.now.nodes.items; room = refl; size = refl; slots = refl; doubts = refl }

pub loop-placed-preserved : goal.loop-placed-preserved
loop-placed-preserved c =
    let none : Placed = record { part = 0; fact = record { form = Line (pos 0) (pos 0) (pos 0) 0 0; sign = Minus } } in
    let k = c.loop-placed.placed-index in
    let ns = c.loop-placed.self.nodes.items in
    let i = c.loop-placed.invariant in
    let low = c.requires.inside k none c.loop-placed-test.true in
    let e = c.keep_failed.ensures in
    record {
      given = given_more c.args.self.now.nodes.items ns _ _ (get_or c.args.failed.now k none) c.index_mut-node.result.now c.keep_failed.new.self (take_more c.args.failed.now k none c.loop-placed-test.true) (omega (arith, low, i.room)) c.index_mut-node.ensures.value
          e.merge e.passed e.edits c.in_ok-keep_failed.ensures.failed i.given;
      room = length-set ns _ _ ∙ i.room;
      size = i.size;
      slots = i.slots;
      doubts = i.doubts;
    }
