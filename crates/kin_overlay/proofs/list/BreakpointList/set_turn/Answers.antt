use Rattle.std.proofs.Common.{refl, sym, ap, subst, arith, ◌≡◌, ◌<◌, length}
use Rattle.std.proofs.lemmas.Option.{slice_get_read}
use Rattle.kin_motion.specs.Numbers.{IsOnce}
use Rattle.kin_overlay.specs.Remembered.{Remembered}
use Rattle.kin_overlay.proofs.TurnedLaws.{same_lefts, turn_written}
use Rattle.kin_overlay.proofs.list.BreakpointList.set_turn.Goals as goal

pub invariant_of-self : goal.invariant_of-self
invariant_of-self c =
    let rs = c.self.inside.records.items in
    let same : length rs ≡ length c.args.self.now.records = ap (λ (m : Remembered). length m.records) c.self.view_is in
    let inside : c.args.place < length rs = omega (arith, same, c.requires) in
    let q = c.index_mut.result.now in
    subst IsOnce (sym (same_lefts rs c.args.place q c.args.sign (slice_get_read rs (length rs) c.args.place q refl inside c.index_mut.ensures.value))) c.self.invariant

pub returns : goal.returns
returns c = λ r at. turn_written c.self.inside.records.items c.self.inside.left c.self.inside.right c.args.self.now c.args.place c.index_mut.result.now c.args.sign c.self.view_is c.index_mut.ensures.value r at
