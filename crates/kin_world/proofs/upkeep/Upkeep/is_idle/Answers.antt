use Rattle.kin_world.proofs.Vocabulary.{refl, sym, ap, ◌∙◌, arith, length, List, Keep, few_at_most, slice_get_read, slice_get_within, Some, Structure, stage_of}
use Rattle.kin_motion.specs.declared.keep.Keep.TheVariants.{Hull}
use Rattle.kin_world.proofs.FarthestLaws.{none_of}
use Rattle.kin_world.proofs.RepairLaws.{hull_kept, other_idle, pair_idle}
use Rattle.kin_world.proofs.upkeep.Upkeep.is_idle.Goals as goal

pub place_of-hull-requires-clause-few : goal.place_of-hull-requires-clause-few
place_of-hull-requires-clause-few c =
    let few = few_at_most c.args.self.now.keeps.items c.requires.repair.1.in_order.fit.keepable.few in
    let same = ap (λ (ks : List Keep). length ks) c.deref.ensures.value in
    omega (arith, few, same)

pub place_of-hull-requires-clause-kept : goal.place_of-hull-requires-clause-kept
place_of-hull-requires-clause-kept c =
    rw c.deref.ensures.value
    (hull_kept c.args.self.now.mail c.requires.repair c.in-Diameter.field-0 c.requires.within
    (slice_get_read c.args.self.now.structures.items _ c.args.k _ refl c.requires.within c.index.ensures ∙ ap (λ (st : Structure). Some st) c.in-Diameter.is))

pub told-requires-in-Diameter : goal.told-requires-in-Diameter
told-requires-in-Diameter c =
    let kept = rw c.deref.ensures.value at c.place_of-hull.ensures in
    let within = slice_get_within c.args.self.now.keeps.items c.place_of-hull.result Hull kept in
    let count = c.requires.repair.1.in_order.count in
    let boxes = c.requires.boxes in
    omega (arith, within, count, boxes)

pub returns-in-Diameter : goal.returns-in-Diameter
returns-in-Diameter c = λ empty.
    let kept = rw c.deref.ensures.value at c.place_of-hull.ensures in
    pair_idle c.args.self.now.mail c.requires.repair c.place_of-hull.result
    (sym c.told.ensures ∙ none_of c.told.result.now (sym c.is_empty.ensures ∙ c.if-not-is_empty.false)) kept
    (sym c.told-in-Diameter.ensures ∙ none_of c.told-in-Diameter.result.now (sym c.is_empty-in-Diameter.ensures ∙ empty))

pub returns-in_default : goal.returns-in_default
returns-in_default c = λ sure.
    other_idle c.args.k (stage_of c.args.self.now) c.args.self.now.mail c.index.result.now
    (sym c.told.ensures ∙ none_of c.told.result.now (sym c.is_empty.ensures ∙ c.if-not-is_empty.false))
    (slice_get_read c.args.self.now.structures.items _ c.args.k _ refl c.requires.within c.index.ensures) c.in_default.not-Diameter
