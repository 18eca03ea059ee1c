use Rattle.kin_world.proofs.Vocabulary.{◌≡◌, sym, ap, ◌∙◌, subst, ◌+◌, ◌++◌, ◌∷◌, [], rules, length, Some, pos, slice_get, slice_index_or, length_push, slice_get-get_or}
use Rattle.kin_motion.specs.declared.keep.Keep.TheVariants.{Order}
use Rattle.kin_world.proofs.StartLaws.{vacant_more}
use Rattle.kin_world.proofs.upkeep.vacant_structures.Goals as goal

pub loop-keep-preserved : goal.loop-keep-preserved
loop-keep-preserved c =
    let h = c.loop-keep.invariant in
    let keeps = c.args.keeps.now in
    let keep = slice_index_or keeps c.loop-keep.keep-index (Order (pos 0) (pos 0)) in
    let old = c.loop-keep.structures.items in
    let here : slice_get keeps (length old) ≡ Some keep = subst (λ n. slice_get keeps n ≡ Some keep) (sym h.count) (slice_get-get_or keeps c.loop-keep.keep-index _ c.loop-keep-test.true) in
    let pushed : c.push.new.self.items ≡ old ++ c.in_ok-structure.structure ∷ [] = search rules in
    let e = c.in_ok-structure.ensures in
    record {
      count = ap length pushed ∙ length_push old _ ∙ ap (λ n. n + 1) h.count;
      vacant = vacant_more c.args.size keeps old c.push.new.self.items keep c.in_ok-structure.structure h.vacant here (assumption e) pushed;
    }
