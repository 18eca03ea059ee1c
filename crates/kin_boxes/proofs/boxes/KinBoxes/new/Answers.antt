use Rattle.std.proofs.Common.{◌≡◌, refl, ◌∙◌, arith, pos, to_z, of_z, w32}
use Rattle.std.proofs.lemmas.Int.{to_z-of_z}
use Rattle.kin_boxes.proofs.Leaving.{joined_only}
use Rattle.kin_boxes.proofs.Marking.{vacant_joined, vacant_along, few_numbers}
use Rattle.kin_boxes.proofs.boxes.KinBoxes.new.Goals as goal

pub new-requires-clause-few : goal.new-requires-clause-few
new-requires-clause-few c = few_numbers c.args.size c.requires.high

pub invariant_of-result : goal.invariant_of-result
invariant_of-result c =
    let a = c.new.ensures in
    let b = c.new-3.ensures in
    let m : to_z w32 (of_z w32 c.args.width) ≡ c.args.width = grind (arith, to_z-of_z) in
    let n : to_z w32 (of_z w32 c.args.height) ≡ c.args.height = grind (arith, to_z-of_z) in
    λ whole. joined_only _ _ (vacant_joined c.args.width c.args.height c.args.size _ _ c.requires.width.0 c.requires.height.0
    (vacant_along c.new.result (pos 1) (pos 0) c.args.width c.args.size c.in_ok-new.field-0 c.requires.high a.dx a.dy (a.width ∙ m) a.count c.in_ok-new.ensures)
    (vacant_along c.new-3.result (pos 0) (pos 1) c.args.height c.args.size c.in_ok-new-2.field-0 c.requires.high b.dx b.dy (b.width ∙ n) b.count c.in_ok-new-2.ensures))

pub returns : goal.returns
returns c =
    let a = c.new.ensures in
    let b = c.new-3.ensures in
    let m : to_z w32 (of_z w32 c.args.width) ≡ c.args.width = grind (arith, to_z-of_z) in
    let n : to_z w32 (of_z w32 c.args.height) ≡ c.args.height = grind (arith, to_z-of_z) in
    record {
      x = vacant_along c.new.result (pos 1) (pos 0) c.args.width c.args.size c.in_ok-new.field-0 c.requires.high a.dx a.dy (a.width ∙ m) a.count c.in_ok-new.ensures;
      y = vacant_along c.new-3.result (pos 0) (pos 1) c.args.height c.args.size c.in_ok-new-2.field-0 c.requires.high b.dx b.dy (b.width ∙ n) b.count c.in_ok-new-2.ensures;
      whole = refl;
    }
