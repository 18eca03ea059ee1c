use Rattle.std.proofs.Common.{arith}
use Rattle.std.proofs.lemmas.Option.{slice_get_within}
use Rattle.kin_world.specs.declared.structure.Structure.TheVariants.{Hull as HullOf}
use Rattle.kin_world.proofs.farthest.hull_among.Goals as goal

pub unreachable-requires : goal.unreachable-requires
unreachable-requires c =
    let h = c.requires in
    let low = slice_get_within c.args.structures.now h.0 (HullOf h.1) h.2 in
    c.loop-structure.invariant h.0 h.1 (omega (arith, low, c.loop-structure-test.false)) h.2
