use Rattle.std.proofs.Common.{ap, ◌∙◌, reverse}
use Rattle.kin_motion.specs.declared.form.Form.{Form}
use Rattle.kin_motion.specs.Merges.{Half.{A}, breakpoints_of}
use Rattle.kin_motion.specs.Sweeps.{breakpoints_back}
use Rattle.kin_motion.proofs.SlopeLaws.{real_slope_laws}
use Rattle.kin_diameter.specs.Seen.{seen}
use Rattle.kin_diameter.proofs.NextBreakpoints.{heads_askable, placed_next}
use Rattle.kin_diameter.proofs.merge.next_of.Goals as goal

pub sign-sign-requires : goal.sign-sign-requires
sign-sign-requires g c =
    let live = (g.O.Signs.scene c.args.now.now).live in
    let heads = c.in-Some-Some in
    record {
      askable = heads_askable live c.args.upper.now c.args.lower.now (seen heads.upper) (seen heads.lower) c.slope.result c.slope.ensures c.requires.upper c.requires.lower heads.ensures.value heads.ensures'.value;
    }

pub returns-in-Some-Some-clause-some : goal.returns-in-Some-Some-clause-some
returns-in-Some-Some-clause-some g c =
    let s = g.O.Signs.scene c.args.now.now in
    let heads = c.in-Some-Some in
    let us = breakpoints_of A c.args.upper.now in
    let ls = breakpoints_back (reverse c.args.lower.now) in
    placed_next s (real_slope_laws s c.requires.real) heads.upper heads.lower c.sign-sign.result c.earlier.result us ls c.earlier.ensures heads.ensures.chain heads.ensures'.chain
    heads.ensures.value heads.ensures'.value (c.sign-sign.ensures.value ∙ ap (λ (f : Form). s.sign f) c.slope.ensures)
