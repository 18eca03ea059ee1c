use Rattle.std.proofs.Common.{◌≡◌, ◌∙◌, sym, ap, subst}
use Rattle.kin_motion.specs.Octants.{IsCandidateAnswer}
use Rattle.kin_wedge.specs.Wedging.{Wedging, candidate_told}
use Rattle.kin_wedge.proofs.EmptyOctants.{none_where_empty}
use Rattle.kin_wedge.proofs.Told.{told_as_held}
use Rattle.kin_wedge.proofs.wedges.Wedges.candidate.Goals as goal

pub returns-clause-settled : goal.returns-clause-settled
returns-clause-settled c = λ s o real settled live e.
    let p = c.args.apex in
    let told : candidate_told c.args.self.now p c.args.octant ≡ c.candidate.result =
    ap (λ (v : Wedging). candidate_told v p c.args.octant) (sym c.self.view_is)
    ∙ told_as_held c.self.inside.size c.self.inside.candidates.table c.self.invariant.slots p c.args.octant c.candidate.result c.candidate.ensures.value in
    none_where_empty s o p real c.candidate.result (subst (IsCandidateAnswer s o p) told (settled.wedges.candidates.of_live p c.args.octant o live e))
