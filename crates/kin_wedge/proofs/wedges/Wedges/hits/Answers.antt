use Rattle.std.proofs.Common.{◌≡◌, ℕ, ◌<◌, ◌^◌, subst, Some}
use Rattle.kin_motion.specs.Sets.{ListsExactly}
use Rattle.kin_wedge.specs.Wedging.{Wedging, candidate_told}
use Rattle.kin_wedge.proofs.Told.{hits_told, hit_room}
use Rattle.kin_wedge.proofs.wedges.Wedges.hits.Goals as goal

pub returns-clause-listed : goal.returns-clause-listed
returns-clause-listed c =
    subst (λ (k : Wedging). ListsExactly c.hits.result (λ apex. (apex < 2 ^ k.size) × (candidate_told k apex c.args.octant ≡ Some c.args.no))) c.self.view_is
    (hits_told c.self.inside.size c.self.inside.candidates.table c.self.invariant.slots c.args.no c.args.octant c.hits.result c.requires c.hits.ensures)

pub returns-clause-room : goal.returns-clause-room
returns-clause-room c =
    subst (λ (k : Wedging). (apex : ℕ) → candidate_told k apex c.args.octant ≡ Some c.args.no → apex < 2 ^ k.size) c.self.view_is
    (hit_room c.self.inside.size c.self.inside.candidates.table c.self.invariant.slots c.args.no c.args.octant)
