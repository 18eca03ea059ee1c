use Rattle.std.proofs.Common.{◌≡◌, sym, subst, List, ℕ, ◌+◌, ◌*◌, ◌/◌, map, Option}
use Rattle.std.specs.Prelude.{slice_get, Some}
use Rattle.kin_motion.specs.Sets.{ListsExactly}
use Rattle.kin_wedge.proofs.Hitting.{exact_hits}
use Rattle.kin_wedge.proofs.table.Table.hits.Goals as goal

pub returns : goal.returns
returns c =
    subst (λ (xs : List ℕ). ListsExactly xs (λ apex. slice_get c.args.self.now (8 * apex + c.args.octant) ≡ Some (Some c.args.no))) (sym c.new.ensures)
    (subst (λ (v : List (Option ℕ)). ListsExactly (map (λ slot. slot / 8) c.pointing.result) (λ apex. slice_get v (8 * apex + c.args.octant) ≡ Some (Some c.args.no))) c.self.view_is (exact_hits c.self.inside.threads c.self.invariant c.args.no c.args.octant c.requires c.pointing.result c.pointing.ensures))
