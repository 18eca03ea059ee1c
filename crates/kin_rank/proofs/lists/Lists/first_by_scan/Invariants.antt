use Rattle.std.proofs.Common.{◌≡◌, ℕ, ◌<◌, Some}
use Rattle.std.specs.Prelude.{slice_get}
use Rattle.kin_rank.specs.Finding.{IsBeyond}
use Rattle.kin_rank.proofs.lists.Lists.first_by_scan.Given as goal

abbrev pub invariant-loop-no : goal.invariant-loop-no
invariant-loop-no l = (k x : ℕ) → k < l.no-index → slice_get l.self.t.items.items k ≡ Some x → IsBeyond l.self.f.items.items l.self.g.places.items l.f_above l.g_above x → ⊥
