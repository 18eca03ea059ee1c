use Rattle.std.proofs.Common.{◌≡◌, ◌+◌, ◌<◌, ◌^◌, None}
use Rattle.kin_rank.specs.Finding.{IsBelow, IsFirstOf}
use Rattle.kin_rank.specs.Leading.{place_in}
use Rattle.kin_rank.specs.Trees.{up}
use Rattle.kin_rank.proofs.Walking.{IsAfter}
use Rattle.kin_rank.proofs.lists.Lists.first_by_tree.Given as goal

abbrev pub invariant-loop-height : goal.invariant-loop-height
invariant-loop-height l = record {
  way : l.node ≡ up l.height (2 ^ l.self.size + l.f_above);
  first : IsFirstOf l.self.t.places.items None (λ x. IsAfter l.self.f.items.items (2 ^ l.self.size) l.height l.node l.f_above x × (l.g_above < place_in l.self.g.places.items x)) l.best;
  below : IsBelow (2 ^ l.self.size) l.best;
}
