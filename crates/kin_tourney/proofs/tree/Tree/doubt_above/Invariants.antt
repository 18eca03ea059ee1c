use Rattle.std.proofs.Common.{◌≡◌, ◌≢◌, ◌⊎◌, ◌<◌, ◌≤◌, true, false, Some}
use Rattle.kin_tourney.specs.Standings.{named_at}
use Rattle.kin_tourney.proofs.Raising.{IsRaising}
use Rattle.kin_tourney.proofs.tree.Tree.doubt_above.Given as goal

abbrev pub invariant-loop-is_won : goal.invariant-loop-is_won
invariant-loop-is_won g l = record {
  raising : IsRaising l.slot l.initial.self l.self l.node;
  won : l.is_won ≡ true → 1 < l.node;
  lost : l.is_won ≡ false → (l.node ≤ 1) ⊎ (named_at l.self l.node ≢ Some l.slot);
}

abbrev pub decreases-loop-is_won : goal.decreases-loop-is_won
decreases-loop-is_won g l = l.node
