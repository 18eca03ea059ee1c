use Rattle.kin_world.proofs.Vocabulary.{◌≡◌, length, AreVacant}
use Rattle.kin_world.proofs.upkeep.vacant_structures.Given as goal

abbrev pub invariant-loop-keep : goal.invariant-loop-keep
invariant-loop-keep l = record {
  count : length l.structures.items ≡ l.keep-index;
  vacant : AreVacant l.size l.keeps l.structures.items;
}
