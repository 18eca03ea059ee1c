use Rattle.std.proofs.Common.{◌≡◌, ℕ, ◌<◌, Some, false, length}
use Rattle.std.specs.Prelude.{slice_get, ◌⊎◌}
use Rattle.kin_motion.specs.Numbers.{is_in}
use Rattle.kin_sorted.specs.Links.{link_for, facts_from}
use Rattle.kin_sorted.specs.Telling.{IsToldIn}
use Rattle.kin_sorted.proofs.report.renew_touched.Given as goal

abbrev pub invariant-loop-slot : goal.invariant-loop-slot
invariant-loop-slot g l = record {
  items : l.row.items ≡ l.initial.row.items;
  room : l.row.room ≡ l.initial.row.room;
  signs : l.row.signs ≡ l.initial.row.signs;
  same_length : length l.row.links ≡ length l.initial.row.links;
  each : (i : ℕ) → (slice_get l.row.links i ≡ slice_get l.initial.row.links i) ⊎ (slice_get l.row.links i ≡ Some (link_for l.initial.row.items l.initial.row.signs i));
  done : (k i : ℕ) → k < l.slot-index → slice_get l.touched k ≡ Some i → i < length l.initial.row.links → slice_get l.row.links i ≡ Some (link_for l.initial.row.items l.initial.row.signs i);
  others : (i : ℕ) → is_in i l.touched ≡ false → slice_get l.row.links i ≡ slice_get l.initial.row.links i;
  told : IsToldIn l.part (facts_from (g.R.Ranked.ranks l.rank) 0 l.initial.row.links) (facts_from (g.R.Ranked.ranks l.rank) 0 l.row.links)
      (record { dropped = l.fn.dropped.items; born = l.fn.born.items }) (record { dropped = l.dropped.items; born = l.born.items });
}
