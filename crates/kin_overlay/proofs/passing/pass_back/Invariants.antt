use Rattle.std.proofs.Common.{ℕ, ◌<◌, ◌≤◌, [], ◌∷◌, length, drop}
use Rattle.kin_overlay.specs.Passing.{AreUntouched}
use Rattle.kin_overlay.proofs.passing.pass_back.Given as goal

abbrev pub invariant-loop-place : goal.invariant-loop-place
invariant-loop-place l = record {
  behind : l.front.place ≤ l.place;
  within : l.place ≤ length l.standing.list.now.records;
  a_within : l.a_from < length l.front.a.now;
  b_within : l.b_from < length l.front.b.now;
  untouched : (x y : ℕ) × AreUntouched l.standing l.puts.a.now l.puts.b.now (drop l.place l.standing.list.now.records) (drop l.a_from l.front.a.now) (drop l.b_from l.front.b.now) (x ∷ []) (y ∷ []);
}

abbrev pub decreases-loop-place : goal.decreases-loop-place
decreases-loop-place l = l.place
