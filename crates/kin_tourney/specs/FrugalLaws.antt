-- What a tournament of points asks is within the bound of its keep.
use Rattle.std.proofs.Common.{◌≡◌, inl, sym, subst, arith, List, ℕ, ◌+◌, ◌*◌, ◌≤◌, length}
use Rattle.std.specs.Prelude.{Contains}
use Rattle.std.proofs.lemmas.Nat.{mul-le}
use Rattle.kin_motion.specs.declared.fact.Placed.{Placed}
use Rattle.kin_motion.specs.declared.keep.Keep.{Keep}
use Rattle.kin_motion.specs.declared.keep.Keep.TheVariants as kept
use Rattle.kin_motion.specs.Deltas.{Change}
use Rattle.kin_motion.specs.Extremes.{IsExtremeFact}
use Rattle.kin_motion.specs.Kinetics.{ListsFailing, HasChanged}
use Rattle.kin_motion.specs.Numbers.{IsIn}
use Rattle.kin_motion.specs.Scene.{Scene}
use Rattle.kin_motion.specs.Spending.{AreInStep, HasFailed, HasRisenWithin, MayAsk}
use Rattle.kin_motion.proofs.FailedLaws.{some_failed}
use Rattle.kin_tourney.specs.declared.along.Along.{Along}
use Rattle.kin_tourney.specs.PointLaws.{mark_none, points_facts}
use Rattle.kin_tourney.specs.Points.{IsTournamentFor, HasPoints, IsSettledAlong, SpendsPoints, FollowsPoints}
use Rattle.kin_tourney.specs.Tournament.{Tournament, IsAtRest, is_above_mark, mark_count}

pub points_follow_scene : (t : Tournament Along ℕ) (s : Scene) (live : List ℕ) → IsAtRest t → HasPoints t s.live → IsSettledAlong t s → s.live ≡ live → FollowsPoints t s live
points_follow_scene t s live rest has settled same = record {
  exact = points_facts t s has settled;
  marked = inl (mark_none t.marked rest.unmarked);
  stays = λ p i there free named member. subst (IsIn i) same member;
}

module _ (old new : Tournament Along ℕ) (v w : Scene) (failed : List Placed) (out out' : Change) (before after : ℕ) where
  within : FollowsPoints old v w.live → ListsFailing old.facts (λ p. is_above_mark old.size old.marked p.part) w failed → SpendsPoints old new failed out out' before after
      → HasRisenWithin (MayAsk old.size (kept.Extreme old.key.dx old.key.dy) v w) before after
  within follows failing spent =
      let known = some_failed old.facts (IsExtremeFact old.size v old.key.dx old.key.dy) v w failed follows.exact failing.once each in (
        old.size * (length known.failed + mark_count old.marked),
        record { failed = known.failed; exactly = known.exactly; marks = mark_count old.marked; allowed = follows.marked; bound = omega arith },
        omega (arith, more old.size (mark_count old.marked) (length failed) (length known.failed) known.enough, spent),
      )
    where
      each : (p : Placed) → Contains failed p → HasFailed (IsExtremeFact old.size v old.key.dx old.key.dy) v w p
      each p h =
          let is = (failing.each p).0 h in
          record { was = (follows.exact.each p).0 is.0; stays = λ i named member. follows.stays p i is.0 is.1 named member; fails = is.2 }

      more : (size marks few many : ℕ) → few ≤ many → size * (marks + few) ≤ size * (many + marks)
      more size marks few many le = mul-le size (marks + few) size (many + marks) (omega arith) (omega arith)

pub points_frugal : (old new : Tournament Along ℕ) (size : ℕ) (keep : Keep) (v w : Scene) (failed : List Placed) (out out' : Change) (before after : ℕ) → IsTournamentFor old size keep → IsTournamentFor new size keep → AreInStep size keep v w
    → FollowsPoints old v w.live → HasPoints new w.live → IsSettledAlong new w → ListsFailing old.facts (λ p. is_above_mark old.size old.marked p.part) w failed → HasChanged old.facts new.facts out out' → SpendsPoints old new failed out out' before after
    → HasRisenWithin (MayAsk size keep v w) before after
points_frugal old new size keep v w failed out out' before after kind kind' step follows has settled failing changed spent =
    subst (λ (q : Keep). HasRisenWithin (MayAsk size q v w) before after) (sym kind.0)
    (subst (λ (n : ℕ). HasRisenWithin (MayAsk n (kept.Extreme old.key.dx old.key.dy) v w) before after) kind.1
    (within old new v w failed out out' before after follows failing spent))
