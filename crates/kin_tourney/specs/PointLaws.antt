-- The laws of a tournament of points.
use Rattle.std.proofs.Common.{◌≡◌, refl, sym, ap, ◌∙◌, subst, arith, List, [], ◌∷◌, ℕ, suc, ◌+◌, ◌^◌, ◌≤◌, Bool, false, cond, ◌&&◌, ◌||◌}
use Rattle.std.specs.Prelude.{Some}
use Rattle.std.proofs.lemmas.List.Elements.{All-nil, All-cons, All-from_get_or}
use Rattle.std.proofs.lemmas.List.Sums.{sum_by-le}
use Rattle.kin_motion.specs.declared.fact.Placed.{Placed}
use Rattle.kin_motion.specs.declared.keep.Keep.{Keep}
use Rattle.kin_motion.specs.declared.keep.Keep.TheVariants as kept
use Rattle.kin_motion.specs.Extremes.{IsExtremeFact, along_key, point_slots}
use Rattle.kin_motion.specs.Live.{IsKeepFact}
use Rattle.kin_motion.specs.Numbers.{IsIn}
use Rattle.kin_motion.specs.Kinetics.{HaveSameLive, AllHold}
use Rattle.kin_motion.specs.Scene.{Scene, IsReal}
use Rattle.kin_motion.specs.Sets.{ListsExactly}
use Rattle.kin_motion.specs.Tournaments.{item_in, is_under, IsNodeFact}
use Rattle.kin_motion.proofs.PointSlots.{slot_holds}
use Rattle.kin_tourney.specs.declared.along.Along.{Along}
use Rattle.kin_tourney.specs.AlongLaws.{along_total, along_transitive}
use Rattle.kin_tourney.specs.Determined.{determined_law}
use Rattle.kin_tourney.specs.Points.{IsTournamentFor, HasPoints, StaysTournament, IsSettledAlong, point_names}
use Rattle.kin_tourney.specs.Tournament.{Tournament, IsAtRest, IsReady, mark_in, mark_count, is_above_mark, is_above_mark_from}

-- without marks no node is above one
pub unmarked_spares_none : (size v i : ℕ) (marked : List Bool) → ((k : ℕ) → mark_in marked k ≡ false) → is_above_mark_from size v i marked ≡ false
unmarked_spares_none size v i [] none = refl
unmarked_spares_none size v i (m ∷ ms) none = ap (λ b. (b && is_under size v i) || is_above_mark_from size v (i + 1) ms) (none 0) ∙ unmarked_spares_none size v (i + 1) ms (λ k. none (suc k))

abbrev one_if : Bool → ℕ
one_if m = cond m 1 0

-- without a mark none is counted
pub mark_none : (marked : List Bool) → ((i : ℕ) → mark_in marked i ≡ false) → mark_count marked ≡ 0
mark_none marked none = let k = sum_by-le one_if 0 marked (All-from_get_or (λ m. one_if m ≤ 0) marked false (λ i inside. let e : one_if (mark_in marked i) ≡ 0 = ap one_if (none i) in omega arith)) in omega arith

pub points_spare_none : (t : Tournament Along ℕ) (p : Placed) → IsAtRest t → is_above_mark t.size t.marked p.part ≡ false
points_spare_none t p rest = unmarked_spares_none t.size p.part 0 t.marked rest.unmarked

-- over the live numbers it may settle
pub points_ready : (t : Tournament Along ℕ) (s : Scene) → HasPoints t s.live → IsReady point_names t s
points_ready t s has = record {
  whole = has.whole;
  apart = λ i j a e f. (held i a e).0 ∙ sym (held j a f).0;
  live = λ i a e. All-cons (λ k. IsIn k s.live) a [] (held i a e).1 (All-nil (λ k. IsIn k s.live));
}
  where
    held : (i a : ℕ) → item_in t.slots i ≡ Some a → (i ≡ a) × IsIn a s.live
    held i a e = slot_holds t.size s.live i a (sym (ap (λ slots. item_in slots i) has.slots) ∙ e)

pub points_kind_stays : (old new : Tournament Along ℕ) (size : ℕ) (keep : Keep) → StaysTournament old new → IsTournamentFor old size keep → IsTournamentFor new size keep
points_kind_stays old new size keep same kind = (kind.0 ∙ ap (λ (k : Along). kept.Extreme k.dx k.dy) (sym same.key), same.size ∙ kind.1)

pub points_stay : (old new : Tournament Along ℕ) (s : Scene) → HasPoints old s.live → StaysTournament old new → IsAtRest new → IsSettledAlong new s → HasPoints new s.live
points_stay old new s has same rest settled = record { whole = rest.whole; slots = same.slots ∙ has.slots ∙ ap (λ n. point_slots n s.live) (sym same.size); room = same.room ∙ has.room ∙ ap (λ n. 2 ^ n) (sym same.size) }

-- settled over these numbers, it has the facts of the extreme point
pub points_facts : (t : Tournament Along ℕ) (s : Scene) → HasPoints t s.live → IsSettledAlong t s → ListsExactly t.facts (IsExtremeFact t.size s t.key.dx t.key.dy)
points_facts t s has settled = subst (λ slots. ListsExactly t.facts (IsNodeFact s (along_key t.key.dx t.key.dy) t.size slots)) has.slots settled.tournament.exact

pub points_exact : (t : Tournament Along ℕ) (size : ℕ) (keep : Keep) (s : Scene) → IsTournamentFor t size keep → HasPoints t s.live → IsSettledAlong t s → ListsExactly t.facts (IsKeepFact size s keep)
points_exact t size keep s kind has settled =
    subst (λ (q : Keep). ListsExactly t.facts (IsKeepFact size s q)) (sym kind.0)
    (subst (λ n. ListsExactly t.facts (IsExtremeFact n s t.key.dx t.key.dy)) kind.1 (points_facts t s has settled))

-- the facts alone determine winners and facts
pub points_determined : (t : Tournament Along ℕ) (v w : Scene) → IsReal v → IsSettledAlong t v → HaveSameLive v w → IsReal w → AllHold w t.facts → IsSettledAlong t w
points_determined t = determined_law point_names (along_key t.key.dx t.key.dy) (along_total t.key.dx t.key.dy) (along_transitive t.key.dx t.key.dy) t
