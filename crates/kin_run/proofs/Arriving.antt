-- A world that goes on forgets the legs that it has begun; a replay keeps them. From each moment on both show the same.
use Rattle.std.proofs.Common.{◌≡◌, refl, sym, ap, ◌∙◌, subst, ℕ, zero, suc, ◌+◌, ◌^◌, Bool, All, List, [], ◌∷◌, Option, None}
use Rattle.std.specs.Prelude.{replicate}
use Rattle.kin_num.proofs.MomentLaws.{through}
use Rattle.kin_motion.specs.declared.keep.Keep.{Keep}
use Rattle.kin_motion.specs.Plans.{Plan}
use Rattle.kin_legs.specs.declared.leg.Leg.{Leg}
use Rattle.kin_legs.specs.Joined.{plans_from}
use Rattle.kin_legs.specs.Paths.{plans_left}
use Rattle.kin_legs.specs.Shown.{ShowAlike}
use Rattle.kin_legs.proofs.AlikeLaws.{show_alike}
use Rattle.kin_legs.proofs.FollowedLaws.{all_ahead}
use Rattle.kin_legs.proofs.LeftLaws.{past_legs_dont_matter}
use Rattle.kin_legs.proofs.ShownLaws.{alike_blocks, alike_journals}
use Rattle.kin_script.specs.Alike.{IsOnPaths}
use Rattle.kin_script.specs.Ranges.{IsCommandInRange}
use Rattle.kin_script.specs.States.{start}
use Rattle.kin_world.specs.Worlds.{empty}
use Rattle.kin_run.proofs.Vocabulary.{Block, Command, HasArrived, HasGoneTo, HasLeftBehind, IsAlike, IsCanonical, IsEarlier, IsJournal, IsNextBlock, IsWhole, Moment, World, state_of, world_plans, world_setting}

-- all legs of a whole world are still to come, so of its plans all is left
pub all_left : (w : World) → IsWhole w → plans_left w.moment (world_plans w) ≡ world_plans w
all_left w whole = (all_ahead whole.followed w.moment whole.canonical whole.ahead).left

pub is_here : (w : World) → IsWhole w → HasArrived w.moment w w
is_here w whole = record { moment = refl; size = refl; keeps = refl; plans = sym (all_left w whole); whole = whole }

pub arrived_now : {m : Moment} {start now : World} → HasArrived m start now → HasArrived now.moment start now
arrived_now {m} {start} {now} h = subst (λ (k : Moment). HasArrived k start now) (sym h.moment) h

pub on_paths : (journal : Bool) (w : World) → IsWhole w → IsOnPaths (state_of journal w)
on_paths journal w whole = record { paths = whole.followed.paths; canonical = whole.canonical }

-- commands that are in range stay so while the size does
pub in_range_still : (lines : List (ℕ × Command)) {size now : ℕ} → now ≡ size → All (λ line. IsCommandInRange size line.1) lines → All (λ line. IsCommandInRange now line.1) lines
in_range_still lines same range = subst (λ n. All (λ line. IsCommandInRange n line.1) lines) (sym same) range

-- ---- at the start
none_from : (n first : ℕ) (legs : List Leg) → plans_from first (replicate n None) legs ≡ replicate n None
none_from zero first legs = refl
none_from (suc n) first legs = ap (λ (plans : List (Option Plan)). None ∷ plans) (none_from n (first + 1) legs)

pub at_start : (size : ℕ) (keeps : List Keep) (journal : Bool) → state_of journal (empty size keeps) ≡ start size keeps journal
at_start size keeps journal = ap (λ (plans : List (Option Plan)). record (start size keeps journal) { plans = plans }) (none_from (2 ^ size) 0 [])

-- ---- and goes on
pub gone_moment : {m : Moment} {old new : World} → HasGoneTo m old new → new.moment ≡ m
gone_moment gone = ap (λ (v : World). v.moment) gone.state

pub goes_further : {start now new : World} {m : Moment} → IsWhole start → HasArrived now.moment start now → ¬ (IsEarlier m now.moment) → HasGoneTo m now new → HasArrived m start new
goes_further {start} {now} {new} {m} whole on not_before gone =
    let there = subst (λ (k : Moment). IsCanonical k.at) (gone_moment gone) gone.whole.canonical in
    record {
      moment = gone_moment gone;
      size = ap (λ (v : World). v.size) gone.state ∙ on.size;
      keeps = ap (λ (v : World). v.keeps) gone.state ∙ on.keeps;
      plans = gone.plans ∙ ap (plans_left m) on.plans ∙ past_legs_dont_matter (world_plans start) now.moment m whole.followed.paths on.whole.canonical there not_before;
      whole = gone.whole;
    }

-- from now on
pub goes_on_to : {now new : World} {m : Moment} → IsWhole now → ¬ (IsEarlier m now.moment) → HasGoneTo m now new → HasArrived m now new
goes_on_to {now} whole not_before gone = goes_further whole (is_here now whole) not_before gone

-- a leap doesn't go back
pub leaps_on : {limit : Moment} {old new : World} → IsWhole old → HasLeftBehind limit old new → ¬ (IsEarlier new.moment old.moment)
leaps_on {limit} {old} {new} whole h e = h.due.within (through new.moment old.moment h.due.moment h.gone.whole.canonical whole.canonical h.due.fails.canonical e h.due.fails.later_is_later)

-- ---- what the replay sees
pub alike_there : (journal : Bool) {m : Moment} {start now : World} → HasArrived m start now → IsAlike (record (state_of journal start) { moment = m }) (state_of journal now)
alike_there journal {m} {start} {now} h = record {
  size = sym h.size;
  keeps = sym h.keeps;
  journal = refl;
  moment = sym h.moment;
  left = sym h.plans ∙ sym (all_left now h.whole) ∙ ap (λ (k : Moment). plans_left k (world_plans now)) h.moment;
}

module _ {start now : World} (whole : IsWhole start) (on : HasArrived now.moment start now) where
  shown : (last : Moment) → ShowAlike now.moment last (world_setting now) (world_setting start)
  shown last =
      let same = all_left now on.whole ∙ on.plans in
      let alike = show_alike now.moment on.whole.canonical (world_plans now) (world_plans start) on.whole.followed.paths whole.followed.paths same now.size now.keeps last in
      record { size = on.size; keeps = on.keeps; scene = alike.scene }

  pub block_from_start : (b : Block) → IsNextBlock (world_setting now) now.moment b → IsNextBlock (world_setting start) now.moment b
  block_from_start b next = alike_blocks (world_setting now) (world_setting start) now.moment b on.whole.canonical (shown b.moment) next

  pub journal_from_start : (last : Moment) (bs : List Block) → IsCanonical last.at → ¬ (IsEarlier last now.moment) → IsJournal (world_setting now) now.moment last bs → IsJournal (world_setting start) now.moment last bs
  journal_from_start last bs there not_before j = alike_journals (world_setting now) (world_setting start) now.moment last bs on.whole.canonical there not_before (shown last) j
