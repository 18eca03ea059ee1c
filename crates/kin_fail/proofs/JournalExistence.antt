-- There is a next block unless nothing ever fails, and there is a journal up to each later moment.
use Rattle.std.proofs.Common.{◌≡◌, ◌⊎◌, inl, inr, refl, sym, subst, arith, ℕ, zero, suc, ◌<◌, List, [], ◌∷◌, Option}
use Rattle.std.specs.Prelude.{Contains, ◌↔◌}
use Rattle.kin_num.specs.declared.instant.Moment.{Moment}
use Rattle.kin_num.specs.Canonical.{IsCanonical}
use Rattle.kin_num.specs.Grains.{moments_left}
use Rattle.kin_num.specs.Order.{IsEarlier}
use Rattle.kin_num.proofs.Grains.{moments_run_out}
use Rattle.kin_num.proofs.MomentLaws.{never, through, total}
use Rattle.kin_motion.specs.Agreements.{FitsSize}
use Rattle.kin_motion.specs.Live.{Certificate, IsLiveFact, ListsLive, live_facts}
use Rattle.kin_motion.specs.Scene.{IsReal, scene_at}
use Rattle.kin_motion.specs.Journal as journal
use Rattle.kin_motion.specs.Journal.{Setting, Failure, Block, IsNextBlock, NothingFails, IsJournal, failures_at, seen_in, setting_of}
use Rattle.kin_motion.proofs.AskableLaws.{live_facts_are_askable}
use Rattle.kin_motion.proofs.FailureOrder.{failures_in_order}
use Rattle.kin_motion.proofs.LiveFactLaws.{live_facts_agree, failures_agree}
use Rattle.kin_motion.proofs.LiveFactsHold.{live_fact_holds}
use Rattle.kin_motion.proofs.MotionScenes.{real_at, live_fits}
use Rattle.kin_motion.proofs.SetLaws.{contains_none}
use Rattle.kin_fail.specs.Failures.{IsFirstFailure}
use Rattle.kin_fail.specs.Laws.{NextBlocksExist, JournalsExist}
use Rattle.kin_fail.proofs.FailureRoots.{first_failures_exist}
use Rattle.kin_fail.proofs.LeastFailure.{NoneEverFails, IsLeast, least_failure}

-- ---- the next block
module _ (t : Setting) (now : Moment) (real : IsReal (t.scene now)) (fits : FitsSize t.size (t.scene now)) where
  abbrev live : List Certificate
  live = live_facts t.size t.keeps (t.scene now)

  listed : ListsLive t.size t.keeps (t.scene now) live
  listed = live_facts_agree t.size t.keeps (t.scene now) real fits

  module _ (m : Moment) (least : IsLeast t.scene now live m) where
    exact : (f : Failure) → Contains (failures_at t now m) f ↔ journal.IsFailure t now m f
    exact = failures_agree t now m real fits

    some_failure : journal.IsFailure t now m (seen_in (t.scene m) least.some)
    some_failure = record { live = (listed.each least.some).0 least.among; fails = least.fails.fails; sign = refl }

    pub least_block : IsNextBlock t now (record { moment = m; failures = failures_at t now m })
    least_block = record {
      canonical = least.fails.canonical;
      later = least.fails.later_is_later;
      some = λ none. contains_none _ (subst (λ (fs : List Failure). Contains fs (seen_in (t.scene m) least.some)) none ((exact _).1 some_failure));
      exact = exact;
      in_order = failures_in_order t now m real fits;
      hold_before = λ c is. least.hold_before c ((listed.each c).1 is);
    }

  -- where each live fact has a first failure or none, so have all of them
  pub next_block : ((c : Certificate) → IsLiveFact t.size t.keeps (t.scene now) c → (later : Option Moment) × IsFirstFailure t.scene now c.placed.fact later)
      → NothingFails t now ⊎ ((b : Block) × IsNextBlock t now b)
  unfolding NoneEverFails
  next_block first = at (least_failure t.scene now live (λ c there. first c ((listed.each c).0 there)))
    where
      at : NoneEverFails t.scene now live ⊎ ((m : Moment) × IsLeast t.scene now live m) → NothingFails t now ⊎ ((b : Block) × IsNextBlock t now b)
      at (inl none) = inl (λ c is. none c ((listed.each c).1 is))
      at (inr (m, least)) = inr (record { moment = m; failures = failures_at t now m }, least_block m least)

pub next_blocks_exist : NextBlocksExist
next_blocks_exist ms size keeps now proper canonical =
    next_block (setting_of ms size keeps) now (real_at ms now canonical) (live_fits size ms now proper.slots) (λ c is.
    first_failures_exist ms now c.placed.fact proper.slow (live_facts_are_askable size keeps (scene_at ms now) c proper.small is) canonical (live_fact_holds size keeps (scene_at ms now) c is))

-- one moment is earlier than another or isn't
pub earlier_or_not : (m n : Moment) → IsCanonical m.at → IsCanonical n.at → IsEarlier m n ⊎ ¬ (IsEarlier m n)
earlier_or_not m n a b = at (total m n a b)
  where
    at : IsEarlier m n ⊎ (IsEarlier n m ⊎ (m ≡ n)) → IsEarlier m n ⊎ ¬ (IsEarlier m n)
    at (inl sooner) = inl sooner
    at (inr (inl later)) = inr (λ sooner. never m a (through m n m a b a sooner later))
    at (inr (inr same)) = inr (λ sooner. never m a (subst (IsEarlier m) (sym same) sooner))

-- ---- the journal
module _ (t : Setting) (last : Moment) (last_canonical : IsCanonical last.at) where
  -- the moment is not after the last one
  abbrev pub IsInTime : Moment → Type 0
  IsInTime now = IsCanonical now.at × ¬ (IsEarlier last now)

  pub nothing_left : (now : Moment) → IsInTime now → NothingFails t now → IsJournal t now last []
  nothing_left now in_time nothing = (λ c is x u. nothing c is x u.canonical u.from, λ c is. nothing c is last last_canonical in_time.1)

  pub block_after : (now : Moment) → IsInTime now → (b : Block) → IsNextBlock t now b → IsEarlier last b.moment → IsJournal t now last []
  block_after now in_time b next after = (
    λ c is x u. next.hold_before c is x (record { canonical = u.canonical; from = u.from; until = through x last b.moment u.canonical last_canonical next.canonical u.until after }),
    λ c is. next.hold_before c is last (record { canonical = last_canonical; from = in_time.1; until = after }),
  )

  module _ (next : (now : Moment) → IsCanonical now.at → NothingFails t now ⊎ ((b : Block) × IsNextBlock t now b)) where
    pub journal_within : (n : ℕ) (now : Moment) → moments_left now < n → IsInTime now → (bs : List Block) × IsJournal t now last bs
    journal_within zero now few in_time = absurd (omega arith)
    journal_within (suc n) now few in_time = by_next (next now in_time.0) (journal_within n)
      where
        by_time : (b : Block) → IsNextBlock t now b → ((m : Moment) → moments_left m < n → IsInTime m → (bs : List Block) × IsJournal t m last bs)
            → IsEarlier last b.moment ⊎ ¬ (IsEarlier last b.moment) → (bs : List Block) × IsJournal t now last bs
        by_time b is from (inl after) = ([], block_after now in_time b is after)
        by_time b is from (inr in_time_still) =
            let fewer : moments_left b.moment < moments_left now = moments_run_out now b.moment in_time.0 is.canonical is.later in
            let rest = from b.moment (omega (arith, fewer)) (is.canonical, in_time_still) in
            (b ∷ rest.0, (is, in_time_still, rest.1))

        by_next : NothingFails t now ⊎ ((b : Block) × IsNextBlock t now b) → ((m : Moment) → moments_left m < n → IsInTime m → (bs : List Block) × IsJournal t m last bs)
            → (bs : List Block) × IsJournal t now last bs
        by_next (inl nothing) from = ([], nothing_left now in_time nothing)
        by_next (inr (b, is)) from = by_time b is from (earlier_or_not last b.moment last_canonical is.canonical)

pub journals_exist : JournalsExist
journals_exist ms size keeps now last proper canonical last_canonical not_before =
    journal_within (setting_of ms size keeps) last last_canonical (λ m c. next_blocks_exist ms size keeps m proper c) (suc (moments_left now)) now (omega arith) (canonical, not_before)
