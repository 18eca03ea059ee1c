-- One thing comes next, and something always does.
use Rattle.std.proofs.Common.{◌≡◌, ◌≢◌, ◌⊎◌, inl, inr, refl, ap, subst, List, [], ◌∷◌, Contains}
use Rattle.kin_algebra.proofs.Members.{contains_head}
use Rattle.kin_num.specs.declared.instant.Moment.{Moment}
use Rattle.kin_num.specs.Canonical.{IsCanonical}
use Rattle.kin_num.specs.Order.{IsEarlier}
use Rattle.kin_num.proofs.MomentLaws.{never, through, total}
use Rattle.kin_motion.specs.Journal.{Setting, Block, Failure, IsNextBlock, IsJournal, NothingFails}
use Rattle.kin_motion.specs.Plans.{Leg}
use Rattle.kin_motion.proofs.JournalLaws.{block_is_listed, next_block_is_one}
use Rattle.kin_fail.proofs.JournalExistence.{earlier_or_not, nothing_left, block_after}
use Rattle.kin_legs.specs.Nexts.{View, Next, block, leg, nothing, IsBlockFirst, IsLegFirst, IsAtRest, IsNext, OneNext, NextsExist}
use Rattle.kin_legs.specs.Paths.{IsLegOf, NoneBeginsBetween, beginning}
use Rattle.kin_legs.specs.Planned.{ArePlannable, planned}
use Rattle.kin_legs.proofs.NextLegs.{IsNextOf, next_leg}
use Rattle.kin_legs.proofs.SceneLaws.{fair_leg}
use Rattle.kin_legs.proofs.BeginLaws.{legs_begin_in_time, own_canonical}
use Rattle.kin_legs.proofs.PlanExistence.{it_is_later, later_leg, none_before, planned_blocks_exist}

some_failure : (fs : List Failure) → fs ≢ [] → (f : Failure) × Contains fs f
some_failure [] some = absurd (some refl)
some_failure (f ∷ fs) some = (f, contains_head f fs)

-- where there is a next block, something fails
not_nothing : (t : Setting) (now : Moment) (b : Block) → IsCanonical now.at → IsNextBlock t now b → NothingFails t now → ⊥
not_nothing t now b canonical n never_fails =
    let f = some_failure b.failures n.some in
    let fails = (n.exact f.0).0 f.1 in
    fails.fails (never_fails f.0.was fails.live b.moment n.canonical (λ e. never now canonical (through now b.moment now canonical n.canonical canonical n.later e)))

module _ (v : View) (canonical : IsCanonical v.now.at) where
  abbrev shown : Setting
  shown = planned v.plans v.size v.keeps

  -- ---- one
  -- a leg that comes first isn't later than another
  not_sooner : (m n : Moment) → IsLegFirst v m → IsLegFirst v n → ¬ (IsEarlier m n)
  not_sooner m n a b sooner = b.first a.leg a.of_these (subst (IsEarlier v.now) a.begins a.later) (subst (λ (k : Moment). IsEarlier k n) a.begins sooner)

  one_leg : (m n : Moment) → IsLegFirst v m → IsLegFirst v n → m ≡ n
  one_leg m n a b = at (total m n a.canonical b.canonical)
    where
      at : IsEarlier m n ⊎ (IsEarlier n m ⊎ (m ≡ n)) → m ≡ n
      at (inl sooner) = absurd (not_sooner m n a b sooner)
      at (inr (inl later)) = absurd (not_sooner n m b a later)
      at (inr (inr same)) = same

  -- a block comes first, or a leg
  block_or_leg : (b : Block) (m : Moment) → IsBlockFirst v b → IsLegFirst v m → ⊥
  block_or_leg b m first other =
      block_is_listed shown v.now m b canonical other.canonical first.next
      (λ sooner. first.first other.leg other.of_these (subst (IsEarlier v.now) other.begins other.later) (subst (λ (k : Moment). IsEarlier k b.moment) other.begins sooner)) other.none_fails

  leg_or_rest : (m : Moment) → IsLegFirst v m → IsAtRest v → ⊥
  leg_or_rest m first rest = rest.none_begins first.leg first.of_these (subst (IsEarlier v.now) first.begins first.later)

  pub one_of_them : (n k : Next) → IsNext v n → IsNext v k → n ≡ k
  one_of_them (block b) (block c) p q = ap block (next_block_is_one shown v.now b c canonical p.next q.next)
  one_of_them (block b) (leg m) p q = absurd (block_or_leg b m p q)
  one_of_them (block b) nothing p q = absurd (not_nothing shown v.now b canonical p.next q.none_fails)
  one_of_them (leg m) (block b) p q = absurd (block_or_leg b m q p)
  one_of_them (leg m) (leg n) p q = ap leg (one_leg m n p q)
  one_of_them (leg m) nothing p q = absurd (leg_or_rest m p q)
  one_of_them nothing (block b) p q = absurd (not_nothing shown v.now b canonical q.next p.none_fails)
  one_of_them nothing (leg m) p q = absurd (leg_or_rest m q p)
  one_of_them nothing nothing p q = refl

  -- ---- some
  module _ (plannable : ArePlannable v.plans v.size v.keeps) where
    abbrev HasNext : Type 0
    HasNext = (n : Next) × IsNext v n

    abbrev IsFound : Type 0
    IsFound = NothingFails shown v.now ⊎ ((b : Block) × IsNextBlock shown v.now b)

    -- where no leg begins after now
    none_later : ((l : Leg) → IsLegOf v.plans l → ¬ (IsEarlier v.now (beginning l))) → IsFound → HasNext
    none_later none (inl nothing_fails) = (nothing, record { none_fails = nothing_fails; none_begins = none })
    none_later none (inr (b, is)) = (block b, record { next = is; first = λ l of_these later. absurd (none l of_these later) })

    module _ (l : Leg) (next : IsNextOf v.now (IsLegOf v.plans) l) where
      own : IsCanonical (beginning l).at
      own = own_canonical l (fair_leg v.plans plannable.paths l next.one)

      in_order : (m : Moment) → IsCanonical m.at → ¬ (IsEarlier (beginning l) m) → NoneBeginsBetween v.now m v.plans
      in_order m there = none_before v.plans plannable.paths v.now canonical l next m there

      not_before : ¬ (IsEarlier (beginning l) v.now)
      not_before = it_is_later v.plans plannable.paths v.now canonical l next

      leg_first : IsJournal shown v.now (beginning l) [] → HasNext
      leg_first none = (
        leg (beginning l),
        record {
          leg = l;
          of_these = next.one;
          begins = refl;
          canonical = own;
          later = later_leg v.plans plannable.paths v.now canonical l next;
          first = in_order (beginning l) own (never (beginning l) own);
          none_fails = none;
        },
      )

      with_leg : IsFound → HasNext
      with_leg (inl nothing_fails) = leg_first (nothing_left shown (beginning l) own v.now (canonical, not_before) nothing_fails)
      with_leg (inr (b, is)) = elim (earlier_or_not (beginning l) b.moment own is.canonical) [
        | inl sooner ↦ leg_first (block_after shown (beginning l) own v.now (canonical, not_before) b is sooner)
        | inr not_sooner ↦ (block b, record { next = is; first = in_order b.moment is.canonical not_sooner })
      ]

    pub some_of_them : HasNext
    some_of_them = elim (next_leg v.now v.plans) [
      | inl all ↦ none_later (λ l of_these. (legs_begin_in_time l v.now (fair_leg v.plans plannable.paths l of_these).soon canonical).0 (all l of_these)) found
      | inr (l, next) ↦ with_leg l next found
    ]
      where
        found : IsFound
        found = planned_blocks_exist v.plans v.size v.keeps v.now plannable canonical

pub one_next : OneNext
one_next v n k canonical = one_of_them v canonical n k

pub nexts_exist : NextsExist
nexts_exist v plannable canonical = some_of_them v canonical plannable
