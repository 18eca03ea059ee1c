-- Of finitely many facts that hold now, one fails first, or none ever fails.
use Rattle.std.proofs.Common.{◌≡◌, ◌⊎◌, inl, inr, subst, List, [], ◌∷◌, Option, Some, None}
use Rattle.std.specs.Prelude.{Contains}
use Rattle.kin_num.specs.declared.instant.Moment.{Moment}
use Rattle.kin_num.specs.Canonical.{IsCanonical}
use Rattle.kin_num.specs.Order.{IsEarlier}
use Rattle.kin_num.proofs.MomentLaws.{through, total}
use Rattle.kin_motion.specs.declared.fact.Fact.{Fact}
use Rattle.kin_motion.specs.Live.{Certificate}
use Rattle.kin_motion.specs.Moments.{HoldsUntil, FailsFirst}
use Rattle.kin_motion.specs.Scene.{Scene}
use Rattle.kin_motion.proofs.SetLaws.{contains_none, contains_head, contains_tail, contains_cases}
use Rattle.kin_fail.specs.Failures.{NeverFails, IsFirstFailure}

module _ (scene : Moment → Scene) (now : Moment) where
  -- none of these facts ever fails
  unfoldable pub NoneEverFails : List Certificate → Type 0
  NoneEverFails cs = (c : Certificate) → Contains cs c → NeverFails scene now c.placed.fact

  -- one of these facts fails first at the moment, and all of them hold before it
  pub record IsLeast (cs : List Certificate) (m : Moment) : Type 0 where
    pub some : Certificate
    pub among : Contains cs some
    pub fails : FailsFirst scene now m some.placed.fact
    pub hold_before : (c : Certificate) → Contains cs c → HoldsUntil scene now m c.placed.fact

  holds_sooner : (f : Fact) (m n : Moment) → IsCanonical m.at → IsCanonical n.at → IsEarlier m n → HoldsUntil scene now n f → HoldsUntil scene now m f
  holds_sooner f m n a b sooner hold x u = hold x (record { canonical = u.canonical; from = u.from; until = through x m n u.canonical a b u.until sooner })

  -- what holds of the first and of the others
  of_each : (P : Certificate → Type 0) (c : Certificate) (cs : List Certificate) → P c → ((d : Certificate) → Contains cs d → P d) → (d : Certificate) → Contains (c ∷ cs) d → P d
  of_each P c cs first others d there = at (contains_cases c d cs there)
    where
      at : (c ≡ d) ⊎ Contains cs d → P d
      at (inl e) = subst P e first
      at (inr h) = others d h

  fails_in_front : (c : Certificate) (cs : List Certificate) (m : Moment) → FailsFirst scene now m c.placed.fact → ((d : Certificate) → Contains cs d → HoldsUntil scene now m d.placed.fact) → IsLeast (c ∷ cs) m
  fails_in_front c cs m fails others = record {
    some = c;
    among = contains_head c cs;
    fails = fails;
    hold_before = of_each (λ d. HoldsUntil scene now m d.placed.fact) c cs fails.holds_until others;
  }

  fails_behind : (c : Certificate) (cs : List Certificate) (m : Moment) → HoldsUntil scene now m c.placed.fact → IsLeast cs m → IsLeast (c ∷ cs) m
  fails_behind c cs m holds least = record {
    some = least.some;
    among = contains_tail c least.some cs least.among;
    fails = least.fails;
    hold_before = of_each (λ d. HoldsUntil scene now m d.placed.fact) c cs holds least.hold_before;
  }

  abbrev HasLeast : List Certificate → Type 0
  HasLeast cs = NoneEverFails cs ⊎ ((m : Moment) × IsLeast cs m)

  one_more : (c : Certificate) (cs : List Certificate) (later : Option Moment) → IsFirstFailure scene now c.placed.fact later → HasLeast cs → HasLeast (c ∷ cs)
  unfolding NoneEverFails
  one_more c cs None never (inl none) = inl (of_each (λ d. NeverFails scene now d.placed.fact) c cs never none)
  one_more c cs None never (inr (m, least)) = inr (m, fails_behind c cs m (λ x u. never x u.canonical u.from) least)
  one_more c cs (Some k) fails (inl none) = inr (k, fails_in_front c cs k fails (λ d there x u. none d there x u.canonical u.from))
  one_more c cs (Some k) fails (inr (m, least)) = at (total k m fails.canonical least.fails.canonical)
    where
      at : IsEarlier k m ⊎ (IsEarlier m k ⊎ (k ≡ m)) → HasLeast (c ∷ cs)
      at (inl sooner) = inr (k, fails_in_front c cs k fails (λ d there. holds_sooner d.placed.fact k m fails.canonical least.fails.canonical sooner (least.hold_before d there)))
      at (inr (inl later)) = inr (m, fails_behind c cs m (holds_sooner c.placed.fact m k least.fails.canonical fails.canonical later fails.holds_until) least)
      at (inr (inr same)) = inr (m, fails_behind c cs m (subst (λ (x : Moment). HoldsUntil scene now x c.placed.fact) same fails.holds_until) least)

  pub least_failure : (cs : List Certificate) → ((c : Certificate) → Contains cs c → (later : Option Moment) × IsFirstFailure scene now c.placed.fact later) → NoneEverFails cs ⊎ ((m : Moment) × IsLeast cs m)
  unfolding NoneEverFails
  least_failure [] first = inl (λ c there. absurd (contains_none c there))
  least_failure (c ∷ cs) first = let f = first c (contains_head c cs) in one_more c cs f.0 f.1 (least_failure cs (λ d there. first d (contains_tail c d cs there)))
