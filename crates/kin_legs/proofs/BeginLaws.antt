-- When legs begin.
use Rattle.std.proofs.Common.{◌≡◌, inl, inr, refl, sym, ap, ◌∙◌, subst, arith, List, [], ◌∷◌, ℕ, ◌%◌, ◌<◌, ◌≤◌, ◌^◌, Bool, true, false, not, cond, pos, All, filter}
use Rattle.std.specs.Prelude.{Contains, IsTrue, ◌*ℤ◌, ◌-ℤ◌, if◌then◌else◌}
use Rattle.std.specs.Int.{IsGcd}
use Rattle.std.proofs.lemmas.Bool.Decides.{nat_tests}
use Rattle.std.proofs.lemmas.Int.{ints}
use Rattle.std.proofs.lemmas.Nat.Gcd.{IsGcd-from_mod, IsGcd-from_zero}
use Rattle.std.proofs.lemmas.List.Elements.{All-contains, All-head, All-tail}
use Rattle.kin_algebra.specs.declared.sign.Sign.{Sign}
use Rattle.kin_algebra.specs.declared.sign.Sign.TheVariants.{Minus, Zero, Plus}
use Rattle.kin_algebra.specs.Signs.{sign_of}
use Rattle.kin_algebra.proofs.IntegerSigns.{sign_in}
use Rattle.kin_num.specs.declared.instant.Moment.{Moment}
use Rattle.kin_num.specs.declared.instant.Phase.TheVariants.{At, After}
use Rattle.kin_num.specs.declared.instant.Shape.{Shape}
use Rattle.kin_num.specs.Canonical.{IsCanonical}
use Rattle.kin_num.specs.Instants.{sign_at_instant, line}
use Rattle.kin_num.specs.Order.{IsEarlier, IsLess}
use Rattle.kin_num.proofs.FractionOrder.{fraction_itself, line_at_fraction}
use Rattle.kin_num.proofs.InstantOrder.{above_fraction, below_fraction}
use Rattle.kin_num.proofs.LowerFractions.{not_less_itself}
use Rattle.kin_num.proofs.MomentOrder.{not_earlier_itself, earlier_trans}
use Rattle.kin_motion.specs.Boxes.{is_not_minus}
use Rattle.kin_motion.specs.Course.{Course}
use Rattle.kin_motion.specs.Numbers.{IsChain}
use Rattle.kin_motion.specs.Plans.{Leg, is_begun, last_begun}
use Rattle.kin_motion.specs.Turning.{just_at}
use Rattle.kin_motion.proofs.ListChains.{chain_first}
use Rattle.kin_algebra.proofs.Members.{contains_head, contains_tail}
use Rattle.kin_legs.specs.Paths.{whole, beginning, is_sooner, IsFair, LegsBeginInTime}

-- ---- whole instants
nothing_left : (n : ℕ) → n % 1 ≡ 0
nothing_left n = omega arith

pub whole_canonical : (n : ℕ) → n ≤ 2 ^ 31 → IsCanonical (whole n)
whole_canonical n low = record {
  form = record { positive = omega (arith, ints); lowest = IsGcd-from_mod n 1 1 (subst (λ m. IsGcd 1 m 1) (sym (nothing_left n)) (IsGcd-from_zero 1 0 refl)) };
  small = record { n_small = low; d_small = omega arith };
}

-- ---- a leg is begun from its instant on
module _ (n : ℕ) (m : Moment) (low : n < 2 ^ 31) (canonical : IsCanonical m.at) where
  abbrev side : Sign
  side = sign_at_instant (line (pos n) (pos 1)) m.at

  own : IsCanonical (whole n)
  own = whole_canonical n (omega (arith, low))

  not_sooner : (s : Sign) → side ≡ s → is_not_minus s ≡ true → ¬ (IsEarlier m (just_at (whole n)))
  not_sooner Minus e h sooner = absurd cc
  not_sooner Zero e h (inl less) = not_less_itself (whole n) (subst (λ (w : Shape). IsLess w (whole n)) (fraction_itself (pos n) (pos 1) own.form m.at canonical.form e) less)
  not_sooner Plus e h (inl less) = not_earlier_itself m (earlier_trans m (just_at (whole n)) m canonical.form own.form canonical.form (inl less) (inl (above_fraction (pos n) (pos 1) own.form m.at canonical.form e)))
  not_sooner s e h (inr same) = absurd (let clash : At ≡ After = same.2 in cc)

  sooner : (s : Sign) → side ≡ s → is_not_minus s ≡ false → IsEarlier m (just_at (whole n))
  sooner Minus e h = inl (below_fraction (pos n) (pos 1) own.form m.at canonical.form e)
  sooner Zero e h = absurd cc
  sooner Plus e h = absurd cc

pub legs_begin_in_time : LegsBeginInTime
legs_begin_in_time leg m low canonical = (
  λ begun. not_sooner leg.from m low canonical (side leg.from m low canonical) refl begun,
  λ since. by_test (is_begun leg m) refl since,
)
  where
    by_test : (b : Bool) → is_begun leg m ≡ b → ¬ (IsEarlier m (beginning leg)) → IsTrue (is_begun leg m)
    by_test true e since = e
    by_test false e since = absurd (since (sooner leg.from m low canonical (side leg.from m low canonical) refl e))

-- ---- legs that rise
-- a whole instant is before each greater one
pub whole_order : (a b : ℕ) → a < b → b ≤ 2 ^ 31 → IsEarlier (just_at (whole a)) (just_at (whole b))
whole_order a b less low =
    let sign = line_at_fraction (pos b) (pos 1) (pos a) (pos 1) refl in
    let plus : sign_of (pos 1 *ℤ pos b -ℤ pos a *ℤ pos 1) ≡ Plus = sign_in Plus (pos 1 *ℤ pos b -ℤ pos a *ℤ pos 1) (omega (arith, ints, less)) in
    inl (above_fraction (pos a) (pos 1) (whole_canonical a (omega (arith, less, low))).form (whole b) (whole_canonical b low).form (sign ∙ plus))

pub sooner_through : (a b c : Leg) → is_sooner a b ≡ true → is_sooner b c ≡ true → is_sooner a c ≡ true
sooner_through a b c h k = grind (arith, nat_tests, h, k)

-- before its instant a leg isn't begun
pub unbegun_before : (l : Leg) (m : Moment) → IsFair l → IsCanonical m.at → IsEarlier m (beginning l) → is_begun l m ≡ false
unbegun_before l m fair canonical sooner = by_test (is_begun l m) refl
  where
    by_test : (t : Bool) → is_begun l m ≡ t → is_begun l m ≡ false
    by_test false e = e
    by_test true e = absurd ((legs_begin_in_time l m fair.soon canonical).0 e sooner)

pub before_unbegun : (l : Leg) (m : Moment) → IsFair l → IsCanonical m.at → is_begun l m ≡ false → IsEarlier m (beginning l)
before_unbegun l m fair canonical out = sooner l.from m fair.soon canonical (side l.from m fair.soon canonical) refl out

pub own_canonical : (l : Leg) → IsFair l → IsCanonical (beginning l).at
own_canonical l fair = whole_canonical l.from (let low = fair.soon in omega (arith, low))

module _ (m : Moment) (canonical : IsCanonical m.at) where
  -- a leg that begins later than one that isn't begun isn't begun
  later_unbegun : (a b : Leg) → IsFair a → IsFair b → is_sooner a b ≡ true → is_begun a m ≡ false → is_begun b m ≡ false
  later_unbegun a b fair fair_too rises out =
      let low = fair_too.soon in
      unbegun_before b m fair_too canonical
      (earlier_trans m (beginning a) (beginning b) canonical.form (own_canonical a fair).form (own_canonical b fair_too).form (before_unbegun a m fair canonical out)
      (whole_order a.from b.from (grind (arith, nat_tests, rises)) (omega (arith, low))))

  -- so of legs that rise none is begun where the first isn't
  pub none_begun : (l : Leg) (ls : List Leg) → All IsFair (l ∷ ls) → IsChain is_sooner (l ∷ ls) → is_begun l m ≡ false → (k : Leg) → Contains ls k → is_begun k m ≡ false
  none_begun l ls fair rising out k there =
      later_unbegun l k (All-head IsFair l ls fair) (All-contains IsFair ls k (All-tail IsFair l ls fair) there) (chain_first is_sooner sooner_through l ls rising k there) out

-- where none of these legs is begun, the motion before them stays, and all of them are left
module _ (m : Moment) where
  pub stays : (c : Course) (ls : List Leg) → ((k : Leg) → Contains ls k → is_begun k m ≡ false) → last_begun c ls m ≡ c
  stays c [] none = refl
  stays c (l ∷ ls) none = ap (λ t. last_begun (cond t l.motion c) ls m) (none l (contains_head l ls)) ∙ stays c ls (λ k there. none k (contains_tail l k ls there))

  abbrev pub is_left : Leg → Bool
  is_left l = not (is_begun l m)

  pub all_left : (ls : List Leg) → ((k : Leg) → Contains ls k → is_begun k m ≡ false) → filter is_left ls ≡ ls
  all_left [] none = refl
  all_left (l ∷ ls) none = ap (λ t. if not t then l ∷ filter is_left ls else filter is_left ls) (none l (contains_head l ls)) ∙ ap (λ ks. l ∷ ks) (all_left ls (λ k there. none k (contains_tail l k ls there)))
