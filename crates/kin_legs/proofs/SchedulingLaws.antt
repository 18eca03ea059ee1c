-- What a new leg asks of a plan, and what becomes of that with what is left.
use Rattle.std.proofs.Common.{◌≡◌, ◌⊎◌, inl, inr, refl, sym, ap, ◌∙◌, subst, arith, List, [], ◌∷◌, ◌++◌, ℕ, ◌<◌, ◌≤◌, ◌^◌, Bool, true, false, not, cond, ℤ, pos, All, filter}
use Rattle.std.specs.Prelude.{Contains, ◌↔◌, ◌+ℤ◌, ◌*ℤ◌, ◌-ℤ◌, if◌then◌else◌}
use Rattle.std.proofs.lemmas.Bool.{cases_lt}
use Rattle.std.proofs.lemmas.Bool.Decides.{nat_tests}
use Rattle.std.proofs.lemmas.Int.{ints}
use Rattle.std.proofs.lemmas.List.Elements.{All-append, All-cons, All-contains, All-nil, All-tail, filter-append}
use Rattle.kin_algebra.proofs.Magnitudes.{difference-turned}
use Rattle.kin_algebra.proofs.Members.{contains_cases, contains_head, contains_none, contains_tail}
use Rattle.kin_algebra.proofs.Ring.{by_ring, quotes}
use Rattle.kin_num.specs.declared.instant.Moment.{Moment}
use Rattle.kin_num.specs.Canonical.{IsCanonical}
use Rattle.kin_num.specs.Instants.{sign_at_instant}
use Rattle.kin_num.specs.Order.{IsEarlier}
use Rattle.kin_num.specs.Quadratic.{linear}
use Rattle.kin_num.proofs.FractionOrder.{on_line}
use Rattle.kin_num.proofs.MomentLaws.{through}
use Rattle.kin_instant.proofs.Zeros.{line-zero_at}
use Rattle.kin_motion.specs.Course.{Course}
use Rattle.kin_motion.specs.Numbers.{IsChain}
use Rattle.kin_motion.specs.Plans.{Leg, Plan, is_begun, last_begun}
use Rattle.kin_motion.specs.Turning.{IsNewStart, TurnsTo, just_at}
use Rattle.kin_motion.proofs.ListChains.{chain_tail}
use Rattle.kin_motion.proofs.SetLaws.{filter-sound, filter-complete}
use Rattle.kin_legs.specs.Joined.{with_leg}
use Rattle.kin_legs.specs.Paths.{whole, beginning, is_sooner, IsFair, IsPath, IsUnbroken, LeadsInto, left_of}
use Rattle.kin_legs.specs.Scheduling.{motion_after, last_motion, HasLegFrom, Continues, MayFollow, FollowsTooFast, OneContinues}
use Rattle.kin_legs.proofs.BeginLaws.{all_left, is_left, none_begun, unbegun_before, whole_canonical, whole_order}

-- ---- a plan goes on with one motion
-- at the instant n, what the change s of the speed gains is what the constant part gains
gained : (x s n : ℤ) → n *ℤ s ≡ ((x +ℤ s *ℤ n) -ℤ x) *ℤ pos 1
gained x s n = by_ring (x ∷ s ∷ n ∷ []) _ _ (search quotes depth 20) (search quotes depth 20) refl

new_start : (x u v : ℤ) (n : ℕ) → IsNewStart x u v (whole n) (x +ℤ (u -ℤ v) *ℤ pos n)
new_start x u v n =
    let k = x +ℤ (u -ℤ v) *ℤ pos n in
    ap (λ c. sign_at_instant (linear (u -ℤ v) c) (whole n)) (difference-turned x k) ∙ line-zero_at (k -ℤ x) (u -ℤ v) (pos n) (pos 1) (gained x (u -ℤ v) (pos n))

-- two constant parts at which it goes on are one
one_start : (x u v : ℤ) (n : ℕ) (k l : ℤ) → IsNewStart x u v (whole n) k → IsNewStart x u v (whole n) l → k ≡ l
one_start x u v n k l a b = back x k ∙ ap (λ z. x +ℤ z) (sym (gain k a) ∙ gain l b) ∙ sym (back x l)
  where
    gain : (k : ℤ) → IsNewStart x u v (whole n) k → pos n *ℤ (u -ℤ v) ≡ (k -ℤ x) *ℤ pos 1
    gain k new = on_line (k -ℤ x) (u -ℤ v) (pos n) (pos 1) (omega (arith, ints)) (sym (ap (λ c. sign_at_instant (linear (u -ℤ v) c) (whole n)) (difference-turned x k)) ∙ new)

    back : (x k : ℤ) → k ≡ x +ℤ (k -ℤ x) *ℤ pos 1
    back x k = by_ring (x ∷ k ∷ []) _ _ (search quotes depth 20) (search quotes depth 20) refl

pub one_continuation : (plan : Plan) (at : ℕ) (u v : ℤ) (a b : Course) → Continues plan at u v a → Continues plan at u v b → a ≡ b
one_continuation plan at u v a b p q =
    let old = last_motion plan in
    let x = one_start old.x old.u u at a.x b.x p.x_start q.x_start in
    let y = one_start old.y old.v v at a.y b.y p.y_start q.y_start in
    λ i. record { x = x i; y = y i; u = (p.u_is ∙ sym q.u_is) i; v = (p.v_is ∙ sym q.v_is) i }

pub one_continues : OneContinues
one_continues plan at u v low =
    let old = last_motion plan in
    let new : Course = record { x = old.x +ℤ (old.u -ℤ u) *ℤ pos at; y = old.y +ℤ (old.v -ℤ v) *ℤ pos at; u = u; v = v } in
    let goes : Continues plan at u v new = record { x_start = new_start old.x old.u u at; y_start = new_start old.y old.v v at; u_is = refl; v_is = refl } in
    (new, goes, λ other also. one_continuation plan at u v other new also goes)

-- ---- a plan has a leg from an instant on, or it has none
some_from : (at : ℕ) (ls : List Leg) → ((leg : Leg) × Contains ls leg × (at ≤ leg.from)) ⊎ ((leg : Leg) → Contains ls leg → ¬ (at ≤ leg.from))
some_from at [] = inr (λ leg there. absurd (contains_none leg there))
some_from at (l ∷ ls) = by_first (cases_lt l.from at) (some_from at ls)
  where
    by_first : (l.from < at) ⊎ (at ≤ l.from) → ((leg : Leg) × Contains ls leg × (at ≤ leg.from)) ⊎ ((leg : Leg) → Contains ls leg → ¬ (at ≤ leg.from))
        → ((leg : Leg) × Contains (l ∷ ls) leg × (at ≤ leg.from)) ⊎ ((leg : Leg) → Contains (l ∷ ls) leg → ¬ (at ≤ leg.from))
    by_first (inr from) rest = inl (l, contains_head l ls, from)
    by_first (inl less) (inl h) = inl (h.0, contains_tail l h.0 ls h.1, h.2)
    by_first (inl less) (inr none) = inr (λ leg there from. elim (contains_cases l leg ls there) [
      | inl same ↦ absurd (let first : at ≤ l.from = subst (λ (k : Leg). at ≤ k.from) (sym same) from in omega (arith, less, first))
      | inr later ↦ none leg later from
    ])

pub leg_from_or_not : (plan : Plan) (at : ℕ) → HasLegFrom plan at ⊎ ¬ (HasLegFrom plan at)
leg_from_or_not plan at = elim (some_from at plan.legs) [
  | inl has ↦ inl has
  | inr none ↦ inr (λ h. none h.0 h.1 h.2)
]

-- ---- a path with one leg more
rising_to : (ls : List Leg) (leg : Leg) → IsChain is_sooner ls → ((k : Leg) → Contains ls k → is_sooner k leg ≡ true) → IsChain is_sooner (ls ++ leg ∷ [])
rising_to [] leg rising sooner = tt
rising_to (l ∷ []) leg rising sooner = (sooner l (contains_head l []), tt)
rising_to (l ∷ k ∷ ls) leg rising sooner = (rising.0, rising_to (k ∷ ls) leg rising.1 (λ j there. sooner j (contains_tail l j (k ∷ ls) there)))

unbroken_to : (c : Course) (ls : List Leg) (leg : Leg) → IsUnbroken c ls → LeadsInto (motion_after c ls) leg → IsUnbroken c (ls ++ leg ∷ [])
unbroken_to c [] leg unbroken leads = (leads, tt)
unbroken_to c (l ∷ ls) leg unbroken leads = (unbroken.0, unbroken_to l.motion ls leg unbroken.1 leads)

pub extended_path : (now : Moment) (plan : Plan) (at : ℕ) (u v : ℤ) (motion : Course) → IsPath plan → at < 2 ^ 31 → MayFollow now plan at u v motion → IsPath (with_leg plan (record { from = at; motion = motion }))
extended_path now plan at u v motion path low may = record {
  slow = path.slow;
  fair = All-append IsFair plan.legs (leg ∷ []) path.fair (All-cons IsFair leg [] (record { soon = low; slow = may.slow }) (All-nil IsFair));
  rising = rising_to plan.legs leg path.rising before;
  unbroken = unbroken_to plan.first plan.legs leg path.unbroken leads;
}
  where
    leg : Leg
    leg = record { from = at; motion = motion }

    before : (k : Leg) → Contains plan.legs k → is_sooner k leg ≡ true
    before k there = elim (cases_lt k.from at) [
      | inl less ↦ grind (arith, nat_tests, less)
      | inr from ↦ absurd (may.after (k, there, from))
    ]

    leads : LeadsInto (last_motion plan) leg
    leads =
        subst (λ p. TurnsTo (whole at) p motion.v (last_motion plan) motion) (sym may.continues.u_is)
        (subst (λ q. TurnsTo (whole at) u q (last_motion plan) motion) (sym may.continues.v_is) may.continues)

-- ---- what is left of it
module _ (m : Moment) where
  force_extended : (c : Course) (ls : List Leg) (leg : Leg) → is_begun leg m ≡ false → last_begun c (ls ++ leg ∷ []) m ≡ last_begun c ls m
  force_extended c [] leg out = ap (λ t. cond t leg.motion c) out
  force_extended c (l ∷ ls) leg out = force_extended (cond (is_begun l m) l.motion c) ls leg out

  -- a leg that isn't begun is left at the end
  pub left_extended : (plan : Plan) (leg : Leg) → is_begun leg m ≡ false → left_of m (with_leg plan leg) ≡ with_leg (left_of m plan) leg
  left_extended plan leg out =
      let first = force_extended plan.first plan.legs leg out in
      let legs = filter-append (is_left m) plan.legs (leg ∷ []) ∙ ap (λ t. filter (is_left m) plan.legs ++ (if not t then leg ∷ [] else [])) out in
      λ i. record { first = first i; legs = legs i }

  module _ (canonical : IsCanonical m.at) where
    after_left : (c : Course) (ls : List Leg) → All IsFair ls → IsChain is_sooner ls → motion_after (last_begun c ls m) (filter (is_left m) ls) ≡ motion_after c ls
    after_left c [] fair rising = refl
    after_left c (l ∷ ls) fair rising = by_test (is_begun l m) refl (after_left l.motion ls (All-tail IsFair l ls fair) (chain_tail is_sooner l ls rising))
      where
        by_test : (t : Bool) → is_begun l m ≡ t → motion_after (last_begun l.motion ls m) (filter (is_left m) ls) ≡ motion_after l.motion ls
            → motion_after (last_begun c (l ∷ ls) m) (filter (is_left m) (l ∷ ls)) ≡ motion_after l.motion ls
        by_test true e rest = ap (λ t. motion_after (last_begun (cond t l.motion c) ls m) (if not t then l ∷ filter (is_left m) ls else filter (is_left m) ls)) e ∙ rest
        by_test false e rest =
            ap (λ t. motion_after (last_begun (cond t l.motion c) ls m) (if not t then l ∷ filter (is_left m) ls else filter (is_left m) ls)) e
            ∙ ap (λ (ks : List Leg). motion_after l.motion ks) (all_left m ls (none_begun m canonical l ls fair rising e))

    -- the last motion stays the last
    pub last_left : (plan : Plan) → IsPath plan → last_motion (left_of m plan) ≡ last_motion plan
    last_left plan path = after_left plan.first plan.legs path.fair path.rising

    -- a leg that begins at a later instant or after it is left
    not_begun : (at : ℕ) → IsEarlier m (just_at (whole at)) → (leg : Leg) → IsFair leg → at ≤ leg.from → is_begun leg m ≡ false
    not_begun at ahead leg fair from = unbegun_before leg m fair canonical (elim (cases_lt at leg.from) [
      | inl less ↦
          let low = fair.soon in
          through m (just_at (whole at)) (beginning leg) canonical (whole_canonical at (omega (arith, less, low))) (whole_canonical leg.from (omega (arith, low))) ahead (whole_order at leg.from less (omega (arith, low)))
      | inr also ↦ let same : at ≡ leg.from = omega (arith, from, also) in subst (λ n. IsEarlier m (just_at (whole n))) same ahead
    ])

    pub leg_from_left : (plan : Plan) (at : ℕ) → IsPath plan → IsEarlier m (just_at (whole at)) → HasLegFrom (left_of m plan) at ↔ HasLegFrom plan at
    leg_from_left plan at path ahead = (
      λ h. (h.0, (filter-sound (is_left m) plan.legs h.0 h.1).0, h.2),
      λ h. (h.0, filter-complete (is_left m) plan.legs h.0 h.1 (ap not (not_begun at ahead h.0 (All-contains IsFair plan.legs h.0 path.fair h.1) h.2)), h.2),
    )

    -- ---- what may follow a path is what may follow what is left of it
    module _ (plan : Plan) (path : IsPath plan) (at : ℕ) (u v : ℤ) where
      pub may_follow_left : (motion : Course) → MayFollow m (left_of m plan) at u v motion ↔ MayFollow m plan at u v motion
      may_follow_left motion = (
        λ h. record { ahead = h.ahead; after = λ has. h.after ((leg_from_left plan at path h.ahead).1 has); continues = subst (λ (c : Course). TurnsTo (whole at) u v c motion) (last_left plan path) h.continues; slow = h.slow },
        λ h. record { ahead = h.ahead; after = λ has. h.after ((leg_from_left plan at path h.ahead).0 has); continues = subst (λ (c : Course). TurnsTo (whole at) u v c motion) (sym (last_left plan path)) h.continues; slow = h.slow },
      )

      pub follows_too_fast_left : FollowsTooFast m (left_of m plan) at u v ↔ FollowsTooFast m plan at u v
      follows_too_fast_left = (
        λ h. record { ahead = h.ahead; after = λ has. h.after ((leg_from_left plan at path h.ahead).1 has); motion = h.motion; continues = subst (λ (c : Course). TurnsTo (whole at) u v c h.motion) (last_left plan path) h.continues; far = h.far },
        λ h. record { ahead = h.ahead; after = λ has. h.after ((leg_from_left plan at path h.ahead).0 has); motion = h.motion; continues = subst (λ (c : Course). TurnsTo (whole at) u v c h.motion) (sym (last_left plan path)) h.continues; far = h.far },
      )
