-- The table of the proofs of what changes the points: numbers are in range, and a change has one cause of refusal or one outcome at most.
use Rattle.std.proofs.Common.{◌≡◌, inl, inr, ℕ, ◌<◌, ◌≤◌, ◌^◌, true, false, ℤ, List, Option, Some, sym, ap, ◌∙◌, subst, arith}
use Rattle.std.specs.Prelude.{is_some, IsFalse}
use Rattle.std.proofs.lemmas.Option.{same_Some}
use Rattle.kin_num.specs.declared.instant.Moment.{Moment}
use Rattle.kin_num.specs.declared.instant.Phase.TheVariants.{At, After}
use Rattle.kin_num.specs.Canonical.{IsCanonical}
use Rattle.kin_motion.specs.Course.{Course, motion_limit}
use Rattle.kin_motion.specs.Plans.{Plan, motion_in_force}
use Rattle.kin_motion.specs.Turning.{TurnsTo, IsNotWhole, IsOutOfBounds}
use Rattle.kin_motion.proofs.TurningLaws.{one_turn}
use Rattle.kin_legs.specs.Joined.{with_leg}
use Rattle.kin_legs.specs.Paths.{lasting}
use Rattle.kin_legs.specs.Scheduling.{Continues}
use Rattle.kin_legs.proofs.SchedulingLaws.{one_continuation}
use Rattle.kin_script.specs.declared.refusal.Refusal.{Refusal}
use Rattle.kin_script.specs.Changes.{PointChange, enters, leaves, restarts, turns, schedules, insert_of, remove_of, replace_of, turn_of, leg_of, IsSlowVelocity, IsRefusedTurn, IsRefusedLeg, IsRefusedChange, IsTurned, IsScheduled, ChangesTo}
use Rattle.kin_script.specs.Lines.{Word}
use Rattle.kin_script.specs.Ranges.{IsCommandInRange}
use Rattle.kin_script.specs.Words.{instant_at, velocity_at}
use Rattle.kin_script.proofs.EachGiven.{Each, each_one, each_last, each_then}
use Rattle.kin_script.proofs.WordRanges.{natural_at_range, integer_at_range, motion_range, number_range}

-- ---- its numbers
instant_range : (ws : List Word) → Each (λ n. n.0 < 2 ^ 31) (instant_at ws)
unfolding instant_at
instant_range ws n e = below n.0 (natural_at_range 0 2147483647 ws n e).1
  where
    below : (n : ℕ) → n ≤ 2147483647 → n < 2 ^ 31
    below n h = omega (arith, h)

velocity_range : (ws : List Word) → Each (λ w. IsSlowVelocity w.0.0 w.0.1) (velocity_at ws)
unfolding velocity_at
velocity_range ws =
    each_then _ _ _ _ (integer_at_range motion_limit ws) (λ u hu.
    each_then _ _ _ _ (integer_at_range motion_limit u.1) (λ v hv.
    each_one _ _ (record { u_small = hu; v_small = hv })))

pub insert_range : (size : ℕ) (ws : List Word) → Each (IsCommandInRange size) (insert_of size ws)
unfolding insert_of
insert_range size ws =
    each_then _ _ _ _ (number_range size ws) (λ n h.
    each_then _ _ _ _ (motion_range n.1) (λ m k.
    each_last _ _ m.1 (h, k)))

pub remove_range : (size : ℕ) (ws : List Word) → Each (IsCommandInRange size) (remove_of size ws)
unfolding remove_of
remove_range size ws = each_then _ _ _ _ (number_range size ws) (λ n h. each_last _ _ n.1 h)

pub replace_range : (size : ℕ) (ws : List Word) → Each (IsCommandInRange size) (replace_of size ws)
unfolding replace_of
replace_range size ws =
    each_then _ _ _ _ (number_range size ws) (λ n h.
    each_then _ _ _ _ (motion_range n.1) (λ m k.
    each_last _ _ m.1 (h, k)))

pub turn_range : (size : ℕ) (ws : List Word) → Each (IsCommandInRange size) (turn_of size ws)
unfolding turn_of
turn_range size ws =
    each_then _ _ _ _ (number_range size ws) (λ n h.
    each_then _ _ _ _ (velocity_range n.1) (λ w k.
    each_last _ _ w.1 (h, k)))

pub leg_range : (size : ℕ) (ws : List Word) → Each (IsCommandInRange size) (leg_of size ws)
unfolding leg_of
leg_range size ws =
    each_then _ _ _ _ (number_range size ws) (λ n h.
    each_then _ _ _ _ (instant_range n.1) (λ t l.
    each_then _ _ _ _ (velocity_range t.1) (λ w k.
    each_last _ _ w.1 (h, l, k))))

-- ---- one cause
not_both : (m : Moment) (u v : ℤ) (old : Course) → IsNotWhole m u v old → IsOutOfBounds m u v old → ⊥
not_both m u v old (inl after) out = absurd (let clash : At ≡ After = sym out.0 ∙ after in cc)
not_both m u v old (inr none) out = none out.1.0 out.1.1

one_refused_turn : (m : Moment) (u v : ℤ) (old : Course) (r q : Refusal) → IsRefusedTurn m u v old r → IsRefusedTurn m u v old q → r ≡ q
one_refused_turn m u v old r q (inl a) (inl b) = a.0 ∙ sym b.0
one_refused_turn m u v old r q (inl a) (inr b) = absurd (not_both m u v old a.1 b.1)
one_refused_turn m u v old r q (inr a) (inl b) = absurd (not_both m u v old b.1 a.1)
one_refused_turn m u v old r q (inr a) (inr b) = a.0 ∙ sym b.0

one_refused_leg : (m : Moment) (at : ℕ) (u v : ℤ) (old : Plan) (r q : Refusal) → IsRefusedLeg m at u v old r → IsRefusedLeg m at u v old q → r ≡ q
one_refused_leg m at u v old r q (inl a) (inl b) = a.0 ∙ sym b.0
one_refused_leg m at u v old r q (inl a) (inr (inl b)) = absurd (a.1 b.1)
one_refused_leg m at u v old r q (inl a) (inr (inr b)) = absurd (a.1 b.1.ahead)
one_refused_leg m at u v old r q (inr (inl a)) (inl b) = absurd (b.1 a.1)
one_refused_leg m at u v old r q (inr (inl a)) (inr (inl b)) = a.0 ∙ sym b.0
one_refused_leg m at u v old r q (inr (inl a)) (inr (inr b)) = absurd (b.1.after a.2)
one_refused_leg m at u v old r q (inr (inr a)) (inl b) = absurd (b.1 a.1.ahead)
one_refused_leg m at u v old r q (inr (inr a)) (inr (inl b)) = absurd (a.1.after b.2)
one_refused_leg m at u v old r q (inr (inr a)) (inr (inr b)) = a.0 ∙ sym b.0

live_not_absent : (now : Option Plan) (old : Plan) → now ≡ Some old → IsFalse (is_some now) → ⊥
live_not_absent now old is absent = let clash : true ≡ false = ap is_some (sym is) ∙ absent in cc

pub one_refused_change : (m : Moment) (now : Option Plan) (c : PointChange) (r q : Refusal) → IsRefusedChange m now c r → IsRefusedChange m now c q → r ≡ q
one_refused_change m now (enters motion) r q x y = x.0 ∙ sym y.0
one_refused_change m now leaves r q x y = x.0 ∙ sym y.0
one_refused_change m now (restarts motion) r q x y = x.0 ∙ sym y.0
one_refused_change m now (turns u v) r q (inl x) (inl y) = x.0 ∙ sym y.0
one_refused_change m now (turns u v) r q (inl x) (inr y) = absurd (live_not_absent now y.0 y.1 x.1)
one_refused_change m now (turns u v) r q (inr x) (inl y) = absurd (live_not_absent now x.0 x.1 y.1)
one_refused_change m now (turns u v) r q (inr x) (inr y) =
    let same = same_Some x.0 y.0 (sym x.1 ∙ y.1) in
    one_refused_turn m u v (motion_in_force m y.0) r q (subst (λ (old : Plan). IsRefusedTurn m u v (motion_in_force m old) r) same x.2) y.2
one_refused_change m now (schedules at u v) r q (inl x) (inl y) = x.0 ∙ sym y.0
one_refused_change m now (schedules at u v) r q (inl x) (inr y) = absurd (live_not_absent now y.0 y.1 x.1)
one_refused_change m now (schedules at u v) r q (inr x) (inl y) = absurd (live_not_absent now x.0 x.1 y.1)
one_refused_change m now (schedules at u v) r q (inr x) (inr y) =
    let same = same_Some x.0 y.0 (sym x.1 ∙ y.1) in
    one_refused_leg m at u v y.0 r q (subst (λ (old : Plan). IsRefusedLeg m at u v old r) same x.2) y.2

-- ---- one outcome
turned_once : (m : Moment) (u v : ℤ) (now a b : Option Plan) → IsCanonical m.at → IsTurned m u v now a → IsTurned m u v now b → a ≡ b
turned_once m u v now a b canonical s t =
    let same = same_Some s.old t.old (sym s.was ∙ t.was) in
    let new = one_turn m.at u v (motion_in_force m t.old) s.new t.new canonical (subst (λ (old : Plan). TurnsTo m.at u v (motion_in_force m old) s.new) same s.same_place) t.same_place in
    s.is ∙ ap (λ (c : Course). Some (lasting c)) new ∙ sym t.is

scheduled_once : (m : Moment) (at : ℕ) (u v : ℤ) (now a b : Option Plan) → IsScheduled m at u v now a → IsScheduled m at u v now b → a ≡ b
scheduled_once m at u v now a b s t =
    let same = same_Some s.old t.old (sym s.was ∙ t.was) in
    let new = one_continuation t.old at u v s.new t.new (subst (λ (old : Plan). Continues old at u v s.new) same s.follows.continues) t.follows.continues in
    s.is
    ∙ ap (λ (old : Plan). Some (with_leg old (record { from = at; motion = s.new }))) same
    ∙ ap (λ (c : Course). Some (with_leg t.old (record { from = at; motion = c }))) new
    ∙ sym t.is

pub one_change : (m : Moment) (now : Option Plan) (c : PointChange) (a b : Option Plan) → IsCanonical m.at → ChangesTo m now c a → ChangesTo m now c b → a ≡ b
one_change m now (enters motion) a b canonical x y = x ∙ sym y
one_change m now leaves a b canonical x y = x ∙ sym y
one_change m now (restarts motion) a b canonical x y = x ∙ sym y
one_change m now (turns u v) a b canonical x y = turned_once m u v now a b canonical x y
one_change m now (schedules at u v) a b canonical x y = scheduled_once m at u v now a b x y
