-- What is seen where legs begin.
use Rattle.std.proofs.Common.{◌≡◌, ◌⊎◌, inl, inr, refl, sym, ap, ap₂, ◌∙◌, subst, arith, List, [], ◌∷◌, ℕ, zero, suc, ◌+◌, Bool, true, false, cond, ℤ, pos, All}
use Rattle.std.specs.Prelude.{Option, Some, None, option_map, Contains, ◌-ℤ◌}
use Rattle.std.proofs.lemmas.Bool.{both_ways}
use Rattle.std.proofs.lemmas.Option.{same_Some}
use Rattle.std.proofs.lemmas.Bool.Decides.{nat_tests}
use Rattle.std.proofs.lemmas.List.Elements.{All-contains, All-head, All-tail}
use Rattle.kin_num.specs.declared.instant.Moment.{Moment}
use Rattle.kin_num.specs.declared.instant.Phase.TheVariants.{At, After}
use Rattle.kin_num.specs.declared.instant.Phase.{Phase}
use Rattle.kin_num.specs.declared.instant.Shape.{Shape}
use Rattle.kin_num.specs.Canonical.{IsCanonical}
use Rattle.kin_num.specs.Instants.{sign_at_instant}
use Rattle.kin_num.specs.Order.{IsEarlier}
use Rattle.kin_num.proofs.MomentLaws.{total}
use Rattle.kin_motion.specs.Course.{Course, IsSlow, AreSlow, motion_of}
use Rattle.kin_motion.specs.Forms.{Linear, x_of_course, y_of_course}
use Rattle.kin_motion.specs.Numbers.{IsChain, filled_from}
use Rattle.kin_motion.specs.Plans.{Leg, Plan, is_begun, last_begun, motion_in_force, motions_in_force, plans_scene}
use Rattle.kin_motion.specs.Scene.{scene_at}
use Rattle.kin_motion.specs.Turning.{TurnsTo, AreEqualAt, HaveSamePlaces, just_at}
use Rattle.kin_motion.proofs.ListChains.{chain_tail, chain_first}
use Rattle.kin_motion.proofs.PlaceLaws.{scene_is_by_places}
use Rattle.kin_algebra.proofs.Members.{contains_head, contains_tail}
use Rattle.kin_algebra.proofs.Magnitudes.{difference_of_same}
use Rattle.kin_algebra.proofs.Ring.{by_ring, quotes}
use Rattle.kin_algebra.specs.Signs.{opposite_of}
use lib.IntN.{neg_ℤ}
use Rattle.kin_num.specs.Canonical.{IsCanonicalForm}
use Rattle.kin_num.specs.Quadratic.{Quadratic, linear}
use Rattle.kin_num.proofs.Constants.{constant_sign}
use Rattle.kin_num.proofs.SignLaws.{sign_at_instant-neg}
use Rattle.kin_legs.specs.Paths.{whole, beginning, is_sooner, IsLegOf, IsUnbroken, IsFair, ArePaths, plan_of, NoneBeginsBetween, LegsKeepScene}
use Rattle.kin_legs.proofs.BeginLaws.{before_unbegun, legs_begin_in_time, none_begun, own_canonical, sooner_through, stays, unbegun_before, whole_order}
use Rattle.kin_legs.proofs.LeftLaws.{paths_are_left, still_begun}

-- ---- equal places
equal_itself : (w : Shape) (p q : Linear) → IsCanonicalForm w → p ≡ q → AreEqualAt w p q
equal_itself w p q form e =
    let b = difference_of_same p.slope p.slope refl in
    let c = difference_of_same p.start p.start refl in
    subst (AreEqualAt w p) e (ap (λ (r : Quadratic). sign_at_instant r w) (λ t. linear (b t) (c t)) ∙ constant_sign (pos 0) w form)

other_way : (a b : ℤ) → b -ℤ a ≡ neg_ℤ (a -ℤ b)
other_way a b = by_ring (a ∷ b ∷ []) _ _ (search quotes depth 20) (search quotes depth 20) refl

equal_back : (w : Shape) (p q : Linear) → IsCanonicalForm w → AreEqualAt w p q → AreEqualAt w q p
equal_back w p q form e =
    let b = other_way p.slope q.slope in
    let c = other_way p.start q.start in
    ap (λ (r : Quadratic). sign_at_instant r w) (λ t. linear (b t) (c t)) ∙ sign_at_instant-neg (linear (p.slope -ℤ q.slope) (p.start -ℤ q.start)) w ∙ ap opposite_of e

-- ---- what is seen where legs begin
-- two motions have the same place at an instant
record AreTogether (w : Shape) (c d : Course) : Type 0 where
  x : AreEqualAt w (x_of_course (Some c)) (x_of_course (Some d))
  y : AreEqualAt w (y_of_course (Some c)) (y_of_course (Some d))

module _ (w : Shape) (canonical : IsCanonical w) (now : Moment) (here : IsCanonical now.at) (not_before : ¬ (IsEarlier (just_at w) now)) where
  together_itself : (c : Course) → AreTogether w c c
  together_itself c = record { x = equal_itself w (x_of_course (Some c)) (x_of_course (Some c)) canonical.form refl; y = equal_itself w (y_of_course (Some c)) (y_of_course (Some c)) canonical.form refl }

  turned : (c : Course) (l : Leg) → TurnsTo w l.motion.u l.motion.v c l.motion → AreTogether w c l.motion
  turned c l turns = record { x = turns.x_start; y = turns.y_start }

  abbrev NoneBetween : List Leg → Type 0
  NoneBetween ls = (l : Leg) → Contains ls l → IsEarlier now (beginning l) → ¬ (IsEarlier (beginning l) (just_at w))

  -- a leg that begins after now and not after the instant begins at it
  begins_at_it : (l : Leg) → IsFair l → ¬ (IsEarlier (beginning l) (just_at w)) → is_begun l (just_at w) ≡ true → w ≡ whole l.from
  begins_at_it l fair not_sooner begun = at (total (beginning l) (just_at w) (own_canonical l fair) canonical)
    where
      at : IsEarlier (beginning l) (just_at w) ⊎ (IsEarlier (just_at w) (beginning l) ⊎ (beginning l ≡ just_at w)) → w ≡ whole l.from
      at (inl sooner) = absurd (not_sooner sooner)
      at (inr (inl later)) = absurd ((legs_begin_in_time l (just_at w) fair.soon canonical).0 begun later)
      at (inr (inr same)) = sym (ap (λ (n : Moment). n.at) same)

  -- the motion of now and that of the instant have the same place there
  goes_on : (c : Course) (ls : List Leg) → All IsFair ls → IsChain is_sooner ls → IsUnbroken c ls → NoneBetween ls → AreTogether w (last_begun c ls now) (last_begun c ls (just_at w))
  goes_on c [] fair rising h none = together_itself c
  goes_on c (l ∷ ls) fair rising h none = at (is_begun l now) refl (is_begun l (just_at w)) refl (goes_on l.motion ls (All-tail IsFair l ls fair) (chain_tail is_sooner l ls rising) h.1 (λ k there. none k (contains_tail l k ls there)))
    where
      first_fair : IsFair l
      first_fair = All-head IsFair l ls fair

      by_tests : (s t : Bool) → is_begun l now ≡ s → is_begun l (just_at w) ≡ t → AreTogether w (last_begun (cond s l.motion c) ls now) (last_begun (cond t l.motion c) ls (just_at w)) → AreTogether w (last_begun c (l ∷ ls) now) (last_begun c (l ∷ ls) (just_at w))
      by_tests s t e f h = subst (λ b. AreTogether w (last_begun (cond b l.motion c) ls now) (last_begun c (l ∷ ls) (just_at w))) (sym e) (subst (λ b. AreTogether w (last_begun (cond s l.motion c) ls now) (last_begun (cond b l.motion c) ls (just_at w))) (sym f) h)

      at : (s : Bool) → is_begun l now ≡ s → (t : Bool) → is_begun l (just_at w) ≡ t → AreTogether w (last_begun l.motion ls now) (last_begun l.motion ls (just_at w)) → AreTogether w (last_begun c (l ∷ ls) now) (last_begun c (l ∷ ls) (just_at w))
      at true e true f rest = by_tests true true e f rest
      at true e false f rest = absurd (both_ways (is_begun l (just_at w)) f (still_begun now (just_at w) here canonical not_before l first_fair e))
      at false e false f rest =
          by_tests false false e f (subst (λ (d : Course). AreTogether w d (last_begun c ls (just_at w))) (sym (stays now c ls (none_begun now here l ls fair rising e)))
          (subst (AreTogether w c) (sym (stays (just_at w) c ls (none_begun (just_at w) canonical l ls fair rising f))) (together_itself c)))
      at false e true f rest =
          let it : w ≡ whole l.from = begins_at_it l first_fair (none l (contains_head l ls) (before_unbegun l now first_fair here e)) f in
          let none_later : (k : Leg) → Contains ls k → is_begun k (just_at w) ≡ false = λ k there. later_than_it k (All-contains IsFair ls k (All-tail IsFair l ls fair) there) it (chain_first is_sooner sooner_through l ls rising k there) in
          by_tests false true e f (subst (λ (d : Course). AreTogether w d (last_begun l.motion ls (just_at w))) (sym (stays now c ls (none_begun now here l ls fair rising e)))
          (subst (AreTogether w c) (sym (stays (just_at w) l.motion ls none_later)) (turned c l (subst (λ (v : Shape). TurnsTo v l.motion.u l.motion.v c l.motion) (sym it) h.0))))
        where
          later_than_it : (k : Leg) → IsFair k → w ≡ whole l.from → is_sooner l k ≡ true → is_begun k (just_at w) ≡ false
          later_than_it k fair_too it rises =
              let low = fair_too.soon in
              unbegun_before k (just_at w) fair_too canonical (subst (λ (v : Shape). IsEarlier (just_at v) (beginning k)) (sym it) (whole_order l.from k.from (grind (arith, nat_tests, rises)) (omega (arith, low))))

-- the motion of a number, by its plan
pub forced : (m : Moment) (plans : List (Option Plan)) (i : ℕ) → motion_of (motions_in_force plans m) i ≡ option_map (motion_in_force m) (plan_of plans i)
forced m [] i = refl
forced m (p ∷ plans) zero = refl
forced m (p ∷ plans) (suc i) = forced m plans i

pub same_live : (k : ℕ) (m n : Moment) (plans : List (Option Plan)) → filled_from k (motions_in_force plans m) ≡ filled_from k (motions_in_force plans n)
same_live k m n [] = refl
same_live k m n (Some plan ∷ plans) = ap (λ is. k ∷ is) (same_live (k + 1) m n plans)
same_live k m n (None ∷ plans) = same_live (k + 1) m n plans

module _ (plans : List (Option Plan)) (now : Moment) (w : Shape) (paths : ArePaths plans) (here : IsCanonical now.at) (canonical : IsCanonical w) (not_before : ¬ (IsEarlier (just_at w) now)) (none : NoneBeginsBetween now (just_at w) plans) where
  module _ (of_course : Option Course → Linear) (equal : (c d : Course) → AreTogether w c d → AreEqualAt w (of_course (Some d)) (of_course (Some c))) where
    by_plan : (i : ℕ) (p : Option Plan) → plan_of plans i ≡ p → AreEqualAt w (of_course (option_map (motion_in_force (just_at w)) p)) (of_course (option_map (motion_in_force now) p))
    by_plan i None e = equal_itself w (of_course None) (of_course None) canonical.form refl
    by_plan i (Some plan) e =
        let path = paths.each i plan e in
        equal _ _ (goes_on w canonical now here not_before plan.first plan.legs path.fair path.rising path.unbroken (λ l there. none l (record { number = i; plan = plan; is = e; there = there })))

    equal_places : (i : ℕ) → AreEqualAt w (of_course (motion_of (motions_in_force plans (just_at w)) i)) (of_course (motion_of (motions_in_force plans now) i))
    equal_places i =
        subst (λ (c : Option Course). AreEqualAt w (of_course c) (of_course (motion_of (motions_in_force plans now) i))) (sym (forced (just_at w) plans i))
        (subst (λ (c : Option Course). AreEqualAt w (of_course (option_map (motion_in_force (just_at w)) (plan_of plans i))) (of_course c)) (sym (forced now plans i)) (by_plan i (plan_of plans i) refl))

  same_places : HaveSamePlaces w (motions_in_force plans (just_at w)) (motions_in_force plans now)
  same_places = record { x = equal_places x_of_course (λ c d t. equal_back w (x_of_course (Some c)) (x_of_course (Some d)) canonical.form t.x); y = equal_places y_of_course (λ c d t. equal_back w (y_of_course (Some c)) (y_of_course (Some d)) canonical.form t.y) }

-- ---- where no leg begins, the motions stay
module _ (now m : Moment) where
  same_force : (c : Course) (ls : List Leg) → ((l : Leg) → Contains ls l → is_begun l m ≡ is_begun l now) → last_begun c ls m ≡ last_begun c ls now
  same_force c [] same = refl
  same_force c (l ∷ ls) same =
      ap (λ t. last_begun (cond t l.motion c) ls m) (same l (contains_head l ls)) ∙ same_force (cond (is_begun l now) l.motion c) ls (λ k there. same k (contains_tail l k ls there))

  same_motions : (plans : List (Option Plan)) → ((i : ℕ) (plan : Plan) (l : Leg) → plan_of plans i ≡ Some plan → Contains plan.legs l → is_begun l m ≡ is_begun l now) → motions_in_force plans m ≡ motions_in_force plans now
  same_motions [] same = refl
  same_motions (None ∷ plans) same = ap (λ (cs : List (Option Course)). None ∷ cs) (same_motions plans (λ i. same (suc i)))
  same_motions (Some plan ∷ plans) same = ap₂ (λ (c : Course) (cs : List (Option Course)). Some c ∷ cs) (same_force plan.first plan.legs (λ l. same 0 plan l refl)) (same_motions plans (λ i. same (suc i)))

pub legs_keep_scene : LegsKeepScene
legs_keep_scene plans now m paths here canonical not_before none = by_phase m.phase refl
  where
    at_instant : (n : Moment) → n ≡ just_at m.at → m ≡ n → plans_scene plans m ≡ scene_at (motions_in_force plans now) m
    at_instant n is same =
        let it : m ≡ just_at m.at = same ∙ is in
        let not_sooner : ¬ (IsEarlier (just_at m.at) now) = subst (λ (k : Moment). ¬ (IsEarlier k now)) it not_before in
        let none_sooner : NoneBeginsBetween now (just_at m.at) plans = subst (λ (k : Moment). NoneBeginsBetween now k plans) it none in
        subst (λ (k : Moment). plans_scene plans k ≡ scene_at (motions_in_force plans now) k) (sym it)
        (scene_is_by_places m.at (motions_in_force plans (just_at m.at)) (motions_in_force plans now) canonical (same_live 0 (just_at m.at) now plans) (same_places plans now m.at paths here canonical not_sooner none_sooner))

    -- just after an instant no leg begins
    begun_before : m.phase ≡ After → (i : ℕ) (plan : Plan) (l : Leg) → plan_of plans i ≡ Some plan → Contains plan.legs l → is_begun l m ≡ is_begun l now
    begun_before after i plan l is there = by_tests (is_begun l now) refl (is_begun l m) refl
      where
        fair : IsFair l
        fair = All-contains IsFair plan.legs l (paths.each i plan is).fair there

        at_it : is_begun l now ≡ false → is_begun l m ≡ true → IsEarlier (beginning l) m ⊎ (IsEarlier m (beginning l) ⊎ (beginning l ≡ m)) → ⊥
        at_it out begun (inl sooner) = none l (record { number = i; plan = plan; is = is; there = there }) (before_unbegun l now fair here out) sooner
        at_it out begun (inr (inl later)) = (legs_begin_in_time l m fair.soon canonical).0 begun later
        at_it out begun (inr (inr same)) = let clash : At ≡ After = ap (λ (k : Moment). k.phase) same ∙ after in cc

        by_tests : (s : Bool) → is_begun l now ≡ s → (t : Bool) → is_begun l m ≡ t → is_begun l m ≡ is_begun l now
        by_tests true e true f = f ∙ sym e
        by_tests false e false f = f ∙ sym e
        by_tests true e false f = absurd (both_ways (is_begun l m) f (still_begun now m here canonical not_before l fair e))
        by_tests false e true f = absurd (at_it e f (total (beginning l) m (own_canonical l fair) canonical))

    by_phase : (p : Phase) → m.phase ≡ p → plans_scene plans m ≡ scene_at (motions_in_force plans now) m
    by_phase At at = at_instant (just_at m.at) refl (λ t. record { at = m.at; phase = at t })
    by_phase After after = ap (λ (ms : List (Option Course)). scene_at ms m) (same_motions now m plans (begun_before after))

-- ---- legs and motions of paths
pub fair_leg : (plans : List (Option Plan)) → ArePaths plans → (l : Leg) → IsLegOf plans l → IsFair l
fair_leg plans paths l of_these = All-contains IsFair of_these.plan.legs l (paths.each of_these.number of_these.plan of_these.is).fair of_these.there

pub slow_in_force : (plans : List (Option Plan)) → ArePaths plans → (m : Moment) → IsCanonical m.at → AreSlow (motions_in_force plans m)
slow_in_force plans paths m canonical = record { each = λ i c is. at i c (plan_of plans i) refl (sym (forced m plans i) ∙ is) }
  where
    at : (i : ℕ) (c : Course) (p : Option Plan) → plan_of plans i ≡ p → option_map (motion_in_force m) (plan_of plans i) ≡ Some c → IsSlow c
    at i c None e is = absurd (let clash : None ≡ Some c = ap (option_map (motion_in_force m)) (sym e) ∙ is in cc)
    at i c (Some plan) e is = subst IsSlow (same_Some _ _ (ap (option_map (motion_in_force m)) (sym e) ∙ is)) (paths_are_left plan m (paths.each i plan e) canonical).slow
