-- What is left of paths.
use Rattle.std.proofs.Common.{◌≡◌, refl, sym, ap, ap₂, ◌∙◌, subst, List, [], ◌∷◌, suc, Bool, true, false, not, cond, All, filter}
use Rattle.std.specs.Prelude.{Option, Some, None, Contains, if◌then◌else◌}
use Rattle.std.proofs.lemmas.List.Elements.{All-filter, All-head, All-tail}
use Rattle.kin_num.specs.declared.instant.Moment.{Moment}
use Rattle.kin_num.specs.Canonical.{IsCanonical}
use Rattle.kin_num.specs.Order.{IsEarlier}
use Rattle.kin_num.proofs.MomentOrder.{not_earlier_trans}
use Rattle.kin_motion.specs.Course.{Course, IsSlow}
use Rattle.kin_motion.specs.Numbers.{IsChain}
use Rattle.kin_motion.specs.Plans.{Leg, Plan, is_begun, last_begun}
use Rattle.kin_motion.proofs.ListChains.{chain_tail, chain_first}
use Rattle.kin_algebra.proofs.Members.{contains_head}
use Rattle.kin_motion.proofs.SetLaws.{filter-sound}
use Rattle.kin_legs.specs.Paths.{beginning, is_sooner, IsUnbroken, IsFair, IsPath, ArePaths, left_of, plans_left, PathsAreLeft, PastLegsDontMatter}
use Rattle.kin_legs.proofs.BeginLaws.{all_left, is_left, legs_begin_in_time, none_begun, own_canonical, sooner_through, stays}

-- ---- what is left
unbroken_through : (c : Course) (l : Leg) (ls : List Leg) → IsUnbroken c (l ∷ ls) → IsUnbroken l.motion ls
unbroken_through c l ls h = h.1

module _ (now m : Moment) (here : IsCanonical now.at) (there : IsCanonical m.at) (not_before : ¬ (IsEarlier m now)) where
  -- a leg stays begun
  pub still_begun : (l : Leg) → IsFair l → is_begun l now ≡ true → is_begun l m ≡ true
  still_begun l fair e =
      (legs_begin_in_time l m fair.soon there).1 (not_earlier_trans (beginning l) now m (own_canonical l fair).form here.form there.form ((legs_begin_in_time l now fair.soon here).0 e) not_before)

  left_twice : (ls : List Leg) → All IsFair ls → filter (is_left m) (filter (is_left now) ls) ≡ filter (is_left m) ls
  left_twice [] fair = refl
  left_twice (l ∷ ls) fair = at (is_begun l now) refl (left_twice ls (All-tail IsFair l ls fair))
    where
      at : (t : Bool) → is_begun l now ≡ t → filter (is_left m) (filter (is_left now) ls) ≡ filter (is_left m) ls
          → filter (is_left m) (filter (is_left now) (l ∷ ls)) ≡ filter (is_left m) (l ∷ ls)
      at true e rest =
          ap (λ t. filter (is_left m) (if not t then l ∷ filter (is_left now) ls else filter (is_left now) ls)) e ∙ rest
          ∙ sym (ap (λ t. if not t then l ∷ filter (is_left m) ls else filter (is_left m) ls) (still_begun l (All-head IsFair l ls fair) e))
      at false e rest =
          ap (λ t. filter (is_left m) (if not t then l ∷ filter (is_left now) ls else filter (is_left now) ls)) e
          ∙ ap (λ (ks : List Leg). if is_left m l then l ∷ ks else ks) rest

  force_left : (c : Course) (ls : List Leg) → All IsFair ls → IsChain is_sooner ls → last_begun (last_begun c ls now) (filter (is_left now) ls) m ≡ last_begun c ls m
  force_left c [] fair rising = refl
  force_left c (l ∷ ls) fair rising = at (is_begun l now) refl (force_left l.motion ls (All-tail IsFair l ls fair) (chain_tail is_sooner l ls rising))
    where
      at : (t : Bool) → is_begun l now ≡ t → last_begun (last_begun l.motion ls now) (filter (is_left now) ls) m ≡ last_begun l.motion ls m
          → last_begun (last_begun c (l ∷ ls) now) (filter (is_left now) (l ∷ ls)) m ≡ last_begun c (l ∷ ls) m
      at true e rest =
          ap (λ t. last_begun (last_begun (cond t l.motion c) ls now) (if not t then l ∷ filter (is_left now) ls else filter (is_left now) ls) m) e ∙ rest
          ∙ sym (ap (λ t. last_begun (cond t l.motion c) ls m) (still_begun l (All-head IsFair l ls fair) e))
      at false e rest =
          let none = none_begun now here l ls fair rising e in
          ap (λ t. last_begun (last_begun (cond t l.motion c) ls now) (if not t then l ∷ filter (is_left now) ls else filter (is_left now) ls) m) e
          ∙ ap₂ (λ (d : Course) (ks : List Leg). last_begun d (l ∷ ks) m) (stays now c ls none) (all_left now ls none)

  left_later : (plan : Plan) → IsPath plan → left_of m (left_of now plan) ≡ left_of m plan
  left_later plan path = let first = force_left plan.first plan.legs path.fair path.rising in let rest = left_twice plan.legs path.fair in λ t. record { first = first t; legs = rest t }

  pub past_legs_dont_matter_here : (plans : List (Option Plan)) → ArePaths plans → plans_left m (plans_left now plans) ≡ plans_left m plans
  past_legs_dont_matter_here [] paths = refl
  past_legs_dont_matter_here (None ∷ plans) paths = ap (λ (ps : List (Option Plan)). None ∷ ps) (past_legs_dont_matter_here plans (record { each = λ i. paths.each (suc i) }))
  past_legs_dont_matter_here (Some plan ∷ plans) paths =
      ap₂ (λ (p : Plan) (ps : List (Option Plan)). Some p ∷ ps) (left_later plan (paths.each 0 plan refl)) (past_legs_dont_matter_here plans (record { each = λ i. paths.each (suc i) }))

pub past_legs_dont_matter : PastLegsDontMatter
past_legs_dont_matter plans now m paths here there not_before = past_legs_dont_matter_here now m here there not_before plans paths

-- ---- what is left of a path is a path
module _ {A : Type 0} (lt : A → A → Bool) (through : (x y z : A) → lt x y ≡ true → lt y z ≡ true → lt x z ≡ true) (p : A → Bool) where
  pub filtered_chain : (xs : List A) → IsChain lt xs → IsChain lt (filter p xs)
  filtered_chain [] rising = tt
  filtered_chain (x ∷ xs) rising = at (p x) (filtered_chain xs (chain_tail lt x xs rising))
    where
      in_front : (ys : List A) → IsChain lt ys → ((y : A) → Contains ys y → lt x y ≡ true) → IsChain lt (x ∷ ys)
      in_front [] chain first = tt
      in_front (y ∷ ys) chain first = (first y (contains_head y ys), chain)

      at : (t : Bool) → IsChain lt (filter p xs) → IsChain lt (if t then x ∷ filter p xs else filter p xs)
      at false rest = rest
      at true rest = in_front (filter p xs) rest (λ y there. chain_first lt through x xs rising y (filter-sound p xs y there).0)

module _ (m : Moment) (canonical : IsCanonical m.at) where
  unbroken_left : (c : Course) (ls : List Leg) → All IsFair ls → IsChain is_sooner ls → IsUnbroken c ls → IsUnbroken (last_begun c ls m) (filter (is_left m) ls)
  unbroken_left c [] fair rising h = tt
  unbroken_left c (l ∷ ls) fair rising h = at (is_begun l m) refl (unbroken_left l.motion ls (All-tail IsFair l ls fair) (chain_tail is_sooner l ls rising) h.1)
    where
      at : (t : Bool) → is_begun l m ≡ t → IsUnbroken (last_begun l.motion ls m) (filter (is_left m) ls) → IsUnbroken (last_begun c (l ∷ ls) m) (filter (is_left m) (l ∷ ls))
      at true e rest = subst (λ t. IsUnbroken (last_begun (cond t l.motion c) ls m) (if not t then l ∷ filter (is_left m) ls else filter (is_left m) ls)) (sym e) rest
      at false e rest =
          let none = none_begun m canonical l ls fair rising e in
          subst (λ t. IsUnbroken (last_begun (cond t l.motion c) ls m) (if not t then l ∷ filter (is_left m) ls else filter (is_left m) ls)) (sym e)
          (subst (λ (d : Course). IsUnbroken d (l ∷ filter (is_left m) ls)) (sym (stays m c ls none)) (subst (λ (ks : List Leg). IsUnbroken c (l ∷ ks)) (sym (all_left m ls none)) h))

  slow_left : (c : Course) (ls : List Leg) → All IsFair ls → IsSlow c → IsSlow (last_begun c ls m)
  slow_left c [] fair slow = slow
  slow_left c (l ∷ ls) fair slow = slow_left (cond (is_begun l m) l.motion c) ls (All-tail IsFair l ls fair) (at (is_begun l m))
    where
      at : (t : Bool) → IsSlow (cond t l.motion c)
      at true = (All-head IsFair l ls fair).slow
      at false = slow

pub paths_are_left : PathsAreLeft
paths_are_left plan m path canonical = record {
  slow = slow_left m canonical plan.first plan.legs path.fair path.slow;
  fair = All-filter (is_left m) IsFair plan.legs path.fair;
  rising = filtered_chain is_sooner sooner_through (is_left m) plan.legs path.rising;
  unbroken = unbroken_left m canonical plan.first plan.legs path.fair path.rising path.unbroken;
}
