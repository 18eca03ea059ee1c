-- The next leg, if one is left.
use Rattle.std.proofs.Common.{◌≡◌, ◌⊎◌, inl, inr, refl, sym, ap, ◌∙◌, subst, arith, List, [], ◌∷◌, ℕ, zero, suc, ◌≤◌, Bool, true, false}
use Rattle.std.specs.Prelude.{Option, Some, None, Contains}
use Rattle.std.proofs.lemmas.Bool.{both_ways, cases_lt}
use Rattle.std.proofs.lemmas.Option.{same_Some}
use Rattle.kin_num.specs.declared.instant.Moment.{Moment}
use Rattle.kin_motion.specs.Plans.{Leg, Plan, is_begun}
use Rattle.kin_algebra.proofs.Members.{contains_head, contains_tail, contains_none, contains_cases}
use Rattle.kin_legs.specs.Paths.{IsLegOf, plan_of}

-- ---- the next leg
module _ (now : Moment) where
  -- one of these legs that isn't begun now, and none of those that aren't begins sooner
  pub record IsNextOf (these : Leg → Type 0) (l : Leg) : Type 0 where
    pub one : these l
    pub out : is_begun l now ≡ false
    pub first : (k : Leg) → these k → is_begun k now ≡ false → l.from ≤ k.from

  -- all of these legs are begun, or one is the next
  abbrev pub HasNextOf : (Leg → Type 0) → Type 0
  HasNextOf these = ((k : Leg) → these k → is_begun k now ≡ true) ⊎ ((l : Leg) × IsNextOf these l)

  next_of_one : (l : Leg) → HasNextOf (λ k. l ≡ k)
  next_of_one l = at (is_begun l now) refl
    where
      at : (t : Bool) → is_begun l now ≡ t → HasNextOf (λ k. l ≡ k)
      at true e = inl (λ k same. subst (λ (j : Leg). is_begun j now ≡ true) same e)
      at false e = inr (l, record { one = refl; out = e; first = λ k same out. subst (λ (j : Leg). l.from ≤ j.from) same (omega arith) })

  module _ (a b c : Leg → Type 0) (from_a : (k : Leg) → a k → c k) (from_b : (k : Leg) → b k → c k) (to : (k : Leg) → c k → a k ⊎ b k) where
    first_of_both : (l : Leg) → c l → is_begun l now ≡ false → ((k : Leg) → a k → is_begun k now ≡ false → l.from ≤ k.from) → ((k : Leg) → b k → is_begun k now ≡ false → l.from ≤ k.from) → HasNextOf c
    first_of_both l one out first second = inr (l, record { one = one; out = out; first = λ k is. elim (to k is) [ inl h ↦ first k h | inr h ↦ second k h ] })

    next_of_both : HasNextOf a → HasNextOf b → HasNextOf c
    next_of_both (inl all) (inl others) = inl (λ k is. elim (to k is) [ inl h ↦ all k h | inr h ↦ others k h ])
    next_of_both (inr (l, next)) (inl others) = first_of_both l (from_a l next.one) next.out next.first (λ k h out. absurd (both_ways (is_begun k now) out (others k h)))
    next_of_both (inl all) (inr (l, next)) = first_of_both l (from_b l next.one) next.out (λ k h out. absurd (both_ways (is_begun k now) out (all k h))) next.first
    next_of_both (inr (l, next)) (inr (r, other)) = elim (cases_lt r.from l.from) [
      | inl less ↦ first_of_both r (from_b r other.one) other.out (λ k h out. let more = next.first k h out in omega (arith, less, more)) other.first
      | inr le ↦ first_of_both l (from_a l next.one) next.out next.first (λ k h out. let more = other.first k h out in omega (arith, le, more))
    ]

  next_in : (ls : List Leg) → HasNextOf (Contains ls)
  next_in [] = inl (λ k h. absurd (contains_none k h))
  next_in (l ∷ ls) = next_of_both (λ k. l ≡ k) (Contains ls) (Contains (l ∷ ls)) (λ k same. subst (Contains (l ∷ ls)) same (contains_head l ls)) (λ k. contains_tail l k ls) (λ k. contains_cases l k ls) (next_of_one l) (next_in ls)

pub next_leg : (now : Moment) (plans : List (Option Plan)) → HasNextOf now (IsLegOf plans)
next_leg now [] = inl (λ k h. absurd (let clash : None ≡ Some h.plan = h.is in cc))
next_leg now (None ∷ plans) = next_of_both now (IsLegOf plans) (λ k. ⊥) (IsLegOf (None ∷ plans)) (λ k h. record { number = suc h.number; plan = h.plan; is = h.is; there = h.there }) (λ k h. absurd h) (λ k h. inl (not_first h)) (next_leg now plans) (inl (λ k h. absurd h))
  where
    not_first : {k : Leg} (h : IsLegOf (None ∷ plans) k) → IsLegOf plans k
    not_first {k} h = at h.number refl
      where
        at : (i : ℕ) → h.number ≡ i → IsLegOf plans k
        at zero e = absurd (let clash : None ≡ Some h.plan = ap (plan_of (None ∷ plans)) (sym e) ∙ h.is in cc)
        at (suc i) e = record { number = i; plan = h.plan; is = ap (plan_of (None ∷ plans)) (sym e) ∙ h.is; there = h.there }
next_leg now (Some plan ∷ plans) = next_of_both now (Contains plan.legs) (IsLegOf plans) (IsLegOf (Some plan ∷ plans)) (λ k h. record { number = 0; plan = plan; is = refl; there = h }) (λ k h. record { number = suc h.number; plan = h.plan; is = h.is; there = h.there }) (λ k h. either h) (next_in now plan.legs) (next_leg now plans)
  where
    either : {k : Leg} (h : IsLegOf (Some plan ∷ plans) k) → Contains plan.legs k ⊎ IsLegOf plans k
    either {k} h = at h.number refl
      where
        at : (i : ℕ) → h.number ≡ i → Contains plan.legs k ⊎ IsLegOf plans k
        at zero e = let same : Some plan ≡ Some h.plan = ap (plan_of (Some plan ∷ plans)) (sym e) ∙ h.is in inl (subst (λ (p : Plan). Contains p.legs k) (sym (same_Some _ _ same)) h.there)
        at (suc i) e = inr (record { number = i; plan = h.plan; is = ap (plan_of (Some plan ∷ plans)) (sym e) ∙ h.is; there = h.there })
