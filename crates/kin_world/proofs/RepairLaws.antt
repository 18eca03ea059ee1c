-- One structure after another is repaired, and the others are as they were.
use Rattle.kin_world.proofs.Vocabulary.{subst, ◌≡◌, ◌≢◌, ◌⊎◌, inl, inr, refl, sym, ap, ◌∙◌, arith, ℕ, ◌+◌, ◌-◌, ◌^◌, ◌<◌, ◌≤◌, List, [], length, slice_get, slice_set, Some, true, Contains, IsTrue, cases_Bool, cases_eq, All-contains, contains_none, get_within}
use Rattle.kin_world.proofs.Vocabulary.{slice_get_within, same_Some, Certificate, IsKeepFact, owned_by, Holds, Scene, scene_at, ListsExactly, Placed, Keep, exactly_in_words, exactly_none, IsReal, real_at, live_fits, Facts, LiveFact, HasFactsOf, timed_holds}
use Rattle.kin_world.proofs.Vocabulary.{placed_facts, hull_before, one_hull, HasNeeds, IsGroundedIn, AreBoxed, HasGoneOn, HasGoneOver, HasTimedNew, HasUpdated, IsIdle, IsInOrder, IsInPlace, IsRepaired, IsSettledFor, IsSound, IsUnderRepair, ListsWaiting}
use Rattle.kin_world.proofs.Vocabulary.{Stage, sight, told_to, Structure}
use Rattle.std.specs.Prelude.{take, zero, suc, ◌∷◌}
use Rattle.kin_world.specs.Kinds.{HasMembers, IsFor}
use Rattle.kin_world.specs.Structures.{AreFailing, MaySettle}
use Rattle.kin_algebra.specs.declared.sign.Sign.{Sign}
use Rattle.kin_algebra.specs.declared.sign.Sign.TheVariants.{Minus, Zero, Plus}
use Rattle.kin_motion.specs.Agreements.{FitsSize}
use Rattle.kin_motion.specs.declared.keep.Keep.TheVariants as keep
use Rattle.kin_motion.specs.Merges.{IsHullFact}
use Rattle.kin_motion.specs.Numbers.{IsIn}
use Rattle.kin_diameter.specs.Diameter.{Diameter as FarthestPair}
use Rattle.kin_hull.specs.Hulls.{Hull as KinHull, IsHullAtRest, IsSettledKinHull}
use Rattle.kin_world.specs.declared.structure.Structure.TheVariants.{Order, Extreme, Hull, Closest, Range, Nearest, Diameter, Boxes}
use Rattle.kin_world.proofs.InOrder.{replaced, restated, timed_new}
use Rattle.kin_world.proofs.StructureLaws.{all_from_each, grounded_where, settled_facts, settled_holds, settled_where_hold}

-- where nothing is new nothing was made
pub same_facts : (table : Facts) → table.made ≤ 2 ^ 64 - 1 → HasTimedNew table table
same_facts table few = record { born = []; exactly = exactly_none _ (λ c new. new.1 new.0); count = omega (arith, few) }

-- what is among the first is below, and what is below is among the first
get_taken : {A : Type 0} (xs : List A) (n m : ℕ) (x : A) → slice_get (take n xs) m ≡ Some x → (m < n) × (slice_get xs m ≡ Some x)
get_taken [] zero m x e = absurd cc
get_taken [] (suc n) m x e = absurd cc
get_taken (y ∷ ys) zero m x e = absurd cc
get_taken (y ∷ ys) (suc n) zero x e = (omega arith, e)
get_taken (y ∷ ys) (suc n) (suc m) x e = let h = get_taken ys n m x e in let less = h.0 in (omega (arith, less), h.1)

taken_get : {A : Type 0} (xs : List A) (n m : ℕ) (x : A) → m < n → slice_get xs m ≡ Some x → slice_get (take n xs) m ≡ Some x
taken_get xs zero m x less e = absurd (omega (arith, less))
taken_get [] (suc n) m x less e = absurd cc
taken_get (y ∷ ys) (suc n) zero x less e = e
taken_get (y ∷ ys) (suc n) (suc m) x less e = taken_get ys n m x (omega (arith, less)) e

-- a sign is another one or not
same_or_other : (a b : Sign) → (a ≡ b) ⊎ (a ≢ b)
same_or_other Minus Minus = inl refl
same_or_other Minus Zero = inr (λ e. cc)
same_or_other Minus Plus = inr (λ e. cc)
same_or_other Zero Minus = inr (λ e. cc)
same_or_other Zero Zero = inl refl
same_or_other Zero Plus = inr (λ e. cc)
same_or_other Plus Minus = inr (λ e. cc)
same_or_other Plus Zero = inr (λ e. cc)
same_or_other Plus Plus = inl refl

-- where none of these facts fails they all hold
pub none_fails : (s : Scene) (which : Placed → Type 0) (failed : List Placed) → failed ≡ [] → ListsExactly failed (λ p. which p × ¬ (Holds s p.fact)) → (p : Placed) → which p → Holds s p.fact
none_fails s which failed none listed p there = elim (same_or_other (s.sign p.fact.form) p.fact.sign) [
  | inl holds ↦ holds
  | inr fails ↦ absurd (contains_none p (subst (λ (fs : List Placed). Contains fs p) none ((listed.each p).1 (there, fails))))
]

-- ---- the facts that wait
-- those of a structure are its facts that don't hold
pub waiting_fail : {is_fine : ℕ → Keep → Structure → Type 0} {s : Stage} → IsInOrder is_fine s → (k : ℕ) (facts failed : List Placed) → HasFactsOf s.table.live k facts → ListsWaiting k s.table.live failed
    → ListsExactly failed (λ p. Contains facts p × ¬ (Holds (sight s) p.fact))
waiting_fail {is_fine} {s} o k facts failed tabled h = exactly_in_words failed _ _ (λ p. (to p, from p)) h
  where
    to : (p : Placed) → ((l : LiveFact) × Contains s.table.live l × IsTrue l.waits × (l.certificate ≡ owned_by k p)) → Contains facts p × ¬ (Holds (sight s) p.fact)
    to p (l, there, waits, is) = ((tabled p).1 (l, there, is), subst (λ (c : Certificate). ¬ (Holds (sight s) c.placed.fact)) is ((o.timely l there).failed waits))

    from : (p : Placed) → Contains facts p × ¬ (Holds (sight s) p.fact) → (l : LiveFact) × Contains s.table.live l × IsTrue l.waits × (l.certificate ≡ owned_by k p)
    from p (there, fails) =
        let l = (tabled p).0 there in
        elim (cases_Bool l.0.waits) [
          | inl waits ↦ (l.0, l.1, waits, l.2)
          | inr not ↦ absurd (fails (subst (λ (c : Certificate). Holds (sight s) c.placed.fact) l.2 (timed_holds (scene_at s.motions) s.moment o.canonical l.0 ((o.timely l.0 l.1).timed not))))
        ]

-- a fact that waits isn't one of a structure that is settled now
pub given_leaves : {is_fine : ℕ → Keep → Structure → Type 0} {s : Stage} → IsInOrder is_fine s → (keep : Keep) (after : Structure) → IsSettledFor s.size keep (sight s) after
    → (l : LiveFact) → Contains s.table.live l → l.waits ≡ true → ¬ (Contains (placed_facts after) l.certificate.placed)
given_leaves {is_fine} {s} o keep after settled l there waits kept =
    (o.timely l there).failed waits (All-contains (λ (p : Placed). Holds (sight s) p.fact) (placed_facts after) l.certificate.placed (settled_holds s.size keep (sight s) after settled) kept)

-- at the start each box has what fails of its structure
pub boxed_waiting : {before : Scene} {s : Stage} → IsUnderRepair 0 before s → (boxes : List (List Placed)) → ((j : ℕ) → j < length s.structures → ListsWaiting j s.table.live (told_to boxes j)) → AreBoxed before s boxes
boxed_waiting {before} {s} under boxes waiting j keep kept =
    let low : j < length s.structures = subst (λ n. j < n) (sym under.in_order.count) (slice_get_within s.keeps j keep kept) in
    let st = get_within s.structures j low in
    let place = under.in_order.each j keep st.0 kept st.1 in
    let exact = settled_facts s.size keep before st.0 (place.fine.ahead (omega arith)) in
    exactly_in_words (told_to boxes j) _ _ (λ p. (λ h. ((exact.each p).0 h.0, h.1), λ h. ((exact.each p).1 h.0, h.1)))
    (waiting_fail under.in_order j (placed_facts st.0) (told_to boxes j) place.tabled (waiting j low))

-- where all have been gone over each is settled now, so no fact waits
pub sound_at_end : {before : Scene} {s : Stage} {k : ℕ} → IsUnderRepair k before s → length s.structures ≤ k → IsSound s
sound_at_end {before} {s} {k} under all = record {
  in_order = restated under.in_order (λ j keep st kept there was. settled j keep st there was);
  none_waits = λ l there.
      let st = get_within s.structures l.certificate.structure (under.in_order.owned l there) in
      let keep = get_within s.keeps l.certificate.structure (subst (λ n. l.certificate.structure < n) under.in_order.count (under.in_order.owned l there)) in
      let place = under.in_order.each l.certificate.structure keep.0 st.0 keep.1 st.1 in
      elim (cases_Bool l.waits) [
        | inl waits ↦ absurd (given_leaves under.in_order keep.0 st.0 (settled l.certificate.structure keep.0 st.0 st.1 place) l there waits ((place.tabled l.certificate.placed).1 (l, there, refl)))
        | inr not ↦ not
      ];
}
  where
    settled : (j : ℕ) (keep : Keep) (st : Structure) → slice_get s.structures j ≡ Some st → IsInPlace (HasGoneOver s.size k before (sight s)) s.table.live j keep st → IsSettledFor s.size keep (sight s) st
    settled j keep st there was = let low : j < length s.structures = slice_get_within s.structures j st there in was.fine.done (omega (arith, low, all))

-- ---- what a structure is made of
-- the structure of a hull's keep is a hull
is_hull : (size : ℕ) (st : Structure) → IsFor size keep.Hull st → (hull : KinHull) × (st ≡ Hull hull)
is_hull size (Order k) kind = absurd (let clash : keep.Hull ≡ keep.Order k.dx k.dy = kind.0 in cc)
is_hull size (Extreme t) kind = absurd (let clash : keep.Hull ≡ keep.Extreme t.key.dx t.key.dy = kind.0 in cc)
is_hull size (Hull h) kind = (h, refl)
is_hull size (Closest k) kind = absurd (let clash : keep.Hull ≡ keep.Closest = kind.0 in cc)
is_hull size (Range r) kind = absurd (let clash : keep.Hull ≡ keep.Range = kind.0 in cc)
is_hull size (Nearest k) kind = absurd (let clash : keep.Hull ≡ keep.Nearest = kind.0 in cc)
is_hull size (Diameter k) kind = absurd (let clash : keep.Hull ≡ keep.Diameter = kind.0 in cc)
is_hull size (Boxes b) kind = absurd (let clash : keep.Hull ≡ keep.Boxes b.by_x.rank.width b.by_y.rank.width = kind.0 in cc)

module _ {size k : ℕ} {before now : Scene} {s : Stage} (o : IsInOrder (HasGoneOver size k before now) s) where
  -- the structure of a keep among those that were gone over
  at_place : (j : ℕ) (keep : Keep) → slice_get s.keeps j ≡ Some keep → (st : Structure) × (slice_get s.structures j ≡ Some st) × HasGoneOver size k before now j keep st
  at_place j keep kept =
      let st = get_within s.structures j (subst (λ n. j < n) (sym o.count) (slice_get_within s.keeps j keep kept)) in
      (st.0, st.1, (o.each j keep st.0 kept st.1).fine)

  -- a hull among the first k structures is settled now
  hull_settled : (j : ℕ) (hull : KinHull) → slice_get (take k s.structures) j ≡ Some (Hull hull) → IsHullAtRest hull × IsSettledKinHull hull now
  hull_settled j hull there =
      let taken = get_taken s.structures k j (Hull hull) there in
      let keep = get_within s.keeps j (subst (λ n. j < n) o.count (slice_get_within s.structures j (Hull hull) taken.1)) in
      let settled = (o.each j keep.0 (Hull hull) keep.1 taken.1).fine.done taken.0 in
      (settled.rest, settled.settled)

  -- what the next structure is made of has been gone over
  pub needs_met : (kept : Keep) (st : Structure) → slice_get s.keeps k ≡ Some kept → IsFor s.size kept st → HasNeeds now (take k s.structures) st
  needs_met kept (Order x) there kind = tt
  needs_met kept (Extreme x) there kind = tt
  needs_met kept (Hull x) there kind = tt
  needs_met kept (Closest x) there kind = tt
  needs_met kept (Range x) there kind = tt
  needs_met kept (Nearest x) there kind = tt
  needs_met kept (Boxes x) there kind = tt
  needs_met kept (Diameter x) there kind = record { some = some; settled = hull_settled }
    where
      some : (n : ℕ) × (hull : KinHull) × (slice_get (take k s.structures) n ≡ Some (Hull hull))
      some =
          let h = hull_before s.keeps o.fit.keepable.few k (there ∙ ap (λ (y : Keep). Some y) kind.0) in
          let at = at_place h.0 keep.Hull h.2 in
          let is = is_hull size at.0 (at.2.done h.1).kind in
          (h.0, is.0, taken_get s.structures k h.0 at.0 h.1 at.1 ∙ ap (λ (y : Structure). Some y) is.1)

-- ---- nothing to repair
module _ {before : Scene} {s : Stage} {k : ℕ} {boxes : List (List Placed)} (under : IsUnderRepair k before s) (boxed : AreBoxed before s boxes) (idle : IsIdle k s boxes) where
  real_now : IsReal (sight s)
  real_now = real_at s.motions s.moment under.in_order.canonical

  fits : FitsSize s.size before
  fits i live = live_fits s.size s.motions s.moment under.in_order.fit.room i (subst (IsIn i) under.same_live live)

  -- what the structure is made of is as it was
  grounded : (kept : Keep) (st : Structure) → slice_get s.keeps k ≡ Some kept → slice_get s.structures k ≡ Some st → IsSettledFor s.size kept before st → IsGroundedIn (sight s) st
  grounded kept st there here was =
      grounded_where s.size s.keeps before (sight s) under.real real_now fits under.same_live under.in_order.fit.keepable.few k kept st there was
      (λ pair h is at. none_fails (sight s) (IsHullFact s.size before) (told_to boxes h) (idle.hull pair h (here ∙ ap (λ (y : Structure). Some y) is) at) (boxed h keep.Hull at))

  pub settled_as_is : (kept : Keep) (st : Structure) → slice_get s.keeps k ≡ Some kept → slice_get s.structures k ≡ Some st → IsSettledFor s.size kept (sight s) st
  settled_as_is kept st there here =
      let was = (under.in_order.each k kept st there here).fine.ahead (omega arith) in
      let exact = settled_facts s.size kept before st was in
      let hold = none_fails (sight s) (IsKeepFact s.size before kept) (told_to boxes k) idle.own (boxed k kept there) in
      settled_where_hold s.size kept before (sight s) st under.real real_now was under.same_live (grounded kept st there here was) (all_from_each (placed_facts st) (λ p c. hold p ((exact.each p).0 c)))

-- ---- the next structure
module _ {s : Stage} (boxes : List (List Placed)) {k : ℕ} (one : IsRepaired boxes k s) where
  -- it is left as it is
  pub idle_on : IsIdle k s boxes → HasGoneOn (IsRepaired boxes) k s s
  idle_on idle = record { next = λ h. (h.0, next h.1 h.2, h.2); others = λ l apart. (λ h. h, λ h. h); made = same_facts s.table one.1.in_order.counted }
    where
      next : {before : Scene} → IsUnderRepair k before s → AreBoxed before s boxes → IsUnderRepair (k + 1) before s
      next {before} under boxed = record {
        in_order = restated under.in_order (λ j keep st kept here was. record {
          done = λ less. at j keep st kept here was (cases_eq j k) less;
          ahead = λ more. was.fine.ahead (omega (arith, more));
        });
        real = under.real;
        same_live = under.same_live;
      }
        where
          at : (j : ℕ) (keep : Keep) (st : Structure) → slice_get s.keeps j ≡ Some keep → slice_get s.structures j ≡ Some st → IsInPlace (HasGoneOver s.size k before (sight s)) s.table.live j keep st
              → (j ≡ k) ⊎ (j ≢ k) → j < k + 1 → IsSettledFor s.size keep (sight s) st
          at j keep st kept here was (inl is) less =
              settled_as_is under boxed idle keep st (subst (λ n. slice_get s.keeps n ≡ Some keep) is kept) (subst (λ n. slice_get s.structures n ≡ Some st) is here)
          at j keep st kept here was (inr apart) less = was.fine.done (omega (arith, less, apart))

  -- the facts that fail are those in its box
  pub failing_here : (keep : Keep) (st : Structure) → slice_get s.keeps k ≡ Some keep → slice_get s.structures k ≡ Some st → AreFailing (placed_facts st) (sight s) (told_to boxes k)
  failing_here keep st kept here =
      let exact = settled_facts s.size keep one.0 st ((one.1.in_order.each k keep st kept here).fine.ahead (omega arith)) in
      record { listed = exactly_in_words (told_to boxes k) _ _ (λ p. (λ h. ((exact.each p).1 h.0, h.1), λ h. ((exact.each p).0 h.0, h.1))) (one.2 k keep kept) }

  -- it is repaired
  pub repaired : (keep : Keep) (st after : Structure) (table : Facts) → HasUpdated k (sight s) s keep st after table → HasGoneOn (IsRepaired boxes) k s (record s { structures = slice_set s.structures k after; table = table })
  repaired keep st after table r = record {
    next = λ h. (
      h.0,
      record {
        in_order =
            replaced h.1.in_order r (record { done = λ less. r.settled; ahead = λ more. absurd (omega (arith, more)) })
            (λ j x y apart was. record { done = λ less. was.done (omega (arith, less, apart)); ahead = λ more. was.ahead (omega (arith, more)) });
        real = h.1.real;
        same_live = h.1.same_live;
      },
      h.2,
    );
    others = r.told.others;
    made = timed_new one.1.in_order r;
  }

  -- it may settle
  pub may_settle : (st : Structure) → k < length s.structures → slice_get s.structures k ≡ Some st → MaySettle (sight s) (take k s.structures) st (told_to boxes k)
  may_settle st within here =
      let keep = get_within s.keeps k (subst (λ n. k < n) one.1.in_order.count within) in
      let was = (one.1.in_order.each k keep.0 st keep.1 here).fine.ahead (omega arith) in
      record {
        rest = was.rest;
        members = subst (λ live. HasMembers live st) one.1.same_live was.members;
        was = (one.0, one.1.real, was.settled, one.1.same_live);
        needs = needs_met one.1.in_order keep.0 st keep.1 was.kind;
        failing = failing_here keep.0 st keep.1 here;
      }

  -- where the hull of a farthest pair is kept
  pub hull_kept : (pair : FarthestPair) → k < length s.structures → slice_get s.structures k ≡ Some (Diameter pair) → (h : ℕ) × (slice_get s.keeps h ≡ Some keep.Hull)
  hull_kept pair within here =
      let kept = get_within s.keeps k (subst (λ n. k < n) one.1.in_order.count within) in
      let was = (one.1.in_order.each k kept.0 (Diameter pair) kept.1 here).fine.ahead (omega arith) in
      let h = hull_before s.keeps one.1.in_order.fit.keepable.few k (kept.1 ∙ ap (λ (y : Keep). Some y) was.kind.0) in
      (h.0, h.2)

  -- a farthest pair with an empty box has nothing to repair where the box of the hull is empty
  pub pair_idle : (h : ℕ) → told_to boxes k ≡ [] → slice_get s.keeps h ≡ Some keep.Hull → told_to boxes h ≡ [] → IsIdle k s boxes
  pair_idle h own kept none = record {
    own = own;
    hull = λ pair m here kept'. subst (λ n. told_to boxes n ≡ []) (one_hull s.keeps one.1.in_order.fit.keepable.few h m kept kept') none;
  }

-- another structure has nothing to repair where its own box is empty
pub other_idle : (k : ℕ) (s : Stage) (boxes : List (List Placed)) (st : Structure) → told_to boxes k ≡ [] → slice_get s.structures k ≡ Some st → ((pair : FarthestPair) → st ≡ Diameter pair → ⊥) → IsIdle k s boxes
other_idle k s boxes st own here other = record { own = own; hull = λ pair h here' kept. absurd (other pair (same_Some st (Diameter pair) (sym here ∙ here'))) }
