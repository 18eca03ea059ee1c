use Rattle.std.proofs.Common.{◌≡◌, refl, sym, ap, ◌∙◌, arith, ◌+◌, ◌<◌, ◌≤◌, ◌^◌, List, length, Option, None, Some, ℕ}
use Rattle.std.specs.Prelude.{slice_get, IfSome, IsNone}
use Rattle.std.proofs.lemmas.Option.{same_Some, none-some, slice_get_within}
use Rattle.kin_motion.specs.Sets.{AreDistinct}
use Rattle.kin_sorted.proofs.leave.place_of_fact.Goals as goal

-- a place at most is found, and it is found where it has a next one
found_at : (xs : List ℕ) (who p : ℕ) (place : Option ℕ) → AreDistinct xs → IfSome place (λ q. slice_get xs q ≡ Some who)
    → (IsNone place → (q : ℕ) → slice_get xs q ≡ Some who → length xs ≤ q + 1)
    → slice_get xs p ≡ Some who → p + 1 < length xs → place ≡ Some p
found_at xs who p None apart some none h l = absurd (let past = none refl p h in omega arith)
found_at xs who p (Some q) apart some none h l = ap (λ (m : ℕ). Some m) (apart q p who some h)

few_at : (xs : List ℕ) (place : Option ℕ) → length xs ≤ 2 ^ 15 → IfSome place (λ p. p + 1 < length xs) → IfSome place (λ p. p ≤ 2 ^ 15)
few_at xs None small next = tt
few_at xs (Some p) small next = omega arith

pub returns-in_err-left-clause-found : goal.returns-in_err-left-clause-found
returns-in_err-left-clause-found g c = λ i j p part form a b.
    let low = c.room-room.ensures.within p i a in
    let small = c.room-room.ensures.small in
    absurd (none-some i (sym c.in_err-left.was ∙ c.left.ensures i j (let l : i < 2 ^ 15 = omega arith in l) part form))

pub returns-then-left-room-clause-found : goal.returns-then-left-room-clause-found
returns-then-left-room-clause-found g c = λ i j p part form a b.
    let low = c.room-room.ensures.within p i a in
    let small = c.room-room.ensures.small in
    let same : c.in_ok-left.left ≡ i = same_Some c.in_ok-left.left i (sym c.in_ok-left.was ∙ c.left.ensures i j (let l : i < 2 ^ 15 = omega arith in l) part form) in
    found_at c.args.row.now.items c.in_ok-left.left p c.place_of_left.result c.place_of_left.ensures.apart c.place_of_left.ensures.some c.place_of_left.ensures.none
    (a ∙ ap (λ (m : ℕ). Some m) (sym same)) (slice_get_within c.args.row.now.items (p + 1) j b)
