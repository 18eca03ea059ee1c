-- What a change costs as it is taken over.
use Rattle.std.proofs.Common.{◌≡◌, ℕ, ◌+◌, ◌*◌, ◌<◌, ◌≤◌, Bool, true, false, cond, List, ◌∷◌, length, get_or, take, ap, subst, arith, inl, inr}
use Rattle.std.proofs.lemmas.Nat.{mul-le}
use Rattle.std.specs.List.{Contains}
use Rattle.kin_num.specs.declared.instant.Moment.{Moment}
use Rattle.kin_motion.specs.declared.fact.Placed.{Placed}
use Rattle.kin_motion.specs.Deltas.{Change}
use Rattle.kin_motion.specs.Scene.{Scene}
use Rattle.kin_cert.specs.Facts.{LiveFact}
use Rattle.kin_cert.specs.Applied.{IsOf, MayApply}
use Rattle.kin_cert.specs.Cost.{TakesAtMost, is_ungiven, ungiven, change_cost}
use Rattle.kin_cert.specs.Layout.{HasReplaced, IsPaid}
use Rattle.kin_cert.proofs.Costs.{enough}
use Rattle.kin_cert.proofs.Replacing.{apart-born}
use Rattle.kin_cert.proofs.Ungiven.{cost_if, still-ungiven, ungiven-cons, fewer-ungiven, more-ungiven}

-- one or none of them
pub share : (b : Bool) (r : ℕ) → cond b 1 0 * r ≡ cond b r 0
share true r = omega arith
share false r = omega arith

-- where what is queued is so only if it wasn't given
pub at_most_ungiven : (a b : Bool) (live more old new : ℕ) → (a ≡ true → b ≡ true) → TakesAtMost live (λ r. cond a r 0 + more * (r + 1)) old new → TakesAtMost live (λ r. cond b r 0 + more * (r + 1)) old new
at_most_ungiven a b live more old new h few r e =
    let part = few r e in
    let less = cost_if a b r h in
    omega (arith, part, less)

-- one more fact is dropped
pub one-dropped : (s : ℕ) (old cur : List LiveFact) (ps : List Placed) (i : ℕ) (d : Placed) (before mid after : ℕ) → i < length ps → ((l : LiveFact) → Contains cur l → Contains old l) → length cur ≤ length old
    → TakesAtMost (length old) (λ r. ungiven s old (take i ps) * r) before mid
    → TakesAtMost (length cur) (λ r. cond (is_ungiven s cur (get_or ps i d)) r 0) mid after
    → TakesAtMost (length old) (λ r. ungiven s old (take (i + 1) ps) * r) before after
one-dropped s old cur ps i d before mid after lt was le first one r e =
    let so_far = first r e in
    let more = one r (enough (length cur) (length old) r le e) in
    let fewer = cost_if (is_ungiven s cur (get_or ps i d)) (is_ungiven s old (get_or ps i d)) r (still-ungiven s old cur (get_or ps i d) (λ l there of. was l there)) in
    let each = share (is_ungiven s old (get_or ps i d)) r in
    let sum : ungiven s old (take (i + 1) ps) * r ≡ (ungiven s old (take i ps) + cond (is_ungiven s old (get_or ps i d)) 1 0) * r = ap (λ (n : ℕ). n * r) (more-ungiven s old ps i d lt) in
    omega (arith, so_far, more, fewer, each, sum)

-- the rest of a change after its first pair costs as much less as this pair did
module _ (s : ℕ) (scene : Moment → Scene) (now : Moment) (d b : Placed) (ds bs : List Placed) (old mid : List LiveFact)
    (may : MayApply s (record { dropped = d ∷ ds; born = b ∷ bs }) old) (did : HasReplaced s scene now d b old mid) where
  rest-ungiven : ungiven s mid ds ≤ ungiven s old ds
  rest-ungiven = fewer-ungiven s old mid ds (λ p there l l_there of. elim ((did.exactly l).0 l_there) [
    | inl was ↦ was.0
    | inr is ↦ absurd (apart-born s scene now d b ds bs old mid may did p there (subst (λ (x : LiveFact). IsOf s p x) is of))
  ])

  pub rest-paid : (n : ℕ) (all : ℕ → ℕ) (before at after : ℕ) → length old ≤ n → IsPaid n all (change_cost s (record { dropped = d ∷ ds; born = b ∷ bs }) old) before at
      → TakesAtMost (length old) (λ r. cond (is_ungiven s old d) r 0 + (r + 1)) at after → IsPaid n all (change_cost s (record { dropped = ds; born = bs }) mid) before after
  rest-paid n all before at after le paid one r e =
      let so_far = paid r e in
      let pair = one r (enough (length old) n r le e) in
      let fewer : ungiven s mid ds * r ≤ ungiven s old ds * r = mul-le (ungiven s mid ds) r (ungiven s old ds) r rest-ungiven (omega arith) in
      let first = share (is_ungiven s old d) r in
      let sum : ungiven s old (d ∷ ds) * r ≡ (cond (is_ungiven s old d) 1 0 + ungiven s old ds) * r = ap (λ (k : ℕ). k * r) (ungiven-cons s old d ds) in
      omega (arith, so_far, pair, fewer, first, sum)

-- what is replaced, what is only dropped and what is only born
pub all-paid : (n s : ℕ) (all rest : Change) (old cur : List LiveFact) (mid before replaced dropped after : ℕ) → length cur ≤ n → mid ≤ n
    → IsPaid n (change_cost s all old) (change_cost s rest cur) before replaced
    → TakesAtMost (length cur) (λ r. ungiven s cur rest.dropped * r) replaced dropped
    → TakesAtMost mid (λ r. length rest.born * (r + 1)) dropped after
    → TakesAtMost n (change_cost s all old) before after
all-paid n s all rest old cur mid before replaced dropped after cur_le mid_le paid drops bears r e =
    let first = paid r e in
    let second = drops r (enough (length cur) n r cur_le e) in
    let third = bears r (enough mid n r mid_le e) in
    omega (arith, first, second, third)
