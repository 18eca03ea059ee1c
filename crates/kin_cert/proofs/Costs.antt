-- What calls of a queue cost together.
use Rattle.std.proofs.Common.{◌≡◌, ℕ, zero, suc, ◌+◌, ◌*◌, ◌^◌, ◌≤◌, Bool, true, false, cond, inl, inr, sym, ap, subst, arith}
use Rattle.std.proofs.lemmas.Nat.{mul-le, pow-add}
use Rattle.std.proofs.lemmas.Bool.{cases_eq, cases_lt}
use Rattle.kin_queue.specs.Cost.{TakesSteps}
use Rattle.kin_cert.specs.Cost.{IsEnough, TakesAtMost}

larger : (m n : ℕ) → m ≤ n → (m + 1) * (m + 1) ≤ (n + 1) * (n + 1)
larger m n le = mul-le (m + 1) (m + 1) (n + 1) (n + 1) (omega arith) (omega arith)

-- what is enough for more entries is enough for fewer
pub enough : (m n r : ℕ) → m ≤ n → IsEnough n r → IsEnough m r
enough m n r le e c h = let more = larger m n le in e c (omega (arith, h, more))

-- the cost of a call of a smaller queue
pub takes_more : (m n old new : ℕ) → m ≤ n → TakesSteps m old new → TakesSteps n old new
takes_more m n old new le (c, is, few) = let more = larger m n le in (c, is, omega (arith, few, more))

pub none_taken : (n old : ℕ) → TakesSteps n old old
none_taken n old = (0, omega arith, omega arith)

pub one_call : (n old new : ℕ) → TakesSteps n old new → TakesAtMost n (λ r. r) old new
one_call n old new (c, is, few) r e = let le = e c few in omega (arith, is, le)

pub at_most_one : (b : Bool) (r : ℕ) → cond b r 0 ≤ r
at_most_one true r = omega arith
at_most_one false r = omega arith

-- a call that is made where it is due
pub one_if : (b : Bool) (n old new : ℕ) → b ≡ true → TakesSteps n old new → TakesAtMost n (λ r. cond b r 0) old new
one_if b n old new due takes = subst (λ (x : Bool). TakesAtMost n (λ r. cond x r 0) old new) (sym due) (one_call n old new takes)

pub none_if : (b : Bool) (n old : ℕ) → TakesAtMost n (λ r. cond b r 0) old old
none_if b n old r e = omega arith

-- an id that goes where it is queued, and comes back
pub gone_and_back : (live here there old mid new : ℕ) (b : Bool) → here ≤ live → there ≤ live → TakesAtMost here (λ r. cond b r 0) old mid → TakesAtMost there (λ r. r + 1) mid new
    → TakesAtMost live (λ r. cond b r 0 + (r + 1)) old new
gone_and_back live here there old mid new b le le' gone back r e =
    let first = gone r (enough here live r le e) in
    let second = back r (enough there live r le' e) in
    omega (arith, first, second)

-- one more of them
pub one_more : (live index old mid new : ℕ) (each : ℕ → ℕ) → TakesAtMost live (λ r. index * each r) old mid → TakesAtMost live each mid new → TakesAtMost live (λ r. (index + 1) * each r) old new
one_more live index old mid new each before one r e =
    let first = before r e in
    let second = one r e in
    omega (arith, first, second)

-- where a queue has no more entries than there are live facts
pub in_queue : (live here old new : ℕ) (cost : ℕ → ℕ) → here ≤ live → TakesAtMost here cost old new → TakesAtMost live cost old new
in_queue live here old new cost le few r e = few r (enough here live r le e)

-- what is given costs no comparison but those of the queue
pub few_given : (live count old new : ℕ) → TakesAtMost live (λ r. count * r) old new → TakesAtMost live (λ r. count * (r + 1) + 1) old new
few_given live count old new few r e = let part = few r e in omega (arith, part)

-- ---- the greatest power of two up to a number
above : (c : ℕ) → c + 1 ≤ 2 ^ c
above zero = omega arith
above (suc c) = let double : 2 ^ (c + 1) ≡ 2 ^ c * 2 = pow-add 2 c 1 in omega (arith, above c, double)

-- among the exponents up to k
greatest : (x k : ℕ) → 1 ≤ x → ((c : ℕ) → 2 ^ c ≤ x → c ≤ k) → (r : ℕ) × (2 ^ r ≤ x) × ((c : ℕ) → 2 ^ c ≤ x → c ≤ r)
greatest x zero some all = (0, some, all)
greatest x (suc k) some all = elim (cases_lt x (2 ^ suc k)) [
  | inl lt ↦ greatest x k some (λ c le. elim (cases_eq c (suc k)) [
    | inl e ↦ let same : 2 ^ c ≡ 2 ^ suc k = ap (λ (i : ℕ). 2 ^ i) e in absurd (omega (arith, lt, le, same))
    | inr n ↦ let most = all c le in omega (arith, n, most)
  ])
  | inr le ↦ (suc k, le, all)
]

pub most_exists : (n : ℕ) → (r : ℕ) × (2 ^ r ≤ (n + 1) * (n + 1)) × IsEnough n r
most_exists n =
    let some : 1 * 1 ≤ (n + 1) * (n + 1) = mul-le 1 1 (n + 1) (n + 1) (omega arith) (omega arith) in
    greatest ((n + 1) * (n + 1)) ((n + 1) * (n + 1)) (omega (arith, some)) (λ c le. omega (arith, le, above c))
