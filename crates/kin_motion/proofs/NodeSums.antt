-- Sums over the nodes of a tree, in which node v has the halves 2v and 2v + 1.
use Rattle.std.proofs.Common.{◌≡◌, ◌⊎◌, inl, inr, refl, ap, ◌∙◌, arith, List, [], ◌∷◌, ℕ, zero, suc, ◌+◌, ◌*◌, ◌-◌, ◌^◌, ◌<◌, ◌≤◌, length}
use Rattle.std.specs.Prelude.{Contains, flat_map}
use Rattle.std.proofs.lemmas.List.{length-append}
use Rattle.std.proofs.Math.Pow.{pow_pos}
use Rattle.std.proofs.Math.Nat.{pow-succ'}
use Rattle.kin_algebra.proofs.Members.{contains_none, contains_cases}
use Rattle.kin_motion.specs.Numbers.{numbers_from}
use Rattle.kin_motion.specs.Sets.{AreDistinct}
use Rattle.kin_motion.proofs.SetLaws.{distinct_none, distinct_cons}
use Rattle.kin_motion.proofs.SetSizes.{no_longer}

-- f a, f (a + 1) and so on, k of them, added up
abbrev pub sum_from : (ℕ → ℕ) → ℕ → ℕ → ℕ
sum_from f a zero = 0
sum_from f a (suc k) = f a + sum_from f (a + 1) k

-- lists joined have all their lengths together
pub length_in_turn : {A : Type 0} (f : ℕ → List A) (a k : ℕ) → length (flat_map f (numbers_from a k)) ≡ sum_from (λ v. length (f v)) a k
length_in_turn {A} f a zero = refl
length_in_turn {A} f a (suc k) = length-append (f a) (flat_map f (numbers_from (a + 1) k)) ∙ ap (λ n. length (f a) + n) (length_in_turn f (a + 1) k)

pub sum_at_most : (f g : ℕ → ℕ) (a k : ℕ) → ((v : ℕ) → a ≤ v → v < a + k → f v ≤ g v) → sum_from f a k ≤ sum_from g a k
sum_at_most f g a zero le = omega arith
sum_at_most f g a (suc k) le =
    let first = le a (omega arith) (omega arith) in
    let rest = sum_at_most f g (a + 1) k (λ v low high. le v (omega (arith, low)) (omega (arith, high))) in
    omega (arith, first, rest)

pub sum_times : (n : ℕ) (f : ℕ → ℕ) (a k : ℕ) → sum_from (λ v. n * f v) a k ≡ n * sum_from f a k
sum_times n f a zero = omega arith
sum_times n f a (suc k) = let rest = sum_times n f (a + 1) k in omega (arith, rest)

pub sum_plus : (f g : ℕ → ℕ) (a k : ℕ) → sum_from (λ v. f v + g v) a k ≡ sum_from f a k + sum_from g a k
sum_plus f g a zero = omega arith
sum_plus f g a (suc k) = let rest = sum_plus f g (a + 1) k in omega (arith, rest)

module _ (f : ℕ → ℕ) where
  pub sum_in_two : (a k l : ℕ) → sum_from f a (k + l) ≡ sum_from f a k + sum_from f (a + k) l
  sum_in_two a zero l =
      let all : sum_from f a (0 + l) ≡ sum_from f a l = ap (sum_from f a) (omega arith) in
      let same : sum_from f a l ≡ sum_from f (a + 0) l = ap (λ b. sum_from f b l) (omega arith) in
      omega (arith, all, same)
  sum_in_two a (suc k) l =
      let one_more : suc k + l ≡ suc (k + l) = omega arith in
      let more : sum_from f a (suc k + l) ≡ f a + sum_from f (a + 1) (k + l) = ap (sum_from f a) one_more in
      let rest = sum_in_two (a + 1) k l in
      let same : sum_from f (a + 1 + k) l ≡ sum_from f (a + suc k) l = ap (λ b. sum_from f b l) (omega arith) in
      omega (arith, more, rest, same)

  -- both halves of each node are all nodes one level below
  pub sum_of_halves : (a k : ℕ) → sum_from (λ v. f (2 * v) + f (2 * v + 1)) a k ≡ sum_from f (2 * a) (2 * k)
  sum_of_halves a zero = refl
  sum_of_halves a (suc k) =
      let rest = sum_of_halves (a + 1) k in
      let two_more : 2 * suc k ≡ suc (suc (2 * k)) = omega arith in
      let two : sum_from f (2 * a) (2 * suc k) ≡ f (2 * a) + (f (2 * a + 1) + sum_from f (2 * a + 1 + 1) (2 * k)) = ap (sum_from f (2 * a)) two_more in
      let same : sum_from f (2 * a + 1 + 1) (2 * k) ≡ sum_from f (2 * (a + 1)) (2 * k) = ap (λ b. sum_from f b (2 * k)) (omega arith) in
      omega (arith, rest, two, same)

-- where a node's own number and its held number are within those of its halves, all own numbers together and the root's are within those of the leaves
pub matches_at_most : (own held : ℕ → ℕ) (k : ℕ) → ((v : ℕ) → 1 ≤ v → v < 1 + k → own v + held v ≤ held (2 * v) + held (2 * v + 1))
    → sum_from own 1 k + held 1 ≤ sum_from held (1 + k) (1 + k)
matches_at_most own held k le =
    let plus = sum_plus own held 1 k in
    let each = sum_at_most (λ v. own v + held v) (λ v. held (2 * v) + held (2 * v + 1)) 1 k le in
    let below = sum_of_halves held 1 k in
    let split = sum_in_two held 1 k (1 + k) in
    let one_more : k + (1 + k) ≡ suc (2 * k) = omega arith in
    let whole : sum_from held 1 (k + (1 + k)) ≡ held 1 + sum_from held 2 (2 * k) = ap (sum_from held 1) one_more in
    omega (arith, plus, each, below, split, whole)

-- ---- levels
module _ (f : ℕ → ℕ) where
  -- above level k no node has fewer than its halves together
  abbrev pub IsSpread : ℕ → Type 0
  IsSpread k = (v : ℕ) → 1 ≤ v → v < 2 ^ k → f (2 * v) + f (2 * v + 1) ≤ f v

  spread_above : (k : ℕ) → IsSpread (suc k) → IsSpread k
  spread_above k spread v low high = let power = pow-succ' 2 k in spread v low (omega (arith, high, power))

  level_at_most : (k : ℕ) → IsSpread k → sum_from f (2 ^ k) (2 ^ k) ≤ f 1
  level_at_most zero spread = omega arith
  level_at_most (suc k) spread =
      let power = pow-succ' 2 k in
      let double : 2 ^ suc k ≡ 2 * 2 ^ k = omega (arith, power) in
      let above = level_at_most k (spread_above k spread) in
      let below = sum_of_halves f (2 ^ k) (2 ^ k) in
      let some = pow_pos k in
      let each = sum_at_most (λ v. f (2 * v) + f (2 * v + 1)) f (2 ^ k) (2 ^ k) (λ v low high. spread v (omega (arith, low, some)) (omega (arith, high, power))) in
      let here : sum_from f (2 ^ suc k) (2 ^ suc k) ≡ sum_from f (2 * 2 ^ k) (2 * 2 ^ k) = ap (λ n. sum_from f n n) double in
      omega (arith, above, below, each, here)

  -- all levels above level k together have k times the root's at most
  pub levels_at_most : (k : ℕ) → IsSpread k → sum_from f 1 (2 ^ k - 1) ≤ k * f 1
  levels_at_most zero spread = omega arith
  levels_at_most (suc k) spread =
      let power = pow-succ' 2 k in
      let some = pow_pos k in
      let above = levels_at_most k (spread_above k spread) in
      let here = level_at_most k (spread_above k spread) in
      let split = sum_in_two f 1 (2 ^ k - 1) (2 ^ k) in
      let whole : sum_from f 1 (2 ^ suc k - 1) ≡ sum_from f 1 (2 ^ k - 1 + 2 ^ k) = ap (sum_from f 1) (omega (arith, power, some)) in
      let next : sum_from f (1 + (2 ^ k - 1)) (2 ^ k) ≡ sum_from f (2 ^ k) (2 ^ k) = ap (λ n. sum_from f n (2 ^ k)) (omega (arith, some)) in
      omega (arith, above, here, split, whole, next)

-- ---- a sum of ones is at most the length of a list that has each number with a one
record Ones (f : ℕ → ℕ) (a k : ℕ) : Type 0 where
  numbers : List ℕ
  once : AreDistinct numbers
  each : (v : ℕ) → Contains numbers v → (a ≤ v) × (v < a + k) × (1 ≤ f v)
  count : sum_from f a k ≡ length numbers

module _ (f : ℕ → ℕ) (small : (v : ℕ) → f v ≤ 1) where
  ones : (a k : ℕ) → Ones f a k
  ones a zero = record { numbers = []; once = distinct_none; each = λ v c. absurd (contains_none v c); count = refl }
  ones a (suc k) = at (f a) refl (ones (a + 1) k)
    where
      at : (n : ℕ) → f a ≡ n → Ones f (a + 1) k → Ones f a (suc k)
      at zero e rest = record {
        numbers = rest.numbers;
        once = rest.once;
        each = λ v c. let r = rest.each v c in (omega (arith, r.0), omega (arith, r.1), r.2);
        count = let n = rest.count in omega (arith, e, n);
      }
      at (suc zero) e rest = record {
        numbers = a ∷ rest.numbers;
        once = distinct_cons a rest.numbers (λ c. let r = (rest.each a c).0 in absurd (omega (arith, r))) rest.once;
        each = λ v c. of v (contains_cases a v rest.numbers c);
        count = let n = rest.count in omega (arith, e, n);
      }
        where
          of : (v : ℕ) → (a ≡ v) ⊎ Contains rest.numbers v → (a ≤ v) × (v < a + suc k) × (1 ≤ f v)
          of v (inl same) = let own : f a ≡ f v = ap f same in (omega (arith, same), omega (arith, same), omega (arith, e, own))
          of v (inr c) = let r = rest.each v c in (omega (arith, r.0), omega (arith, r.1), r.2)
      at (suc (suc n)) e rest = absurd (let s = small a in omega (arith, e, s))

  pub ones_at_most : (a k : ℕ) (xs : List ℕ) → ((v : ℕ) → a ≤ v → v < a + k → 1 ≤ f v → Contains xs v) → sum_from f a k ≤ length xs
  ones_at_most a k xs there =
      let o = ones a k in
      let few = no_longer o.numbers xs o.once (λ v c. let r = o.each v c in there v r.0 r.1 r.2) in
      let n = o.count in
      omega (arith, few, n)
