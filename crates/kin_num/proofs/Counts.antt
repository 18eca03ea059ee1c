-- Counts of the numbers below another one that pass a test.
use Rattle.std.proofs.Common.{◌≡◌, ◌⊎◌, inl, inr, ℕ, zero, suc, Bool, true, false, cond, refl, ap, ◌∙◌, ◌<◌, ◌≤◌, arith}
use Rattle.kin_num.specs.Grains.{count_below}

counts : (a b : Bool) (x y : ℕ) → (a ≡ true → b ≡ true) → x ≤ y → cond a (suc x) x ≤ cond b (suc y) y
counts true true x y i h = omega (arith, h)
counts true false x y i h = let e = i refl in absurd cc
counts false true x y i h = omega (arith, h)
counts false false x y i h = h

counts_one : (a b : Bool) (x y : ℕ) → a ≡ false → b ≡ true → x ≤ y → cond a (suc x) x < cond b (suc y) y
counts_one true b x y e f h = absurd cc
counts_one false false x y e f h = absurd cc
counts_one false true x y e f h = omega (arith, h)

counts_less : (a b : Bool) (x y : ℕ) → (a ≡ true → b ≡ true) → x < y → cond a (suc x) x < cond b (suc y) y
counts_less true true x y i h = omega (arith, h)
counts_less true false x y i h = let e = i refl in absurd cc
counts_less false true x y i h = omega (arith, h)
counts_less false false x y i h = h

module _ (f g : ℕ → Bool) (more : (j : ℕ) → f j ≡ true → g j ≡ true) where
  count_at_most : (n : ℕ) → count_below f n ≤ count_below g n
  unfolding count_below
  count_at_most zero = omega arith
  count_at_most (suc n) = counts (f n) (g n) (count_below f n) (count_below g n) (more n) (count_at_most n)

  -- a number that passes only the second test makes the second count greater
  pub count_less : (k : ℕ) → f k ≡ false → g k ≡ true → (n : ℕ) → k < n → count_below f n < count_below g n
  unfolding count_below
  count_less k a b zero h = absurd (omega (arith, h))
  count_less k a b (suc n) h = at (either k n h) (λ l. count_less k a b n l)
    where
      either : (k n : ℕ) → k < suc n → (n ≡ k) ⊎ (k < n)
      either k n h = grind (arith, h)

      at : (n ≡ k) ⊎ (k < n) → (k < n → count_below f n < count_below g n) → cond (f n) (suc (count_below f n)) (count_below f n) < cond (g n) (suc (count_below g n)) (count_below g n)
      at (inl e) earlier = counts_one (f n) (g n) (count_below f n) (count_below g n) (ap f e ∙ a) (ap g e ∙ b) (count_at_most n)
      at (inr l) earlier = counts_less (f n) (g n) (count_below f n) (count_below g n) (more n) (earlier l)
