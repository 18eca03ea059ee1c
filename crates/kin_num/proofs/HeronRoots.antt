-- Heron's method on whole numbers.
use Rattle.std.proofs.Common.{◌≡◌, ◌⊎◌, inl, inr, ℕ, suc, ◌+◌, ◌-◌, ◌*◌, ◌/◌, ◌<◌, ◌≤◌, ◌^◌, arith, refl, subst, mul-le-mul, lt_of_not-le, ap, sym, ◌∙◌, ◌%◌}
use Rattle.std.specs.Int.Count.{count_leading_zeros}
use Rattle.std.proofs.lemmas.Nat.{leading_top, shl_whole, pow-add, pow_pos}
use Rattle.std.proofs.Math.Pow.{pow_mono}
use Rattle.std.proofs.Math.Nat.{le_of_mul-le-mul_left}
use Rattle.kin_num.specs.Roots.{IsWholeRoot}
use Rattle.kin_algebra.proofs.Descent.{root_below}
use Rattle.kin_algebra.proofs.Squares.{square_below}

-- the geometric mean is at most the arithmetic one
means : (x y : ℕ) → 4 * (x * y) ≤ (x + y) * (x + y)
means x y = elim (either x y) [
  | inl h ↦ subst (λ (z : ℕ). 4 * (x * z) ≤ (x + z) * (x + z)) (let e : x + (y - x) ≡ y = omega arith in e) (apart x (y - x))
  | inr h ↦ subst (λ (z : ℕ). 4 * (z * y) ≤ (z + y) * (z + y)) (let e : y + (x - y) ≡ x = omega arith in e) (apart' y (x - y))
]
  where
    either : (x y : ℕ) → (x ≤ y) ⊎ (y ≤ x)
    either x y = grind arith

    apart : (x k : ℕ) → 4 * (x * (x + k)) ≤ (x + (x + k)) * (x + (x + k))
    apart x k = omega arith

    apart' : (y k : ℕ) → 4 * ((y + k) * y) ≤ ((y + k) + y) * ((y + k) + y)
    apart' y k = omega arith

pub not_below : (x g b : ℕ) → 0 < g → b ≡ (g + x / g) / 2 → x < (b + 1) * (b + 1)
not_below x g b some e =
    let over : x < g * (x / g + 1) = omega arith in
    let mean : 4 * (g * (x / g + 1)) ≤ (g + (x / g + 1)) * (g + (x / g + 1)) = means g (x / g + 1) in
    let half : g + (x / g + 1) ≤ 2 * (b + 1) = omega arith in
    let square : (g + (x / g + 1)) * (g + (x / g + 1)) ≤ (2 * (b + 1)) * (2 * (b + 1)) = mul-le-mul half half in
    last x (g * (x / g + 1)) ((g + (x / g + 1)) * (g + (x / g + 1))) b over mean square
  where
    last : (x p q b : ℕ) → x < p → 4 * p ≤ q → q ≤ (2 * (b + 1)) * (2 * (b + 1)) → x < (b + 1) * (b + 1)
    last x p q b h i j = omega arith

-- the line that touches the parabola where x is a ninth of 2^66 lies above it everywhere
pub tangent : (x h : ℕ) → h ≡ x / 2 ^ 34 → x < (h * 3 + 1431655768 + 1) * (h * 3 + 1431655768 + 1)
tangent x h e =
    let over : x < 2 ^ 34 * (h + 1) = omega (arith, e) in
    let mean : 4 * ((3 * (h + 1)) * 1431655766) ≤ (3 * (h + 1) + 1431655766) * (3 * (h + 1) + 1431655766) = means (3 * (h + 1)) 1431655766 in
    let part : 2 ^ 34 * (h + 1) ≤ 4 * ((3 * (h + 1)) * 1431655766) = omega arith in
    let same : 3 * (h + 1) + 1431655766 ≡ h * 3 + 1431655768 + 1 = omega arith in
    subst (λ (z : ℕ). x < z * z) same (last x (2 ^ 34 * (h + 1)) (4 * ((3 * (h + 1)) * 1431655766)) ((3 * (h + 1) + 1431655766) * (3 * (h + 1) + 1431655766)) over part mean)
  where
    last : (x p q r : ℕ) → x < p → p ≤ q → q ≤ r → x < r
    last x p q r h i j = omega arith

-- the whole root of a number from that of a square number times it
pub narrowed : (x k r : ℕ) → 0 < k → IsWholeRoot (x * (k * k)) r → IsWholeRoot x (r / k)
narrowed x k r some h = record {
  at_most = not_less (x) (r / k * (r / k)) (λ l.
      let part : r / k * k ≤ r = omega (arith, some) in
      let square : (r / k * k) * (r / k * k) ≤ r * r = mul-le-mul part part in
      let more : (x + 1) * (k * k) ≤ (r / k * (r / k)) * (k * k) = mul-le-mul (let m : x + 1 ≤ r / k * (r / k) = omega (arith, l) in m) (let m : k * k ≤ k * k = omega arith in m) in
      let positive : 0 < k * k = mul-le-mul (let m : 1 ≤ k = omega (arith, some) in m) (let m : 1 ≤ k = omega (arith, some) in m) in
      clash (x * (k * k)) (k * k) (r * r) ((r / k * (r / k)) * (k * k)) positive (regrouped x (k * k) ((r / k * (r / k)) * (k * k)) more) (subst (λ (z : ℕ). z ≤ r * r) (squares (r / k) k) square) h.at_most);
  greatest = less x ((r / k + 1) * (r / k + 1)) (λ l.
      let part : r + 1 ≤ (r / k + 1) * k = omega (arith, some) in
      let square : (r + 1) * (r + 1) ≤ ((r / k + 1) * k) * ((r / k + 1) * k) = mul-le-mul part part in
      let more : ((r / k + 1) * (r / k + 1)) * (k * k) ≤ x * (k * k) = mul-le-mul l (let m : k * k ≤ k * k = omega arith in m) in
      under (x * (k * k)) ((r + 1) * (r + 1)) (((r / k + 1) * (r / k + 1)) * (k * k)) h.greatest (subst (λ (z : ℕ). (r + 1) * (r + 1) ≤ z) (squares (r / k + 1) k) square) more);
}
  where
    squares : (q k : ℕ) → (q * k) * (q * k) ≡ (q * q) * (k * k)
    squares q k = omega arith

    regrouped : (x p q : ℕ) → (x + 1) * p ≤ q → x * p + p ≤ q
    regrouped x p q h = omega (arith, h)

    clash : (n p m q : ℕ) → 0 < p → n + p ≤ q → q ≤ m → m ≤ n → ⊥
    clash n p m q h i j k = omega (arith, h, i, j, k)

    under : (n m q : ℕ) → n < m → m ≤ q → q ≤ n → ⊥
    under n m q h i j = omega (arith, h, i, j)

    not_less : (x y : ℕ) → (x < y → ⊥) → y ≤ x
    not_less x y h = grind (arith, h)

    less : (x y : ℕ) → (y ≤ x → ⊥) → x < y
    less x y h = lt_of_not-le h

-- a step of Heron's method squares the part of the root by which the guess is greater
module _ (x r : ℕ) (root : IsWholeRoot x r) (some : 0 < r) where
  -- with the distances d and f of the guesses from the root
  product : (d f q : ℕ) → q * (r + d) ≤ x → 2 * (r + f) ≤ r + d + q → 2 * (r * f) ≤ d * d + 2 * r
  product d f q over twice =
      let first : (2 * (r + f)) * (r + d) ≤ (r + d + q) * (r + d) = mul-le-mul twice (let m : r + d ≤ r + d = omega arith in m) in
      let most : x ≤ r * r + 2 * r = omega (arith, root.greatest) in
      last (r * r) (r * d) (r * f) (f * d) (d * d) (q * (r + d)) (let e : (2 * (r + f)) * (r + d) ≡ 2 * (r * r) + 2 * (r * d) + 2 * (r * f) + 2 * (f * d) = omega arith in e) (let e : (r + d + q) * (r + d) ≡ r * r + 2 * (r * d) + d * d + q * (r + d) = omega arith in e) ((2 * (r + f)) * (r + d)) ((r + d + q) * (r + d)) refl refl first over most
    where
      last : (rr rd rf fd dd n : ℕ) → (2 * (r + f)) * (r + d) ≡ 2 * rr + 2 * rd + 2 * rf + 2 * fd → (r + d + q) * (r + d) ≡ rr + 2 * rd + dd + n → (u v : ℕ) → u ≡ (2 * (r + f)) * (r + d) → v ≡ (r + d + q) * (r + d) → u ≤ v → n ≤ x → x ≤ rr + 2 * r → 2 * rf ≤ dd + 2 * r
      last rr rd rf fd dd n e e' u v p p' h k l = small (p ∙ e) (p' ∙ e')
        where
          small : u ≡ 2 * rr + 2 * rd + 2 * rf + 2 * fd → v ≡ rr + 2 * rd + dd + n → 2 * rf ≤ dd + 2 * r
          small a b = omega (arith, a, b, h, k, l)

  pub closer : (k g d b : ℕ) → g ≡ r + d → k * d ≤ r → b ≡ (g + x / g) / 2 → (f : ℕ) × (b ≡ r + f) × (2 * (k * k) * f ≤ r + 2 * (k * k))
  closer k g d b e near h =
      let positive : 0 < g = omega (arith, e, some) in
      let f = b - r in
      let above : b ≡ r + f = place b (not_below x g b positive h) in
      let twice : 2 * (r + f) ≤ r + d + x / g = subst (λ (z : ℕ). 2 * z ≤ r + d + x / g) above (subst (λ (z : ℕ). 2 * b ≤ z + x / g) e (omega (arith, h))) in
      let part : x / g * g ≤ x = omega (arith, positive) in
      let over : x / g * (r + d) ≤ x = subst (λ (z : ℕ). x / g * z ≤ x) e part in
      let pair : 2 * (r * f) ≤ d * d + 2 * r = product d f (x / g) over twice in
      let square : (k * d) * (k * d) ≤ r * r = mul-le-mul near near in
      let scaled : (k * k) * (2 * (r * f)) ≤ (k * k) * (d * d + 2 * r) = mul-le-mul (let m : k * k ≤ k * k = omega arith in m) pair in
      (f, above, le_of_mul-le-mul_left (joined (k * k) f (r * f) (d * d) ((k * d) * (k * d)) (r * r) (let m : (k * d) * (k * d) ≡ (k * k) * (d * d) = omega arith in m) square scaled (let m : r * (2 * (k * k) * f) ≡ (k * k) * (2 * (r * f)) = omega arith in m) (let m : r * (r + 2 * (k * k)) ≡ r * r + (k * k) * (2 * r) = omega arith in m) (let m : (k * k) * (d * d + 2 * r) ≡ (k * k) * (d * d) + (k * k) * (2 * r) = omega arith in m)) some)
    where
      place : (b : ℕ) → x < (b + 1) * (b + 1) → b ≡ r + (b - r)
      place b l =
          let less : r < b + 1 = root_below r (b + 1) (between (r * r) ((b + 1) * (b + 1)) root.at_most l) in
          omega (arith, less)
        where
          between : (m n : ℕ) → m ≤ x → x < n → m < n
          between m n h k = omega (arith, h, k)

      joined : (n f rf dd s rr : ℕ) → s ≡ n * dd → s ≤ rr → n * (2 * rf) ≤ n * (dd + 2 * r) → r * (2 * n * f) ≡ n * (2 * rf) → r * (r + 2 * n) ≡ rr + n * (2 * r) → n * (dd + 2 * r) ≡ n * dd + n * (2 * r) → r * (2 * n * f) ≤ r * (r + 2 * n)
      joined n f rf dd s rr p l m a b e =
          at (r * (2 * n * f)) (r * (r + 2 * n)) (n * (2 * rf)) (n * (dd + 2 * r)) (n * dd) (n * (2 * r)) p a b e m
        where
          at : (u v w y z t : ℕ) → s ≡ z → u ≡ w → v ≡ rr + t → y ≡ z + t → w ≤ y → u ≤ v
          at u v w y z t p a b e m = omega (arith, p, a, b, e, m, l)

-- the product of the distances from two bounds
between_bounds : (r lo hi : ℕ) → lo ≤ r → r ≤ hi → r * r + lo * hi ≤ (lo + hi) * r
between_bounds r lo hi h k = subst (λ (z : ℕ). z * z + lo * hi ≤ (lo + hi) * z) (let e : lo + (r - lo) ≡ r = omega (arith, h) in e)
    (subst (λ (z : ℕ). (lo + (r - lo)) * (lo + (r - lo)) + lo * z ≤ (lo + z) * (lo + (r - lo))) (let e : lo + (r - lo) + (hi - r) ≡ hi = omega (arith, h, k) in e) (at lo (r - lo) (hi - r)))
  where
    at : (lo i j : ℕ) → (lo + i) * (lo + i) + lo * (lo + i + j) ≤ (lo + (lo + i + j)) * (lo + i)
    at lo i j = omega arith

-- three steps from the tangent are enough
module _ (x r : ℕ) (root : IsWholeRoot x r) (wide : 2 ^ 31 ≤ r) (fits : r < 2 ^ 32) where
  some : 0 < r
  some = omega (arith, wide)

  first : (g : ℕ) → g ≡ x / 2 ^ 34 * 3 + 1431655768 → (d : ℕ) × (g ≡ r + d) × (11 * d ≤ r)
  first g e =
      let over : x < (g + 1) * (g + 1) = subst (λ (z : ℕ). x < (z + 1) * (z + 1)) (sym e) (tangent x (x / 2 ^ 34) refl) in
      let less : r < g + 1 = root_below r (g + 1) (between (r * r) ((g + 1) * (g + 1)) root.at_most over) in
      let bounds : r * r + 2 ^ 31 * 2 ^ 32 ≤ (2 ^ 31 + 2 ^ 32) * r = between_bounds r (2 ^ 31) (2 ^ 32) wide (omega (arith, fits)) in
      let most : x ≤ r * r + 2 * r = omega (arith, root.greatest) in
      (g - r, (let k : g ≡ r + (g - r) = omega (arith, less) in k), at (r * r) (x / 2 ^ 34) (omega arith) most bounds e)
    where
      between : (m n : ℕ) → m ≤ x → x < n → m < n
      between m n h k = omega (arith, h, k)

      at : (s h : ℕ) → h * 2 ^ 34 ≤ x → x ≤ s + 2 * r → s + 2 ^ 31 * 2 ^ 32 ≤ (2 ^ 31 + 2 ^ 32) * r → g ≡ h * 3 + 1431655768 → 11 * (g - r) ≤ r
      at s h a b k e = omega (arith, a, b, k, e, fits)

  -- after three steps the guess is the root or one more
  pub three_steps : (g b p q : ℕ) → g ≡ x / 2 ^ 34 * 3 + 1431655768 → b ≡ (g + x / g) / 2 → p ≡ (b + x / b) / 2 → q ≡ (p + x / p) / 2 → (f : ℕ) × (q ≡ r + f) × (f ≤ 1)
  three_steps g b p q eg eb ep eq =
      let d = first g eg in
      let d' = closer x r root some 11 g d.0 b d.1 d.2 eb in
      let d'' = closer x r root some 241 b d'.0 p d'.1 (omega (arith, d'.2, wide)) ep in
      let e = closer x r root some 116000 p d''.0 q d''.1 (omega (arith, d''.2, wide)) eq in
      (e.0, e.1, omega (arith, e.2, fits))

  -- each guess is about as wide as the root
  pub one_step : (g b : ℕ) → g ≡ x / 2 ^ 34 * 3 + 1431655768 → b ≡ (g + x / g) / 2 → (2 ^ 31 ≤ b) × (b ≤ 2 ^ 33)
  one_step g b eg eb =
      let d = first g eg in
      let d' = closer x r root some 11 g d.0 b d.1 d.2 eb in
      (omega (arith, d'.1, wide), omega (arith, d'.1, d'.2, fits))

  pub two_steps : (g b p : ℕ) → g ≡ x / 2 ^ 34 * 3 + 1431655768 → b ≡ (g + x / g) / 2 → p ≡ (b + x / b) / 2 → (2 ^ 31 ≤ p) × (p ≤ 2 ^ 33)
  two_steps g b p eg eb ep =
      let d = first g eg in
      let d' = closer x r root some 11 g d.0 b d.1 d.2 eb in
      let d'' = closer x r root some 241 b d'.0 p d'.1 (omega (arith, d'.2, wide)) ep in
      (omega (arith, d''.1, wide), omega (arith, d''.1, d''.2, fits))

-- the guess is the root, or one more where its square is too great
module _ (x r : ℕ) (root : IsWholeRoot x r) (q : ℕ) (last : (f : ℕ) × (q ≡ r + f) × (f ≤ 1)) where
  pub one_less : r < q → IsWholeRoot x (q - 1)
  one_less l = subst (IsWholeRoot x) (let e : r ≡ q - 1 = omega (arith, last.1, last.2, l) in e) root

  pub square_over : x < q * q → IsWholeRoot x (q - 1)
  square_over l = one_less (root_below r q (between (r * r) (q * q) root.at_most l))
    where
      between : (m n : ℕ) → m ≤ x → x < n → m < n
      between m n h k = omega (arith, h, k)

  pub square_within : q * q ≤ x → IsWholeRoot x q
  square_within l =
      let less : q < r + 1 = root_below q (r + 1) (between (q * q) ((r + 1) * (r + 1)) l root.greatest) in
      subst (IsWholeRoot x) (let e : r ≡ q = omega (arith, last.1, less) in e) root
    where
      between : (m n : ℕ) → m ≤ x → x < n → m < n
      between m n h k = omega (arith, h, k)

-- the root of a wide number
pub wide_root : (x : ℕ) → 2 ^ 62 ≤ x → x < 2 ^ 64 → (r : ℕ) × IsWholeRoot x r × (2 ^ 31 ≤ r) × (r < 2 ^ 32)
wide_root x wide fits =
    let q = square_below (suc x) (omega arith) in
    let root : IsWholeRoot x q.0 = record { at_most = omega (arith, q.1); greatest = omega (arith, q.2) } in
    let low : 2 ^ 31 < q.0 + 1 = root_below (2 ^ 31) (q.0 + 1) (under (2 ^ 31 * 2 ^ 31) ((q.0 + 1) * (q.0 + 1)) wide root.greatest) in
    (q.0, root, omega (arith, low), root_below q.0 (2 ^ 32) (over (q.0 * q.0) (2 ^ 32 * 2 ^ 32) root.at_most fits))
  where
    under : (m n : ℕ) → m ≤ x → x < n → m < n
    under m n h k = omega (arith, h, k)

    over : (m n : ℕ) → m ≤ x → x < n → m < n
    over m n h k = omega (arith, h, k)

-- a number is shifted by pairs of digits, and none is lost
pub record IsSpared (x k w : ℕ) : Type 0 where
  pub shifted : w ≡ x * (2 ^ k * 2 ^ k)
  pub some : 0 < 2 ^ k
  pub wide : 2 ^ 62 ≤ w

pub spared : (x : ℕ) → 0 < x → x < 2 ^ 64 → IsSpared x (count_leading_zeros 64 x / 2) ((x * 2 ^ (2 * (count_leading_zeros 64 x / 2))) % 2 ^ 64)
spared x h l =
    let t = leading_top 64 x h l in
    let k = count_leading_zeros 64 x / 2 in
    let room : suc t.0 + 2 * k ≤ 64 = omega (arith, t.1) in
    let whole : (x * 2 ^ (2 * k)) % 2 ^ 64 ≡ x * 2 ^ (2 * k) = shl_whole x (suc t.0) (2 * k) 64 t.3 room in
    let near : 62 ≤ t.0 + 2 * k = omega (arith, t.1) in
    let double : 2 ^ (2 * k) ≡ 2 ^ k * 2 ^ k = ap (λ (n : ℕ). 2 ^ n) (let m : 2 * k ≡ k + k = omega arith in m) ∙ pow-add 2 k k in
    record {
      shifted = whole ∙ ap (λ (z : ℕ). x * z) double;
      some = pow_pos k;
      wide = subst (λ (z : ℕ). 2 ^ 62 ≤ z) (sym whole) (less (2 ^ 62) (2 ^ (t.0 + 2 * k)) (2 ^ t.0 * 2 ^ (2 * k)) (x * 2 ^ (2 * k)) (pow_mono near) (pow-add 2 t.0 (2 * k)) (mul-le-mul t.2 (let m : 2 ^ (2 * k) ≤ 2 ^ (2 * k) = omega arith in m)));
    }
  where
    less : (a b c d : ℕ) → a ≤ b → b ≡ c → c ≤ d → a ≤ d
    less a b c d h e k = omega (arith, h, e, k)
