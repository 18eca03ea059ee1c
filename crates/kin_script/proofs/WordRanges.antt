-- Every number that is read from the words of a line is in its range.
use Rattle.std.proofs.Common.{◌≡◌, ℕ, ◌+◌, ◌-◌, ◌<◌, ◌≤◌, ◌^◌, Bool, true, false, cond, nat_le, nat_lt, List, [], ◌∷◌, Option, Some, None, refl, pos, unsigned_abs, drop, pow_pos, arith}
use Rattle.std.specs.Prelude.{position, ◌==◌}
use Rattle.std.proofs.lemmas.Int.{ints}
use Rattle.std.proofs.lemmas.Bool.Decides.{nat_tests}
use lib.IntN.{neg_ℤ}
use Rattle.kin_motion.specs.Course.{IsSlow, motion_limit}
use Rattle.kin_script.specs.Questions.{IsDirection}
use Rattle.kin_script.specs.Lines.{Word}
use Rattle.kin_script.specs.Numbers.{up_to, at_least, starts_with_minus, numeral_of, natural_of, integer_of, ratio_limit, ratio_at_slash, ratio_of}
use Rattle.kin_script.specs.Words.{natural_at, integer_at, number_at, motion_at, direction_at}
use Rattle.kin_script.proofs.EachGiven.{Each, each_none, each_one, each_way, each_unless, each_last, each_map, each_then}

up_to_range : (most : ℕ) (o : Option ℕ) → Each (λ n. n ≤ most) (up_to most o)
up_to_range most None = each_none _
up_to_range most (Some n) = at (nat_le n most) refl
  where
    at : (b : Bool) → nat_le n most ≡ b → Each (λ k. k ≤ most) (cond b (Some n) None)
    at true e = each_one _ n (grind (arith, nat_tests))
    at false e = each_none _

at_least_range : (low high : ℕ) (o : Option ℕ) → Each (λ n. n ≤ high) o → Each (λ n. (low ≤ n) × (n ≤ high)) (at_least low o)
at_least_range low high None h = each_none _
at_least_range low high (Some n) h = at (nat_lt n low) refl
  where
    at : (b : Bool) → nat_lt n low ≡ b → Each (λ k. (low ≤ k) × (k ≤ high)) (cond b None (Some n))
    at true e = each_none _
    at false e = each_one _ n (grind (arith, nat_tests), h n refl)

natural_range : (low high : ℕ) (w : Word) → Each (λ n. (low ≤ n) × (n ≤ high)) (natural_of low high w)
unfolding natural_of
natural_range low high w = at_least_range low high _ (each_way _ (starts_with_minus w) _ _ (λ n e. nothing_more n (up_to_range 0 (numeral_of (drop 1 w)) n e)) (up_to_range high _))
  where
    nothing_more : (n : ℕ) → n ≤ 0 → n ≤ high
    nothing_more n h = omega (arith, h)

integer_range : (far : ℕ) (w : Word) → Each (λ z. unsigned_abs z ≤ far) (integer_of far w)
unfolding integer_of
integer_range far w = each_way _ (starts_with_minus w) _ _
    (each_map _ (λ n. neg_ℤ (pos n)) _ (λ n e. turned n (up_to_range far (numeral_of (drop 1 w)) n e)))
    (each_map _ pos _ (λ n e. kept n (up_to_range far (numeral_of w) n e)))
  where
    turned : (n : ℕ) → n ≤ far → unsigned_abs (neg_ℤ (pos n)) ≤ far
    turned n h = omega (arith, ints)

    kept : (n : ℕ) → n ≤ far → unsigned_abs (pos n) ≤ far
    kept n h = omega (arith, ints)

abbrev pub IsRatio : ℕ × ℕ → Type 0
IsRatio r = (r.0 ≤ ratio_limit) × (1 ≤ r.1) × (r.1 ≤ ratio_limit)

pub ratio_range : (w : Word) → Each IsRatio (ratio_of w)
unfolding ratio_of
ratio_range w = at (position (λ b. b == 47) w)
  where
    at : (o : Option ℕ) → Each IsRatio (ratio_at_slash w o)
    at (Some i) = each_then _ _ _ _ (natural_range 0 ratio_limit _) (λ n h. each_then _ _ _ _ (natural_range 1 ratio_limit _) (λ d k. each_one _ (n, d) (h.1, k.0, k.1)))
    at None = each_then _ _ _ _ (natural_range 0 ratio_limit w) (λ n h. each_one _ (n, 1) (h.1, omega arith, omega arith))

pub natural_at_range : (low high : ℕ) (ws : List Word) → Each (λ r. (low ≤ r.0) × (r.0 ≤ high)) (natural_at low high ws)
unfolding natural_at
natural_at_range low high [] = each_none _
natural_at_range low high (w ∷ ws) = each_then _ _ _ _ (natural_range low high w) (λ n h. each_one _ (n, ws) h)

-- the number of a point
pub number_range : (size : ℕ) (ws : List Word) → Each (λ n. n.0 < 2 ^ size) (number_at size ws)
unfolding number_at
number_range size ws n e = below n.0 (natural_at_range 0 (2 ^ size - 1) ws n e).1
  where
    below : (n : ℕ) → n ≤ 2 ^ size - 1 → n < 2 ^ size
    below n h = let some : 0 < 2 ^ size = pow_pos size in omega (arith, h, some)

pub integer_at_range : (far : ℕ) (ws : List Word) → Each (λ r. unsigned_abs r.0 ≤ far) (integer_at far ws)
unfolding integer_at
integer_at_range far [] = each_none _
integer_at_range far (w ∷ ws) = each_then _ _ _ _ (integer_range far w) (λ z h. each_one _ (z, ws) h)

pub some : (n : ℕ) → n == 0 ≡ false → 0 < n
some n e = grind (arith, nat_tests)

pub motion_range : (ws : List Word) → Each (λ r. IsSlow r.0) (motion_at ws)
unfolding motion_at
motion_range ws =
    each_then _ _ _ _ (integer_at_range motion_limit ws) (λ x hx.
    each_then _ _ _ _ (integer_at_range motion_limit x.1) (λ y hy.
    each_then _ _ _ _ (integer_at_range motion_limit y.1) (λ u hu.
    each_then _ _ _ _ (integer_at_range motion_limit u.1) (λ v hv.
    each_one _ _ (record { x_small = hx; y_small = hy; u_small = hu; v_small = hv })))))

pub direction_range : (ws : List Word) → Each (λ d. IsDirection d.0 d.1) (direction_at ws)
unfolding direction_at
direction_range ws =
    each_then _ _ _ _ (integer_at_range 16 ws) (λ dx hx.
    each_then _ _ _ _ (integer_at_range 16 dx.1) (λ dy hy.
    each_unless _ (unsigned_abs dx.0 + unsigned_abs dy.0 == 0) _ (λ e. each_last _ (dx.0, dy.0) dy.1 (record { dx_small = hx; dy_small = hy; not_still = some (unsigned_abs dx.0 + unsigned_abs dy.0) e }))))
