-- Upper and lower chains, and the hull cycle.
use Rattle.std.specs.Prelude.{◌≡◌, ℕ, Bool, true, false, not, ◌&&◌, nat_lt, List, ◌++◌, reverse, filter}
use Rattle.std.specs.List.{list_any}
use Rattle.kin_algebra.specs.declared.sign.Sign.{Sign}
use Rattle.kin_algebra.specs.declared.sign.Sign.TheVariants.{Minus, Zero, Plus}
use Rattle.kin_motion.specs.declared.form.Form.TheVariants.{Turn}
use Rattle.kin_motion.specs.Numbers.{is_in, IsChain, sorted_by}
use Rattle.kin_motion.specs.Scene.{Scene, x_sign, y_sign, reflected}

-- the sign is +
abbrev pub is_plus : Sign → Bool
is_plus Plus = true
is_plus Zero = false
is_plus Minus = false

-- the sign is 0
abbrev pub is_zero : Sign → Bool
is_zero Plus = false
is_zero Zero = true
is_zero Minus = false

-- p has the lesser x
abbrev pub is_left : Scene → ℕ → ℕ → Bool
is_left s p q = is_plus (x_sign s p q)

-- q is at the place of p, and less
abbrev pub is_double : Scene → ℕ → ℕ → Bool
is_double s p q = is_zero (x_sign s p q) && is_zero (y_sign s p q) && nat_lt q p

-- q is straight above p
abbrev pub is_above : Scene → ℕ → ℕ → Bool
is_above s p q = is_zero (x_sign s p q) && is_plus (y_sign s p q)

-- p is on or below the segment from q, which has lesser x, to r, which has greater x
abbrev pub is_under_segment : Scene → ℕ → ℕ → ℕ → Bool
is_under_segment s p q r = is_left s q p && is_left s p r && not (is_plus (s.sign (Turn q r p)))

-- no point of the set keeps p off the chain
abbrev pub is_bare : Scene → List ℕ → ℕ → Bool
is_bare s set p = not (list_any (is_double s p) set) && not (list_any (is_above s p) set) && not (list_any (λ q. list_any (is_under_segment s p q) set) set)

-- the points of the set that nothing keeps off, by rising x
pub record IsUpperChain (s : Scene) (set xs : List ℕ) : Type 0 where
  pub members : (p : ℕ) → is_in p xs ≡ (is_in p set && is_bare s set p)
  pub rising : IsChain (is_left s) xs

-- the upper chain after y is turned round
abbrev pub IsLowerChain : Scene → List ℕ → List ℕ → Type 0
IsLowerChain s set xs = IsUpperChain (reflected s) set xs

-- the lower chain from left to right, then the upper one from right to left without what is listed already
abbrev pub round : List ℕ → List ℕ → List ℕ
round lower upper = lower ++ filter (λ p. not (is_in p lower)) (reverse upper)

-- both chains of all live numbers, one after the other as above
pub record IsHullCycle (s : Scene) (xs : List ℕ) : Type 0 where
  pub lower : List ℕ
  pub upper : List ℕ
  pub lower_chain : IsLowerChain s s.live lower
  pub upper_chain : IsUpperChain s s.live upper
  pub joined : xs ≡ round lower upper

-- the same by computation
abbrev pub upper_chain_of : Scene → List ℕ → List ℕ
upper_chain_of s set = sorted_by (is_left s) (filter (is_bare s set) set)

-- the lower chain by computation
abbrev pub lower_chain_of : Scene → List ℕ → List ℕ
lower_chain_of s set = upper_chain_of (reflected s) set

-- the hull cycle by computation
abbrev pub cycle_of : Scene → List ℕ
cycle_of s = round (lower_chain_of s s.live) (upper_chain_of s s.live)
