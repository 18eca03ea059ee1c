-- A hull cycle begins at the lowest of the leftmost points.
use Rattle.std.proofs.Common.{◌≡◌, ◌≢◌, sym, ap, ap₂, ◌∙◌, subst, arith, List, [], ◌∷◌, length, ℕ, ◌<◌, true, false, pos, Some}
use Rattle.std.specs.Prelude.{slice_get}
use Rattle.std.proofs.lemmas.Option.{same_Some}
use Rattle.kin_algebra.specs.declared.sign.Sign.TheVariants.{Minus}
use Rattle.kin_algebra.specs.Signs.{opposite_of, first_of}
use Rattle.kin_motion.specs.Cells.{above_left}
use Rattle.kin_motion.specs.Chains.{round, IsUpperChain, IsLowerChain}
use Rattle.kin_motion.specs.Numbers.{IsIn}
use Rattle.kin_motion.specs.Scene.{Scene, IsReal, y_sign, reflected}
use Rattle.kin_motion.proofs.ReflectedFactLaws.{along_y}
use Rattle.kin_motion.proofs.ReflectedLaws.{reflected-real}
use Rattle.kin_chain.proofs.ChainLaws.{end_points}
use Rattle.kin_chain.proofs.MergedChain.{chain_of}
use Rattle.kin_chain.proofs.Outer.{outer}
use Rattle.kin_chain.proofs.RealPlanes.{here, places}
use Rattle.kin_hull.specs.Corners.{CyclesBeginLeftmost, CyclesHaveCorners}

-- a set with an empty chain is empty
none_in_set : (s : Scene) (set : List ℕ) (q : ℕ) → IsReal s → IsUpperChain s set [] → IsIn q set → ⊥
none_in_set s set q real u there = let b = (chain_of s real u).best (outer (here s real) (places s real) set).left q there in absurd (let e : false ≡ true = b.1 in cc)

-- seen with y turned round, no live point is farther left than the first corner, or straight above it
first_corner : (s : Scene) (lower upper : List ℕ) (p q : ℕ) → IsReal s → IsLowerChain s s.live lower → IsIn q s.live → slice_get (round lower upper) 0 ≡ Some p → above_left (reflected s) p q ≢ Minus
first_corner s [] upper p q real low there e = absurd (none_in_set (reflected s) s.live q (reflected-real s real) low there)
first_corner s (a ∷ more) upper p q real low there e = subst (λ n. above_left (reflected s) n q ≢ Minus) (same_Some a p e) (end_points (reflected s) s.live a more q (reflected-real s real) low there).0

pub cycles_begin_leftmost : CyclesBeginLeftmost
cycles_begin_leftmost s cycle p real hull first = (
  λ q i e. corner q i (ap (λ t. first_of t (opposite_of (y_sign (reflected s) p q))) e),
  λ q i e f. corner q i (ap₂ (λ t u. first_of t (opposite_of u)) e (along_y s real (pos 1) p q ∙ ap opposite_of f)),
)
  where
    corner : (q : ℕ) → IsIn q s.live → above_left (reflected s) p q ≢ Minus
    corner q i = first_corner s hull.lower hull.upper p q real hull.lower_chain i (ap (λ xs. slice_get xs 0) (sym hull.joined) ∙ first)

-- a lower chain that isn't empty begins the cycle
begun : (s : Scene) (lower upper : List ℕ) (q : ℕ) → IsReal s → IsLowerChain s s.live lower → IsIn q s.live → 0 < length (round lower upper)
begun s [] upper q real low there = absurd (none_in_set (reflected s) s.live q (reflected-real s real) low there)
begun s (a ∷ more) upper q real low there = omega arith

pub cycles_have_corners : CyclesHaveCorners
cycles_have_corners s cycle q real hull there = subst (λ xs. 0 < length xs) (sym hull.joined) (begun s hull.lower hull.upper q real hull.lower_chain there)
