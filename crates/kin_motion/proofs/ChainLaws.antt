-- An upper chain is one list.
use Rattle.std.proofs.Common.{◌≡◌, refl, sym, ap, ◌∙◌, List, ℕ, true, pos}
use Rattle.std.proofs.lemmas.Bool.{and_parts}
use Rattle.kin_algebra.specs.declared.sign.Sign.{Sign}
use Rattle.kin_algebra.specs.declared.sign.Sign.TheVariants.{Minus, Zero, Plus}
use Rattle.kin_algebra.specs.Signs.{opposite_of, SumMayBe}
use Rattle.kin_motion.specs.Scene.{Scene, x_sign}
use Rattle.kin_motion.specs.Chains.{is_plus, is_zero, is_left, is_bare, IsUpperChain}
use Rattle.kin_motion.specs.Laws.{HasLineLaws}
use Rattle.kin_motion.proofs.ListChains.{same_chain}
use Rattle.kin_motion.specs.Numbers.{is_in}

-- ---- what the tests of signs say
pub plus_from : {t : Sign} → is_plus t ≡ true → t ≡ Plus
plus_from {t} e = at t e
  where
    at : (t : Sign) → is_plus t ≡ true → t ≡ Plus
    at Minus e = absurd cc
    at Zero e = absurd cc
    at Plus e = refl

pub zero_from : {t : Sign} → is_zero t ≡ true → t ≡ Zero
zero_from {t} e = at t e
  where
    at : (t : Sign) → is_zero t ≡ true → t ≡ Zero
    at Minus e = absurd cc
    at Zero e = refl
    at Plus e = absurd cc

-- ---- one chain
pub never_left : (t : Sign) → t ≡ opposite_of t → is_plus t ≡ true → ⊥
never_left Minus e h = absurd cc
never_left Zero e h = absurd cc
never_left Plus e h = absurd cc

pub left_through : (t u r : Sign) → SumMayBe t u r → is_plus t ≡ true → is_plus u ≡ true → is_plus r ≡ true
left_through Minus u r sum a b = absurd cc
left_through Zero u r sum a b = absurd cc
left_through Plus Minus r sum a b = absurd cc
left_through Plus Zero r sum a b = absurd cc
left_through Plus Plus r sum a b = ap is_plus sum

module _ (s : Scene) (laws : HasLineLaws s) where
  pub one_upper_chain : (set xs ys : List ℕ) → IsUpperChain s set xs → IsUpperChain s set ys → xs ≡ ys
  one_upper_chain set xs ys a b =
      same_chain (is_left s) (λ i. never_left (x_sign s i i) (laws.opposite (pos 1) (pos 0) i i)) (λ i j k. left_through _ _ _ (laws.chain (pos 1) (pos 0) i j k))
      xs ys a.rising b.rising (λ i. a.members i ∙ sym (b.members i))

-- what stands in an upper chain stands in its set
pub chain_within : (s : Scene) (set xs : List ℕ) → IsUpperChain s set xs → (i : ℕ) → is_in i xs ≡ true → is_in i set ≡ true
chain_within s set xs chain i h = (and_parts (is_in i set) (is_bare s set i) (sym (chain.members i) ∙ h)).0
