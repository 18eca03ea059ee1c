-- The slopes of an upper chain fall.
use Rattle.std.proofs.Common.{◌≡◌, refl, sym, ap₂, ◌∙◌, arith, List, [], ◌∷◌, ℕ, Bool, true, false, not, ◌&&◌}
use Rattle.std.specs.List.{list_any}
use Rattle.std.proofs.lemmas.Bool.Decides.{nat_tests}
use Rattle.std.proofs.lemmas.Bool.{and_parts}
use Rattle.kin_algebra.specs.declared.sign.Sign.{Sign}
use Rattle.kin_algebra.specs.declared.sign.Sign.TheVariants.{Minus, Zero, Plus}
use Rattle.kin_motion.specs.declared.form.Form.TheVariants.{Turn, Slope}
use Rattle.kin_motion.specs.Numbers.{is_in, IsChain}
use Rattle.kin_motion.specs.Scene.{Scene}
use Rattle.kin_motion.specs.Chains.{is_plus, is_left, is_double, is_above, is_under_segment, is_bare, IsUpperChain}
use Rattle.kin_motion.specs.Laws.{HasTurnLaws}
use Rattle.kin_motion.proofs.AgreementLaws.{none_passes}

-- each two segments that meet fall
abbrev pub Falls : Scene → List ℕ → Type 0
Falls s [] = Unit {0}
Falls s (i ∷ []) = Unit {0}
Falls s (i ∷ j ∷ []) = Unit {0}
Falls s (i ∷ j ∷ k ∷ ps) = (s.sign (Slope i j j k) ≡ Plus) × Falls s (j ∷ k ∷ ps)

third : (a b c : Bool) → not a && not b && not c ≡ true → c ≡ false
third a b true h = absurd (no (not a && not b) h)
  where
    no : (d : Bool) → d && false ≡ true → ⊥
    no true e = absurd cc
    no false e = absurd cc
third a b false h = refl

pub plus_again : (t : Sign) → not (is_plus t) ≡ false → t ≡ Plus
plus_again Plus h = refl
plus_again Zero h = absurd cc
plus_again Minus h = absurd cc

pub turns_right : (s : Scene) → HasTurnLaws s → (set : List ℕ) (i j k : ℕ) → is_in i set ≡ true → is_in k set ≡ true → is_bare s set j ≡ true → is_left s i j ≡ true → is_left s j k ≡ true → s.sign (Slope i j j k) ≡ Plus
turns_right s laws set i j k in_i in_k bare left right =
    let none = third (list_any (is_double s j) set) (list_any (is_above s j) set) (list_any (λ q. list_any (is_under_segment s j q) set) set) bare in
    let free : is_under_segment s j i k ≡ false = none_passes (is_under_segment s j i) set k (none_passes (λ q. list_any (is_under_segment s j q) set) set i none in_i) in_k in
    let plain : not (is_plus (s.sign (Turn i k j))) ≡ false = ap₂ (λ a b. a && b && not (is_plus (s.sign (Turn i k j)))) (sym left) (sym right) ∙ free in
    laws.slope i j k ∙ sym (laws.exchanged i j k) ∙ plus_again (s.sign (Turn i k j)) plain

chain_falls : (s : Scene) → HasTurnLaws s → (set xs : List ℕ) → ((p : ℕ) → is_in p xs ≡ true → is_in p set && is_bare s set p ≡ true) → IsChain (is_left s) xs → Falls s xs
chain_falls s laws set [] m c = tt
chain_falls s laws set (i ∷ []) m c = tt
chain_falls s laws set (i ∷ j ∷ []) m c = tt
chain_falls s laws set (i ∷ j ∷ k ∷ ps) m c =
    let of_i = and_parts (is_in i set) (is_bare s set i) (m i (grind (arith, nat_tests))) in
    let of_j = and_parts (is_in j set) (is_bare s set j) (m j (grind (arith, nat_tests))) in
    let of_k = and_parts (is_in k set) (is_bare s set k) (m k (grind (arith, nat_tests))) in (
      turns_right s laws set i j k of_i.0 of_k.0 of_j.1 c.0 c.1.0,
      chain_falls s laws set (j ∷ k ∷ ps) (λ p h. m p (grind (arith, nat_tests, h))) c.1,
    )

pub upper_falls : (s : Scene) → HasTurnLaws s → (set xs : List ℕ) → IsUpperChain s set xs → Falls s xs
upper_falls s laws set xs u = chain_falls s laws set xs (λ p h. sym (u.members p) ∙ h) u.rising
