-- The computed facts of an extreme point are its facts.
use Rattle.std.proofs.Common.{◌≡◌, refl, arith, List, ℕ, zero, suc, ◌+◌, ◌^◌, Bool, true, false, cond, map, length, ℤ, pos, nat_lt}
use Rattle.std.specs.Prelude.{Some, None}
use Rattle.std.proofs.lemmas.Bool.Decides.{nat_tests}
use Rattle.kin_algebra.specs.declared.sign.Sign.{Sign}
use Rattle.kin_algebra.specs.declared.sign.Sign.TheVariants.{Minus, Zero, Plus}
use Rattle.kin_algebra.specs.Signs.{opposite_of}
use Rattle.kin_motion.specs.declared.form.Form.TheVariants.{Line}
use Rattle.kin_motion.specs.Numbers.{is_in, numbers_from}
use Rattle.kin_motion.specs.Scene.{Scene}
use Rattle.kin_motion.specs.Tournaments.{beats, item_in}
use Rattle.kin_motion.specs.Extremes.{left_is_farther, along_key, slot_of_point, point_slots}
use Rattle.kin_motion.specs.Laws.{HasLineLaws}
use Rattle.kin_motion.specs.Agreements.{ExtremeFactsAgree}
use Rattle.kin_motion.proofs.RealLaws.{real_line_laws}
use Rattle.kin_motion.proofs.BestLaws.{farther_through, farther-otherwise}
use Rattle.kin_motion.proofs.NodeLaws.{tournament_agrees}

number_in : (live : List ℕ) (j a : ℕ) → slot_of_point live j ≡ Some a → j ≡ a
number_in live j a e = at (is_in j live) e
  where
    at : (b : Bool) → cond b (Some j) None ≡ Some a → j ≡ a
    at true f = cc
    at false f = absurd cc

-- slot i of the points from n on holds point n + i, if anything
pub held_number : (live : List ℕ) (n k i a : ℕ) → item_in (map (slot_of_point live) (numbers_from n k)) i ≡ Some a → n + i ≡ a
held_number live n zero i a e = absurd cc
held_number live n (suc k) zero a e = let f = number_in live n a e in omega (arith, f)
held_number live n (suc k) (suc i) a e = let f = held_number live (n + 1) k i a e in omega (arith, f)

pub slot_count : (live : List ℕ) (n k : ℕ) → length (map (slot_of_point live) (numbers_from n k)) ≡ k
slot_count live n zero = refl
slot_count live n (suc k) = let f = slot_count live (n + 1) k in omega (arith, f)

module _ (s : Scene) (laws : HasLineLaws s) (dx dy : ℤ) where
  pub farther-through : (i j k : ℕ) → beats s (along_key dx dy) i j ≡ true → beats s (along_key dx dy) j k ≡ true → beats s (along_key dx dy) i k ≡ true
  farther-through i j k = farther_through _ _ _ i j k (laws.chain dx dy i j k)

  pub farther-never : (i : ℕ) → beats s (along_key dx dy) i i ≡ true → ⊥
  farther-never i e = at (s.sign (Line dx dy (pos 0) i i)) (laws.opposite dx dy i i) e
    where
      at : (t : Sign) → t ≡ opposite_of t → left_is_farther t i i ≡ true → ⊥
      at Minus o f = absurd cc
      at Plus o f = absurd cc
      at Zero o f = let g : nat_lt i i ≡ true = f in absurd (grind (arith, nat_tests, g))

pub extreme_facts_agree : ExtremeFactsAgree
extreme_facts_agree size s dx dy r =
    let laws = real_line_laws s r in
    tournament_agrees s (along_key dx dy) (farther-otherwise s laws dx dy) (farther-through s laws dx dy) (farther-never s laws dx dy) size (point_slots size s.live)
    (λ i j a e f. let g = held_number s.live 0 (2 ^ size) i a e in let h = held_number s.live 0 (2 ^ size) j a f in omega (arith, g, h))
    (let c = slot_count s.live 0 (2 ^ size) in omega (arith, c))
