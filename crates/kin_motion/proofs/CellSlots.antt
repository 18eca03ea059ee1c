-- The slots of cells by computation.
use Rattle.std.proofs.Common.{◌≡◌, ◌⊎◌, inl, inr, refl, sym, ap, ◌∙◌, subst, arith, List, [], ◌∷◌, ℕ, zero, suc, ◌+◌, ◌^◌, Bool, true, false, cond, nat_eq, length, map}
use Rattle.std.specs.Prelude.{Contains, Option, Some, None, slice_get}
use Rattle.std.proofs.lemmas.Bool.Decides.{nat_tests}
use Rattle.std.proofs.lemmas.Option.{same_Some}
use Rattle.kin_algebra.proofs.Members.{contains_none, contains_head, contains_tail, contains_cases}
use Rattle.kin_motion.specs.ClosestPairs.{Near}
use Rattle.kin_motion.specs.Numbers.{numbers_from}
use Rattle.kin_motion.specs.Sweeps.{HoldsCell, AreCellSlots, cell_in, cell_slots}

cell_held : (i : ℕ) (cells : List Near) → HoldsCell cells i (cell_in i cells)
cell_held i [] = λ n c. absurd (contains_none n c)
cell_held i (m ∷ ms) = at (nat_eq m.slot i) refl (cell_in i ms) (cell_held i ms)
  where
    at : (b : Bool) → nat_eq m.slot i ≡ b → (x : Option Near) → HoldsCell ms i x → HoldsCell (m ∷ ms) i (cond b (Some m) x)
    at true e x h = (contains_head m ms, grind (arith, nat_tests, e))
    at false e (Some n) h = (contains_tail m n ms h.0, h.1)
    at false e None h = λ n c. other n (contains_cases m n ms c)
      where
        other : (n : Near) → (m ≡ n) ⊎ Contains ms n → n.slot ≡ i → ⊥
        other n (inl f) g = let q : m.slot ≡ i = ap (λ (y : Near). y.slot) f ∙ g in grind (arith, nat_tests, e, q)
        other n (inr k) g = h n k g

filled-length : (i k : ℕ) (cells : List Near) → length (map (λ slot. cell_in slot cells) (numbers_from i k)) ≡ k
filled-length i zero cells = refl
filled-length i (suc k) cells = let e = filled-length (i + 1) k cells in omega (arith, e)

filled-entry : (i k j : ℕ) (cells : List Near) (held : Option Near) → slice_get (map (λ slot. cell_in slot cells) (numbers_from i k)) j ≡ Some held → held ≡ cell_in (i + j) cells
filled-entry i zero j cells held e = absurd cc
filled-entry i (suc k) zero cells held e = sym (same_Some _ _ e) ∙ ap (λ n. cell_in n cells) (let f : i ≡ i + 0 = omega arith in f)
filled-entry i (suc k) (suc j) cells held e = filled-entry (i + 1) k j cells held e ∙ ap (λ n. cell_in n cells) (let f : i + 1 + j ≡ i + suc j = omega arith in f)

pub cells_fill : (size : ℕ) (cells : List Near) → AreCellSlots size cells (cell_slots size cells)
cells_fill size cells = record {
  count = filled-length 0 (2 ^ (size + 1)) cells;
  each = λ i held e. subst (HoldsCell cells i) (sym (filled-entry 0 (2 ^ (size + 1)) i cells held e ∙ ap (λ n. cell_in n cells) (let f : 0 + i ≡ i = omega arith in f))) (cell_held i cells);
}
