-- Facts of neighbours.
use Rattle.std.proofs.Common.{◌≡◌, ◌≤◌, refl, sym, ap, ◌∙◌, arith, List, [], ◌∷◌, ◌++◌, ℕ, ◌-◌, ℤ, length, drop}
use Rattle.std.proofs.lemmas.List.{append-nil, length-drop}
use Rattle.kin_motion.specs.declared.fact.Placed.{Placed}
use Rattle.kin_motion.specs.Orders.{neighbour_facts}
use Rattle.kin_motion.specs.Scene.{Scene}

alone : (s : Scene) (dx dy : ℤ) (part : ℕ) (xs : List ℕ) → length xs ≤ 1 → neighbour_facts s dx dy part xs ≡ []
alone s dx dy part [] le = refl
alone s dx dy part (x ∷ []) le = refl
alone s dx dy part (x ∷ y ∷ xs) le = absurd (omega (arith, le))

-- the last number has no next one
pub all_neighbours : (s : Scene) (dx dy x y : ℤ) (part : ℕ) (xs : List ℕ) (i : ℕ) (fs old : List Placed) → x ≡ dx → y ≡ dy → length xs ≤ i → 1 ≤ i
    → fs ++ neighbour_facts s x y part (drop (i - 1) xs) ≡ old ++ neighbour_facts s x y part xs → fs ≡ old ++ neighbour_facts s dx dy part xs
all_neighbours s dx dy x y part xs i fs old same_x same_y high low e =
    sym (append-nil fs) ∙ ap (λ (l : List Placed). fs ++ l) (sym (alone s x y part (drop (i - 1) xs) (let n = length-drop (i - 1) xs in omega (arith, n, high, low)))) ∙ e
    ∙ ap (λ (d : ℤ). old ++ neighbour_facts s d y part xs) same_x ∙ ap (λ (d : ℤ). old ++ neighbour_facts s dx d part xs) same_y
