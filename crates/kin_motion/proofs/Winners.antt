-- The computed winner of a node is its winner.
use Rattle.std.proofs.Common.{◌≡◌, ◌⊎◌, refl, subst, List, ℕ, true, false}
use Rattle.std.specs.Prelude.{Option, Some, None, Contains}
use Rattle.kin_algebra.proofs.Members.{contains_none}
use Rattle.kin_motion.specs.Contents.{IsWinner}
use Rattle.kin_motion.specs.Scene.{Scene}
use Rattle.kin_motion.specs.Tournaments.{Key, beats, item_in, is_under, items_under, best_of}
use Rattle.kin_motion.proofs.BestLaws.{none_there}
use Rattle.kin_motion.proofs.NodeLaws.{under-complete, best_agrees}

module _ {Item : Type 0} (s : Scene) (key : Key Item)
    (otherwise : (a b : Item) → beats s key a b ≡ false → (a ≡ b) ⊎ (beats s key b a ≡ true))
    (through : (a b c : Item) → beats s key a b ≡ true → beats s key b c ≡ true → beats s key a c ≡ true)
    (never : (a : Item) → beats s key a a ≡ true → ⊥)
    (size : ℕ) (slots : List (Option Item))
    (apart : (i j : ℕ) (a : Item) → item_in slots i ≡ Some a → item_in slots j ≡ Some a → i ≡ j) where
  pub winner_agrees : (v : ℕ) → IsWinner s key size slots v (best_of s key (items_under size v slots))
  winner_agrees v = at (best_of s key (items_under size v slots)) refl
    where
      at : (w : Option Item) → best_of s key (items_under size v slots) ≡ w → IsWinner s key size slots v w
      at (Some a) e = best_agrees s key otherwise through never size slots apart v a e
      at None e = λ i under. nothing i (item_in slots i) under refl
        where
          nothing : (i : ℕ) (o : Option Item) → is_under size v i ≡ true → item_in slots i ≡ o → item_in slots i ≡ None
          nothing i None under held = held
          nothing i (Some a) under held = absurd (contains_none a (subst (λ xs. Contains xs a) (none_there s key otherwise through (items_under size v slots) e) (under-complete size v slots i a under held)))
