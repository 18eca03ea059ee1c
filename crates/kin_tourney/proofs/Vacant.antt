-- A node without a winner has empty slots.
use Rattle.std.proofs.Common.{◌≡◌, ◌⊎◌, inl, inr, refl, sym, ap, ◌∙◌, subst, arith, ℕ, zero, suc, ◌+◌, ◌*◌, ◌-◌, ◌^◌, ◌<◌, ◌≤◌, length, Bool, true, false, nat_lt}
use Rattle.std.specs.Prelude.{Option, Some, None, IsTrue}
use Rattle.std.proofs.lemmas.Bool.Decides.{nat_tests}
use Rattle.std.proofs.lemmas.List.{get_or_past}
use Rattle.kin_algebra.specs.declared.sign.Sign.{Sign}
use Rattle.kin_motion.specs.Tournaments.{Key, item_in, is_under}
use Rattle.kin_tourney.specs.declared.entry.Entry.{Entry}
use Rattle.kin_motion.proofs.UnderNodes.{is_under-leaf, is_under-leaf_alone, is_under-left, is_under-right, is_under-cases}
use Rattle.kin_tourney.specs.Standings.{Standings, IsTree, IsRight, entry_at, item_of}
use Rattle.kin_tourney.proofs.Entrants.{entry_right, entry_leaf, winning}

module _ {Item : Type 0} (key : Key Item) (t : Standings Item) (tree : IsTree t)
    (consistent : (v : ℕ) → 0 < v → v < length t.items → (sign : Sign) × IsRight key (λ f. sign) t v) where
  abbrev AreEmpty : ℕ → Type 0
  AreEmpty v = (i : ℕ) → IsTrue (is_under t.size v i) → item_in t.items i ≡ None

  low_or_none : (i : ℕ) → (i < 2 ^ t.size) ⊎ (item_in t.items i ≡ None)
  low_or_none i = at (nat_lt i (2 ^ t.size)) refl
    where
      at : (b : Bool) → nat_lt i (2 ^ t.size) ≡ b → (i < 2 ^ t.size) ⊎ (item_in t.items i ≡ None)
      at true e = inl (grind (arith, nat_tests, e))
      at false e = inr (get_or_past t.items i None (let past : 2 ^ t.size ≤ i = grind (arith, nat_tests, e) in let r = tree.items_room in omega arith))

  gone : (e : Option (Entry Item)) → item_of e ≡ None → e ≡ None
  gone None h = refl
  gone (Some e) h = absurd cc

  no_winner : (sign : Sign) (l r : Option (Entry Item)) → winning key (λ f. sign) l r ≡ None → (l ≡ None) × (r ≡ None)
  no_winner sign None None h = (refl, refl)
  no_winner sign (Some l) None h = absurd cc
  no_winner sign None (Some r) h = absurd cc
  no_winner sign (Some l) (Some r) h = absurd cc

  no_entrants : (sign : Sign) (l r : Option (Entry Item)) → l ≡ None → r ≡ None → winning key (λ f. sign) l r ≡ None
  no_entrants sign l r e f = ap (λ x. winning key (λ f. sign) x r) e ∙ ap (λ x. winning key (λ f. sign) None x) f

  abbrev Vacant : ℕ → Type 0
  Vacant v = (item_of (entry_at t v) ≡ None → AreEmpty v) × (AreEmpty v → item_of (entry_at t v) ≡ None)

  inner_vacant : (v : ℕ) → 0 < v → v < length t.items → Vacant (2 * v) → Vacant (2 * v + 1) → Vacant v
  inner_vacant v some inside left right = at (consistent v some inside)
    where
      room : v < 2 ^ t.size
      room = let r = tree.items_room in omega arith

      at : (sign : Sign) × IsRight key (λ f. sign) t v → Vacant v
      at (sign, fits) = (
        (λ none. let both = no_winner sign (entry_at t (2 * v)) (entry_at t (2 * v + 1)) (sym (entry_right key (λ f. sign) t tree v inside fits) ∙ gone (entry_at t v) none) in
            empty (left.0 (ap item_of both.0)) (right.0 (ap item_of both.1))),
        (λ none. ap item_of (entry_right key (λ f. sign) t tree v inside fits
            ∙ no_entrants sign (entry_at t (2 * v)) (entry_at t (2 * v + 1))
            (gone (entry_at t (2 * v)) (left.1 (λ i h. part none i (low_or_none i) (λ l. is_under-left t.size v i some room l h))))
            (gone (entry_at t (2 * v + 1)) (right.1 (λ i h. part none i (low_or_none i) (λ l. is_under-right t.size v i some room l h)))))),
      )
        where
          part : AreEmpty v → (i : ℕ) → (i < 2 ^ t.size) ⊎ (item_in t.items i ≡ None) → (i < 2 ^ t.size → is_under t.size v i ≡ true) → item_in t.items i ≡ None
          part none i (inl l) up = none i (up l)
          part none i (inr e) up = e

          empty : AreEmpty (2 * v) → AreEmpty (2 * v + 1) → AreEmpty v
          empty l r i h = known (low_or_none i)
            where
              half : (is_under t.size (2 * v) i ≡ true) ⊎ (is_under t.size (2 * v + 1) i ≡ true) → item_in t.items i ≡ None
              half (inl k) = l i k
              half (inr k) = r i k

              known : (i < 2 ^ t.size) ⊎ (item_in t.items i ≡ None) → item_in t.items i ≡ None
              known (inl low) = half (is_under-cases t.size v i some room low h)
              known (inr e) = e

  leaf_vacant : (i : ℕ) → i < 2 ^ t.size → Vacant (2 ^ t.size + i)
  leaf_vacant i low =
      ((λ none j h. alone none j (low_or_none j) h), (λ none. entry_leaf t tree i ∙ none i (is_under-leaf t.size i)))
    where
      alone : item_of (entry_at t (2 ^ t.size + i)) ≡ None → (j : ℕ) → (j < 2 ^ t.size) ⊎ (item_in t.items j ≡ None) → is_under t.size (2 ^ t.size + i) j ≡ true → item_in t.items j ≡ None
      alone none j (inr e) h = e
      alone none j (inl l) h = let same : j ≡ i = is_under-leaf_alone t.size j i l h in ap (item_in t.items) same ∙ sym (entry_leaf t tree i) ∙ none

  vacant_from : (far v : ℕ) → 0 < v → v < 2 * 2 ^ t.size → 2 * 2 ^ t.size ≤ v + far → Vacant v
  vacant_from zero v some inside near = absurd (omega arith)
  vacant_from (suc far) v some inside near = at (nat_lt v (2 ^ t.size)) refl (λ h. vacant_from far (2 * v) (omega arith) h (omega arith)) (λ h. vacant_from far (2 * v + 1) (omega arith) h (omega arith))
    where
      at : (b : Bool) → nat_lt v (2 ^ t.size) ≡ b → (2 * v < 2 * 2 ^ t.size → Vacant (2 * v)) → (2 * v + 1 < 2 * 2 ^ t.size → Vacant (2 * v + 1)) → Vacant v
      at true e left right = let inner : v < 2 ^ t.size = grind (arith, nat_tests, e) in let r = tree.items_room in inner_vacant v some (omega arith) (left (omega arith)) (right (omega arith))
      at false e left right =
          let leaf : 2 ^ t.size ≤ v = grind (arith, nat_tests, e) in
          let same : 2 ^ t.size + (v - 2 ^ t.size) ≡ v = omega arith in
          subst Vacant same (leaf_vacant (v - 2 ^ t.size) (omega arith))

  pub vacant : (v : ℕ) → 0 < v → v < 2 * 2 ^ t.size → (item_of (entry_at t v) ≡ None → (i : ℕ) → IsTrue (is_under t.size v i) → item_in t.items i ≡ None) × (((i : ℕ) → IsTrue (is_under t.size v i) → item_in t.items i ≡ None) → item_of (entry_at t v) ≡ None)
  vacant v some inside = vacant_from (2 * 2 ^ t.size) v some inside (omega arith)
