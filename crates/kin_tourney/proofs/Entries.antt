-- What nodes name.
use Rattle.std.proofs.Common.{◌≡◌, ◌⊎◌, inl, inr, refl, sym, ap, ◌∙◌, subst, arith, List, ℕ, ◌+◌, ◌*◌, ◌-◌, ◌^◌, ◌<◌, ◌≤◌, length, Bool, true, false, cond, nat_lt}
use Rattle.std.specs.Prelude.{Option, Some, None, IfSome}
use Rattle.std.proofs.Math.Pow.{pow_mono}
use Rattle.std.proofs.lemmas.Bool.Decides.{nat_tests}
use Rattle.std.proofs.lemmas.Option.{same_Some}
use Rattle.kin_algebra.specs.declared.sign.Sign.{Sign}
use Rattle.kin_motion.specs.declared.form.Form.{Form}
use Rattle.kin_motion.specs.Tournaments.{Key, item_in, is_under}
use Rattle.kin_tourney.specs.declared.entry.Entry.{Entry}
use Rattle.kin_tourney.specs.Standings.{Standings, IsTree, best_in, named_at, entry_at, entry_in, entry_with, match_of, match_at}
use Rattle.kin_motion.proofs.UnderNodes.{is_under-leaf, is_under-left, is_under-right}

-- the slot of an entry is the one that the node names, and holds its item
entry_with_slot : {Item : Type 0} (i : ℕ) (o : Option Item) (e : Entry Item) → entry_with i o ≡ Some e → (i ≡ e.slot) × (o ≡ Some e.item)
entry_with_slot {Item} i None e h = absurd cc
entry_with_slot {Item} i (Some a) e h =
    let k = same_Some _ _ h in (ap (λ (x : Entry Item). x.slot) k, ap (λ (x : Entry Item). Some x.item) k)

pub entry_in_slot : {Item : Type 0} (items : List (Option Item)) (o : Option ℕ) (e : Entry Item) → entry_in items o ≡ Some e → (o ≡ Some e.slot) × (item_in items e.slot ≡ Some e.item)
entry_in_slot {Item} items None e h = absurd cc
entry_in_slot {Item} items (Some i) e h =
    let k = entry_with_slot i (item_in items i) e h in
    (ap Some k.0, ap (item_in items) (sym k.0) ∙ k.1)

-- an inner node names its best slot
pub named_inner : {Item : Type 0} (t : Standings Item) (v : ℕ) → v < length t.items → named_at t v ≡ best_in t.best v
named_inner {Item} t v inside = at (nat_lt v (length t.items)) refl
  where
    at : (b : Bool) → nat_lt v (length t.items) ≡ b → cond b (best_in t.best v) (Some (v - length t.items)) ≡ best_in t.best v
    at true e = refl
    at false e = let past : length t.items ≤ v = grind (arith, nat_tests, e) in absurd (omega arith)

-- the slot that a node names stands under it
pub named_under : {Item : Type 0} (t : Standings Item) → IsTree t → (v i : ℕ) → v < 2 * length t.items → named_at t v ≡ Some i → (i < length t.items) × (is_under t.size v i ≡ true)
named_under {Item} t h v i inside e = at (nat_lt v (length t.items)) refl e
  where
    at : (b : Bool) → nat_lt v (length t.items) ≡ b → cond b (best_in t.best v) (Some (v - length t.items)) ≡ Some i → (i < length t.items) × (is_under t.size v i ≡ true)
    at true f g = (h.best_low v i g, h.best_under v i g)
    at false f g =
        let past : length t.items ≤ v = grind (arith, nat_tests, f) in
        let same : v - length t.items ≡ i = same_Some _ _ g in
        let room = h.items_room in
        let leaf : 2 ^ t.size + i ≡ v = omega arith in
        (omega arith, subst (λ u. is_under t.size u i ≡ true) leaf (is_under-leaf t.size i))

-- the winner of a match is an entry of one half
pub match_slot : {Item : Type 0} (key : Key Item) (sign : Form → Sign) (l r : Option (Entry Item)) (i : ℕ) → (match_of key sign l r).0 ≡ Some i
    → ((e : Entry Item) × (l ≡ Some e) × (e.slot ≡ i)) ⊎ ((e : Entry Item) × (r ≡ Some e) × (e.slot ≡ i))
match_slot {Item} key sign None None i h = absurd cc
match_slot {Item} key sign (Some l) None i h = inl (l, refl, same_Some _ _ h)
match_slot {Item} key sign None (Some r) i h = inr (r, refl, same_Some _ _ h)
match_slot {Item} key sign (Some l) (Some r) i h = at (key.left_wins (sign (key.form l.item r.item)) l.item r.item) h
  where
    at : (b : Bool) → Some (cond b l.slot r.slot) ≡ Some i → ((e : Entry Item) × (Some l ≡ Some e) × (e.slot ≡ i)) ⊎ ((e : Entry Item) × (Some r ≡ Some e) × (e.slot ≡ i))
    at true g = inl (l, refl, same_Some _ _ g)
    at false g = inr (r, refl, same_Some _ _ g)

-- so it stands under the node
pub match_under : {Item : Type 0} (key : Key Item) (sign : Form → Sign) (t : Standings Item) → IsTree t → (v i : ℕ) → 0 < v → v < length t.items → (match_at key sign t v).0 ≡ Some i → (i < length t.items) × (is_under t.size v i ≡ true)
match_under {Item} key sign t h v i some inside e = at (match_slot key sign (entry_at t (2 * v)) (entry_at t (2 * v + 1)) i e)
  where
    low : (j : ℕ) → j < length t.items → j < 2 ^ t.size
    low j k = let room = h.items_room in omega arith

    at : ((x : Entry Item) × (entry_at t (2 * v) ≡ Some x) × (x.slot ≡ i)) ⊎ ((x : Entry Item) × (entry_at t (2 * v + 1) ≡ Some x) × (x.slot ≡ i)) → (i < length t.items) × (is_under t.size v i ≡ true)
    at (inl (x, f, g)) =
        let k = named_under t h (2 * v) i (omega arith) ((entry_in_slot t.items (named_at t (2 * v)) x f).0 ∙ ap Some g) in
        (k.0, is_under-left t.size v i some (low v inside) (low i k.0) k.1)
    at (inr (x, f, g)) =
        let k = named_under t h (2 * v + 1) i (omega arith) ((entry_in_slot t.items (named_at t (2 * v + 1)) x f).0 ∙ ap Some g) in
        (k.0, is_under-right t.size v i some (low v inside) (low i k.0) k.1)

-- and its slot fits two bytes
pub match_low : {Item : Type 0} (key : Key Item) (sign : Form → Sign) (t : Standings Item) → IsTree t → (v : ℕ) → 0 < v → v < length t.items → (o : Option ℕ) → o ≡ (match_at key sign t v).0 → IfSome o (λ i. i < 2 ^ 15)
match_low {Item} key sign t h v some inside None e = tt
match_low {Item} key sign t h v some inside (Some i) e =
    let low = (match_under key sign t h v i some inside (sym e)).0 in
    let most : 2 ^ t.size ≤ 2 ^ 15 = pow_mono h.small in omega (arith, low, most, h.items_room)
