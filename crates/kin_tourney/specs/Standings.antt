-- The tree of matches: what it holds, and the match of one node.
use Rattle.std.specs.Prelude.{◌≡◌, ℕ, ◌+◌, ◌-◌, ◌*◌, ◌/◌, ◌^◌, ◌<◌, ◌≤◌, Bool, true, false, cond, nat_lt, List, [], ◌∷◌, ◌++◌, length, map, Option, Some, None, slice_index_or}
use Rattle.std.specs.List.{count_by}
use Rattle.kin_algebra.specs.declared.sign.Sign.{Sign}
use Rattle.kin_motion.specs.declared.form.Form.{Form}
use Rattle.kin_motion.specs.declared.fact.Fact.{Fact}
use Rattle.kin_motion.specs.declared.fact.Placed.{Placed}
use Rattle.kin_motion.specs.Tournaments.{Key, item_in, is_under}
use Rattle.kin_tourney.specs.declared.doubt.Doubt.{Doubt}
use Rattle.kin_tourney.specs.declared.doubt.Doubt.TheVariants.{Clear, Below, Here}
use Rattle.kin_tourney.specs.declared.entry.Entry.{Entry}
use Rattle.kin_tourney.specs.Tournament.{Tournament}

-- items and marks by slot; best slots, facts and doubts by inner node
pub record Standings (Item : Type 0) : Type 0 where
  pub size : ℕ
  pub items : List (Option Item)
  pub marked : List Bool
  pub best : List (Option ℕ)
  pub facts : List (Option Fact)
  pub doubts : List Doubt

-- the best slot of an inner node
abbrev pub best_in : List (Option ℕ) → ℕ → Option ℕ
best_in best v = slice_index_or best v None

-- the fact of an inner node
abbrev pub fact_in : List (Option Fact) → ℕ → Option Fact
fact_in facts v = slice_index_or facts v None

-- the doubt of an inner node
abbrev pub doubt_in : List Doubt → ℕ → Doubt
doubt_in doubts v = slice_index_or doubts v Clear

-- a slot with what it holds
abbrev pub entry_with : {Item : Type 0} → ℕ → Option Item → Option (Entry Item)
entry_with i None = None
entry_with i (Some a) = Some (record { slot = i; item = a })

-- the entry at a slot, where it holds an item
abbrev pub entry_in : {Item : Type 0} → List (Option Item) → Option ℕ → Option (Entry Item)
entry_in items None = None
entry_in items (Some i) = entry_with i (item_in items i)

-- the slot that a node names: its best, or its own at a leaf
abbrev pub named_at : {Item : Type 0} → Standings Item → ℕ → Option ℕ
named_at t v = cond (nat_lt v (length t.items)) (best_in t.best v) (Some (v - length t.items))

-- the best item of a node with its slot
abbrev pub entry_at : {Item : Type 0} → Standings Item → ℕ → Option (Entry Item)
entry_at t v = entry_in t.items (named_at t v)

-- the item of an entry
abbrev pub item_of : {Item : Type 0} → Option (Entry Item) → Option Item
item_of None = None
item_of (Some e) = Some e.item

-- the winner's slot and the fact of two halves, where forms have these signs
abbrev pub match_of : {Item : Type 0} → Key Item → (Form → Sign) → Option (Entry Item) → Option (Entry Item) → Option ℕ × Option Fact
match_of key sign None None = (None, None)
match_of key sign (Some l) None = (Some l.slot, None)
match_of key sign None (Some r) = (Some r.slot, None)
match_of key sign (Some l) (Some r) =
    (Some (cond (key.left_wins (sign (key.form l.item r.item)) l.item r.item) l.slot r.slot), Some (record { form = key.form l.item r.item; sign = sign (key.form l.item r.item) }))

-- the match of the halves of a node
abbrev pub match_at : {Item : Type 0} → Key Item → (Form → Sign) → Standings Item → ℕ → Option ℕ × Option Fact
match_at key sign t v = match_of key sign (entry_at t (2 * v)) (entry_at t (2 * v + 1))

-- the node is the match of its halves
abbrev pub IsRight : {Item : Type 0} → Key Item → (Form → Sign) → Standings Item → ℕ → Type 0
IsRight key sign t v = (best_in t.best v, fact_in t.facts v) ≡ match_at key sign t v

-- the facts of a node, as a list
abbrev pub placed_of : ℕ → Option Fact → List Placed
placed_of v None = []
placed_of v (Some f) = record { part = v; fact = f } ∷ []

-- the facts of the nodes from v on, each in the part of its node
abbrev pub placed_from : ℕ → List (Option Fact) → List Placed
placed_from v [] = []
placed_from v (None ∷ fs) = placed_from (v + 1) fs
placed_from v (Some f ∷ fs) = record { part = v; fact = f } ∷ placed_from (v + 1) fs

-- the facts of the tree
abbrev pub placed_facts : {Item : Type 0} → Standings Item → List Placed
placed_facts t = placed_from 0 t.facts

-- whether a node is not clear
abbrev pub is_doubt : Doubt → Bool
is_doubt Clear = false
is_doubt Below = true
is_doubt Here = true

-- how many nodes are in doubt
abbrev pub doubt_count : List Doubt → ℕ
doubt_count doubts = count_by is_doubt doubts

-- above a node in doubt all are, and node 0 always is
pub record IsClosed (doubts : List Doubt) : Type 0 where
  pub top : doubt_in doubts 0 ≡ Here
  pub below : (v : ℕ) → 0 < v → doubt_in doubts (v / 2) ≡ Clear → doubt_in doubts v ≡ Clear

-- each list has its room, a best slot is under its node, and the doubts are closed
pub record IsTree {Item : Type 0} (t : Standings Item) : Type 0 where
  pub small : t.size ≤ 15
  pub items_room : length t.items ≡ 2 ^ t.size
  pub marked_room : length t.marked ≡ length t.items
  pub best_room : length t.best ≡ length t.items
  pub facts_room : length t.facts ≡ length t.items
  pub doubts_room : length t.doubts ≡ length t.items
  pub best_low : (v i : ℕ) → best_in t.best v ≡ Some i → i < length t.items
  pub best_under : (v i : ℕ) → best_in t.best v ≡ Some i → is_under t.size v i ≡ true
  pub closed : IsClosed t.doubts

-- the winner of each node
abbrev pub winners_of : {Item : Type 0} → Standings Item → List (Option Item)
winners_of t = map (λ o. item_of (entry_in t.items o)) t.best ++ t.items

-- what callers see of a key and a tree of matches
abbrev pub seen_as : {K Item : Type 0} → K → Standings Item → Bool → Tournament K Item
seen_as k t whole = record { key = k; size = t.size; slots = t.items; marked = t.marked; winners = winners_of t; facts = placed_facts t; whole = whole }
