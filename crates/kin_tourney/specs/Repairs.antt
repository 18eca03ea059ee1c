-- What the steps of a repair do to a tree of matches.
use Rattle.std.specs.Prelude.{◌≡◌, ◌≢◌, ◌⊎◌, ℕ, zero, suc, ◌+◌, ◌*◌, ◌/◌, ◌^◌, ◌≤◌, ◌<◌, Bool, true, false, List, ◌++◌, length, Option, Some, None, slice_set, slice_index_or}
use Rattle.kin_motion.specs.declared.form.Form.{Form}
use Rattle.kin_algebra.specs.declared.sign.Sign.{Sign}
use Rattle.kin_motion.specs.declared.fact.Fact.{Fact}
use Rattle.kin_motion.specs.declared.fact.Placed.{Placed}
use Rattle.kin_motion.specs.Deltas.{Change}
use Rattle.kin_motion.specs.Tournaments.{Key, is_under}
use Rattle.kin_tourney.specs.declared.doubt.Doubt.{Doubt}
use Rattle.kin_tourney.specs.declared.doubt.Doubt.TheVariants.{Clear, Below, Here}
use Rattle.kin_tourney.specs.declared.entry.Entry.{Entry}
use Rattle.kin_tourney.specs.Tournament.{mark_in}
use Rattle.kin_tourney.specs.Standings.{Standings, IsTree, doubt_in, doubt_count, best_in, fact_in, named_at, entry_at, match_at, IsRight, placed_of}

-- a node and those above it came into a doubt where they were clear
pub record IsSpread (old new : List Doubt) (doubt : Doubt) (node : ℕ) : Type 0 where
  pub room : length new ≡ length old
  pub reached : doubt_in new node ≢ Clear
  pub each : (v : ℕ) → (doubt_in new v ≡ doubt_in old v) ⊎ ((doubt_in old v ≡ Clear) × (doubt_in new v ≡ doubt))
  pub few : (height : ℕ) → node < 2 ^ height → doubt_count new ≤ doubt_count old + height

-- the best slot of a node is that of a half
abbrev pub IsFed : {Item : Type 0} → Standings Item → Type 0
IsFed t = (v i : ℕ) → 0 < v → v < length t.items → best_in t.best v ≡ Some i → (named_at t (2 * v) ≡ Some i) ⊎ (named_at t (2 * v + 1) ≡ Some i)

-- the nodes above a slot came into doubt where they were clear, and those of which the slot is the best of a half are in doubt themselves
pub record IsMarkedUp {Item : Type 0} (slot : ℕ) (old : Standings Item) (new : List Doubt) : Type 0 where
  pub room : length new ≡ length old.doubts
  pub reached : doubt_in new ((length old.items + slot) / 2) ≢ Clear
  pub won : IsFed old → (u : ℕ) → is_under old.size u slot ≡ true → named_at old u ≡ Some slot → doubt_in new (u / 2) ≡ Here
  pub here_kept : (v : ℕ) → doubt_in old.doubts v ≡ Here → doubt_in new v ≡ Here
  pub kept : (v : ℕ) → doubt_in new v ≡ Clear → doubt_in old.doubts v ≡ Clear
  pub few : doubt_count new ≤ doubt_count old.doubts + old.size

-- whether a match has to be played again: every one in doubt, or only those that are in doubt themselves
abbrev pub needs_play : Bool → Doubt → Bool
needs_play all Clear = false
needs_play all Below = all
needs_play all Here = true

-- the parts of these facts came into doubt, and what was in doubt still is
pub record IsDoubted (old new : List Doubt) (failed : List Placed) (count : ℕ) : Type 0 where
  pub room : length new ≡ length old
  pub failed_here : (k : ℕ) (d : Placed) → k < count → doubt_in new (slice_index_or failed k d).part ≡ Here
  pub here_kept : (v : ℕ) → doubt_in old v ≡ Here → doubt_in new v ≡ Here
  pub kept : (v : ℕ) → doubt_in new v ≡ Clear → doubt_in old v ≡ Clear
  pub few : (height : ℕ) → length old ≤ 2 ^ height → doubt_count new ≤ doubt_count old + height * count

-- that one fact of a node took the place of another was reported
abbrev pub IsReported : ℕ → Option Fact → Option Fact → Change → Change → Type 0
IsReported v old new before after =
    ((old ≡ new) × (after ≡ before))
    ⊎ ((old ≢ new) × (after ≡ record { dropped = before.dropped ++ placed_of v old; born = before.born ++ placed_of v new }))

-- the halves of a node, where both hold an item, meet by this sign
abbrev pub IsMatchSign : {Item : Type 0} → Key Item → (Form → Sign) → Standings Item → ℕ → Sign → Type 0
IsMatchSign {Item} key sign t v s = (l r : Entry Item) → entry_at t (2 * v) ≡ Some l → entry_at t (2 * v + 1) ≡ Some r → sign (key.form l.item r.item) ≡ s

-- the node is the match of its halves at some sign
abbrev pub IsRightOnce : {Item : Type 0} → Key Item → Standings Item → ℕ → Type 0
IsRightOnce key t v = (sign : Sign) × IsRight key (λ f. sign) t v

-- the doubts of a perfect tree, in which each inner node has two halves
abbrev pub IsPerfect : List Doubt → Type 0
IsPerfect doubts = (height : ℕ) × (length doubts ≡ 2 ^ height)

-- a node in doubt whose halves are clear
pub record IsLowest (doubts : List Doubt) (node : ℕ) : Type 0 where
  pub some : 0 < node
  pub inside : node < length doubts
  pub doubted : doubt_in doubts node ≢ Clear
  pub halves_clear : (v : ℕ) → 0 < v → v / 2 ≡ node → doubt_in doubts v ≡ Clear

-- a node that is clear, below one in doubt
pub record IsDone (doubts : List Doubt) (node : ℕ) : Type 0 where
  pub some : 0 < node
  pub inside : node < length doubts
  pub clear : doubt_in doubts node ≡ Clear
  pub above : doubt_in doubts (node / 2) ≢ Clear

-- only the way leads through the node above one that is clear, and its other half is clear, too
pub record IsPassage (doubts : List Doubt) (node : ℕ) : Type 0 where
  pub some : 0 < node / 2
  pub below : doubt_in doubts (node / 2) ≡ Below
  pub halves_clear : (v : ℕ) → 0 < v → v / 2 ≡ node / 2 → doubt_in doubts v ≡ Clear

-- so many nodes were cleared on the way up, each above the one before
abbrev pub HasClimbed : ℕ → List Doubt → ℕ → List Doubt → ℕ → Type 0
HasClimbed zero old from new to = (new ≡ old) × (to ≡ from)
HasClimbed (suc k) old from new to = (mid : List Doubt) × (node : ℕ) × HasClimbed k old from mid node × IsPassage mid node × (new ≡ slice_set mid (node / 2) Clear) × (to ≡ node / 2)

-- how many signs a match asks for: none where it is known
abbrev pub asked_for : Option Sign → ℕ
asked_for None = 1
asked_for (Some s) = 0

-- what is known while nodes are in doubt: a node that need not be played again is right, and one that isn't in doubt itself was so once
pub record IsDoubtful {Item : Type 0} (all : Bool) (key : Key Item) (sign : Form → Sign) (t : Standings Item) : Type 0 where
  pub tree : IsTree t
  pub leaves : (i : ℕ) → mark_in t.marked i ≡ true → doubt_in t.doubts ((length t.items + i) / 2) ≢ Clear
  pub right : (v : ℕ) → 0 < v → v < length t.items → needs_play all (doubt_in t.doubts v) ≡ false → IsRight key sign t v
  pub once : (v : ℕ) → 0 < v → v < length t.items → needs_play false (doubt_in t.doubts v) ≡ false → IsRightOnce key t v
  pub no_root : fact_in t.facts 0 ≡ None

-- a node was played again; where its winner changed, the node above has to be
pub record IsReplayed {Item : Type 0} (key : Key Item) (sign : Form → Sign) (node : ℕ) (old new : Standings Item) (before after : Change) : Type 0 where
  pub same_size : new.size ≡ old.size
  pub same_items : new.items ≡ old.items
  pub same_marked : new.marked ≡ old.marked
  pub other_best : (v : ℕ) → v ≢ node → best_in new.best v ≡ best_in old.best v
  pub other_facts : (v : ℕ) → v ≢ node → fact_in new.facts v ≡ fact_in old.facts v
  pub played : (best_in new.best node, fact_in new.facts node) ≡ match_at key sign old node
  pub reported : IsReported node (fact_in old.facts node) (fact_in new.facts node) before after
  pub doubts : ((best_in new.best node ≡ best_in old.best node) × (new.doubts ≡ old.doubts)) ⊎ (new.doubts ≡ slice_set old.doubts (node / 2) Here)

-- a node was played again where it has to be
abbrev pub IsRenewed : {Item : Type 0} → Bool → Key Item → (Form → Sign) → ℕ → Standings Item → Standings Item → Change → Change → Type 0
IsRenewed all key sign node old new before after =
    ((needs_play all (doubt_in old.doubts node) ≡ true) × IsReplayed key sign node old new before after)
    ⊎ ((needs_play all (doubt_in old.doubts node) ≡ false) × (new ≡ old) × (after ≡ before))

-- a node is clear now, and slots right below it are unmarked
pub record IsCleared {Item : Type 0} (node : ℕ) (old new : Standings Item) : Type 0 where
  pub same : new ≡ record old { marked = new.marked; doubts = slice_set old.doubts node Clear }
  pub unmarked : (i : ℕ) → (length old.items + i) / 2 ≡ node → mark_in new.marked i ≡ false
  pub marks_kept : (i : ℕ) → (length old.items + i) / 2 ≢ node → mark_in new.marked i ≡ mark_in old.marked i
