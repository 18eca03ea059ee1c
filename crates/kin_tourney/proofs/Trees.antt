-- Trees of matches under writes.
use Rattle.std.proofs.Common.{◌≡◌, ◌≢◌, ◌⊎◌, inl, inr, refl, sym, ap, ◌∙◌, subst, arith, List, ℕ, zero, suc, ◌+◌, ◌*◌, ◌/◌, ◌^◌, ◌<◌, ◌≤◌, length, Bool, true, set}
use Rattle.std.specs.Prelude.{Option, Some, None, IfSome}
use Rattle.std.proofs.lemmas.List.{length-set}
use Rattle.std.proofs.lemmas.Nat.{pow-add}
use Rattle.std.proofs.Math.Pow.{pow_mono}
use Rattle.std.proofs.lemmas.Bool.{cases_eq}
use Rattle.kin_motion.specs.declared.fact.Fact.{Fact}
use Rattle.kin_motion.specs.Tournaments.{is_under}
use Rattle.kin_tourney.specs.declared.doubt.Doubt.{Doubt}
use Rattle.kin_tourney.specs.declared.doubt.Doubt.TheVariants.{Clear, Here}
use Rattle.kin_tourney.specs.Standings.{Standings, IsTree, IsClosed, best_in, doubt_in}
use Rattle.kin_tourney.specs.Repairs.{IsPerfect}
use Rattle.kin_tourney.proofs.AfterWrite.{read_set}
use Rattle.kin_tourney.proofs.Doubts.{closed_raised, closed_cleared}

odd_power : (k v : ℕ) → 0 < v → 2 ^ k ≢ 2 * v + 1
odd_power zero v some e = absurd (let p : 2 ^ 0 ≡ 1 = refl in omega arith)
odd_power (suc k) v some e = absurd (let p = pow-add 2 k 1 in let q : 2 ^ suc k ≡ 2 ^ (k + 1) = ap (λ (j : ℕ). 2 ^ j) (let r : suc k ≡ k + 1 = omega arith in r) in omega arith)

-- in a perfect tree each inner node has two halves
pub odd_room : (ds : List Doubt) → IsPerfect ds → (v : ℕ) → 0 < v → length ds ≢ 2 * v + 1
odd_room ds p v some e = odd_power p.0 v some (sym p.1 ∙ e)

pub right_inside : (ds : List Doubt) → IsPerfect ds → (v : ℕ) → 0 < v → 2 * v < length ds → 2 * v + 1 < length ds
right_inside ds p v some inside = at (cases_eq (length ds) (2 * v + 1))
  where
    at : (length ds ≡ 2 * v + 1) ⊎ (length ds ≢ 2 * v + 1) → 2 * v + 1 < length ds
    at (inl e) = absurd (odd_room ds p v some e)
    at (inr n) = omega arith

pub perfect : {Item : Type 0} (t : Standings Item) → IsTree t → IsPerfect t.doubts
perfect {Item} t h = (t.size, h.doubts_room ∙ h.items_room)

-- the node above one in doubt is in doubt
pub above_in_doubt : (ds : List Doubt) → IsClosed ds → (v : ℕ) → 0 < v → doubt_in ds v ≢ Clear → doubt_in ds (v / 2) ≢ Clear
above_in_doubt ds h v some n e = n (h.below v some e)

-- a tree with other marks, bests, facts and doubts
tree_changed : {Item : Type 0} (t : Standings Item) → IsTree t → (marked : List Bool) (best : List (Option ℕ)) (facts : List (Option Fact)) (doubts : List Doubt)
    → length marked ≡ length t.marked → length best ≡ length t.best → length facts ≡ length t.facts → length doubts ≡ length t.doubts
    → ((v i : ℕ) → best_in best v ≡ Some i → (i < length t.items) × (is_under t.size v i ≡ true)) → IsClosed doubts → IsTree (record t { marked = marked; best = best; facts = facts; doubts = doubts })
tree_changed {Item} t h marked best facts doubts marked_room best_room facts_room doubts_room under closed = record {
  small = h.small;
  items_room = h.items_room;
  marked_room = marked_room ∙ h.marked_room;
  best_room = best_room ∙ h.best_room;
  facts_room = facts_room ∙ h.facts_room;
  doubts_room = doubts_room ∙ h.doubts_room;
  best_low = λ v i e. (under v i e).0;
  best_under = λ v i e. (under v i e).1;
  closed = closed;
}

-- a tree whose doubts were written over, where another value is seen as that tree
pub tree_doubted : {Item : Type 0} (seen t : Standings Item) → seen ≡ t → IsTree t → (doubts : List Doubt) → length doubts ≡ length seen.doubts → IsClosed doubts → IsTree (record seen { doubts = doubts })
tree_doubted {Item} seen t view h doubts room closed =
    let k = subst (λ (x : Standings Item). IsTree x) (sym view) h in
    tree_changed seen k seen.marked seen.best seen.facts doubts refl refl refl room (λ v i e. (k.best_low v i e, k.best_under v i e)) closed

-- only facts changed
pub tree_retold : {Item : Type 0} (t new : Standings Item) → IsTree t → new ≡ record t { facts = new.facts } → length new.facts ≡ length t.facts → IsTree new
tree_retold {Item} t new h same room =
    subst (λ (x : Standings Item). IsTree x) (sym same) (tree_changed t h t.marked t.best new.facts t.doubts refl refl room refl (λ v i e. (h.best_low v i e, h.best_under v i e)) h.closed)

-- a slot was marked
pub tree_marked : {Item : Type 0} (t : Standings Item) → IsTree t → (slot : ℕ) → IsTree (record t { marked = set t.marked slot true })
tree_marked {Item} t h slot = tree_changed t h (set t.marked slot true) t.best t.facts t.doubts (length-set t.marked slot true) refl refl refl (λ v i e. (h.best_low v i e, h.best_under v i e)) h.closed

-- a slot holds something else
pub tree_filled : {Item : Type 0} (t : Standings Item) → IsTree t → (slot : ℕ) (item : Option Item) → IsTree (record t { items = set t.items slot item })
tree_filled {Item} t h slot item =
    let room = length-set t.items slot item in
    record {
      small = h.small;
      items_room = room ∙ h.items_room;
      marked_room = h.marked_room ∙ sym room;
      best_room = h.best_room ∙ sym room;
      facts_room = h.facts_room ∙ sym room;
      doubts_room = h.doubts_room ∙ sym room;
      best_low = λ v i e. subst (λ (n : ℕ). i < n) (sym room) (h.best_low v i e);
      best_under = h.best_under;
      closed = h.closed;
    }

-- a match in doubt has to be played again
pub tree_raised : {Item : Type 0} (t : Standings Item) → IsTree t → (node : ℕ) → node < length t.items → doubt_in t.doubts node ≢ Clear → IsTree (record t { doubts = set t.doubts node Here })
tree_raised {Item} t h node inside doubted =
    tree_doubted t t refl h (set t.doubts node Here) (length-set t.doubts node Here) (closed_raised t.doubts node h.closed (let r = h.doubts_room in omega arith) doubted)

-- a node got another best slot, its fact may have changed, and the node above it has to be played again
pub tree_replayed : {Item : Type 0} (t : Standings Item) → IsTree t → (node : ℕ) → 0 < node → node < length t.items → doubt_in t.doubts node ≢ Clear
    → (best : Option ℕ) (facts : List (Option Fact)) → length facts ≡ length t.facts → ((i : ℕ) → best ≡ Some i → (i < length t.items) × (is_under t.size node i ≡ true))
    → IsTree (record t { best = set t.best node best; facts = facts; doubts = set t.doubts (node / 2) Here })
tree_replayed {Item} t h node some inside doubted best facts room under =
    tree_changed t h t.marked (set t.best node best) facts (set t.doubts (node / 2) Here) refl (length-set t.best node best) room (length-set t.doubts (node / 2) Here)
    (λ v i e. at v i e (read_set t.best node v best None (let r = h.best_room in omega arith)))
    (closed_raised t.doubts (node / 2) h.closed (let r = h.doubts_room in omega arith) (above_in_doubt t.doubts h.closed node some doubted))
  where
    at : (v i : ℕ) → best_in (set t.best node best) v ≡ Some i → ((v ≡ node) × (best_in (set t.best node best) v ≡ best)) ⊎ ((v ≢ node) × (best_in (set t.best node best) v ≡ best_in t.best v)) → (i < length t.items) × (is_under t.size v i ≡ true)
    at v i e (inl k) = let u = under i (sym k.1 ∙ e) in (u.0, subst (λ w. is_under t.size w i ≡ true) (sym k.0) u.1)
    at v i e (inr k) = (h.best_low v i (sym k.1 ∙ e), h.best_under v i (sym k.1 ∙ e))

-- a node whose halves are clear was cleared
pub tree_cleared : {Item : Type 0} (t : Standings Item) → IsTree t → (node : ℕ) → 0 < node → node < length t.items → ((v : ℕ) → 0 < v → v / 2 ≡ node → doubt_in t.doubts v ≡ Clear)
    → (marked : List Bool) → length marked ≡ length t.marked → IsTree (record t { marked = marked; doubts = set t.doubts node Clear })
tree_cleared {Item} t h node some inside halves marked room =
    tree_changed t h marked t.best t.facts (set t.doubts node Clear) room refl refl (length-set t.doubts node Clear) (λ v i e. (h.best_low v i e, h.best_under v i e)) (closed_cleared t.doubts node h.closed some (let r = h.doubts_room in omega arith) halves)

pub named_low : {Item : Type 0} (t : Standings Item) → IsTree t → (v : ℕ) (o : Option ℕ) → o ≡ best_in t.best v → IfSome o (λ i. i < length t.items)
named_low {Item} t h v None e = tt
named_low {Item} t h v (Some i) e = h.best_low v i (sym e)

-- where the root is clear all is
pub all_clear : (ds : List Doubt) → IsClosed ds → doubt_in ds 1 ≡ Clear → (v : ℕ) → 0 < v → doubt_in ds v ≡ Clear
all_clear ds h root v some = from v v some (omega arith)
  where
    from : (far v : ℕ) → 0 < v → v ≤ far → doubt_in ds v ≡ Clear
    from zero v some near = absurd (omega arith)
    from (suc far) v some near = at (cases_eq v 1) (from far (v / 2))
      where
        at : (v ≡ 1) ⊎ (v ≢ 1) → (0 < v / 2 → v / 2 ≤ far → doubt_in ds (v / 2) ≡ Clear) → doubt_in ds v ≡ Clear
        at (inl e) rest = ap (doubt_in ds) e ∙ root
        at (inr n) rest = h.below v some (rest (omega arith) (omega arith))

-- there is an inner node
pub some_inner : {Item : Type 0} (t : Standings Item) → IsTree t → 1 ≤ t.size → 1 < length t.items
some_inner {Item} t h some = let p : 2 ^ 1 ≤ 2 ^ t.size = pow_mono some in let r = h.items_room in let q : 2 ^ 1 ≡ 2 = refl in omega arith
