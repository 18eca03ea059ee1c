-- A repair, node by node.
use Rattle.std.proofs.Common.{◌≡◌, ◌≢◌, ◌⊎◌, inl, inr, refl, sym, ap, ◌∙◌, subst, arith, List, ℕ, ◌+◌, ◌*◌, ◌-◌, ◌/◌, ◌≤◌, ◌<◌, length, Bool, true, false, cond, nat_lt, set}
use Rattle.std.specs.Prelude.{Option, Some}
use Rattle.std.proofs.lemmas.List.{get_or-set_same, get_or-set_other}
use Rattle.std.proofs.lemmas.Bool.{cases_eq}
use Rattle.kin_algebra.specs.declared.sign.Sign.{Sign}
use Rattle.kin_motion.specs.declared.form.Form.{Form}
use Rattle.kin_motion.specs.declared.fact.Fact.{Fact}
use Rattle.kin_motion.specs.Deltas.{Change}
use Rattle.kin_motion.specs.Kinetics.{HasChanged}
use Rattle.kin_motion.specs.Tournaments.{Key}
use Rattle.kin_motion.proofs.ChangeLaws.{nothing_changed}
use Rattle.kin_tourney.specs.declared.doubt.Doubt.TheVariants.{Clear, Here}
use Rattle.kin_tourney.specs.Tournament.{mark_in}
use Rattle.kin_tourney.specs.Standings.{Standings, IsTree, IsRight, best_in, fact_in, doubt_in, doubt_count, entry_in, entry_at, match_of, match_at, placed_facts}
use Rattle.kin_tourney.specs.Repairs.{IsDoubtful, IsReplayed, IsRenewed, IsRightOnce, IsCleared, IsLowest, IsDone, needs_play}
use Rattle.kin_tourney.proofs.AfterWrite.{read_set}
use Rattle.kin_tourney.proofs.Entrants.{right_at_one}
use Rattle.kin_tourney.proofs.Doubts.{here_is_doubt, count_kept, count_lowered}
use Rattle.kin_tourney.proofs.Placements.{changed_on}
use Rattle.kin_tourney.proofs.Trees.{above_in_doubt}

-- the match of the same halves
module _ {Item : Type 0} (key : Key Item) (sign : Form → Sign) where
  entry_same : (t u : Standings Item) → t.items ≡ u.items → (v : ℕ) → best_in t.best v ≡ best_in u.best v → entry_at t v ≡ entry_at u v
  entry_same t u items v best =
      ap (λ (l : List (Option Item)). entry_in l (cond (nat_lt v (length l)) (best_in t.best v) (Some (v - length l)))) items
      ∙ ap (λ (o : Option ℕ). entry_in u.items (cond (nat_lt v (length u.items)) o (Some (v - length u.items)))) best

  match_same : (t u : Standings Item) → t.items ≡ u.items → (v : ℕ) → best_in t.best (2 * v) ≡ best_in u.best (2 * v) → best_in t.best (2 * v + 1) ≡ best_in u.best (2 * v + 1) → match_at key sign t v ≡ match_at key sign u v
  match_same t u items v left right =
      ap (λ e. match_of key sign e (entry_at t (2 * v + 1))) (entry_same t u items (2 * v) left) ∙ ap (λ e. match_of key sign (entry_at u (2 * v)) e) (entry_same t u items (2 * v + 1) right)

  right_same : (t u : Standings Item) → t.items ≡ u.items → (v : ℕ) → best_in t.best v ≡ best_in u.best v → fact_in t.facts v ≡ fact_in u.facts v
      → best_in t.best (2 * v) ≡ best_in u.best (2 * v) → best_in t.best (2 * v + 1) ≡ best_in u.best (2 * v + 1) → IsRight key sign u v → IsRight key sign t v
  right_same t u items v best fact left right h =
      ap (λ b. (b, fact_in t.facts v)) best ∙ ap (λ f. (best_in u.best v, f)) fact ∙ h ∙ sym (match_same t u items v left right)

module _ {Item : Type 0} (all : Bool) (key : Key Item) (sign : Form → Sign) where
  -- from the start on; only the node "except" may differ in its fact though it is still in doubt
  pub record IsMending (start : Standings Item) (except : ℕ) (t : Standings Item) (before after : Change) : Type 0 where
    pub doubtful : IsDoubtful all key sign t
    pub same_size : t.size ≡ start.size
    pub same_items : t.items ≡ start.items
    pub untouched : (v : ℕ) → 0 < v → v ≢ except → doubt_in t.doubts v ≢ Clear → fact_in t.facts v ≡ fact_in start.facts v
    pub changed : HasChanged (placed_facts start) (placed_facts t) before after

  pub mending_starts : (t : Standings Item) (c : Change) → IsDoubtful all key sign t → IsMending t 0 t c c
  mending_starts t c h = record { doubtful = h; same_size = refl; same_items = refl; untouched = λ v some n d. refl; changed = nothing_changed (placed_facts t) c }

  -- a node is played again
  module _ (start t mid : Standings Item) (before middle after : Change) (node : ℕ) (some : 0 < node) (inside : node < length t.items) (doubted : doubt_in t.doubts node ≢ Clear)
      (h : IsMending start 0 t before middle) (tree : IsTree mid) (r : IsReplayed key sign node t mid middle after) where
    fits : node / 2 < length t.doubts
    fits = let room = h.doubtful.tree.doubts_room in omega arith

    cleared_was : (v : ℕ) → doubt_in mid.doubts v ≡ Clear → doubt_in t.doubts v ≡ Clear
    cleared_was v e = at r.doubts
      where
        raised : ((v ≡ node / 2) × (doubt_in (set t.doubts (node / 2) Here) v ≡ Here)) ⊎ ((v ≢ node / 2) × (doubt_in (set t.doubts (node / 2) Here) v ≡ doubt_in t.doubts v)) → doubt_in (set t.doubts (node / 2) Here) v ≡ Clear → doubt_in t.doubts v ≡ Clear
        raised (inl k) f = absurd (here_is_doubt (sym k.1 ∙ f))
        raised (inr k) f = sym k.1 ∙ f

        at : ((best_in mid.best node ≡ best_in t.best node) × (mid.doubts ≡ t.doubts)) ⊎ (mid.doubts ≡ set t.doubts (node / 2) Here) → doubt_in t.doubts v ≡ Clear
        at (inl k) = sym (ap (λ ds. doubt_in ds v) k.1) ∙ e
        at (inr k) = raised (read_set t.doubts (node / 2) v Here Clear fits) (sym (ap (λ ds. doubt_in ds v) k) ∙ e)

    -- a node that need not be played again was so before, and its halves' winners are as they were
    still : (all : Bool) (v : ℕ) → needs_play all (doubt_in mid.doubts v) ≡ false → (needs_play all (doubt_in t.doubts v) ≡ false) × ((u : ℕ) → u / 2 ≡ v → best_in mid.best u ≡ best_in t.best u)
    still all v n = at r.doubts
      where
        kept : (best_in mid.best node ≡ best_in t.best node) ⊎ (v ≢ node / 2) → (u : ℕ) → u / 2 ≡ v → best_in mid.best u ≡ best_in t.best u
        kept same u up = own (cases_eq u node) same
          where
            own : (u ≡ node) ⊎ (u ≢ node) → (best_in mid.best node ≡ best_in t.best node) ⊎ (v ≢ node / 2) → best_in mid.best u ≡ best_in t.best u
            own (inr m) same = r.other_best u m
            own (inl e) (inl same) = ap (best_in mid.best) e ∙ same ∙ sym (ap (best_in t.best) e)
            own (inl e) (inr m) = absurd (m (sym up ∙ ap (λ w. w / 2) e))

        raised : ((v ≡ node / 2) × (doubt_in (set t.doubts (node / 2) Here) v ≡ Here)) ⊎ ((v ≢ node / 2) × (doubt_in (set t.doubts (node / 2) Here) v ≡ doubt_in t.doubts v)) → (doubt_in (set t.doubts (node / 2) Here) v ≡ doubt_in mid.doubts v)
            → (needs_play all (doubt_in t.doubts v) ≡ false) × ((u : ℕ) → u / 2 ≡ v → best_in mid.best u ≡ best_in t.best u)
        raised (inl k) f = absurd (let z : true ≡ false = sym (ap (needs_play all) k.1) ∙ ap (needs_play all) f ∙ n in cc)
        raised (inr k) f = (sym (ap (needs_play all) k.1) ∙ ap (needs_play all) f ∙ n, kept (inr k.0))

        at : ((best_in mid.best node ≡ best_in t.best node) × (mid.doubts ≡ t.doubts)) ⊎ (mid.doubts ≡ set t.doubts (node / 2) Here) → (needs_play all (doubt_in t.doubts v) ≡ false) × ((u : ℕ) → u / 2 ≡ v → best_in mid.best u ≡ best_in t.best u)
        at (inl k) = (sym (ap (λ ds. needs_play all (doubt_in ds v)) k.1) ∙ n, kept (inl k.0))
        at (inr k) = raised (read_set t.doubts (node / 2) v Here Clear fits) (sym (ap (λ ds. doubt_in ds v) k))

    pub played_right : IsRight key sign mid node
    played_right = r.played ∙ sym (match_same key sign mid t r.same_items node (r.other_best (2 * node) (omega arith)) (r.other_best (2 * node + 1) (omega arith)))

    right_next : (v : ℕ) → 0 < v → v < length mid.items → needs_play all (doubt_in mid.doubts v) ≡ false → IsRight key sign mid v
    right_next v big low n = own (cases_eq v node)
      where
        own : (v ≡ node) ⊎ (v ≢ node) → IsRight key sign mid v
        own (inl e) = subst (IsRight key sign mid) (sym e) played_right
        own (inr m) =
            let s = still all v n in
            let k = ap length r.same_items in
            right_same key sign mid t r.same_items v (r.other_best v m) (r.other_facts v m) (s.1 (2 * v) (omega arith)) (s.1 (2 * v + 1) (omega arith)) (h.doubtful.right v big (omega arith) s.0)

    once_next : (v : ℕ) → 0 < v → v < length mid.items → needs_play false (doubt_in mid.doubts v) ≡ false → IsRightOnce key mid v
    once_next v big low n = own (cases_eq v node)
      where
        own : (v ≡ node) ⊎ (v ≢ node) → IsRightOnce key mid v
        own (inl e) = subst (IsRightOnce key mid) (sym e) (right_at_one key mid node sign played_right)
        own (inr m) =
            let s = still false v n in
            let k = ap length r.same_items in
            let was = h.doubtful.once v big (omega arith) s.0 in
            (was.0, right_same key (λ f. was.0) mid t r.same_items v (r.other_best v m) (r.other_facts v m) (s.1 (2 * v) (omega arith)) (s.1 (2 * v + 1) (omega arith)) was.1)

    pub mending_replayed : IsMending start node mid before after
    mending_replayed = record {
      doubtful = record {
        tree = tree;
        leaves = λ i e d. h.doubtful.leaves i (sym (ap (λ l. mark_in l i) r.same_marked) ∙ e) (cleared_was ((length t.items + i) / 2) (ap (λ (l : List (Option Item)). doubt_in mid.doubts ((length l + i) / 2)) (sym r.same_items) ∙ d));
        right = right_next;
        once = once_next;
        no_root = r.other_facts 0 (omega arith) ∙ h.doubtful.no_root;
      };
      same_size = r.same_size ∙ h.same_size;
      same_items = r.same_items ∙ h.same_items;
      untouched = λ v big n d. r.other_facts v n ∙ h.untouched v big (omega arith) (λ e. d (in_doubt v e));
      changed = changed_on start.facts t.facts mid.facts node before middle after h.changed (h.untouched node some (omega arith) doubted) r.other_facts r.reported;
    }
      where
        in_doubt : (v : ℕ) → doubt_in t.doubts v ≡ Clear → doubt_in mid.doubts v ≡ Clear
        in_doubt v e = at r.doubts
          where
            raised : ((v ≡ node / 2) × (doubt_in (set t.doubts (node / 2) Here) v ≡ Here)) ⊎ ((v ≢ node / 2) × (doubt_in (set t.doubts (node / 2) Here) v ≡ doubt_in t.doubts v)) → doubt_in (set t.doubts (node / 2) Here) v ≡ Clear
            raised (inl k) = absurd (above_in_doubt t.doubts h.doubtful.tree.closed node some doubted (ap (doubt_in t.doubts) (sym k.0) ∙ e))
            raised (inr k) = k.1 ∙ e

            at : ((best_in mid.best node ≡ best_in t.best node) × (mid.doubts ≡ t.doubts)) ⊎ (mid.doubts ≡ set t.doubts (node / 2) Here) → doubt_in mid.doubts v ≡ Clear
            at (inl k) = ap (λ ds. doubt_in ds v) k.1 ∙ e
            at (inr k) = ap (λ ds. doubt_in ds v) k ∙ raised (read_set t.doubts (node / 2) v Here Clear fits)

    pub doubt_kept : doubt_in mid.doubts node ≢ Clear
    doubt_kept e = doubted (cleared_was node e)

    pub count_replayed : doubt_count mid.doubts ≡ doubt_count t.doubts
    count_replayed = at r.doubts
      where
        at : ((best_in mid.best node ≡ best_in t.best node) × (mid.doubts ≡ t.doubts)) ⊎ (mid.doubts ≡ set t.doubts (node / 2) Here) → doubt_count mid.doubts ≡ doubt_count t.doubts
        at (inl k) = ap doubt_count k.1
        at (inr k) = ap doubt_count k ∙ count_kept t.doubts (node / 2) Here fits (above_in_doubt t.doubts h.doubtful.tree.closed node some doubted) here_is_doubt

    pub halves_kept : ((v : ℕ) → 0 < v → v / 2 ≡ node → doubt_in t.doubts v ≡ Clear) → (v : ℕ) → 0 < v → v / 2 ≡ node → doubt_in mid.doubts v ≡ Clear
    halves_kept halves v big up = at r.doubts
      where
        at : ((best_in mid.best node ≡ best_in t.best node) × (mid.doubts ≡ t.doubts)) ⊎ (mid.doubts ≡ set t.doubts (node / 2) Here) → doubt_in mid.doubts v ≡ Clear
        at (inl k) = ap (λ ds. doubt_in ds v) k.1 ∙ halves v big up
        at (inr k) = ap (λ ds. doubt_in ds v) k ∙ get_or-set_other t.doubts (node / 2) v Here Clear (omega arith) ∙ halves v big up

  -- a node need not be played again
  pub mending_passed : (start t : Standings Item) (before after : Change) (node : ℕ) → IsMending start 0 t before after → IsMending start node t before after
  mending_passed start t before after node h = record {
    doubtful = h.doubtful;
    same_size = h.same_size;
    same_items = h.same_items;
    untouched = λ v big n d. h.untouched v big (omega arith) d;
    changed = h.changed;
  }

  -- a node is cleared
  module _ (start t next : Standings Item) (before after : Change) (node : ℕ) (some : 0 < node) (inside : node < length t.items) (doubted : doubt_in t.doubts node ≢ Clear)
      (h : IsMending start node t before after) (own : IsRight key sign t node) (tree : IsTree next) (c : IsCleared node t next) where
    room : node < length t.doubts
    room = let r = h.doubtful.tree.doubts_room in omega arith

    doubts_are : next.doubts ≡ set t.doubts node Clear
    doubts_are = ap (λ (x : Standings Item). x.doubts) c.same

    items_are : next.items ≡ t.items
    items_are = ap (λ (x : Standings Item). x.items) c.same

    facts_are : next.facts ≡ t.facts
    facts_are = ap (λ (x : Standings Item). x.facts) c.same

    doubt_next : (v : ℕ) → ((v ≡ node) × (doubt_in next.doubts v ≡ Clear)) ⊎ ((v ≢ node) × (doubt_in next.doubts v ≡ doubt_in t.doubts v))
    doubt_next v = subst (λ ds. ((v ≡ node) × (doubt_in ds v ≡ Clear)) ⊎ ((v ≢ node) × (doubt_in ds v ≡ doubt_in t.doubts v))) (sym doubts_are) (read_set t.doubts node v Clear Clear room)

    right_after : (v : ℕ) → 0 < v → v < length next.items → needs_play all (doubt_in next.doubts v) ≡ false → IsRight key sign next v
    right_after v big low n = at (doubt_next v)
      where
        carried : IsRight key sign t v → IsRight key sign next v
        carried k = subst (λ (x : Standings Item). IsRight key sign x v) (sym c.same) k

        at : ((v ≡ node) × (doubt_in next.doubts v ≡ Clear)) ⊎ ((v ≢ node) × (doubt_in next.doubts v ≡ doubt_in t.doubts v)) → IsRight key sign next v
        at (inl k) = carried (subst (IsRight key sign t) (sym k.0) own)
        at (inr k) = carried (h.doubtful.right v big (let e = ap length items_are in omega arith) (sym (ap (needs_play all) k.1) ∙ n))

    once_after : (v : ℕ) → 0 < v → v < length next.items → needs_play false (doubt_in next.doubts v) ≡ false → IsRightOnce key next v
    once_after v big low n = at (doubt_next v)
      where
        at : ((v ≡ node) × (doubt_in next.doubts v ≡ Clear)) ⊎ ((v ≢ node) × (doubt_in next.doubts v ≡ doubt_in t.doubts v)) → IsRightOnce key next v
        at (inl k) = subst (λ (x : Standings Item). IsRightOnce key x v) (sym c.same) (subst (IsRightOnce key t) (sym k.0) (right_at_one key t node sign own))
        at (inr k) = subst (λ (x : Standings Item). IsRightOnce key x v) (sym c.same) (h.doubtful.once v big (let e = ap length items_are in omega arith) (sym (ap (needs_play false) k.1) ∙ n))

    leaves_after : (i : ℕ) → mark_in next.marked i ≡ true → doubt_in next.doubts ((length t.items + i) / 2) ≢ Clear
    leaves_after i e d = at (doubt_next ((length t.items + i) / 2))
      where
        at : (((length t.items + i) / 2 ≡ node) × (doubt_in next.doubts ((length t.items + i) / 2) ≡ Clear)) ⊎ (((length t.items + i) / 2 ≢ node) × (doubt_in next.doubts ((length t.items + i) / 2) ≡ doubt_in t.doubts ((length t.items + i) / 2))) → ⊥
        at (inl k) = absurd (let z : true ≡ false = sym e ∙ c.unmarked i k.0 in cc)
        at (inr k) = h.doubtful.leaves i (sym (c.marks_kept i k.0) ∙ e) (sym k.1 ∙ d)

    pub mending_cleared : IsMending start 0 next before after
    mending_cleared = record {
      doubtful = record {
        tree = tree;
        leaves = λ i e d. leaves_after i e (ap (λ (l : List (Option Item)). doubt_in next.doubts ((length l + i) / 2)) (sym items_are) ∙ d);
        right = right_after;
        once = once_after;
        no_root = ap (λ l. fact_in l 0) facts_are ∙ h.doubtful.no_root;
      };
      same_size = ap (λ (x : Standings Item). x.size) c.same ∙ h.same_size;
      same_items = items_are ∙ h.same_items;
      untouched = λ v big n d. at v big d (doubt_next v);
      changed = subst (λ (l : List (Option Fact)). HasChanged (placed_facts start) (placed_facts (record t { facts = l })) before after) (sym facts_are) h.changed;
    }
      where
        at : (v : ℕ) → 0 < v → doubt_in next.doubts v ≢ Clear → ((v ≡ node) × (doubt_in next.doubts v ≡ Clear)) ⊎ ((v ≢ node) × (doubt_in next.doubts v ≡ doubt_in t.doubts v)) → fact_in next.facts v ≡ fact_in start.facts v
        at v big d (inl k) = absurd (d k.1)
        at v big d (inr k) = ap (λ l. fact_in l v) facts_are ∙ h.untouched v big k.0 (λ e. d (k.1 ∙ e))

    pub count_cleared : doubt_count next.doubts + 1 ≡ doubt_count t.doubts
    count_cleared = ap (λ ds. doubt_count ds + 1) doubts_are ∙ count_lowered t.doubts node room doubted

    pub clear_now : doubt_in next.doubts node ≡ Clear
    clear_now = ap (λ ds. doubt_in ds node) doubts_are ∙ get_or-set_same t.doubts node Clear Clear room

    -- the node above is still in doubt
    pub up_in_doubt : doubt_in next.doubts (node / 2) ≢ Clear
    up_in_doubt e = at (doubt_next (node / 2))
      where
        at : ((node / 2 ≡ node) × (doubt_in next.doubts (node / 2) ≡ Clear)) ⊎ ((node / 2 ≢ node) × (doubt_in next.doubts (node / 2) ≡ doubt_in t.doubts (node / 2))) → ⊥
        at (inl k) = absurd (omega arith)
        at (inr k) = above_in_doubt t.doubts h.doubtful.tree.closed node some doubted (sym k.1 ∙ e)

    pub root_cleared : node / 2 ≡ 0 → doubt_in next.doubts 1 ≡ Clear
    root_cleared e = at (doubt_next 1)
      where
        at : ((1 ≡ node) × (doubt_in next.doubts 1 ≡ Clear)) ⊎ ((1 ≢ node) × (doubt_in next.doubts 1 ≡ doubt_in t.doubts 1)) → doubt_in next.doubts 1 ≡ Clear
        at (inl k) = k.1
        at (inr k) = absurd (k.0 (omega arith))

  -- after the node is played again or passed
  pub record IsPassed (start mid : Standings Item) (node : ℕ) (before after : Change) (count room : ℕ) : Type 0 where
    pub mending : IsMending start node mid before after
    pub own : IsRight key sign mid node
    pub doubted : doubt_in mid.doubts node ≢ Clear
    pub halves_clear : (v : ℕ) → 0 < v → v / 2 ≡ node → doubt_in mid.doubts v ≡ Clear
    pub same_count : doubt_count mid.doubts ≡ count
    pub same_room : length mid.items ≡ room

  inside_of : (start t : Standings Item) (before after : Change) (node : ℕ) → IsLowest t.doubts node → IsMending start 0 t before after → node < length t.items
  inside_of start t before after node at h = omega (arith, at.inside, h.doubtful.tree.doubts_room)

  pub passed : (start t mid : Standings Item) (before middle after : Change) (node : ℕ) → IsLowest t.doubts node → IsMending start 0 t before middle → IsTree mid → IsRenewed all key sign node t mid middle after
      → IsPassed start mid node before after (doubt_count t.doubts) (length t.items)
  passed start t mid before middle after node at h tree (inl (here, r)) =
      let inside = inside_of start t before middle node at h in
      record {
        mending = mending_replayed start t mid before middle after node at.some inside at.doubted h tree r;
        own = played_right start t mid before middle after node at.some inside at.doubted h tree r;
        doubted = doubt_kept start t mid before middle after node at.some inside at.doubted h tree r;
        halves_clear = halves_kept start t mid before middle after node at.some inside at.doubted h tree r at.halves_clear;
        same_count = count_replayed start t mid before middle after node at.some inside at.doubted h tree r;
        same_room = ap length r.same_items;
      }
  passed start t mid before middle after node at h tree (inr (n, same, told)) =
      subst (λ (x : Standings Item). IsPassed start x node before after (doubt_count t.doubts) (length t.items)) (sym same)
      (subst (λ (d : Change). IsPassed start t node before d (doubt_count t.doubts) (length t.items)) (sym told) (record {
        mending = mending_passed start t before middle node h;
        own = h.doubtful.right node at.some (inside_of start t before middle node at h) n;
        doubted = at.doubted;
        halves_clear = at.halves_clear;
        same_count = refl;
        same_room = refl;
      }))

  -- one turn of the loop that clears a node
  pub record IsStepped (start t next : Standings Item) (node : ℕ) (before after : Change) : Type 0 where
    pub mending : IsMending start 0 next before after
    pub done : IsDone next.doubts node
    pub ended : node / 2 ≡ 0 → doubt_in next.doubts 1 ≡ Clear
    pub count : doubt_count next.doubts + 1 ≤ doubt_count t.doubts

  pub stepped : (start t mid next : Standings Item) (before middle after : Change) (node : ℕ) → IsLowest t.doubts node → IsMending start 0 t before middle → IsTree mid → IsRenewed all key sign node t mid middle after
      → IsTree next → IsCleared node mid next → IsStepped start t next node before after
  stepped start t mid next before middle after node at h renewed r tree c =
      let p = passed start t mid before middle after node at h renewed r in
      let here : node < length mid.items = let e = p.same_room in let inside = inside_of start t before middle node at h in omega arith in
      record {
        mending = mending_cleared start mid next before after node at.some here p.doubted p.mending p.own tree c;
        done = record {
          some = at.some;
          inside = let e = ap (λ (x : Standings Item). length x.items) c.same in let r = tree.doubts_room in omega arith;
          clear = clear_now start mid next before after node at.some here p.doubted p.mending p.own tree c;
          above = up_in_doubt start mid next before after node at.some here p.doubted p.mending p.own tree c;
        };
        ended = root_cleared start mid next before after node at.some here p.doubted p.mending p.own tree c;
        count = let n = count_cleared start mid next before after node at.some here p.doubted p.mending p.own tree c in let m = p.same_count in omega (arith, n, m);
      }
