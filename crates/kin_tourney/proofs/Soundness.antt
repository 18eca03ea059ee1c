-- A tree of matches between repairs: marks, and the start and the end of a repair.
use Rattle.std.proofs.Common.{◌≡◌, ◌≢◌, ◌⊎◌, inl, inr, refl, sym, ap, ◌∙◌, subst, arith, List, ℕ, ◌+◌, ◌*◌, ◌-◌, ◌/◌, ◌<◌, ◌≤◌, length, Bool, true, false, cond, nat_lt, set}
use Rattle.std.specs.Prelude.{Option, Some, None, Contains, IsFalse, slice_index_or}
use Rattle.std.proofs.lemmas.Bool.Decides.{nat_tests}
use Rattle.std.proofs.lemmas.List.{length-set, get_or-set_other, get_or_past, get_or_default}
use Rattle.std.proofs.lemmas.Bool.{cases_eq}
use Rattle.std.proofs.lemmas.Option.{same_Some}
use Rattle.kin_algebra.specs.declared.sign.Sign.{Sign}
use Rattle.kin_algebra.proofs.Signs.{equal_or_not}
use Rattle.kin_motion.specs.declared.form.Form.{Form}
use Rattle.kin_motion.specs.declared.fact.Fact.{Fact}
use Rattle.kin_motion.specs.declared.fact.Placed.{Placed}
use Rattle.kin_motion.specs.Scene.{Scene}
use Rattle.kin_motion.specs.Forms.{IsAskable}
use Rattle.kin_motion.specs.Tournaments.{Key, is_under}
use Rattle.kin_tourney.specs.declared.doubt.Doubt.{Doubt}
use Rattle.kin_tourney.specs.declared.doubt.Doubt.TheVariants.{Clear, Here}
use Rattle.kin_tourney.specs.declared.entry.Entry.{Entry}
use Rattle.kin_tourney.specs.Names.{AreLive, HoldLive}
use Rattle.kin_tourney.specs.Tournament.{mark_in, mark_count, is_above_mark, CoversFailing, CoversAskable}
use Rattle.kin_tourney.specs.Standings.{Standings, IsTree, IsRight, best_in, fact_in, doubt_in, doubt_count, named_at, entry_at, entry_in, match_of, placed_facts, entry_with}
use Rattle.kin_tourney.specs.Repairs.{IsMarkedUp, IsFed, IsDoubted, IsDoubtful, needs_play}
use Rattle.kin_tourney.specs.Sound.{IsSound}
use Rattle.kin_tourney.proofs.AfterWrite.{read_set}
use Rattle.kin_tourney.specs.PointLaws.{mark_none}
use Rattle.kin_tourney.proofs.Marks.{leaf_doubt, mark_under, mark_more, mark_again, count_of_top, clear_but_top}
use Rattle.kin_tourney.proofs.Entries.{named_under, entry_in_slot, match_slot}
use Rattle.kin_tourney.proofs.Placements.{fact_of_placed, placed_of_fact}
use Rattle.kin_tourney.proofs.Entrants.{right_where_held, right_at_one}

-- what is left when no match in doubt itself has to be played
not_here : (all : Bool) (d : Doubt) → needs_play all d ≡ false → d ≢ Here
not_here all d n e = absurd (let z : true ≡ false = sym (ap (needs_play all) e) ∙ n in cc)

module _ {Item : Type 0} (key : Key Item) where
  -- a node above a mark is in doubt
  mark_doubt : (t : Standings Item) → IsTree t → ((i : ℕ) → mark_in t.marked i ≡ true → doubt_in t.doubts ((length t.items + i) / 2) ≢ Clear) → (v i : ℕ) → 0 < v → v < length t.items
      → mark_in t.marked i ≡ true → is_under t.size v i ≡ true → doubt_in t.doubts v ≢ Clear
  mark_doubt t tree leaves v i some inside e under =
      leaf_doubt t.doubts tree.closed t.size v i some (let r = tree.items_room in omega arith) (subst (λ n. doubt_in t.doubts ((n + i) / 2) ≢ Clear) tree.items_room (leaves i e)) under

  -- a match has the winner of a half
  fed_by : (t : Standings Item) → ((v : ℕ) → 0 < v → v < length t.items → (sign : Sign) × IsRight key (λ f. sign) t v) → IsFed t
  fed_by t right v i some inside e = of_match (right v some inside)
    where
      of_match : (sign : Sign) × IsRight key (λ f. sign) t v → (named_at t (2 * v) ≡ Some i) ⊎ (named_at t (2 * v + 1) ≡ Some i)
      of_match (sign, right) = at (match_slot key (λ f. sign) (entry_at t (2 * v)) (entry_at t (2 * v + 1)) i (sym (ap (λ (p : Option ℕ × Option Fact). p.0) right) ∙ e))
        where
          at : ((x : Entry Item) × (entry_at t (2 * v) ≡ Some x) × (x.slot ≡ i)) ⊎ ((x : Entry Item) × (entry_at t (2 * v + 1) ≡ Some x) × (x.slot ≡ i)) → (named_at t (2 * v) ≡ Some i) ⊎ (named_at t (2 * v + 1) ≡ Some i)
          at (inl (x, f, g)) = inl ((entry_in_slot t.items (named_at t (2 * v)) x f).0 ∙ ap Some g)
          at (inr (x, f, g)) = inr ((entry_in_slot t.items (named_at t (2 * v + 1)) x f).0 ∙ ap Some g)

  -- ---- a mark
  entry_elsewhere : (items : List (Option Item)) (slot : ℕ) (item : Option Item) (o : Option ℕ) → (o ≡ Some slot → ⊥) → entry_in (set items slot item) o ≡ entry_in items o
  entry_elsewhere items slot item None other = refl
  entry_elsewhere items slot item (Some i) other = at (cases_eq i slot)
    where
      at : (i ≡ slot) ⊎ (i ≢ slot) → entry_in (set items slot item) (Some i) ≡ entry_in items (Some i)
      at (inl e) = absurd (other (ap Some e))
      at (inr n) = ap (entry_with i) (get_or-set_other items slot i item None n)

  module _ (t new : Standings Item) (tree : IsTree t) (tree' : IsTree new) (sound : IsSound key t) (slot : ℕ) (inside : slot < length t.items) (item : Option Item)
      (same : new ≡ record t { items = set t.items slot item; marked = set t.marked slot true; doubts = new.doubts })
      (here_kept : (v : ℕ) → doubt_in t.doubts v ≡ Here → doubt_in new.doubts v ≡ Here)
      (was_clear : (v : ℕ) → doubt_in new.doubts v ≡ Clear → doubt_in t.doubts v ≡ Clear)
      (leaf : doubt_in new.doubts ((length t.items + slot) / 2) ≢ Clear)
      (won_here : (u : ℕ) → is_under t.size u slot ≡ true → named_at t u ≡ Some slot → doubt_in new.doubts (u / 2) ≡ Here)
      (few : doubt_count new.doubts ≤ 1 + t.size * mark_count new.marked) where
    room_kept : length new.items ≡ length t.items
    room_kept = ap (λ (x : Standings Item). length x.items) same ∙ length-set t.items slot item

    size_same : new.size ≡ t.size
    size_same = ap (λ (x : Standings Item). x.size) same

    leaves_after : (i : ℕ) → mark_in new.marked i ≡ true → doubt_in new.doubts ((length new.items + i) / 2) ≢ Clear
    leaves_after i e d = at (read_set t.marked slot i true false (let r = tree.marked_room in omega arith))
      where
        here : doubt_in new.doubts ((length t.items + i) / 2) ≡ Clear
        here = subst (λ n. doubt_in new.doubts ((n + i) / 2) ≡ Clear) room_kept d

        at : ((i ≡ slot) × (mark_in (set t.marked slot true) i ≡ true)) ⊎ ((i ≢ slot) × (mark_in (set t.marked slot true) i ≡ mark_in t.marked i)) → ⊥
        at (inl k) = leaf (subst (λ j. doubt_in new.doubts ((length t.items + j) / 2) ≡ Clear) k.0 here)
        at (inr k) = sound.leaves i (sym k.1 ∙ sym (ap (λ (x : Standings Item). mark_in x.marked i) same) ∙ e) (was_clear ((length t.items + i) / 2) here)

    named_as : (u : ℕ) → cond (nat_lt u (length (set t.items slot item))) (best_in t.best u) (Some (u - length (set t.items slot item))) ≡ named_at t u
    named_as u = ap (λ n. cond (nat_lt u n) (best_in t.best u) (Some (u - n))) (length-set t.items slot item)

    won_after : (i u : ℕ) → mark_in new.marked i ≡ true → is_under new.size u i ≡ true → named_at new u ≡ Some i → doubt_in new.doubts (u / 2) ≡ Here
    won_after i u e under best = at (read_set t.marked slot i true false (let r = tree.marked_room in omega arith))
      where
        under_t : is_under t.size u i ≡ true
        under_t = subst (λ (n : ℕ). is_under n u i ≡ true) size_same under

        best_t : named_at t u ≡ Some i
        best_t = sym (named_as u) ∙ sym (ap (λ (x : Standings Item). named_at x u) same) ∙ best

        at : ((i ≡ slot) × (mark_in (set t.marked slot true) i ≡ true)) ⊎ ((i ≢ slot) × (mark_in (set t.marked slot true) i ≡ mark_in t.marked i)) → doubt_in new.doubts (u / 2) ≡ Here
        at (inl k) = won_here u (subst (λ (j : ℕ). is_under t.size u j ≡ true) k.0 under_t) (best_t ∙ ap Some k.0)
        at (inr k) = here_kept (u / 2) (sound.won i u (sym k.1 ∙ sym (ap (λ (x : Standings Item). mark_in x.marked i) same) ∙ e) under_t best_t)

    consistent_after : (v : ℕ) → 0 < v → v < length new.items → doubt_in new.doubts v ≢ Here → (sign : Sign) × IsRight key (λ f. sign) new v
    consistent_after v some low e = at (sound.consistent v some inner (λ f. e (here_kept v f)))
      where
        inner : v < length t.items
        inner = let r = room_kept in omega arith

        apart_left : named_at t (2 * v) ≡ Some slot → ⊥
        apart_left f = let q : v < length t.items = inner in let k = named_under t tree (2 * v) slot (omega arith) f in let up : v ≡ 2 * v / 2 = omega arith in e (ap (doubt_in new.doubts) up ∙ won_here (2 * v) k.1 f)

        apart_right : named_at t (2 * v + 1) ≡ Some slot → ⊥
        apart_right f = let q : v < length t.items = inner in let k = named_under t tree (2 * v + 1) slot (omega arith) f in let up : v ≡ (2 * v + 1) / 2 = omega arith in e (ap (doubt_in new.doubts) up ∙ won_here (2 * v + 1) k.1 f)

        entry_as : (u : ℕ) → (named_at t u ≡ Some slot → ⊥) → entry_in (set t.items slot item) (cond (nat_lt u (length (set t.items slot item))) (best_in t.best u) (Some (u - length (set t.items slot item)))) ≡ entry_at t u
        entry_as u other = ap (entry_in (set t.items slot item)) (named_as u) ∙ entry_elsewhere t.items slot item (named_at t u) other

        at : (sign : Sign) × IsRight key (λ f. sign) t v → (sign : Sign) × IsRight key (λ f. sign) new v
        at (sign, right) = (
          sign,
          subst (λ (x : Standings Item). IsRight key (λ f. sign) x v) (sym same)
              (right ∙ sym (ap (λ x. match_of key (λ f. sign) x (entry_in (set t.items slot item) (cond (nat_lt (2 * v + 1) (length (set t.items slot item))) (best_in t.best (2 * v + 1)) (Some (2 * v + 1 - length (set t.items slot item)))))) (entry_as (2 * v) apart_left)
              ∙ ap (λ x. match_of key (λ f. sign) (entry_at t (2 * v)) x) (entry_as (2 * v + 1) apart_right))),
        )

    fed_after : IsFed new
    fed_after v i some low e =
        let f = sound.fed v i some (let r = room_kept in omega arith) (sym (ap (λ (x : Standings Item). best_in x.best v) same) ∙ e) in
        at f
      where
        as_before : (u : ℕ) → named_at t u ≡ Some i → named_at new u ≡ Some i
        as_before u f = ap (λ (x : Standings Item). named_at x u) same ∙ named_as u ∙ f

        at : (named_at t (2 * v) ≡ Some i) ⊎ (named_at t (2 * v + 1) ≡ Some i) → (named_at new (2 * v) ≡ Some i) ⊎ (named_at new (2 * v + 1) ≡ Some i)
        at (inl f) = inl (as_before (2 * v) f)
        at (inr f) = inr (as_before (2 * v + 1) f)

    pub sound_marked : IsSound key new
    sound_marked = record {
      some = subst (λ n. 1 ≤ n) (sym size_same) sound.some;
      leaves = leaves_after;
      won = won_after;
      consistent = consistent_after;
      fed = fed_after;
      no_root = ap (λ (x : Standings Item). fact_in x.facts 0) same ∙ sound.no_root;
      few = subst (λ n. doubt_count new.doubts ≤ 1 + n * mark_count new.marked) (sym size_same) few;
    }

  -- the same by what marking a slot says
  pub sound_put : (t new : Standings Item) → IsTree t → IsTree new → IsSound key t → (slot : ℕ) → slot < length t.items → (item : Option Item)
      → new ≡ record t { items = set t.items slot item; marked = set t.marked slot true; doubts = new.doubts }
      → (mark_in t.marked slot ≡ false → IsMarkedUp slot t new.doubts) → (mark_in t.marked slot ≡ true → new.doubts ≡ t.doubts) → IsSound key new
  sound_put t new tree tree' sound slot inside item same spread again = at (mark_in t.marked slot) refl
    where
      room : slot < length t.marked
      room = let r = tree.marked_room in omega arith

      marked_are : mark_count new.marked ≡ mark_count (set t.marked slot true)
      marked_are = ap (λ (x : Standings Item). mark_count x.marked) same

      at : (b : Bool) → mark_in t.marked slot ≡ b → IsSound key new
      at true e = sound_marked t new tree tree' sound slot inside item same (λ v k. ap (λ ds. doubt_in ds v) (again e) ∙ k) (λ v k. sym (ap (λ ds. doubt_in ds v) (again e)) ∙ k) (λ d. sound.leaves slot e (sym (ap (λ ds. doubt_in ds ((length t.items + slot) / 2)) (again e)) ∙ d))
          (λ u under best. ap (λ ds. doubt_in ds (u / 2)) (again e) ∙ sound.won slot u e under best)
          (let k = mark_again t.marked slot room e in let c : mark_count new.marked ≡ mark_count t.marked = marked_are ∙ k in
          let d : doubt_count new.doubts ≡ doubt_count t.doubts = ap doubt_count (again e) in let f = sound.few in
          subst (λ n. doubt_count new.doubts ≤ 1 + t.size * n) (sym c) (omega arith))
      at false e =
          let s = spread e in
          sound_marked t new tree tree' sound slot inside item same s.here_kept s.kept s.reached (s.won sound.fed)
          (let k = mark_more t.marked slot room e in let c : mark_count new.marked ≡ mark_count t.marked + 1 = marked_are ∙ k in
          let d = s.few in let f = sound.few in
          subst (λ n. doubt_count new.doubts ≤ 1 + t.size * n) (sym c) (enough (doubt_count new.doubts) (doubt_count t.doubts) t.size (mark_count t.marked) d f))
        where
          enough : (new old size marks : ℕ) → new ≤ old + size → old ≤ 1 + size * marks → new ≤ 1 + size * (marks + 1)
          enough new old size marks p q = let m : size * (marks + 1) ≡ size * marks + size = omega arith in omega arith

  -- ---- a repair starts
  module _ (all : Bool) (t new : Standings Item) (s : Scene) (failed : List Placed) (tree : IsTree t) (tree' : IsTree new) (sound : IsSound key t) (same : new ≡ record t { doubts = new.doubts }) (doubted : IsDoubted t.doubts new.doubts failed (length failed)) where
    -- a fact holds whose node isn't in doubt itself, as it hasn't failed
    holds_by : (v : ℕ) → doubt_in new.doubts v ≢ Here → (f : Fact) → (¬ (s.sign f.form ≡ f.sign) → Contains failed (record { part = v; fact = f })) → s.sign f.form ≡ f.sign
    holds_by v n f listed = decide (equal_or_not (s.sign f.form) f.sign)
      where
        failed_here : Contains failed (record { part = v; fact = f }) → doubt_in new.doubts v ≡ Here
        failed_here (k, low, e) = subst (λ (p : Placed). doubt_in new.doubts p.part ≡ Here) e (doubted.failed_here k (record { part = v; fact = f }) low)

        decide : (s.sign f.form ≡ f.sign) ⊎ (s.sign f.form ≢ f.sign) → s.sign f.form ≡ f.sign
        decide (inl k) = k
        decide (inr k) = absurd (n (failed_here (listed k)))

    right_by : (v : ℕ) → 0 < v → v < length t.items → needs_play all (doubt_in new.doubts v) ≡ false
        → ((sign : Sign) → IsRight key (λ f. sign) t v → (f : Fact) → fact_in t.facts v ≡ Some f → ¬ (s.sign f.form ≡ f.sign) → Contains failed (record { part = v; fact = f })) → IsRight key s.sign t v
    right_by v some inside n listed = at (sound.consistent v some inside (λ e. not_here all (doubt_in new.doubts v) n (doubted.here_kept v e)))
      where
        at : (sign : Sign) × IsRight key (λ f. sign) t v → IsRight key s.sign t v
        at (sign, right) = right_where_held key t v sign s.sign right (λ f e. holds_by v (not_here all (doubt_in new.doubts v) n) f (listed sign right f e))

    doubtful_by : ((v : ℕ) → 0 < v → v < length t.items → needs_play all (doubt_in new.doubts v) ≡ false → IsRight key s.sign t v) → IsDoubtful all key s.sign new
    doubtful_by right =
        subst (λ (x : Standings Item). IsDoubtful all key s.sign x) (sym same) (record {
          tree = subst IsTree same tree';
          leaves = λ i e d. sound.leaves i e (doubted.kept ((length t.items + i) / 2) d);
          right = right;
          once = λ v some inside n. sound.consistent v some inside (λ e. not_here false (doubt_in new.doubts v) n (doubted.here_kept v e));
          no_root = sound.no_root;
        })

    -- where no clear node stands above a mark, and the others are played again
    pub doubtful_starts : CoversFailing (placed_facts t) (λ p. is_above_mark t.size t.marked p.part) s failed → ((v : ℕ) → 0 < v → needs_play all (doubt_in new.doubts v) ≡ false → doubt_in t.doubts v ≡ Clear) → IsDoubtful all key s.sign new
    doubtful_starts failing clear_first = doubtful_by (λ v some inside n. right_by v some inside n (listed v some inside (clear_first v some n)))
      where
        listed : (v : ℕ) → 0 < v → v < length t.items → doubt_in t.doubts v ≡ Clear → (sign : Sign) → IsRight key (λ f. sign) t v → (f : Fact) → fact_in t.facts v ≡ Some f → ¬ (s.sign f.form ≡ f.sign) → Contains failed (record { part = v; fact = f })
        listed v some inside clear sign right f e = failing.all (record { part = v; fact = f }) (placed_of_fact t.facts (record { part = v; fact = f }) e) (not_spared (is_above_mark t.size t.marked v) refl)
          where
            not_spared : (b : Bool) → is_above_mark t.size t.marked v ≡ b → IsFalse b
            not_spared false g = refl
            not_spared true g = known (mark_under t.size v t.marked g)
              where
                known : (k : ℕ) × (mark_in t.marked k ≡ true) × (is_under t.size v k ≡ true) → IsFalse true
                known (k, a, b) = absurd (mark_doubt t tree sound.leaves v k some inside a b clear)

    -- where all facts are told that name live numbers alone
    pub doubtful_told : CoversAskable (placed_facts t) s failed → ((v : ℕ) (sign : Sign) (f : Fact) → IsRight key (λ g. sign) t v → fact_in t.facts v ≡ Some f → IsAskable s.live f.form) → IsDoubtful all key s.sign new
    doubtful_told failing askable = doubtful_by (λ v some inside n. right_by v some inside n (λ sign right f e. failing.all (record { part = v; fact = f }) (placed_of_fact t.facts (record { part = v; fact = f }) e) (askable v sign f right e)))

  -- the fact of a node that is the match of its halves may be asked for
  pub right_askable : (live : List ℕ) (names : Item → List ℕ) → ((x y : Item) → AreLive live (names x) → AreLive live (names y) → IsAskable live (key.form x y)) → (t : Standings Item)
      → HoldLive names live t.items → (v : ℕ) (sign : Sign) (f : Fact) → IsRight key (λ g. sign) t v → fact_in t.facts v ≡ Some f → IsAskable live f.form
  right_askable live names askable t each v sign f right e = at (entry_at t (2 * v)) refl (entry_at t (2 * v + 1)) refl (sym (ap (λ (p : Option ℕ × Option Fact). p.1) right) ∙ e)
    where
      item_live : (u : ℕ) (x : Entry Item) → entry_at t u ≡ Some x → AreLive live (names x.item)
      item_live u x h = each x.slot x.item (entry_in_slot t.items (named_at t u) x h).1

      at : (l : Option (Entry Item)) → entry_at t (2 * v) ≡ l → (r : Option (Entry Item)) → entry_at t (2 * v + 1) ≡ r → (match_of key (λ g. sign) l r).1 ≡ Some f → IsAskable live f.form
      at None h None k g = absurd cc
      at (Some l) h None k g = absurd cc
      at None h (Some r) k g = absurd cc
      at (Some l) h (Some r) k g = subst (λ (x : Fact). IsAskable live x.form) (same_Some _ _ g) (askable l.item r.item (item_live (2 * v) l h) (item_live (2 * v + 1) r k))

  pub parts_inside : (t : Standings Item) (failed : List Placed) → IsTree t → ((p : Placed) → Contains failed p → Contains (placed_facts t) p)
      → (k : ℕ) (d : Placed) → k < length failed → (slice_index_or failed k d).part < length t.items
  parts_inside t failed tree only k d low = at (nat_lt p.part (length t.facts)) refl
    where
      p : Placed
      p = slice_index_or failed k d

      at : (b : Bool) → nat_lt p.part (length t.facts) ≡ b → p.part < length t.items
      at true e = let inside : p.part < length t.facts = grind (arith, nat_tests, e) in let r = tree.facts_room in omega arith
      at false e = absurd (none_there (get_or_past t.facts p.part None (grind (arith, nat_tests, e))) (fact_of_placed t.facts p (only p (k, low, get_or_default failed k p d low))))
        where
          none_there : {o : Option Fact} → o ≡ None → o ≡ Some p.fact → ⊥
          none_there {o} e f = let z : None ≡ Some p.fact = sym e ∙ f in cc

  -- ---- a repair ends
  pub sound_repaired : (all : Bool) (t : Standings Item) (signs : Form → Sign) → 1 ≤ t.size → 1 < length t.items → IsDoubtful all key signs t → ((v : ℕ) → 0 < v → doubt_in t.doubts v ≡ Clear) → IsSound key t
  sound_repaired all t signs big many h clear = record {
    some = big;
    leaves = h.leaves;
    won = λ i u e. absurd (h.leaves i e (clear ((length t.items + i) / 2) (omega arith)));
    consistent = λ v some inside e. at_one v some inside;
    fed = fed_by t at_one;
    no_root = h.no_root;
    few = let k = count_of_top t.doubts h.tree.closed clear in omega arith;
  }
    where
      at_one : (v : ℕ) → 0 < v → v < length t.items → (sign : Sign) × IsRight key (λ f. sign) t v
      at_one v some inside = right_at_one key t v signs (h.right v some inside (ap (needs_play all) (clear v some)))

  pub unmarked_repaired : (all : Bool) (t : Standings Item) (signs : Form → Sign) → IsDoubtful all key signs t → 1 < length t.items → ((v : ℕ) → 0 < v → doubt_in t.doubts v ≡ Clear) → (i : ℕ) → mark_in t.marked i ≡ false
  unmarked_repaired all t signs h many clear i = at (mark_in t.marked i) refl
    where
      at : (b : Bool) → mark_in t.marked i ≡ b → b ≡ false
      at false e = refl
      at true e = absurd (h.leaves i e (clear ((length t.items + i) / 2) (omega arith)))

  pub all_right : (all : Bool) (t : Standings Item) (signs : Form → Sign) → IsDoubtful all key signs t → ((v : ℕ) → 0 < v → doubt_in t.doubts v ≡ Clear) → (v : ℕ) → 0 < v → v < length t.items → IsRight key signs t v
  all_right all t signs h clear v some inside = h.right v some inside (ap (needs_play all) (clear v some))

  -- ---- at rest nothing is in doubt
  pub clear_at_rest : (t : Standings Item) → IsTree t → IsSound key t → ((i : ℕ) → mark_in t.marked i ≡ false) → (v : ℕ) → 0 < v → doubt_in t.doubts v ≡ Clear
  clear_at_rest t tree sound none = clear_but_top t.doubts tree.closed (let k = mark_none t.marked none in let f = sound.few in let z : t.size * mark_count t.marked ≡ 0 = ap (λ n. t.size * n) k ∙ zero_product t.size in omega arith)
    where
      zero_product : (n : ℕ) → n * 0 ≡ 0
      zero_product n = omega arith
