-- A repaired tree of matches is a settled tournament.
use Rattle.std.proofs.Common.{◌≡◌, refl, sym, ap, ◌∙◌, subst, arith, List, ℕ, ◌+◌, ◌^◌, ◌<◌, ◌≤◌, length, set, Bool, true, false, not}
use Rattle.std.proofs.lemmas.Nat.{pow-add}
use Rattle.kin_tourney.proofs.Vacant.{vacant}
use Rattle.std.specs.Prelude.{Option, None, Contains, IsTrue, slice_index_or}
use Rattle.kin_motion.specs.declared.fact.Placed.{Placed}
use Rattle.kin_motion.specs.Forms.{IsAskable}
use Rattle.kin_motion.specs.Kinetics.{ListsFailing}
use Rattle.kin_motion.specs.Scene.{Scene, IsReal}
use Rattle.kin_motion.specs.Tournaments.{Key, item_in, is_under}
use Rattle.kin_tourney.specs.declared.doubt.Doubt.{Doubt}
use Rattle.kin_tourney.specs.declared.doubt.Doubt.TheVariants.{Clear, Below, Here}
use Rattle.kin_tourney.specs.Names.{AreLive, IsTotal, IsTransitive}
use Rattle.kin_tourney.specs.Tournament.{Tournament, IsAtRest, IsReady, IsSettled, mark_in, is_above_mark, winner_at, CoversFailing, CoversAskable}
use Rattle.kin_tourney.specs.Ready.{fair_when_ready}
use Rattle.kin_motion.proofs.PlayedTournaments.{settled_from_played}
use Rattle.kin_tourney.specs.Standings.{Standings, IsTree, doubt_in, entry_at, item_of, placed_facts, seen_as}
use Rattle.kin_tourney.specs.Repairs.{IsMarkedUp, IsDoubtful, IsDoubted, needs_play}
use Rattle.kin_tourney.specs.Sound.{IsSound}
use Rattle.kin_tourney.proofs.Entrants.{played_from_right}
use Rattle.kin_tourney.proofs.Soundness.{all_right, sound_put, parts_inside, doubtful_starts, doubtful_told, right_askable, sound_repaired, unmarked_repaired, clear_at_rest}
use Rattle.kin_tourney.proofs.Trees.{all_clear, some_inner}

-- exactly the failed facts are all of them
pub covers_failing : (facts : List Placed) (is_spared : Placed → Bool) (s : Scene) (failed : List Placed) → ListsFailing facts is_spared s failed → CoversFailing facts is_spared s failed
covers_failing facts is_spared s failed h = record { only = λ p c. ((h.each p).0 c).0; all = λ p c free fails. (h.each p).1 (c, free, fails) }

module _ {K Item : Type 0} (k : K) (names : Item → List ℕ) (key : Key Item)
    (total : IsTotal names key) (through : IsTransitive names key) where
  pub settled_repaired : (all : Bool) (t : Standings Item) (s : Scene) → IsReal s → IsDoubtful all key s.sign t → ((v : ℕ) → 0 < v → doubt_in t.doubts v ≡ Clear) → IsReady names (seen_as k t true) s → IsSettled names key (seen_as k t true) s
  settled_repaired all t s real h clear ready = record {
    room = h.tree.items_room;
    ready = ready;
    tournament = settled_from_played s key t.size t.items h.tree.items_room (fair_when_ready names key total through (seen_as k t true) s real ready) (winner_at (seen_as k t true)) (placed_facts t)
        (played_from_right s key t h.tree h.no_root (all_right key all t s.sign h clear));
  }

-- the same items are ready
pub ready_repaired : {K Item : Type 0} (k : K) (names : Item → List ℕ) (old new : Standings Item) (s : Scene) (whole : Bool) → new.items ≡ old.items → IsReady names (seen_as k old whole) s → IsReady names (seen_as k new true) s
ready_repaired {K} {Item} k names old new s whole same h = record {
  whole = refl;
  apart = λ i j a e f. h.apart i j a (sym (ap (λ l. item_in l i) same) ∙ e) (sym (ap (λ l. item_in l j) same) ∙ f);
  live = λ i a e. h.live i a (sym (ap (λ l. item_in l i) same) ∙ e);
}

-- a slot is marked
pub kept_put : {Item : Type 0} (key : Key Item) (t new : Standings Item) (whole : Bool) (slot : ℕ) (item : Option Item) → IsTree t × (IsTrue whole → IsSound key t) → slot < 2 ^ t.size → IsTree new
    → new ≡ record t { items = set t.items slot item; marked = set t.marked slot true; doubts = new.doubts }
    → (mark_in t.marked slot ≡ false → IsMarkedUp slot t new.doubts) → (mark_in t.marked slot ≡ true → new.doubts ≡ t.doubts)
    → IsTree new × (IsTrue whole → IsSound key new)
kept_put {Item} key t new whole slot item kept low tree same spread again =
    (tree, λ w. sound_put key t new kept.0 tree (kept.1 w) slot (let r = kept.0.items_room in omega arith) item same spread again)

-- what holds once the tree is repaired
pub record IsLast {K Item : Type 0} (k : K) (names : Item → List ℕ) (key : Key Item) (new : Standings Item) (s : Scene) : Type 0 where
  pub kept : IsTree new × (IsTrue true → IsSound key new)
  pub rest : IsAtRest (seen_as k new true)
  pub settled : IsSettled names key (seen_as k new true) s

-- a tournament that is seen as another one, which is ready
module _ {K Item : Type 0} (k : K) (names : Item → List ℕ) (key : Key Item) (t : Standings Item) (whole : Bool) (s : Scene) (seen : Tournament K Item)
    (kept : IsTree t × (IsTrue whole → IsSound key t)) (view : seen_as k t whole ≡ seen) (may : IsReady names seen s) where
  ready : IsReady names (seen_as k t whole) s
  ready = subst (λ (x : Tournament K Item). IsReady names x s) (sym view) may

  sound : IsSound key t
  sound = kept.1 ready.whole

  pub some_slots : 1 ≤ t.size
  some_slots = sound.some

  -- failed facts are in doubt
  module _ (failed : List Placed) where
    pub parts_low : ((p : Placed) → Contains failed p → Contains seen.facts p) → (i : ℕ) (d : Placed) → i < length failed → (slice_index_or failed i d).part < length t.items
    parts_low only = parts_inside key t failed kept.0 (λ p c. subst (λ (x : Tournament K Item). Contains x.facts p) (sym view) (only p c))

    module _ (doubted : Standings Item) (tree : IsTree doubted) (same : doubted ≡ record t { doubts = doubted.doubts }) (doubts : IsDoubted t.doubts doubted.doubts failed (length failed)) where
      -- all matches above marks are played again, if there are marks at all
      pub doubtful_now : CoversFailing seen.facts (λ p. is_above_mark seen.size seen.marked p.part) s failed → (untouched : Bool) → (untouched ≡ true → doubt_in t.doubts 1 ≡ Clear) → IsDoubtful (not untouched) key s.sign doubted
      doubtful_now failing untouched root =
          doubtful_starts key (not untouched) t doubted s failed kept.0 tree sound same doubts
          (subst (λ (x : Tournament K Item). CoversFailing x.facts (λ p. is_above_mark x.size x.marked p.part) s failed) (sym view) failing) (λ v some. first untouched root v some)
        where
          was_clear : (v : ℕ) (d : Doubt) → d ≡ doubt_in doubted.doubts v → needs_play true d ≡ false → doubt_in t.doubts v ≡ Clear
          was_clear v Clear e n = doubts.kept v (sym e)
          was_clear v Below e n = absurd cc
          was_clear v Here e n = absurd cc

          first : (u : Bool) → (u ≡ true → doubt_in t.doubts 1 ≡ Clear) → (v : ℕ) → 0 < v → needs_play (not u) (doubt_in doubted.doubts v) ≡ false → doubt_in t.doubts v ≡ Clear
          first true root v some n = all_clear t.doubts kept.0.closed (root refl) v some
          first false root v some n = was_clear v (doubt_in doubted.doubts v) refl n

      -- only those matches that are in doubt themselves are played again
      pub doubtful_of_told : ((live : List ℕ) (x y : Item) → AreLive live (names x) → AreLive live (names y) → IsAskable live (key.form x y)) → CoversAskable seen.facts s failed → IsDoubtful false key s.sign doubted
      doubtful_of_told askable failing =
          doubtful_told key false t doubted s failed kept.0 tree sound same doubts
          (subst (λ (x : Tournament K Item). CoversAskable x.facts s failed) (sym view) failing)
          (λ v sign f right e. right_askable key s.live names (λ x y. askable s.live x y) t ready.live v sign f right e)

      same_size : doubted.size ≡ t.size
      same_size = ap (λ (x : Standings Item). x.size) same

      same_items : doubted.items ≡ t.items
      same_items = ap (λ (x : Standings Item). x.items) same

      -- and repaired
      module _ (total : IsTotal names key) (through : IsTransitive names key)
          (real : IsReal s) (all : Bool) (new : Standings Item) (size : new.size ≡ doubted.size) (items : new.items ≡ doubted.items) (known : IsDoubtful all key s.sign new) (clear : (v : ℕ) → 0 < v → doubt_in new.doubts v ≡ Clear) where
        some_last : 1 ≤ new.size
        some_last = subst (λ n. 1 ≤ n) (sym (size ∙ same_size)) some_slots

        many_last : 1 < length new.items
        many_last = some_inner new known.tree some_last

        pub last : IsLast k names key new s
        last = record {
          kept = (known.tree, λ w. sound_repaired key all new s.sign some_last many_last known clear);
          rest = record { whole = refl; unmarked = unmarked_repaired key all new s.sign known many_last clear };
          settled = settled_repaired k names key total through all new s real known clear (ready_repaired k names t new s whole (items ∙ same_items) ready);
        }

-- a node has no winner exactly where its slots are empty
module _ {K Item : Type 0} (k : K) (key : Key Item) (t : Standings Item) (whole : Bool) (seen : Tournament K Item) (kept : IsTree t × (IsTrue whole → IsSound key t)) (view : seen_as k t whole ≡ seen)
    (rest : IsAtRest seen) (v : ℕ) (some : 0 < v) (inside : v < 2 ^ (seen.size + 1)) (o : Option Item) (is : item_of (entry_at t v) ≡ o) where
  abbrev AreNone : Tournament K Item → Type 0
  AreNone x = (i : ℕ) → IsTrue (is_under x.size v i) → item_in x.slots i ≡ None

  at_rest : IsAtRest (seen_as k t whole)
  at_rest = subst (λ (x : Tournament K Item). IsAtRest x) (sym view) rest

  own : (item_of (entry_at t v) ≡ None → AreNone (seen_as k t whole)) × (AreNone (seen_as k t whole) → item_of (entry_at t v) ≡ None)
  own =
      let sound = kept.1 at_rest.whole in
      let clear = clear_at_rest key t kept.0 sound at_rest.unmarked in
      let high = subst (λ (x : Tournament K Item). v < 2 ^ (x.size + 1)) (sym view) inside in
      vacant key t kept.0 (λ u big low. sound.consistent u big low (λ e. absurd (let z : Clear ≡ Here = sym (clear u big) ∙ e in cc))) v some (let p = pow-add 2 t.size 1 in omega (arith, p, high))

  pub winner_none : (o ≡ None → AreNone seen) × (AreNone seen → o ≡ None)
  winner_none = subst (λ (x : Tournament K Item). (o ≡ None → AreNone x) × (AreNone x → o ≡ None)) view (λ e. own.0 (is ∙ e), λ none. sym is ∙ own.1 none)
