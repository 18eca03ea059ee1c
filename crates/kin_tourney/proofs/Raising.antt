-- Doubts above a marked slot: the matches that it had won are to be played again.
use Rattle.std.proofs.Common.{◌≡◌, ◌≢◌, ◌⊎◌, inl, inr, refl, sym, ap, ◌∙◌, subst, arith, ℕ, zero, suc, ◌+◌, ◌*◌, ◌/◌, ◌<◌, ◌≤◌, length, true, nat_eq, set, ◌^◌, Bool, false, nat_lt, List}
use Rattle.std.specs.Prelude.{Some}
use Rattle.std.proofs.lemmas.Bool.{or_cases, cases_eq, cases_lt}
use Rattle.std.proofs.lemmas.Bool.Decides.{nat_tests}
use Rattle.std.proofs.lemmas.List.{get_or-set_same, length-set, set-get_or}
use Rattle.kin_motion.specs.Tournaments.{comes_to, is_under}
use Rattle.kin_motion.proofs.NodeLaws.{not_above}
use Rattle.kin_tourney.specs.declared.doubt.Doubt.TheVariants.{Clear, Below, Here}
use Rattle.kin_tourney.specs.Standings.{Standings, IsTree, doubt_in, doubt_count, named_at}
use Rattle.kin_tourney.specs.Tournament.{mark_in}
use Rattle.kin_tourney.specs.Repairs.{IsSpread, IsMarkedUp, IsFed}
use Rattle.kin_motion.proofs.UnderNodes.{is_under-leaf, is_under-left, is_under-right, is_under-one_half}
use Rattle.kin_tourney.proofs.Entries.{named_inner, named_under}
use Rattle.kin_tourney.proofs.AfterWrite.{read_set}
use Rattle.kin_tourney.proofs.Doubts.{count_kept, here_is_doubt}
use Rattle.kin_tourney.proofs.Trees.{above_in_doubt, tree_marked}

-- on the way up from a slot: the nodes that are passed are done
pub record IsRaising {Item : Type 0} (slot : ℕ) (start now : Standings Item) (node : ℕ) : Type 0 where
  pub tree : IsTree now
  pub same : now ≡ record start { doubts = now.doubts }
  pub room : length now.doubts ≡ length start.doubts
  pub count : doubt_count now.doubts ≡ doubt_count start.doubts
  pub here_kept : (v : ℕ) → doubt_in start.doubts v ≡ Here → doubt_in now.doubts v ≡ Here
  pub kept : (v : ℕ) → doubt_in now.doubts v ≡ Clear → doubt_in start.doubts v ≡ Clear
  pub doubted : 1 < node → doubt_in now.doubts (node / 2) ≢ Clear
  pub low : node < 2 * length start.items
  pub under : 0 < node → is_under start.size node slot ≡ true
  pub won : IsFed start → (u : ℕ) → is_under start.size u slot ≡ true → (named_at start u ≡ Some slot → doubt_in now.doubts (u / 2) ≡ Here) ⊎ ((k : ℕ) × (comes_to k node u ≡ true))

pub raising_starts : {Item : Type 0} (slot : ℕ) (start : Standings Item) → IsTree start → slot < length start.items → doubt_in start.doubts ((length start.items + slot) / 2) ≢ Clear → IsRaising slot start start (length start.items + slot)
raising_starts {Item} slot start tree inside reached = record {
  tree = tree;
  same = refl;
  room = refl;
  count = refl;
  here_kept = λ v e. e;
  kept = λ v e. e;
  doubted = λ big. reached;
  low = omega arith;
  under = λ some. subst (λ (n : ℕ). comes_to start.size (2 ^ start.size + slot) (n + slot) ≡ true) (sym tree.items_room) (is_under-leaf start.size slot);
  won = λ fed u e. inr (start.size, subst (λ (n : ℕ). comes_to start.size (n + slot) u ≡ true) (sym tree.items_room) e);
}

same_node : (u v : ℕ) → nat_eq u v ≡ true → u ≡ v
same_node u v e = grind (arith, nat_tests, e)

-- ---- above a node of which a slot isn't the best it is so nowhere
half_or_more : (n : ℕ) → (n ≡ 2 * (n / 2)) ⊎ (n ≡ 2 * (n / 2) + 1)
half_or_more n = at (cases_eq n (2 * (n / 2)))
  where
    at : (n ≡ 2 * (n / 2)) ⊎ (n ≢ 2 * (n / 2)) → (n ≡ 2 * (n / 2)) ⊎ (n ≡ 2 * (n / 2) + 1)
    at (inl e) = inl e
    at (inr m) = inr (omega arith)

module _ {Item : Type 0} (slot : ℕ) (t : Standings Item) (tree : IsTree t) (inside : slot < length t.items) where
  low : slot < 2 ^ t.size
  low = let r = tree.items_room in omega arith

  -- a node above one that stands above a slot stands above it too
  under_up : (node : ℕ) → 1 < node → node < 2 * length t.items → is_under t.size node slot ≡ true → is_under t.size (node / 2) slot ≡ true
  under_up node big fits under = at (half_or_more node)
    where
      inner : node / 2 < 2 ^ t.size
      inner = let r = tree.items_room in omega arith

      at : (node ≡ 2 * (node / 2)) ⊎ (node ≡ 2 * (node / 2) + 1) → is_under t.size (node / 2) slot ≡ true
      at (inl e) = is_under-left t.size (node / 2) slot (omega arith) inner low (subst (λ (v : ℕ). is_under t.size v slot ≡ true) e under)
      at (inr e) = is_under-right t.size (node / 2) slot (omega arith) inner low (subst (λ (v : ℕ). is_under t.size v slot ≡ true) e under)

  module _ (fed : IsFed t) where
    lost_up : (node : ℕ) → 1 < node → node < 2 * length t.items → is_under t.size node slot ≡ true → (named_at t node ≢ Some slot) → named_at t (node / 2) ≢ Some slot
    lost_up node big fits under n e = at (fed (node / 2) slot (omega arith) (omega arith) (sym (named_inner t (node / 2) (omega arith)) ∙ e)) (half_or_more node)
      where
        at : (named_at t (2 * (node / 2)) ≡ Some slot) ⊎ (named_at t (2 * (node / 2) + 1) ≡ Some slot) → (node ≡ 2 * (node / 2)) ⊎ (node ≡ 2 * (node / 2) + 1) → ⊥
        at (inl f) (inl g) = n (ap (named_at t) g ∙ f)
        at (inr f) (inr g) = n (ap (named_at t) g ∙ f)
        at (inl f) (inr g) = is_under-one_half t.size (node / 2) slot (omega arith) (named_under t tree (2 * (node / 2)) slot (omega arith) f).1 (subst (λ (v : ℕ). is_under t.size v slot ≡ true) g under)
        at (inr f) (inl g) = is_under-one_half t.size (node / 2) slot (omega arith) (subst (λ (v : ℕ). is_under t.size v slot ≡ true) g under) (named_under t tree (2 * (node / 2) + 1) slot (omega arith) f).1

    lost_above : (k node u : ℕ) → 1 < u → node < 2 * length t.items → is_under t.size node slot ≡ true → (named_at t node ≢ Some slot) → comes_to k node u ≡ true → named_at t u ≢ Some slot
    lost_above zero node u big fits under n c e = n (ap (named_at t) (same_node node u c) ∙ e)
    lost_above (suc k) node u big fits under n c e = at (or_cases (nat_eq node u) (comes_to k (node / 2) u) c) (lost_above k (node / 2) u big)
      where
        at : (nat_eq node u ≡ true) ⊎ (comes_to k (node / 2) u ≡ true)
            → (node / 2 < 2 * length t.items → is_under t.size (node / 2) slot ≡ true → named_at t (node / 2) ≢ Some slot → comes_to k (node / 2) u ≡ true → named_at t u ≢ Some slot) → ⊥
        at (inl f) rest = n (ap (named_at t) (same_node node u f) ∙ e)
        at (inr f) rest =
            let l = not_above k (node / 2) u f in
            rest (omega arith) (under_up node (omega arith) fits under) (lost_up node (omega arith) fits under n) f e

module _ {Item : Type 0} (slot : ℕ) (start now next : Standings Item) (node : ℕ) (big : 1 < node) (h : IsRaising slot start now node) (tree : IsTree next) (first : IsTree start) (among : slot < length start.items) where
  -- one node further, where no doubt is lost
  raising_on : next ≡ record now { doubts = next.doubts } → length next.doubts ≡ length now.doubts → doubt_count next.doubts ≡ doubt_count now.doubts
      → ((v : ℕ) → doubt_in now.doubts v ≡ Here → doubt_in next.doubts v ≡ Here) → ((v : ℕ) → doubt_in next.doubts v ≡ Clear → doubt_in now.doubts v ≡ Clear)
      → (named_at start node ≡ Some slot → doubt_in next.doubts (node / 2) ≡ Here) → IsRaising slot start next (node / 2)
  raising_on same room count here_kept kept own = record {
    tree = tree;
    same = same ∙ ap (λ (t : Standings Item). record t { doubts = next.doubts }) h.same;
    room = room ∙ h.room;
    count = count ∙ h.count;
    here_kept = λ v e. here_kept v (h.here_kept v e);
    kept = λ v e. h.kept v (kept v e);
    doubted = λ more. above_in_doubt next.doubts tree.closed (node / 2) (omega arith) (λ e. h.doubted big (kept (node / 2) e));
    low = let l = h.low in omega arith;
    under = λ some. under_up slot start first among node big h.low (h.under (omega arith));
    won = λ fed u e. on u (h.won fed u e);
  }
    where
      own_node : (u : ℕ) → node ≡ u → named_at start u ≡ Some slot → doubt_in next.doubts (u / 2) ≡ Here
      own_node u same e = subst (λ (w : ℕ). doubt_in next.doubts (w / 2) ≡ Here) same (own (subst (λ (w : ℕ). named_at start w ≡ Some slot) (sym same) e))

      on : (u : ℕ) → (named_at start u ≡ Some slot → doubt_in now.doubts (u / 2) ≡ Here) ⊎ ((k : ℕ) × (comes_to k node u ≡ true))
          → (named_at start u ≡ Some slot → doubt_in next.doubts (u / 2) ≡ Here) ⊎ ((k : ℕ) × (comes_to k (node / 2) u ≡ true))
      on u (inl f) = inl (λ e. here_kept (u / 2) (f e))
      on u (inr (zero, c)) = inl (own_node u (same_node node u c))
      on u (inr (suc k, c)) = at (or_cases (nat_eq node u) (comes_to k (node / 2) u) c)
        where
          at : (nat_eq node u ≡ true) ⊎ (comes_to k (node / 2) u ≡ true) → (named_at start u ≡ Some slot → doubt_in next.doubts (u / 2) ≡ Here) ⊎ ((k : ℕ) × (comes_to k (node / 2) u ≡ true))
          at (inl f) = inl (own_node u (same_node node u f))
          at (inr f) = inr (k, f)

  inside : node / 2 < length now.doubts
  inside = let l = h.low in let r = h.room in let d = h.tree.doubts_room in let i = ap (λ (t : Standings Item). length t.items) h.same in omega arith

  pub raised : next ≡ record now { doubts = set now.doubts (node / 2) Here } → IsRaising slot start next (node / 2)
  raised same = raising_on whole (doubts_length) (ap doubt_count doubts_are ∙ count_kept now.doubts (node / 2) Here inside (h.doubted big) here_is_doubt) here_kept kept (λ e. ap (λ ds. doubt_in ds (node / 2)) doubts_are ∙ get_or-set_same now.doubts (node / 2) Here Clear inside)
    where
      doubts_are : next.doubts ≡ set now.doubts (node / 2) Here
      doubts_are = ap (λ (t : Standings Item). t.doubts) same

      doubts_length : length next.doubts ≡ length now.doubts
      doubts_length = ap length doubts_are ∙ length-set now.doubts (node / 2) Here

      whole : next ≡ record now { doubts = next.doubts }
      whole = same ∙ ap (λ ds. record now { doubts = ds }) (sym doubts_are)

      at_next : (v : ℕ) → ((v ≡ node / 2) × (doubt_in next.doubts v ≡ Here)) ⊎ ((v ≢ node / 2) × (doubt_in next.doubts v ≡ doubt_in now.doubts v))
      at_next v = subst (λ ds. ((v ≡ node / 2) × (doubt_in ds v ≡ Here)) ⊎ ((v ≢ node / 2) × (doubt_in ds v ≡ doubt_in now.doubts v))) (sym doubts_are) (read_set now.doubts (node / 2) v Here Clear inside)

      here_kept : (v : ℕ) → doubt_in now.doubts v ≡ Here → doubt_in next.doubts v ≡ Here
      here_kept v e = at (at_next v)
        where
          at : ((v ≡ node / 2) × (doubt_in next.doubts v ≡ Here)) ⊎ ((v ≢ node / 2) × (doubt_in next.doubts v ≡ doubt_in now.doubts v)) → doubt_in next.doubts v ≡ Here
          at (inl k) = k.1
          at (inr k) = k.1 ∙ e

      kept : (v : ℕ) → doubt_in next.doubts v ≡ Clear → doubt_in now.doubts v ≡ Clear
      kept v e = at (at_next v)
        where
          at : ((v ≡ node / 2) × (doubt_in next.doubts v ≡ Here)) ⊎ ((v ≢ node / 2) × (doubt_in next.doubts v ≡ doubt_in now.doubts v)) → doubt_in now.doubts v ≡ Clear
          at (inl k) = absurd (here_is_doubt (sym k.1 ∙ e))
          at (inr k) = sym k.1 ∙ e

  -- it is the best of no node above
  pub stopped : next ≡ now → (named_at now node ≢ Some slot) → IsRaising slot start next 0
  stopped same n = record {
    tree = tree;
    same = same ∙ h.same ∙ ap (λ (t : Standings Item). record start { doubts = t.doubts }) (sym same);
    room = ap (λ (t : Standings Item). length t.doubts) same ∙ h.room;
    count = ap (λ (t : Standings Item). doubt_count t.doubts) same ∙ h.count;
    here_kept = λ v e. ap (λ (t : Standings Item). doubt_in t.doubts v) same ∙ h.here_kept v e;
    kept = λ v e. h.kept v (sym (ap (λ (t : Standings Item). doubt_in t.doubts v) same) ∙ e);
    doubted = λ more. absurd (omega arith);
    low = let l = h.low in omega arith;
    under = λ some. absurd (omega arith);
    won = λ fed u e. inl (on fed u (h.won fed u e));
  }
    where
      lost : named_at start node ≢ Some slot
      lost e = n (ap (λ (t : Standings Item). named_at t node) h.same ∙ e)

      on : IsFed start → (u : ℕ) → (named_at start u ≡ Some slot → doubt_in now.doubts (u / 2) ≡ Here) ⊎ ((k : ℕ) × (comes_to k node u ≡ true)) → named_at start u ≡ Some slot → doubt_in next.doubts (u / 2) ≡ Here
      on fed u (inl f) e = ap (λ (t : Standings Item). doubt_in t.doubts (u / 2)) same ∙ f e
      on fed u (inr (k, c)) e = at (nat_lt 1 u) refl
        where
          at : (b : Bool) → nat_lt 1 u ≡ b → doubt_in next.doubts (u / 2) ≡ Here
          at true f = absurd (lost_above slot start first among fed k node u (grind (arith, nat_tests, f)) h.low (h.under (omega arith)) lost c e)
          at false f = let small : u ≤ 1 = grind (arith, nat_tests, f) in let z : u / 2 ≡ 0 = omega arith in ap (doubt_in next.doubts) z ∙ tree.closed.top

-- at the root all is done
pub raising_ends : {Item : Type 0} (slot : ℕ) (old mid now : Standings Item) (node : ℕ) → IsTree old → slot < length old.items → mid ≡ record old { doubts = mid.doubts } → IsSpread old.doubts mid.doubts Below ((length old.items + slot) / 2)
    → node ≤ 1 → IsRaising slot mid now node → (now ≡ record old { doubts = now.doubts }) × IsMarkedUp slot old now.doubts
raising_ends {Item} slot old mid now node tree inside same spread ended h = (
  h.same ∙ ap (λ (t : Standings Item). record t { doubts = now.doubts }) same,
  record {
    room = h.room ∙ spread.room;
    reached = λ e. spread.reached (h.kept ((length old.items + slot) / 2) e);
    won = λ fed u under best. at u (h.won (fed_first fed) u (subst (λ (n : ℕ). is_under n u slot ≡ true) (sym size) under)) (names_same u ∙ best);
    here_kept = λ v e. h.here_kept v (here_first v e (spread.each v));
    kept = λ v e. clear_first v (h.kept v e) (spread.each v);
    few = let f = spread.few old.size (let r = tree.items_room in omega arith) in let c = h.count in omega arith;
  },
)
  where
    size : mid.size ≡ old.size
    size = ap (λ (t : Standings Item). t.size) same

    names_same : (u : ℕ) → named_at mid u ≡ named_at old u
    names_same u = ap (λ (t : Standings Item). named_at t u) same

    at : (u : ℕ) → (named_at mid u ≡ Some slot → doubt_in now.doubts (u / 2) ≡ Here) ⊎ ((k : ℕ) × (comes_to k node u ≡ true)) → named_at mid u ≡ Some slot → doubt_in now.doubts (u / 2) ≡ Here
    at u (inl f) e = f e
    at u (inr (k, c)) e = let l = not_above k node u c in let z : u / 2 ≡ 0 = omega arith in ap (doubt_in now.doubts) z ∙ h.tree.closed.top

    here_first : (v : ℕ) → doubt_in old.doubts v ≡ Here → (doubt_in mid.doubts v ≡ doubt_in old.doubts v) ⊎ ((doubt_in old.doubts v ≡ Clear) × (doubt_in mid.doubts v ≡ Below)) → doubt_in mid.doubts v ≡ Here
    here_first v e (inl k) = k ∙ e
    here_first v e (inr k) = absurd (here_is_doubt (sym e ∙ k.0))

    fed_first : IsFed old → IsFed mid
    fed_first fed = subst IsFed (sym same) fed

    clear_first : (v : ℕ) → doubt_in mid.doubts v ≡ Clear → (doubt_in mid.doubts v ≡ doubt_in old.doubts v) ⊎ ((doubt_in old.doubts v ≡ Clear) × (doubt_in mid.doubts v ≡ Below)) → doubt_in old.doubts v ≡ Clear
    clear_first v e (inl k) = sym k ∙ e
    clear_first v e (inr k) = k.0

-- and so it is where another slot is the best
pub raising_done : {Item : Type 0} (slot : ℕ) (old mid now : Standings Item) (node : ℕ) → IsTree old → slot < length old.items → IsTree mid → slot < length mid.items → mid ≡ record old { doubts = mid.doubts } → IsSpread old.doubts mid.doubts Below ((length old.items + slot) / 2)
    → (node ≤ 1) ⊎ (named_at now node ≢ Some slot) → IsRaising slot mid now node → (now ≡ record old { doubts = now.doubts }) × IsMarkedUp slot old now.doubts
raising_done slot old mid now node tree inside first among same spread ended h = at (cases_lt 1 node) ended
  where
    at : (1 < node) ⊎ (node ≤ 1) → (node ≤ 1) ⊎ (named_at now node ≢ Some slot) → (now ≡ record old { doubts = now.doubts }) × IsMarkedUp slot old now.doubts
    at (inr low) e = raising_ends slot old mid now node tree inside same spread low h
    at (inl big) (inl low) = absurd (omega (arith, big, low))
    at (inl big) (inr lost) = raising_ends slot old mid now 0 tree inside same spread (omega arith) (stopped slot mid now now node big h h.tree first among refl lost)

-- a slot is marked, and where it wasn't so before, the nodes above it came into doubt
pub record IsMarking {Item : Type 0} (slot : ℕ) (old new : Standings Item) : Type 0 where
  pub tree : IsTree new
  pub same : new ≡ record old { marked = set old.marked slot true; doubts = new.doubts }
  pub spread : mark_in old.marked slot ≡ false → IsMarkedUp slot old new.doubts
  pub again : mark_in old.marked slot ≡ true → new.doubts ≡ old.doubts

module _ {Item : Type 0} (slot : ℕ) (old : Standings Item) (mark : Bool) (was : mark ≡ mark_in old.marked slot) where
  pub marked_before : IsTree old → mark ≡ true → IsMarking slot old old
  marked_before tree on = record {
    tree = tree;
    same = ap (λ (m : List Bool). record old { marked = m }) (sym (ap (set old.marked slot) (sym on ∙ was) ∙ set-get_or old.marked slot false));
    spread = λ off. absurd (let e : true ≡ false = sym on ∙ was ∙ off in cc);
    again = λ e. refl;
  }

  pub marked_now : (doubted : Standings Item) → mark ≡ false → IsTree doubted → doubted ≡ record old { doubts = doubted.doubts } → IsMarkedUp slot old doubted.doubts → IsMarking slot old (record doubted { marked = set doubted.marked slot true })
  marked_now doubted off tree same spread = record {
    tree = tree_marked doubted tree slot;
    same = ap (λ (t : Standings Item). record t { marked = set t.marked slot true }) same;
    spread = λ e. spread;
    again = λ e. absurd (let f : false ≡ true = sym off ∙ was ∙ e in cc);
  }
