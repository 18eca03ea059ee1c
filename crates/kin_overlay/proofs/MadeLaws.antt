-- A list that is made in steps: a sketch is drawn, put in order and filled in, and the ends are asked.
use Rattle.std.proofs.Common.{◌≡◌, sym, ap, ap₂, ◌∙◌, subst, List, [], ℕ, ◌+◌, ◌*◌, ◌<◌, ◌≤◌, Bool, get_or, length, Option, Some, Contains}
use Rattle.kin_motion.specs.declared.fact.Placed.{Placed}
use Rattle.kin_motion.specs.Merges.{IsInterleaving}
use Rattle.kin_motion.specs.Numbers.{IsOnce, IsChain}
use Rattle.kin_motion.specs.Scene.{Scene, Holds}
use Rattle.kin_overlay.specs.declared.draft.Draft.{Draft}
use Rattle.kin_overlay.specs.declared.end.End.{End}
use Rattle.kin_overlay.specs.declared.record.Record.{Record}
use Rattle.kin_overlay.specs.declared.sketch.Puts.{Puts}
use Rattle.kin_overlay.specs.declared.standing.Standing.{Standing}
use Rattle.kin_overlay.specs.Fingers.{AreLess, AreNoted, IsMerged, end_at, right_end}
use Rattle.kin_overlay.specs.Lists.{front, behind}
use Rattle.kin_overlay.specs.Remembered.{Remembered, breakpoints, end_facts, facts_of}
use Rattle.kin_overlay.specs.Repairing.{AtLeast, IsUnknown, IsRetained, IsPaid, Past, IsKnownPast}
use Rattle.kin_overlay.specs.Resorting.{is_in_row, HaveSameHalves, AreSeated, unseated}
use Rattle.kin_overlay.specs.Seats.{seat_in}
use Rattle.kin_overlay.specs.Sketches.{spots, gaps, missing_turns}
use Rattle.kin_overlay.proofs.MergedLaws.{first_is, once_left, merged_so, none_seated, no_seat, few}
use Rattle.kin_overlay.proofs.PaidLaws.{paid}

-- the chains of a merge
pub record AreGiven (a b : List ℕ) : Type 0 where
  pub a_some : 0 < length a
  pub b_some : 0 < length b
  pub a_once : IsOnce a
  pub b_once : IsOnce b
  pub less : AreLess a b

-- the breakpoints of the sketch are put in order
pub record IsSorted (s : Scene) (w : Standing) (puts : Puts) (a b : List ℕ) (sorted : List Draft) (before after : ℕ) : Type 0 where
  pub start : List Draft
  pub interleaved : IsInterleaving a b (spots start)
  pub seated : AreSeated (seat_in a b) [] start
  pub retained : (p : Past) → IsKnownPast p w puts a b → IsRetained w a b start
  pub row : IsChain (is_in_row s) sorted
  pub halves : HaveSameHalves start sorted
  pub cost : (seat : Draft → ℕ → Bool) → AreSeated seat [] start → after ≤ before + gaps start + 2 * unseated seat [] sorted

-- the same, of the sketch as it was drawn
pub sort : (s : Scene) (w : Standing) (puts : Puts) (a b : List ℕ) (sorted : List Draft) (before after : ℕ) (drawn start : List Draft) → start ≡ drawn → IsInterleaving a b (spots drawn) → AreSeated (seat_in a b) [] drawn
    → ((p : Past) → IsKnownPast p w puts a b → IsRetained w a b drawn) → IsChain (is_in_row s) sorted → HaveSameHalves start sorted → ((seat : Draft → ℕ → Bool) → AreSeated seat [] start → after ≤ before + gaps start + 2 * unseated seat [] sorted)
    → IsSorted s w puts a b sorted before after
sort s w puts a b sorted before after drawn start is interleaved seated retained row halves cost = record {
  start = start;
  interleaved = subst (λ (l : List Draft). IsInterleaving a b (spots l)) (sym is) interleaved;
  seated = subst (λ (l : List Draft). AreSeated (seat_in a b) [] l) (sym is) seated;
  retained = λ p known. subst (λ (l : List Draft). IsRetained w a b l) (sym is) (retained p known);
  row = row;
  halves = halves;
  cost = cost;
}

-- they are noted in their order
pub record IsListed (s : Scene) (a b : List ℕ) (sorted : List Draft) (records : List Record) (before after : ℕ) : Type 0 where
  pub places : breakpoints records ≡ spots sorted
  pub noted : AreNoted s (get_or a 0 0) (get_or b 0 0) records
  pub count : after ≡ before + (missing_turns (get_or a 0 0) (get_or b 0 0) sorted + gaps sorted)

-- what was asked at an end
pub record IsAsked (w : Standing) (end : Option End) (before after : ℕ) : Type 0 where
  pub few : after ≤ before + length (end_facts end)
  pub asked : (n : ℕ) × AtLeast (IsUnknown w) (end_facts end) n × (after ≡ before + n)

-- all the steps of a merge
pub record IsMade (s : Scene) (w : Standing) (puts : Puts) (a b : List ℕ) (new : Remembered) (before after : ℕ) : Type 0 where
  pub given : AreGiven a b
  pub sorted : List Draft
  pub records : List Record
  pub left : End
  pub right : Option End
  pub at_sort : ℕ
  pub at_fill : ℕ
  pub at_left : ℕ
  pub sort : IsSorted s w puts a b sorted before at_sort
  pub list : IsListed s a b sorted records at_sort at_fill
  pub left_is : left ≡ end_at s (get_or a 0 0) (get_or b 0 0)
  pub right_is : right ≡ right_end s (front a) (behind a) (front b) (behind b)
  pub left_asked : IsAsked w (Some left) at_fill at_left
  pub right_asked : IsAsked w right at_left after
  pub new_is : new ≡ record { records = records; left = Some left; right = right }

module _ (s : Scene) (w : Standing) (puts : Puts) (a b : List ℕ) (new : Remembered) (before after : ℕ) (made : IsMade s w puts a b new before after) where
  abbrev list : Remembered
  list = record { records = made.records; left = Some made.left; right = made.right }

  so : IsMerged s a b list
  so =
      let noted = subst (λ (n : ℕ). AreNoted s n (front b) made.records) (first_is a) (subst (λ (n : ℕ). AreNoted s (get_or a 0 0) n made.records) (first_is b) made.list.noted) in
      let left = ap (λ (e : End). Some e) (made.left_is ∙ ap₂ (λ (x y : ℕ). end_at s x y) (first_is a) (first_is b)) in
      merged_so s a b made.sort.start made.sorted list made.sort.interleaved made.sort.halves made.sort.row made.list.places noted left made.right_is

  -- it is the merge
  pub made-merged : IsMerged s a b new
  made-merged = subst (λ (m : Remembered). IsMerged s a b m) (sym made.new_is) so

  -- five signs for each fact
  pub made-few : after ≤ before + 5 * length (facts_of new)
  made-few =
      subst (λ (m : Remembered). after ≤ before + 5 * length (facts_of m)) (sym made.new_is)
      (few (get_or a 0 0) (get_or b 0 0) made.sort.start made.sorted list before made.at_sort made.at_fill made.at_left after made.sort.halves made.list.places (made.sort.cost no_seat (none_seated [] made.sort.start)) made.list.count made.left_asked.few made.right_asked.few)

  -- and for what has changed, where what is known of the merge before is retained
  pub made-paid : (p : Past) → IsKnownPast p w puts a b → ((q : Placed) → Contains w.failed.now q → Holds s q.fact → ⊥) → IsPaid (facts_of w.list.now) (facts_of new) before after
  made-paid p known fails =
      let c = made.given in
      let start = made.sort.start in
      let once = once_left a b start made.sorted made.sort.interleaved made.sort.halves c.a_once c.b_once c.less in
      let count = made.list.count ∙ ap₂ (λ (x y : ℕ). made.at_sort + (missing_turns x y made.sorted + gaps made.sorted)) (first_is a) (first_is b) in
      let left = made.left_asked.asked in
      let right = made.right_asked.asked in
      subst (λ (m : Remembered). IsPaid (facts_of w.list.now) (facts_of m) before after) (sym made.new_is)
      (paid p w puts s a b list known so c.a_some c.b_some c.a_once c.b_once c.less fails start made.sorted made.sort.halves once made.list.places (made.sort.retained p known) left.0 right.0 before made.at_sort made.at_fill made.at_left after
      left.1 right.1 (made.sort.cost (seat_in a b) made.sort.seated) count left.2 right.2)
