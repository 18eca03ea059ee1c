-- A repair is paid for by the facts that are born and dropped.
use Rattle.std.proofs.Common.{◌≡◌, refl, sym, ap, ◌∙◌, subst, arith, List, [], ◌++◌, ℕ, ◌+◌, ◌*◌, ◌<◌, ◌≤◌, false, length, map, nat_eq, Option, Some, Contains}
use Rattle.std.specs.Prelude.{flat_map}
use Rattle.std.proofs.lemmas.Bool.{both_ways, and_from, eq-eqb}
use Rattle.std.proofs.lemmas.Option.{same_Some}
use Rattle.kin_motion.specs.declared.form.Form.TheVariants.{Turn, Slope}
use Rattle.kin_motion.specs.declared.fact.Fact.{Fact}
use Rattle.kin_motion.specs.declared.fact.Placed.{Placed}
use Rattle.kin_motion.specs.Merges.{Half.{A, B}, Breakpoint, own_of, slope_form}
use Rattle.kin_motion.specs.Numbers.{IsOnce}
use Rattle.kin_motion.specs.Scene.{Scene, Holds}
use Rattle.kin_motion.proofs.SetLaws.{contains_map}
use Rattle.kin_overlay.specs.declared.breakpoint.Breakpoint.{Breakpoint as Pair}
use Rattle.kin_overlay.specs.declared.draft.Draft.{Draft}
use Rattle.kin_overlay.specs.declared.record.Record.{Record}
use Rattle.kin_overlay.specs.declared.record.Next.{Next}
use Rattle.kin_overlay.specs.declared.sketch.Puts.{Puts}
use Rattle.kin_overlay.specs.declared.standing.Standing.{Standing}
use Rattle.kin_overlay.specs.Filling.{lefts}
use Rattle.kin_overlay.specs.Fingers.{AreLess, IsMerged}
use Rattle.kin_overlay.specs.Lists.{front}
use Rattle.kin_overlay.specs.Remembered.{Remembered, place_of, breakpoints, turn_fact, slope_facts, end_facts, facts_of}
use Rattle.kin_overlay.specs.Repairing.{AtLeast, AreNew, IsStillKnown, IsPaid, IsRetained, IsStill, IsUnknown, Past, IsKnownPast}
use Rattle.kin_overlay.specs.Resorting.{HaveSameHalves, unseated}
use Rattle.kin_overlay.specs.Seats.{seat_in}
use Rattle.kin_overlay.specs.Seen.{seen}
use Rattle.kin_overlay.specs.Sketches.{spot_of, spots, is_next, is_known, gaps, is_told, missing_turns}
use Rattle.kin_overlay.specs.Standings.{IsUnfailed}
use Rattle.kin_overlay.proofs.AtLeastLaws.{at_least-none, at_least-append, at_least-weaken, at_least-map}
use Rattle.kin_overlay.proofs.BetweenLaws.{slope-of, record-still}
use Rattle.kin_overlay.proofs.CountLaws.{turn-of, slope-record, same-draft, moved, same-untold, untold-missing, missing-new, gaps-new}
use Rattle.kin_overlay.proofs.HasLaws.{in-record, is-turn, is-slope, is-left, is-right}
use Rattle.kin_overlay.proofs.RepairLaws.{unfailed, turn-place, slope-place}
use Rattle.kin_overlay.proofs.SeatLaws.{missing-unseated}

module _ (p : Past) (w : Standing) (puts : Puts) (s : Scene) (a b : List ℕ) (new : Remembered) (past : IsKnownPast p w puts a b) (merged : IsMerged s a b new)
    (a_some : 0 < length a) (b_some : 0 < length b) (a_once : IsOnce a) (b_once : IsOnce b) (less : AreLess a b) (fails : (q : Placed) → Contains w.failed.now q → Holds s q.fact → ⊥) where
  -- not a fact of the list before, and not one of the new list
  abbrev IsBorn : Fact → Type 0
  IsBorn f = Contains (facts_of w.list.now) f → ⊥

  abbrev IsDropped : Fact → Type 0
  IsDropped f = Contains (facts_of new) f → ⊥

  in-both : (f : Fact) → Contains (facts_of w.list.now) f → Contains (facts_of new) f → IsUnfailed w.failed.now w.gone.now f
  in-both = unfailed p w puts s a b new past merged a_some b_some a_once b_once less fails

  still-there : (r q : Record) → Contains new.records q → place_of r ≡ place_of q → IsStill a b (place_of r)
  still-there r q c e = subst (IsStill a b) (sym e) (record-still s a b new merged a_some b_some q c)

  module _ (start sorted : List Draft) (halves : HaveSameHalves start sorted) (once : IsOnce (lefts (spots sorted))) (places : breakpoints new.records ≡ spots sorted) (retained : IsRetained w a b start) where
    -- the draft of a record that is in both lists
    kept-draft : (r q : Record) (d : Draft) → Contains w.list.now.records r → place_of r ≡ place_of q → Contains new.records q → Contains sorted d → place_of q ≡ spot_of d → IsStillKnown w r d
    kept-draft r q d c place there k here =
        let v = retained.kept r c (still-there r q there place) in
        let left : v.0.at.left ≡ d.at.left = ap (λ (e : Pair). e.left) v.2.at ∙ ap (λ (e : Breakpoint). e.left) (place ∙ here) in
        subst (IsStillKnown w r) (same-draft sorted v.0 d once (moved start sorted halves v.0 v.1) k left) v.2

    -- a turn that is missing is that of a fact that is born
    turn-new : (q : Record) (d : Draft) → Contains new.records q → Contains sorted d → place_of q ≡ spot_of d → is_told d q.across ≡ false → IsBorn (turn_fact q)
    turn-new q d there k here out known =
        let v = turn-of w.list.now q known in
        let u = in-both (turn_fact q) known (is-turn new (turn_fact q) (contains_map turn_fact new.records q there)) in
        let place = turn-place p w puts s a b new past merged a_some b_some a_once b_once less v.0 q v.1 there (sym v.2) in
        let told = (kept-draft v.0 q d v.1 place there k here).turn (subst (λ (f : Fact). IsUnfailed w.failed.now w.gone.now f) v.2 u) in
        let form : Turn q.at.left q.at.right q.across ≡ Turn v.0.at.left v.0.at.right v.0.across = ap (λ (f : Fact). f.form) v.2 in
        let across : q.across ≡ v.0.across = cc in
        absurd (both_ways (is_told d q.across) out (ap (is_told d) across ∙ told))

    -- and so is a slope that isn't known
    slope-new : (q : Record) (d e : Draft) (n : Next) → Contains new.records q → Contains sorted d → place_of q ≡ spot_of d → q.next ≡ Some n → seen n.at ≡ spot_of e → is_known d e ≡ false → (f : Fact) → Contains (slope_facts q) f → IsBorn f
    slope-new q d e n there k here next at out f own known =
        let v = slope-record w.list.now q f own known in
        let u = in-both f known (is-slope new f (in-record new.records q f there own)) in
        let place = slope-place p w puts s a b new past merged a_some b_some a_once b_once less v.0 q f v.1 there v.2 own in
        let o = slope-of (place_of v.0) v.0.next f v.2 in
        let i = slope-of (place_of q) q.next f own in
        let form : Slope v.0.at.left v.0.at.right o.0.at.left o.0.at.right ≡ Slope q.at.left q.at.right i.0.at.left i.0.at.right = ap (λ (g : Fact). g.form) (o.2 ∙ sym i.2) in
        let same = ap seen (ap (λ (m : Next). m.at) (same_Some i.0 n (sym i.1 ∙ next))) ∙ at in
        let first : o.0.at.left ≡ i.0.at.left = cc in
        let second : o.0.at.right ≡ i.0.at.right = cc in
        let left : o.0.at.left ≡ e.at.left = first ∙ ap (λ (g : Breakpoint). g.left) same in
        let right : o.0.at.right ≡ e.at.right = second ∙ ap (λ (g : Breakpoint). g.right) same in
        let told = (kept-draft v.0 q d v.1 place there k here).slope o.0 o.1 (λ g c. subst (λ (h : Fact). IsUnfailed w.failed.now w.gone.now h) (only v.0 o.0 o.1 o.2 g (slope-of (place_of v.0) v.0.next g c)) u) in
        absurd (both_ways (is_known d e) out (ap (λ (x : Option Next). is_next x e) told ∙ and_from (nat_eq o.0.at.left e.at.left) (nat_eq o.0.at.right e.at.right) (eq-eqb o.0.at.left e.at.left left) (eq-eqb o.0.at.right e.at.right right)))
      where
        only : (r : Record) (m : Next) → r.next ≡ Some m → record { form = slope_form (place_of r) (seen m.at); sign = m.slope } ≡ f → (g : Fact) → (l : Next) × (r.next ≡ Some l) × (record { form = slope_form (place_of r) (seen l.at); sign = l.slope } ≡ g) → f ≡ g
        only r m is own g (l, is', own') = sym own ∙ ap (λ (x : Next). record { form = slope_form (place_of r) (seen x.at); sign = x.slope }) (same_Some m l (sym is ∙ is')) ∙ own'

    -- what is asked at an end is of a fact that is born
    end-new : (fs : List Fact) (n : ℕ) → ((f : Fact) → Contains fs f → Contains (facts_of new) f) → AtLeast (IsUnknown w) fs n → AtLeast IsBorn fs n
    end-new fs n within u = at_least-weaken (IsUnknown w) IsBorn fs n (λ f c k known. k known (in-both f known (within f c))) u

    are-born : (n m : ℕ) → AtLeast (IsUnknown w) (end_facts new.left) n → AtLeast (IsUnknown w) (end_facts new.right) m → AreNew (facts_of w.list.now) (facts_of new) (missing_turns (front a) (front b) sorted + gaps sorted + n + m)
    are-born n m u v =
        let turns = map turn_fact new.records in
        let slopes = flat_map slope_facts new.records in
        let first = missing-new s (facts_of w.list.now) (front a) (front b) new.records sorted places merged.noted turn-new in
        let second = gaps-new s (facts_of w.list.now) (front a) (front b) new.records sorted places merged.noted slope-new in
        at_least-append IsBorn (turns ++ slopes ++ end_facts new.left) (end_facts new.right) (missing_turns (front a) (front b) sorted + gaps sorted + n) m
        (at_least-append IsBorn (turns ++ slopes) (end_facts new.left) (missing_turns (front a) (front b) sorted + gaps sorted) n
        (at_least-append IsBorn turns slopes (missing_turns (front a) (front b) sorted) (gaps sorted) first second) (end-new (end_facts new.left) n (is-left new) u)) (end-new (end_facts new.right) m (is-right new) v)

    are-dropped : AreNew (facts_of new) (facts_of w.list.now) (retained.turns + retained.slopes + 0 + 0)
    are-dropped =
        let list = w.list.now in
        let turns = map turn_fact list.records in
        let slopes = flat_map slope_facts list.records in
        let first = at_least-map turn_fact IsDropped list.records retained.turns
        (at_least-weaken (λ r. IsStill a b (place_of r) → ⊥) (λ r. IsDropped (turn_fact r)) list.records retained.turns
        (λ r c lost there. let v = turn-of new r there in lost (still-there r v.0 v.1 (turn-place p w puts s a b new past merged a_some b_some a_once b_once less r v.0 c v.1 v.2))) retained.lost_turns) in
        let second = at_least-weaken (λ f. IsUnfailed w.failed.now w.gone.now f → ⊥) IsDropped slopes retained.slopes (λ f c lost there. lost (in-both f (is-slope list f c) there)) retained.lost_slopes in
        at_least-append IsDropped (turns ++ slopes ++ end_facts list.left) (end_facts list.right) (retained.turns + retained.slopes + 0) 0
        (at_least-append IsDropped (turns ++ slopes) (end_facts list.left) (retained.turns + retained.slopes) 0 (at_least-append IsDropped turns slopes retained.turns retained.slopes first second) (at_least-none IsDropped (end_facts list.left)))
        (at_least-none IsDropped (end_facts list.right))

    -- what the steps of a repair ask comes to five signs for each born fact and one for each dropped one
    pub paid : (n m s0 s1 s2 s3 s4 : ℕ) → AtLeast (IsUnknown w) (end_facts new.left) n → AtLeast (IsUnknown w) (end_facts new.right) m → s1 ≤ s0 + gaps start + 2 * unseated (seat_in a b) [] sorted
        → s2 ≡ s1 + (missing_turns (front a) (front b) sorted + gaps sorted) → s3 ≡ s2 + n → s4 ≡ s3 + m → IsPaid (facts_of w.list.now) (facts_of new) s0 s4
    paid n m s0 s1 s2 s3 s4 u v c1 c2 c3 c4 =
        let of_a = ap (own_of A) (sym places) ∙ merged.interleaved.of_a in
        let of_b = ap (own_of B) (sym places) ∙ merged.interleaved.of_b in
        let seats = missing-unseated a b [] sorted a b refl refl a_some b_some of_a of_b in
        let few = retained.paid in
        let same = same-untold start sorted halves in
        let low = untold-missing (front a) (front b) sorted in
        record {
          born = missing_turns (front a) (front b) sorted + gaps sorted + n + m;
          dropped = retained.turns + retained.slopes + 0 + 0;
          are_born = are-born n m u v;
          are_dropped = are-dropped;
          cost = omega (arith, c1, c2, c3, c4, seats, few, same, low);
        }
