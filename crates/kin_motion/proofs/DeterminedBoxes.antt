-- The facts of boxes determine the orders of the ends, and the overlaps.
use Rattle.std.proofs.Common.{◌≡◌, inl, inr, sym, ap, ap₂, ◌∙◌, List, ℕ, ℤ, pos, true, ◌&&◌}
use Rattle.std.specs.Prelude.{Contains, ◌↔◌}
use Rattle.std.proofs.lemmas.List.Elements.{All-contains, Contains-get_or}
use Rattle.kin_motion.specs.declared.fact.Placed.{Placed}
use Rattle.kin_motion.specs.BoxEnds.{ends}
use Rattle.kin_motion.specs.BoxFacts.{point, IsEndOrder, IsEndFact, IsBoxFact}
use Rattle.kin_motion.specs.BoxTheorems.{BoxesAreDetermined, OverlapsAreDetermined}
use Rattle.kin_motion.specs.Kinetics.{HaveSameLive, AllHold}
use Rattle.kin_motion.specs.Numbers.{is_in}
use Rattle.kin_motion.specs.Overlaps.{reaches, overlap, ListsOverlaps}
use Rattle.kin_motion.specs.Parts.{moved_by}
use Rattle.kin_motion.specs.Ranks.{neighbour_facts}
use Rattle.kin_motion.specs.Scene.{Scene, IsReal, Holds}
use Rattle.kin_motion.proofs.EndOrders.{to_order, from_order, ends_live, to_facts, neighbours_exact}
use Rattle.kin_motion.proofs.EndPlaces.{reach_is}
use Rattle.kin_motion.proofs.EndRanks.{ends_strict}
use Rattle.kin_motion.proofs.RankedFacts.{order_facts_determined}
use Rattle.kin_motion.proofs.SetLaws.{contains_map, exactly_in_words}

module _ (v w : Scene) (real : IsReal v) (real' : IsReal w) (same : HaveSameLive v w) (facts : List Placed) (hold : AllHold w facts) where
  -- an order whose facts are among those that hold stays, with its facts
  order_there : (dx dy size : ℤ) (first : ℕ) (xs : List ℕ) → IsEndOrder v dx dy size xs
      → ((p : Placed) → IsEndFact v dx dy size first p → Contains facts p)
      → IsEndOrder w dx dy size xs × ((p : Placed) → IsEndFact v dx dy size first p ↔ IsEndFact w dx dy size first p)
  order_there dx dy size first xs o listed =
      let r = ends 0 dx dy size in
      let all : (e : ℕ) → is_in e xs ≡ is_in (point e) w.live = λ e. o.all e ∙ ap (is_in (point e)) same in
      let near = neighbour_facts v r xs in
      let exact = neighbours_exact v 0 dx dy size xs real o.all o in
      let mine = to_facts v 0 dx dy size first xs near o.all exact in
      let held : AllHold w near = λ n d l.
      let there = contains_map (moved_by first) near _ (Contains-get_or near n d l) in
      All-contains (λ (q : Placed). Holds w q.fact) facts _ hold (listed _ ((mine.each _).0 there)) in
      let after = order_facts_determined v w r xs near (ends_strict 0 dx dy size v real) (ends_strict 0 dx dy size w real') (ends_live v 0 dx dy size xs o.all)
      (ends_live w 0 dx dy size xs all) (from_order v 0 dx dy size xs xs o.all o) exact held in
      let theirs = to_facts w 0 dx dy size first xs near all after.1 in
      (to_order w 0 dx dy size xs xs all after.0, λ p. (λ f. (theirs.each p).0 ((mine.each p).1 f), λ f. (mine.each p).0 ((theirs.each p).1 f)))

-- if the facts of boxes hold elsewhere, the orders are those there, and the facts are those there
pub boxes_determined : BoxesAreDetermined
boxes_determined v w width height xs ys facts real real' same before hold =
    let x = order_there v w real real' same facts hold (pos 1) (pos 0) width 0 xs before.x_order
    (λ p f. (before.exact.each p).1 (inl f)) in
    let y = order_there v w real real' same facts hold (pos 0) (pos 1) height 4 ys before.y_order
    (λ p f. (before.exact.each p).1 (inr f)) in
    record {
      x_order = x.0;
      y_order = y.0;
      exact = exactly_in_words facts (IsBoxFact v width height) (IsBoxFact w width height) (λ p. (
        λ f. elim f [
          | inl g ↦ inl ((x.1 p).0 g)
          | inr g ↦ inr ((y.1 p).0 g)
        ],
        λ f. elim f [
          | inl g ↦ inl ((x.1 p).1 g)
          | inr g ↦ inr ((y.1 p).1 g)
        ],
      )) before.exact;
    }

module _ (v w : Scene) (real : IsReal v) (real' : IsReal w) (same : v.live ≡ w.live) where
  reach_there : (dx dy size : ℤ) (xs : List ℕ) → IsEndOrder v dx dy size xs → IsEndOrder w dx dy size xs → (i j : ℕ)
      → is_in i v.live ≡ true → is_in j v.live ≡ true
      → reaches v dx dy size i j ≡ reaches w dx dy size i j
  reach_there dx dy size xs o o' i j h k =
      sym (reach_is v dx dy size real xs o i j h k)
      ∙ reach_is w dx dy size real' xs o' i j (ap (is_in i) (sym same) ∙ h) (ap (is_in j) (sym same) ∙ k)

  module _ (width height : ℤ) (xs ys : List ℕ) (x : IsEndOrder v (pos 1) (pos 0) width xs)
      (x' : IsEndOrder w (pos 1) (pos 0) width xs)
      (y : IsEndOrder v (pos 0) (pos 1) height ys) (y' : IsEndOrder w (pos 0) (pos 1) height ys) where
    overlap_there : (i j : ℕ) → is_in i v.live ≡ true → is_in j v.live ≡ true → overlap v width height i j ≡ overlap w width height i j
    overlap_there i j h k =
        ap₂ (λ a b. a && b)
        (ap₂ (λ a b. a && b) (reach_there (pos 1) (pos 0) width xs x x' i j h k) (reach_there (pos 1) (pos 0) width xs x x' j i k h))
        (ap₂ (λ a b. a && b) (reach_there (pos 0) (pos 1) height ys y y' i j h k) (reach_there (pos 0) (pos 1) height ys y y' j i k h))

    overlaps_there : (pairs : List (ℕ × ℕ)) → ListsOverlaps v width height pairs → ListsOverlaps w width height pairs
    overlaps_there pairs o = record {
      rising = o.rising;
      each = λ p. (
        λ c. let f = (o.each p).0 c in
            record {
              first_live = ap (is_in p.0) (sym same) ∙ f.first_live;
              second_live = ap (is_in p.1) (sym same)
                  ∙ f.second_live;
              rising = f.rising;
              overlapping = sym (overlap_there p.0 p.1 f.first_live f.second_live) ∙ f.overlapping;
            },
        λ f. let h : is_in p.0 v.live ≡ true = ap (is_in p.0) same ∙ f.first_live in
            let k : is_in p.1 v.live ≡ true = ap (is_in p.1) same ∙ f.second_live in
            (o.each p).1 (record { first_live = h; second_live = k; rising = f.rising; overlapping = overlap_there p.0 p.1 h k ∙ f.overlapping }),
      );
    }

pub overlaps_determined : OverlapsAreDetermined
overlaps_determined v w width height xs ys facts pairs real real' same before hold o =
    let after = boxes_determined v w width height xs ys facts real real' same before hold in
    overlaps_there v w real real' same width height xs ys before.x_order after.x_order before.y_order after.y_order pairs o
