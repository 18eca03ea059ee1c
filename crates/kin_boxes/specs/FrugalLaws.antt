-- What a repair of moving boxes spends is within the bound of its keep.
use Rattle.std.proofs.Common.{◌≡◌, ◌⊎◌, inl, inr, refl, sym, ap, ap₂, ◌∙◌, subst, arith, List, [], ◌∷◌, ℕ, ◌+◌, ◌*◌, ◌^◌, ◌≤◌, ℤ, pos, length}
use Rattle.std.specs.Prelude.{Contains, sum}
use Rattle.std.proofs.lemmas.List.Sums.{sum_by-cons}
use Rattle.std.proofs.lemmas.Nat.{mul-le}
use Rattle.kin_algebra.proofs.Members.{contains_head, contains_tail}
use Rattle.kin_motion.specs.declared.fact.Placed.{Placed}
use Rattle.kin_motion.specs.declared.keep.Keep.{Keep}
use Rattle.kin_motion.specs.declared.keep.Keep.TheVariants.{Boxes}
use Rattle.kin_motion.specs.BoxFacts.{IsBoxFact, IsEndOrder, AreBoxes, end_before, end_order_of, ends_of}
use Rattle.kin_motion.specs.Deltas.{Change}
use Rattle.kin_motion.specs.Kinetics.{ListsFailing, HasChanged}
use Rattle.kin_motion.specs.Numbers.{HasEntered}
use Rattle.kin_motion.specs.Records.{moved_pairs}
use Rattle.kin_motion.specs.Scene.{Scene, IsReal}
use Rattle.kin_motion.specs.Spending.{AreInStep, HasRisenWithin, MayAsk, MayBoxesAsk, MayHalveEnds, moved_ends}
use Rattle.kin_motion.proofs.BoxFactLaws.{end_order_agrees}
use Rattle.kin_motion.proofs.EndOrders.{one_end_order}
use Rattle.kin_motion.proofs.OrderCounts.{sorted-length}
use Rattle.kin_motion.proofs.SpendingLaws.{reported}
use Rattle.kin_sorted.specs.Marks.{Marks}
use Rattle.kin_sorted.specs.Sorting.{unmarked}
use Rattle.kin_boxes.specs.Boxing.{Boxing, facts_of, is_spared, IsBoxingAtRest, HasMembers, IsSettledBoxing, IsBoxingFor, FollowsBoxing, AreFewTests, entering_box, leaving_box}

-- at rest they follow the scene in which they were settled
pub boxing_follows_scene : (b : Boxing) (s : Scene) (live : List ℕ) → IsBoxingAtRest b → HasMembers b s.live → IsSettledBoxing b s → s.live ≡ live
    → FollowsBoxing b s live
boxing_follows_scene b s live rest members settled same = record {
  settled = settled;
  same = rest.y_marks ∙ sym rest.marks;
  led = inl (rest.marks, same);
}

-- ---- halvings
-- of k halvings the sum is at most k times one of them
record Greatest (hs : List ℕ) : Type 0 where
  most : ℕ
  here : (most ≡ 0) ⊎ Contains hs most
  bound : sum hs ≤ length hs * most

greatest : (hs : List ℕ) → Greatest hs
greatest [] = record { most = 0; here = inl refl; bound = omega arith }
greatest (h ∷ hs) = at (greatest hs)
  where
    with_greater : (g : Greatest hs) → (g.most ≤ h) ⊎ (h ≤ g.most) → Greatest (h ∷ hs)
    with_greater g (inl l) =
        let b = g.bound in
        let m = mul-le (length hs) g.most (length hs) h (omega arith) l in
        let s = sum_by-cons (λ (n : ℕ). n) h hs in
        record { most = h; here = inr (contains_head h hs); bound = omega (arith, b, m, s) }
    with_greater g (inr l) =
        let b = g.bound in
        let s = sum_by-cons (λ (n : ℕ). n) h hs in
        record {
          most = g.most;
          here = elim g.here [
            | inl e ↦ inl e
            | inr c ↦ inr (contains_tail h g.most hs c)
          ];
          bound = omega (arith, b, l, s);
        }

    at : Greatest hs → Greatest (h ∷ hs)
    at g = with_greater g (grind arith)

-- ---- both orders
ends_many : (live : List ℕ) → length (ends_of live) ≡ 2 * length live
ends_many [] = refl
ends_many (x ∷ xs) = let e = ends_many xs in omega (arith, e)

end_order_is : (s : Scene) (dx dy size : ℤ) (xs : List ℕ) → IsReal s → IsEndOrder s dx dy size xs → xs ≡ end_order_of s dx dy size
end_order_is s dx dy size xs real o = one_end_order s dx dy size xs (end_order_of s dx dy size) real o (end_order_agrees s dx dy size real)

moved_is : (v w : Scene) (dx dy size : ℤ) (xs ys : List ℕ) → IsReal v → IsReal w → IsEndOrder v dx dy size xs → IsEndOrder w dx dy size ys
    → moved_pairs xs ys ≡ moved_ends v w dx dy size
moved_is v w dx dy size xs ys real real' o o' = ap₂ moved_pairs (end_order_is v dx dy size xs real o) (end_order_is w dx dy size ys real' o')

twice_as_many : (s : Scene) (dx dy size : ℤ) (xs : List ℕ) → IsReal s → IsEndOrder s dx dy size xs → length xs ≡ 2 * length s.live
twice_as_many s dx dy size xs real o =
    ap length (end_order_is s dx dy size xs real o) ∙ sorted-length (end_before s dx dy size) (ends_of s.live) ∙ ends_many s.live

module _ (old new : Boxing) (v w : Scene) (real : IsReal v) (real' : IsReal w) (follows : FollowsBoxing old v w.live)
    (settled : AreBoxes w old.by_x.rank.width old.by_y.rank.width new.by_x.items new.by_y.items (facts_of new)) (out out' : Change) (before after : ℕ)
    (changed : HasChanged (facts_of old) (facts_of new) out out') (few : AreFewTests old new out out' before after) where
  Asks : Type 0
  Asks = HasRisenWithin (MayBoxesAsk old.by_x.rank.width old.by_y.rank.width v w) before after

  with_halvings : (k : ℕ) → MayHalveEnds v w k → sum few.halvings ≤ 4 * k → Asks
  unfolding Asks
  with_halvings k allowed most =
      let width = old.by_x.rank.width in
      let height = old.by_y.rank.width in
      let report = reported (facts_of old) (facts_of new) (IsBoxFact v width height) (IsBoxFact w width height) out out' follows.settled.exact settled.exact changed in
      let x = moved_is v w (pos 1) (pos 0) width old.by_x.items new.by_x.items real real' follows.settled.x_order settled.x_order in
      let y = moved_is v w (pos 0) (pos 1) height old.by_y.items new.by_y.items real real' follows.settled.y_order settled.y_order in
      let bound = few.bound in
      let dropped = report.dropped in
      let born = report.born in (
        8 * (length report.change.dropped + length report.change.born + moved_ends v w (pos 1) (pos 0) width + moved_ends v w (pos 0) (pos 1) height) + 4 * k,
        record { change = report.change; changed = report.changed; halvings = k; allowed = allowed; bound = omega arith },
        omega (arith, bound, dropped, born, x, y, most),
      )

  -- as many halvings as ends enter, of each axis
  many : (m : Marks) → old.by_x.marks ≡ m → length few.halvings ≡ 2 * length m.entering
  many m e =
      let each = few.each in
      let x : length old.by_x.marks.entering ≡ length m.entering = ap (λ (n : Marks). length n.entering) e in
      let y : length old.by_y.marks.entering ≡ length m.entering = ap (λ (n : Marks). length n.entering) (follows.same ∙ e) in
      omega (arith, each, x, y)

  none_enters : (m : Marks) → old.by_x.marks ≡ m → length m.entering ≡ 0 → Asks
  none_enters m e none =
      let g = greatest few.halvings in
      let l = many m e in
      let zero : length few.halvings ≡ 0 = omega (arith, l, none) in
      let b = g.bound in
      let c : length few.halvings * g.most ≡ 0 * g.most = ap (λ n. n * g.most) zero in
      with_halvings 0 (inl refl) (omega (arith, b, c))

  one_enters : (who : ℕ) → old.by_x.marks ≡ entering_box who → HasEntered who v.live w.live → Asks
  one_enters who e entered =
      let g = greatest few.halvings in
      let four : length few.halvings ≡ 4 = many (entering_box who) e in
      let b = g.bound in
      let c : length few.halvings * g.most ≡ 4 * g.most = ap (λ n. n * g.most) four in
      with_halvings g.most (at g.most g.here) (omega (arith, b, c))
    where
      x_long : length new.by_x.items ≡ 2 * length w.live
      x_long = twice_as_many w (pos 1) (pos 0) old.by_x.rank.width new.by_x.items real' settled.x_order

      y_long : length new.by_y.items ≡ 2 * length w.live
      y_long = twice_as_many w (pos 0) (pos 1) old.by_y.rank.width new.by_y.items real' settled.y_order

      halves : (k : ℕ) → (2 ^ k ≤ 2 * length new.by_x.items) ⊎ (2 ^ k ≤ 2 * length new.by_y.items) → 2 ^ k ≤ 4 * length w.live
      halves k (inl l) = let x = x_long in omega (arith, l, x)
      halves k (inr l) = let y = y_long in omega (arith, l, y)

      at : (k : ℕ) → (k ≡ 0) ⊎ Contains few.halvings k → MayHalveEnds v w k
      at k (inl none) = inl none
      at k (inr c) = inr (who, entered, halves k (few.allowed k c))

  asks : Asks
  asks = elim follows.led [
    | inl h ↦ none_enters unmarked h.0 refl
    | inr l ↦ elim l [
      | inl h ↦ one_enters h.0 h.1 h.2
      | inr h ↦ none_enters (leaving_box h.0) h.1 refl
    ]
  ]

-- what a settle spends is within the bound of kept boxes
pub boxing_frugal : (old new : Boxing) (size : ℕ) (keep : Keep) (v w : Scene) (failed : List Placed) (out out' : Change) (before after : ℕ)
    → IsBoxingFor old size keep → IsBoxingFor new size keep → AreInStep size keep v w → FollowsBoxing old v w.live → HasMembers new w.live
    → IsSettledBoxing new w → ListsFailing (facts_of old) (is_spared old) w failed → HasChanged (facts_of old) (facts_of new) out out'
    → AreFewTests old new out out' before after → HasRisenWithin (MayAsk size keep v w) before after
unfolding Asks
boxing_frugal old new size keep v w failed out out' before after kind kind' step follows members settled failing changed few =
    subst (λ (k : Keep). HasRisenWithin (MayAsk size k v w) before after) (sym kind.0)
    (asks old new v w step.old_real step.new_real follows here out out' before after changed few)
  where
    same : Boxes new.by_x.rank.width new.by_y.rank.width ≡ Boxes old.by_x.rank.width old.by_y.rank.width
    same = sym kind'.0 ∙ kind.0

    width : new.by_x.rank.width ≡ old.by_x.rank.width
    width = cc

    height : new.by_y.rank.width ≡ old.by_y.rank.width
    height = cc

    here : AreBoxes w old.by_x.rank.width old.by_y.rank.width new.by_x.items new.by_y.items (facts_of new)
    here = subst (λ z. AreBoxes w z old.by_y.rank.width new.by_x.items new.by_y.items (facts_of new)) width
        (subst (λ z. AreBoxes w new.by_x.rank.width z new.by_x.items new.by_y.items (facts_of new)) height settled)
