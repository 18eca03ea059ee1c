-- Two numbers in order along x and along y are settled, and their facts determine them.
use Rattle.std.proofs.Common.{◌≡◌, inl, inr, sym, ap, ◌∙◌, subst, arith, [], ◌∷◌, ℕ, ℤ, pos, IsTrue}
use Rattle.std.specs.Prelude.{Contains}
use Rattle.std.proofs.lemmas.List.Elements.{All-contains}
use Rattle.kin_algebra.proofs.Members.{contains_head, contains_tail}
use Rattle.kin_algebra.specs.declared.sign.Sign.{Sign}
use Rattle.kin_motion.specs.declared.form.Form.TheVariants.{Line}
use Rattle.kin_motion.specs.declared.fact.Placed.{Placed}
use Rattle.kin_motion.specs.Numbers.{is_in}
use Rattle.kin_motion.specs.Sets.{ListsExactly}
use Rattle.kin_motion.specs.Scene.{Scene, IsReal, Holds}
use Rattle.kin_motion.specs.Orders.{leads, IsOrder, IsOrderFact, IsRangeFact}
use Rattle.kin_motion.specs.Kinetics.{AllHold, HaveSameLive}
use Rattle.kin_motion.specs.Laws.{HasLineLaws}
use Rattle.kin_motion.proofs.FactLaws.{neighbour_facts-exact}
use Rattle.kin_motion.proofs.RealLaws.{real_line_laws}
use Rattle.kin_motion.proofs.SetLaws.{exactly_both}
use Rattle.kin_motion.proofs.ClosestFactLaws.{part_of_order}
use Rattle.kin_motion.proofs.LiveFactsHold.{order_fact_holds}
use Rattle.kin_rows.specs.declared.pair.Row.{Row}
use Rattle.kin_rows.specs.declared.pair.Pair.{Pair}
use Rattle.kin_rows.specs.Pairs.{items_of, fact_of, pair_facts, IsSettled}

-- their fact is the fact of the order
pub one_fact : (s : Scene) (dx dy : ℤ) (part : ℕ) (r : Row) → HasLineLaws s → IsOrder s dx dy (items_of r) → s.sign (Line dx dy (pos 0) r.first r.second) ≡ r.sign
    → ListsExactly (fact_of dx dy part r ∷ []) (IsOrderFact s dx dy part)
one_fact s dx dy part r laws order sign =
    subst (λ (t : Sign). ListsExactly (record { part = part; fact = record { form = Line dx dy (pos 0) r.first r.second; sign = t } } ∷ []) (IsOrderFact s dx dy part)) sign
    (neighbour_facts-exact s dx dy part laws (items_of r) order)

pub pair_settled : (s : Scene) (k : Pair) → IsReal s → IsOrder s (pos 1) (pos 0) (items_of k.by_x) → s.sign (Line (pos 1) (pos 0) (pos 0) k.by_x.first k.by_x.second) ≡ k.by_x.sign
    → IsOrder s (pos 0) (pos 1) (items_of k.by_y) → s.sign (Line (pos 0) (pos 1) (pos 0) k.by_y.first k.by_y.second) ≡ k.by_y.sign → IsSettled k s
pair_settled s k real by_x x_sign by_y y_sign =
    let laws = real_line_laws s real in
    record {
      x_order = by_x;
      y_order = by_y;
      exact =
          exactly_both (fact_of (pos 1) (pos 0) 0 k.by_x ∷ []) (fact_of (pos 0) (pos 1) 1 k.by_y ∷ []) (IsOrderFact s (pos 1) (pos 0) 0) (IsOrderFact s (pos 0) (pos 1) 1)
          (one_fact s (pos 1) (pos 0) 0 k.by_x laws by_x x_sign) (one_fact s (pos 0) (pos 1) 1 k.by_y laws by_y y_sign)
          (λ p f g. let e = part_of_order s (pos 1) (pos 0) 0 p f in let h = part_of_order s (pos 0) (pos 1) 1 p g in omega (arith, e, h));
    }

-- where the two numbers have the same sign in both scenes, their order is the same
same_order : (v w : Scene) (dx dy : ℤ) (r : Row) → HaveSameLive v w → v.sign (Line dx dy (pos 0) r.first r.second) ≡ w.sign (Line dx dy (pos 0) r.first r.second) → IsOrder v dx dy (items_of r) → IsOrder w dx dy (items_of r)
same_order v w dx dy r same e o = record {
  all = record { once = o.all.once; same = λ i. o.all.same i ∙ ap (is_in i) same };
  chain = (subst (λ t. IsTrue (leads t r.first r.second)) e o.chain.0, tt);
}

module _ (k : Pair) (v w : Scene) (before : IsSettled k v) (hold : AllHold w (pair_facts k)) where
  held : (p : Placed) → Contains (pair_facts k) p → Holds w p.fact
  held p h = All-contains (λ (q : Placed). Holds w q.fact) (pair_facts k) p hold h

  old_sign : (p : Placed) → Contains (pair_facts k) p → Holds v p.fact
  old_sign p h = at ((before.exact.each p).0 h)
    where
      at : IsRangeFact v p → Holds v p.fact
      at (inl f) = order_fact_holds v (pos 1) (pos 0) 0 p f
      at (inr f) = order_fact_holds v (pos 0) (pos 1) 1 p f

  pub pair_settled_again : HaveSameLive v w → IsReal w → IsSettled k w
  pair_settled_again same real =
      let x = fact_of (pos 1) (pos 0) 0 k.by_x in
      let y = fact_of (pos 0) (pos 1) 1 k.by_y in
      let x_in = contains_head x (y ∷ []) in
      let y_in = contains_tail x y (y ∷ []) (contains_head y []) in
      pair_settled w k real
      (same_order v w (pos 1) (pos 0) k.by_x same (old_sign x x_in ∙ sym (held x x_in)) before.x_order) (held x x_in)
      (same_order v w (pos 0) (pos 1) k.by_y same (old_sign y y_in ∙ sym (held y y_in)) before.y_order) (held y y_in)

pub pair_determined : (k : Pair) (v w : Scene) → Unit {0} → IsReal v → IsSettled k v → HaveSameLive v w → IsReal w → Unit {0} → AllHold w (pair_facts k) → IsSettled k w
pair_determined k v w rest old before same real grounded hold = pair_settled_again k v w before hold same real
