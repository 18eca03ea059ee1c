-- The facts of the eight orders determine them and the candidates.
use Rattle.std.proofs.Common.{sym, ap, ◌∙◌, subst, List, ℕ, ◌<◌, Option}
use Rattle.std.proofs.lemmas.List.Elements.{All-contains, Contains-get_or}
use Rattle.kin_motion.specs.declared.fact.Placed.{Placed}
use Rattle.kin_motion.specs.ClosestFacts.{IsWedgeFact}
use Rattle.kin_motion.specs.Contents.{IsSettledWedges}
use Rattle.kin_motion.specs.Kinetics.{HaveSameLive, AllHold}
use Rattle.kin_motion.specs.Numbers.{is_in}
use Rattle.kin_motion.specs.Octants.{Direction, direction_of}
use Rattle.kin_motion.specs.Orders.{IsOrder, IsOrderFact, order_of, neighbour_facts}
use Rattle.kin_motion.specs.Scene.{Scene, IsReal, Holds}
use Rattle.kin_motion.specs.Sets.{ListsExactly}
use Rattle.kin_motion.proofs.ClosestFactLaws.{part_of_order}
use Rattle.kin_motion.proofs.FactLaws.{neighbour_facts-exact, order_facts_determined}
use Rattle.kin_motion.proofs.Members.{contains_from_in}
use Rattle.kin_motion.proofs.Proved.{order_proved}
use Rattle.kin_motion.proofs.RealLaws.{real_line_laws}
use Rattle.kin_motion.proofs.SameOctants.{way_known, way_of, in_common, HaveSameOrders, answer_goes}

-- an order of a part
abbrev IsRow : Scene → ℕ → List ℕ → Type 0
IsRow s part xs = IsOrder s (direction_of part).dx (direction_of part).dy xs

-- a fact of the order of a part
abbrev IsRowFact : Scene → ℕ → Placed → Type 0
IsRowFact s part p = IsOrderFact s (direction_of part).dx (direction_of part).dy part p

-- the facts of a list of neighbours in a part
abbrev row_facts : Scene → ℕ → List ℕ → List Placed
row_facts s part xs = neighbour_facts s (direction_of part).dx (direction_of part).dy part xs

module _ (v w : Scene) (real : IsReal v) (real' : IsReal w) (same : HaveSameLive v w) (hold : (p : Placed) → IsWedgeFact v p → Holds w p.fact) where
  exact_here : (part : ℕ) (xs : List ℕ) → IsRow v part xs → ListsExactly (row_facts v part xs) (IsRowFact v part)
  exact_here part xs o = neighbour_facts-exact v (direction_of part).dx (direction_of part).dy part (real_line_laws v real) xs o

  -- each of them is a fact of the eight orders
  one_of_eight : (s : Scene) (part : ℕ) (p : Placed) → part < 8 → IsRowFact s part p → IsWedgeFact s p
  one_of_eight s part p h f =
      let e = part_of_order s (direction_of part).dx (direction_of part).dy part p f in
      record { way = direction_of p.part; known = way_known p.part (subst (λ (n : ℕ). n < 8) (sym e) h); fact = subst (λ (n : ℕ). IsRowFact s n p) (sym e) f }

  order_goes : (part : ℕ) (xs : List ℕ) → part < 8 → IsRow v part xs → IsRow w part xs × ListsExactly (row_facts v part xs) (IsRowFact w part)
  order_goes part xs h o =
      order_facts_determined v w (direction_of part).dx (direction_of part).dy part xs (row_facts v part xs) (real_line_laws w real') same o (exact_here part xs o)
      (λ n d l. hold _ (one_of_eight v part _ h (((exact_here part xs o).each _).0 (Contains-get_or (row_facts v part xs) n d l))))

  pub order_there : (part : ℕ) (xs : List ℕ) → part < 8 → IsRow v part xs → IsRow w part xs
  order_there part xs h o = (order_goes part xs h o).0

  row : ℕ → List ℕ
  row part = order_of v (direction_of part).dx (direction_of part).dy

  ordered : (part : ℕ) → IsRow v part (row part)
  unfolding row
  ordered part = order_proved v (direction_of part).dx (direction_of part).dy real

  -- a fact of the one scene is one of the other
  pub fact_goes : (p : Placed) → IsWedgeFact v p → IsWedgeFact w p
  fact_goes p f =
      let d = way_of p.part f.way f.known in
      let own = subst (λ (way : Direction). IsOrderFact v way.dx way.dy p.part p) d.1 f.fact in
      one_of_eight w p.part p d.0 (((order_goes p.part (row p.part) d.0 (ordered p.part)).1.each p).0 (((exact_here p.part (row p.part) (ordered p.part)).each p).1 own))

  pub fact_comes : (p : Placed) → IsWedgeFact w p → IsWedgeFact v p
  fact_comes p f =
      let d = way_of p.part f.way f.known in
      let own = subst (λ (way : Direction). IsOrderFact w way.dx way.dy p.part p) d.1 f.fact in
      one_of_eight v p.part p d.0 (((exact_here p.part (row p.part) (ordered p.part)).each p).0 (((order_goes p.part (row p.part) d.0 (ordered p.part)).1.each p).1 own))

  pub same_orders : HaveSameOrders v w
  same_orders part p q h n a b =
      let o = ordered part in
      in_common v w (real_line_laws v real) (real_line_laws w real') (direction_of part).dx (direction_of part).dy (row part) o.chain (order_there part (row part) h o).chain p q n
      (contains_from_in (row part) p (o.all.same p ∙ a)) (contains_from_in (row part) q (o.all.same q ∙ b))

-- where the octants are settled and their facts hold, they are settled
pub wedges_are_determined : (size : ℕ) (v w : Scene) (candidate : ℕ → ℕ → Option ℕ) (facts : List Placed) → IsReal v → IsReal w → HaveSameLive v w
    → IsSettledWedges v size candidate facts → AllHold w facts → IsSettledWedges w size candidate facts
wedges_are_determined size v w candidate facts real real' same before hold = record {
  candidates = record {
    of_live = λ p place o l known.
        let here = ap (is_in p) same ∙ l in
        answer_goes v w (real_line_laws v real) (real_line_laws w real') same (same_orders v w real real' same held) o place known p (candidate p place) here (before.candidates.of_live p place o here known);
    of_others = λ p place h l n. before.candidates.of_others p place h l (λ m. n (ap (is_in p) (sym same) ∙ m));
  };
  exact = record {
    once = before.exact.once;
    each = λ p. (λ c. fact_goes v w real real' same held p ((before.exact.each p).0 c), λ f. (before.exact.each p).1 (fact_comes v w real real' same held p f));
  };
}
  where
    held : (p : Placed) → IsWedgeFact v p → Holds w p.fact
    held p f = All-contains (λ (q : Placed). Holds w q.fact) facts p hold ((before.exact.each p).1 f)
