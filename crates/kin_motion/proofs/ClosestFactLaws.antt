-- The computed facts of the closest pair are its facts.
use Rattle.std.proofs.Common.{◌≡◌, ◌⊎◌, inl, inr, refl, sym, ap, ◌∙◌, subst, arith, List, [], ◌∷◌, ◌++◌, ℕ, zero, suc, ◌+◌, ◌<◌, ◌≤◌, true, map, ℤ}
use Rattle.std.specs.Prelude.{Some, slice_get}
use Rattle.std.proofs.lemmas.Option.{slice_get_within}
use Rattle.kin_algebra.specs.declared.sign.Sign.{Sign}
use Rattle.kin_algebra.specs.declared.sign.Sign.TheVariants.{Minus, Zero, Plus}
use Rattle.kin_algebra.specs.Signs.{opposite_of}
use Rattle.kin_motion.specs.declared.form.Form.TheVariants.{Dist}
use Rattle.kin_motion.specs.declared.fact.Placed.{Placed}
use Rattle.kin_motion.specs.Sets.{ListsExactly}
use Rattle.kin_motion.specs.Scene.{Scene, IsReal, placed_at}
use Rattle.kin_motion.specs.Orders.{IsOrderFact, neighbour_forms, order_of, order_facts}
use Rattle.kin_motion.specs.Tournaments.{beats, IsNodeFact, tournament_facts}
use Rattle.kin_motion.specs.Octants.{Direction, eight_directions}
use Rattle.kin_motion.specs.ClosestPairs.{Near, left_is_nearer, distance_key}
use Rattle.kin_motion.specs.ClosestFacts.{near_slots, IsWedgeFact, IsPairFact, wedge_facts_from, wedge_facts}
use Rattle.kin_motion.specs.Laws.{HasDistanceLaws}
use Rattle.kin_motion.specs.Agreements.{OrderFactsAgree, ClosestFactsAgree}
use Rattle.kin_motion.proofs.SetLaws.{contains_mapped, exactly_none, exactly_both, exactly_in_words, exactly_mapped}
use Rattle.kin_motion.proofs.FactLaws.{neighbour_facts-exact}
use Rattle.kin_motion.proofs.RealLaws.{real_line_laws}
use Rattle.kin_motion.proofs.DistanceLaws.{less_from, not_both, nearer_transitive, real_distance_laws}
use Rattle.kin_motion.proofs.ClosestLaws.{nearer-otherwise}
use Rattle.kin_motion.proofs.NearLaws.{near_agrees, one_near, own-slot}
use Rattle.kin_motion.specs.Parts.{moved_by}
use Rattle.kin_motion.proofs.PartLaws.{moved_one}
use Rattle.kin_motion.proofs.NodeLaws.{held_slot, tournament_agrees}
use Rattle.kin_motion.proofs.Proved.{order_proved}

pub order_facts_agree : OrderFactsAgree
order_facts_agree s dx dy part r = neighbour_facts-exact s dx dy part (real_line_laws s r) (order_of s dx dy) (order_proved s dx dy r)

-- a fact of an order stands in the order's part
pub part_of_order : (s : Scene) (dx dy : ℤ) (part : ℕ) (p : Placed) → IsOrderFact s dx dy part p → p.part ≡ part
part_of_order s dx dy part p f = let m = contains_mapped (placed_at s part) (neighbour_forms dx dy f.order) p f.listed in ap (λ (q : Placed). q.part) m.2

-- ---- the eight orders
module _ (s : Scene) (real : IsReal s) where
  -- a fact of the k-th of these orders, whose parts are numbered from n on
  abbrev IsFactOf : ℕ → List Direction → Placed → Type 0
  IsFactOf n ds p = (k : ℕ) × (way : Direction) × (slice_get ds k ≡ Some way) × (p.part ≡ n + k) × IsOrderFact s way.dx way.dy p.part p

  orders_exact : (n : ℕ) (ds : List Direction) → ListsExactly (wedge_facts_from s n ds) (IsFactOf n ds)
  orders_exact n [] = exactly_none _ (λ p w. absurd (let e = w.2 in cc))
  orders_exact n (d ∷ ds) =
      exactly_in_words (order_facts s d.dx d.dy n ++ wedge_facts_from s (n + 1) ds) _ _ (λ p. (to p, from p))
      (exactly_both (order_facts s d.dx d.dy n) (wedge_facts_from s (n + 1) ds) (IsOrderFact s d.dx d.dy n) (IsFactOf (n + 1) ds) (order_facts_agree s d.dx d.dy n real) (orders_exact (n + 1) ds)
      (λ p f g. let e = part_of_order s d.dx d.dy n p f in let h : p.part ≡ n + 1 + g.0 = g.3 in omega (arith, e, h)))
    where
      to : (p : Placed) → IsOrderFact s d.dx d.dy n p ⊎ IsFactOf (n + 1) ds p → IsFactOf n (d ∷ ds) p
      to p (inl f) =
          let e = part_of_order s d.dx d.dy n p f in
          (zero, d, refl, omega (arith, e), subst (λ part. IsOrderFact s d.dx d.dy part p) (sym e) f)
      to p (inr (k, way, e, h, f)) = (suc k, way, e, omega (arith, h), f)

      from : (p : Placed) → IsFactOf n (d ∷ ds) p → IsOrderFact s d.dx d.dy n p ⊎ IsFactOf (n + 1) ds p
      from p (zero, way, e, h, f) =
          let g : p.part ≡ n = omega (arith, h) in
          let same : d ≡ way = cc in
          inl (subst (λ (x : Direction). IsOrderFact s x.dx x.dy n p) (sym same) (subst (λ part. IsOrderFact s way.dx way.dy part p) g f))
      from p (suc k, way, e, h, f) = inr (k, way, e, omega (arith, h), f)

  pub wedge_exact : ListsExactly (wedge_facts s) (IsWedgeFact s)
  wedge_exact = exactly_in_words (wedge_facts s) _ _ (λ p. (to p, from p)) (orders_exact 0 eight_directions)
    where
      to : (p : Placed) → IsFactOf 0 eight_directions p → IsWedgeFact s p
      to p (k, way, e, h, f) = let g : k ≡ p.part = omega (arith, h) in record { way = way; known = sym (ap (slice_get eight_directions) g) ∙ e; fact = f }

      from : (p : Placed) → IsWedgeFact s p → IsFactOf 0 eight_directions p
      from p w = (p.part, w.way, w.known, omega arith, w.fact)

  pub wedge_part : (p : Placed) → IsWedgeFact s p → p.part < 8
  wedge_part p w = slice_get_within eight_directions p.part w.way w.known

-- ---- the tournament of pairs
module _ (s : Scene) (laws : HasDistanceLaws s) where
  pub nearer-never : (p : Near) → beats s distance_key p p ≡ true → ⊥
  nearer-never p e = at (s.sign (Dist p.i p.j p.i p.j)) (laws.opposite p.i p.j p.i p.j) e
    where
      at : (t : Sign) → t ≡ opposite_of t → left_is_nearer t p p ≡ true → ⊥
      at Minus o f = absurd cc
      at Plus o f = absurd cc
      at Zero o f = let g = less_from p p f in not_both p p g g

module _ (size : ℕ) (s : Scene) (real : IsReal s) where
  laws : HasDistanceLaws s
  laws = real_distance_laws s real

  pub nodes_exact : ListsExactly (tournament_facts s distance_key (size + 3) (near_slots size s)) (IsNodeFact s distance_key (size + 3) (near_slots size s))
  nodes_exact =
      let slots = near_agrees s real size in
      tournament_agrees s distance_key (nearer-otherwise s laws) (nearer_transitive s laws) (nearer-never s laws) (size + 3) (near_slots size s)
      (λ i j a e f.
      let g = own-slot s real size i (near_slots size s) a slots (held_slot (near_slots size s) i a e) in
      let h = own-slot s real size j (near_slots size s) a slots (held_slot (near_slots size s) j a f) in
      sym g ∙ h)
      (let c = slots.count in omega (arith, c))

  pairs_exact : ListsExactly (map (moved_by 8) (tournament_facts s distance_key (size + 3) (near_slots size s))) (IsPairFact size s)
  pairs_exact =
      exactly_in_words (map (moved_by 8) (tournament_facts s distance_key (size + 3) (near_slots size s))) _ _ (λ p. (to p, from p))
      (exactly_mapped (moved_by 8) (tournament_facts s distance_key (size + 3) (near_slots size s)) (IsNodeFact s distance_key (size + 3) (near_slots size s)) (moved_one 8) nodes_exact)
    where
      to : (p : Placed) → (x : Placed) × IsNodeFact s distance_key (size + 3) (near_slots size s) x × (p ≡ moved_by 8 x) → IsPairFact size s p
      to p (x, f, e) = record { slots = near_slots size s; filled = near_agrees s real size; node = x; fact = f; placed = e }

      from : (p : Placed) → IsPairFact size s p → (x : Placed) × IsNodeFact s distance_key (size + 3) (near_slots size s) x × (p ≡ moved_by 8 x)
      from p w =
          let e : w.slots ≡ near_slots size s = one_near s real size w.slots (near_slots size s) w.filled (near_agrees s real size) in
          (w.node, subst (λ slots. IsNodeFact s distance_key (size + 3) slots w.node) e w.fact, w.placed)

  pub pair_part : (p : Placed) → IsPairFact size s p → 8 ≤ p.part
  pair_part p w = let e : p.part ≡ 8 + w.node.part = ap (λ (x : Placed). x.part) w.placed in omega (arith, e)

pub closest_facts_agree : ClosestFactsAgree
closest_facts_agree size s real =
    exactly_both (wedge_facts s) (map (moved_by 8) (tournament_facts s distance_key (size + 3) (near_slots size s))) (IsWedgeFact s) (IsPairFact size s)
    (wedge_exact s real) (pairs_exact size s real)
    (λ p w v. let low = wedge_part s real p w in let high = pair_part size s real p v in omega (arith, low, high))
