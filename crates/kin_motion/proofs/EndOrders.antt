-- The order of the ends of boxes along a direction is one of ranked items, and so are its facts.
use Rattle.std.proofs.Common.{◌≡◌, ◌⊎◌, inl, inr, refl, sym, ap, ◌∙◌, subst, arith, List, [], ◌∷◌, ℕ, zero, suc, ◌+◌, ◌*◌, ◌%◌, ◌<◌, ◌≤◌, ℤ, true, map}
use Rattle.std.specs.Prelude.{Contains}
use Rattle.std.specs.List.{All}
use Rattle.kin_algebra.proofs.Members.{contains_none, contains_cases}
use Rattle.kin_motion.specs.declared.fact.Placed.{Placed}
use Rattle.kin_motion.specs.Numbers.{is_in, IsIn}
use Rattle.kin_motion.specs.Parts.{moved_by}
use Rattle.kin_motion.specs.Scene.{Scene, IsReal}
use Rattle.kin_motion.specs.Sets.{ListsExactly}
use Rattle.kin_motion.proofs.Members.{in_head, in_tail}
use Rattle.kin_motion.proofs.PartLaws.{moved_one}
use Rattle.kin_motion.proofs.SetLaws.{contains_map, contains_mapped, exactly_in_words, exactly_mapped}
use Rattle.kin_motion.specs.BoxEnds.{ends}
use Rattle.kin_motion.proofs.EndRanks.{ends_strict, ends_left}
use Rattle.kin_motion.specs.Ranks.{AreLive, IsOrder, IsOrderFact, neighbour_facts}
use Rattle.kin_motion.proofs.RankedLaws.{one_of_set, computed_order, computed_facts}
use Rattle.kin_motion.specs.BoxFacts.{point, end_fact, end_facts, IsEndOrder, IsEndFact}

module _ (s : Scene) (count : ℕ) (dx dy size : ℤ) where
  pub same_facts : (first : ℕ) (xs : List ℕ) → map (moved_by first) (neighbour_facts s (ends count dx dy size) xs) ≡ end_facts s dx dy size first xs
  same_facts first [] = refl
  same_facts first (a ∷ []) = refl
  same_facts first (a ∷ b ∷ xs) = ap (λ (fs : List Placed). end_fact s dx dy size first a b ∷ fs) (same_facts first (b ∷ xs))

  -- the items are the ends of the boxes of the live points
  abbrev pub AreEnds : List ℕ → Type 0
  AreEnds xs = (e : ℕ) → is_in e xs ≡ is_in (point e) s.live

  pub to_order : (xs ys : List ℕ) → AreEnds xs → IsOrder s (ends count dx dy size) xs ys → IsEndOrder s dx dy size ys
  to_order xs ys all o = record { once = o.all.once; all = λ e. o.all.same e ∙ all e; chain = o.chain }

  pub from_order : (xs ys : List ℕ) → AreEnds xs → IsEndOrder s dx dy size ys → IsOrder s (ends count dx dy size) xs ys
  from_order xs ys all o = record { all = record { once = o.once; same = λ e. o.all e ∙ sym (all e) }; chain = o.chain }

  pub ends_live : (xs : List ℕ) → AreEnds xs → AreLive s (ends count dx dy size) xs
  ends_live xs all i h = only
    where
      only : All (λ n. IsIn n s.live) (point i ∷ [])
      only zero d l = sym (all i) ∙ h
      only (suc k) d l = absurd (omega (arith, l))

  -- facts of the order, this many parts further on
  pub to_facts : (first : ℕ) (xs : List ℕ) (facts : List Placed) → AreEnds xs → ListsExactly facts (IsOrderFact s (ends count dx dy size) xs)
      → ListsExactly (map (moved_by first) facts) (IsEndFact s dx dy size first)
  to_facts first xs facts all exact =
      exactly_in_words (map (moved_by first) facts) _ _ (λ z. (to z, from z))
      (exactly_mapped (moved_by first) facts (IsOrderFact s (ends count dx dy size) xs) (moved_one first) exact)
    where
      to : (z : Placed) → (x : Placed) × IsOrderFact s (ends count dx dy size) xs x × (z ≡ moved_by first x) → IsEndFact s dx dy size first z
      to z (x, f, e) = record {
        order = f.order;
        ordered = to_order xs f.order all f.ordered;
        listed = subst (λ (fs : List Placed). Contains fs z) (same_facts first f.order)
            (subst (Contains (map (moved_by first) (neighbour_facts s (ends count dx dy size) f.order))) (sym e)
            (contains_map (moved_by first) (neighbour_facts s (ends count dx dy size) f.order) x f.listed));
      }

      from : (z : Placed) → IsEndFact s dx dy size first z → (x : Placed) × IsOrderFact s (ends count dx dy size) xs x × (z ≡ moved_by first x)
      from z f =
          let m = contains_mapped (moved_by first) (neighbour_facts s (ends count dx dy size) f.order) z
          (subst (λ (fs : List Placed). Contains fs z) (sym (same_facts first f.order)) f.listed) in
          (m.0, record { order = f.order; ordered = from_order xs f.order all f.ordered; listed = m.1 }, m.2)

-- the facts of the neighbours of an order are its facts
pub neighbours_exact : (s : Scene) (count : ℕ) (dx dy size : ℤ) (xs : List ℕ) → IsReal s → AreEnds s count dx dy size xs → IsEndOrder s dx dy size xs
    → ListsExactly (neighbour_facts s (ends count dx dy size) xs) (IsOrderFact s (ends count dx dy size) xs)
neighbours_exact s count dx dy size xs real all o =
    let r = ends count dx dy size in
    let laws = ends_strict count dx dy size s real in
    let live = ends_live s count dx dy size xs all in
    let order = from_order s count dx dy size xs xs all o in
    subst (λ ys. ListsExactly (neighbour_facts s r ys) (IsOrderFact s r xs))
    (one_of_set s r laws xs live _ xs (computed_order s r laws xs live o.once) order)
    (computed_facts s r laws xs live o.once (ends_left count dx dy size))

-- there is one order of the ends at most
pub one_end_order : (s : Scene) (dx dy size : ℤ) (xs ys : List ℕ) → IsReal s → IsEndOrder s dx dy size xs → IsEndOrder s dx dy size ys → xs ≡ ys
one_end_order s dx dy size xs ys real o o' =
    one_of_set s (ends 0 dx dy size) (ends_strict 0 dx dy size s real) xs (ends_live s 0 dx dy size xs o.all) xs ys
    (from_order s 0 dx dy size xs xs o.all o) (from_order s 0 dx dy size xs ys o.all o')

-- the part of a fact is one of the four from the first on
pub end_part : (s : Scene) (dx dy size : ℤ) (first : ℕ) (xs : List ℕ) (p : Placed) → Contains (end_facts s dx dy size first xs) p
    → (first ≤ p.part) × (p.part < first + 4)
end_part s dx dy size first [] p h = absurd (contains_none p h)
end_part s dx dy size first (a ∷ []) p h = absurd (contains_none p h)
end_part s dx dy size first (a ∷ b ∷ xs) p h =
    at (contains_cases (end_fact s dx dy size first a b) p (end_facts s dx dy size first (b ∷ xs)) h) (end_part s dx dy size first (b ∷ xs) p)
  where
    at : (end_fact s dx dy size first a b ≡ p) ⊎ Contains (end_facts s dx dy size first (b ∷ xs)) p
        → (Contains (end_facts s dx dy size first (b ∷ xs)) p → (first ≤ p.part) × (p.part < first + 4)) → (first ≤ p.part) × (p.part < first + 4)
    at (inl e) rest = let f : first + (2 * (a % 2) + b % 2) ≡ p.part = ap (λ (q : Placed). q.part) e in (omega (arith, f), omega (arith, f))
    at (inr c) rest = rest c

-- a fact of the order is that of two ends of live points, with its sign
pub end_fact_of : (s : Scene) (dx dy size : ℤ) (first : ℕ) (xs : List ℕ) (p : Placed) → Contains (end_facts s dx dy size first xs) p
    → (a b : ℕ) × (is_in a xs ≡ true) × (is_in b xs ≡ true) × (p ≡ end_fact s dx dy size first a b)
end_fact_of s dx dy size first [] p h = absurd (contains_none p h)
end_fact_of s dx dy size first (a ∷ []) p h = absurd (contains_none p h)
end_fact_of s dx dy size first (a ∷ b ∷ xs) p h =
    at (contains_cases (end_fact s dx dy size first a b) p (end_facts s dx dy size first (b ∷ xs)) h) (end_fact_of s dx dy size first (b ∷ xs) p)
  where
    at : (end_fact s dx dy size first a b ≡ p) ⊎ Contains (end_facts s dx dy size first (b ∷ xs)) p
        → (Contains (end_facts s dx dy size first (b ∷ xs)) p
        → (c d : ℕ) × (is_in c (b ∷ xs) ≡ true) × (is_in d (b ∷ xs) ≡ true) × (p ≡ end_fact s dx dy size first c d))
        → (c d : ℕ) × (is_in c (a ∷ b ∷ xs) ≡ true) × (is_in d (a ∷ b ∷ xs) ≡ true) × (p ≡ end_fact s dx dy size first c d)
    at (inl e) rest = (a, b, in_head a (b ∷ xs), in_tail b a (b ∷ xs) (in_head b xs), sym e)
    at (inr c) rest = let m = rest c in (m.0, m.1, in_tail m.0 a (b ∷ xs) m.2, in_tail m.1 a (b ∷ xs) m.3, m.4)
