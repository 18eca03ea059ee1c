-- The facts of a tree of upper chains are those of its nodes.
use Rattle.std.proofs.Common.{◌≡◌, sym, ap, subst, arith, List, ℕ, ◌+◌, ◌*◌, ◌^◌, ◌<◌, nat_eq}
use Rattle.std.specs.Prelude.{◌↔◌, Contains, filter}
use Rattle.std.proofs.lemmas.Bool.Decides.{nat_tests}
use Rattle.kin_motion.specs.declared.fact.Placed.{Placed}
use Rattle.kin_motion.specs.Agreements.{FitsSize}
use Rattle.kin_motion.specs.Merges.{IsMergeFact, IsTreeFact, points_under}
use Rattle.kin_motion.specs.Scene.{Scene, IsReal}
use Rattle.kin_motion.specs.Sets.{AreDistinct, ListsExactly}
use Rattle.kin_motion.proofs.HullFactLaws.{node_is_inner}
use Rattle.kin_motion.proofs.SetLaws.{filter-sound, filter-complete, distinct_filter}

-- a fact of the node v
abbrev pub IsFactOfNode : ℕ → Scene → ℕ → Placed → Type 0
IsFactOfNode size s v p = IsMergeFact s (points_under size s (2 * v)) (points_under size s (2 * v + 1)) v p

module _ (size : ℕ) (facts : List Placed) (s : Scene) (real : IsReal s) (fits : FitsSize size s) where
  -- the facts of the tree are those of its inner nodes, each in the part of its node
  pub exact_by_node : AreDistinct facts → ((p : Placed) → Contains facts p → (0 < p.part) × (p.part < 2 ^ size))
      → ((p : Placed) → 0 < p.part → p.part < 2 ^ size → Contains facts p ↔ IsFactOfNode size s p.part p) → ListsExactly facts (IsTreeFact size s)
  exact_by_node once inner each = record { once = once; each = λ p. (to p, from p) }
    where
      to : (p : Placed) → Contains facts p → IsTreeFact size s p
      to p c = let i = inner p c in let f = (each p i.0 i.1).0 c in record { form = f.form; merge = f.merge; fact = f.fact }

      from : (p : Placed) → IsTreeFact size s p → Contains facts p
      from p f = let i = node_is_inner size s real fits p.part f.form f.merge in let low = i.0 in (each p (omega arith) i.1).1 (record { form = f.form; merge = f.merge; fact = f.fact })

-- the facts in one part
abbrev pub facts_in : List Placed → ℕ → List Placed
facts_in facts v = filter (λ p. nat_eq p.part v) facts

-- they are the facts of its node
pub facts_in_part : (size : ℕ) (facts : List Placed) (s : Scene) → ListsExactly facts (IsTreeFact size s) → (v : ℕ) → ListsExactly (facts_in facts v) (IsFactOfNode size s v)
facts_in_part size facts s exact v = record { once = distinct_filter (λ p. nat_eq p.part v) facts exact.once; each = λ p. (to p, from p) }
  where
    to : (p : Placed) → Contains (facts_in facts v) p → IsFactOfNode size s v p
    to p c =
        let k = filter-sound (λ p. nat_eq p.part v) facts p c in
        let e : p.part ≡ v = (let q = k.1 in grind (arith, nat_tests, q)) in
        let f = (exact.each p).0 k.0 in
        subst (λ u. IsFactOfNode size s u p) e (record { form = f.form; merge = f.merge; fact = f.fact })

    from : (p : Placed) → IsFactOfNode size s v p → Contains (facts_in facts v) p
    from p m =
        let e : p.part ≡ v = ap (λ (q : Placed). q.part) m.fact in
        let f = subst (λ u. IsFactOfNode size s u p) (sym e) m in
        filter-complete (λ p. nat_eq p.part v) facts p ((exact.each p).1 (record { form = f.form; merge = f.merge; fact = f.fact })) (grind (arith, nat_tests, e))
