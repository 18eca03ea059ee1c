-- The facts of links by number.
use Rattle.std.proofs.Common.{◌≡◌, refl, sym, ap, ap₂, ◌∙◌, arith, List, [], ◌∷◌, ℕ, zero, suc, ◌+◌, ◌<◌, Some, None, Option, false, cond, nat_eq}
use Rattle.std.specs.Prelude.{slice_get, Contains}
use Rattle.std.proofs.lemmas.Option.{same_Some, none-some}
use Rattle.std.proofs.lemmas.Bool.{eq-eqb, ne_eqb, or_parts}
use Rattle.kin_algebra.proofs.Members.{contains_from_get, get_from_contains}
use Rattle.kin_algebra.specs.declared.sign.Sign.{Sign}
use Rattle.kin_motion.specs.declared.fact.Placed.{Placed}
use Rattle.kin_motion.specs.Kinetics.{AreDistinct}
use Rattle.kin_motion.specs.Numbers.{is_in}
use Rattle.kin_sorted.specs.declared.link.Link.{Link}
use Rattle.kin_motion.specs.Rankings.{IsRanking}
use Rattle.kin_motion.specs.Ranks.{Ranks}
use Rattle.kin_sorted.specs.Links.{linked, link_for, fact_of, facts_from}

module _ (r : Ranks) where
  pub same_facts : IsRanking r → (i j : ℕ) (l m : Link) → fact_of r i l ≡ fact_of r j m → (i ≡ j) × (l ≡ m)
  same_facts law i j l m e =
      let parts : r.part i l.right ≡ r.part j m.right = ap (λ (p : Placed). p.part) e in
      let forms : r.form i l.right ≡ r.form j m.right = ap (λ (p : Placed). p.fact.form) e in
      let lefts : i ≡ j = sym (law.left i l.right) ∙ ap₂ r.left parts forms ∙ law.left j m.right in
      let rights : l.right ≡ m.right = law.right i l.right m.right (parts ∙ ap (λ n. r.part n m.right) (sym lefts)) (forms ∙ ap (λ n. r.form n m.right) (sym lefts)) in
      let signs : l.sign ≡ m.sign = ap (λ (p : Placed). p.fact.sign) e in
      (lefts, λ t. record { right = rights t; sign = signs t })

  -- a fact is that of a link
  pub link_of_fact : (n : ℕ) (ls : List (Option Link)) (k : ℕ) (p : Placed) → slice_get (facts_from r n ls) k ≡ Some p
      → (i : ℕ) × (l : Link) × (slice_get ls i ≡ Some (Some l)) × (p ≡ fact_of r (n + i) l)
  link_of_fact n [] k p h = absurd cc
  link_of_fact n (None ∷ ls) k p h = let w = link_of_fact (n + 1) ls k p h in (suc w.0, w.1, w.2, w.3 ∙ ap (λ m. fact_of r m w.1) (let e : n + 1 + w.0 ≡ n + suc w.0 = omega arith in e))
  link_of_fact n (Some l ∷ ls) zero p h = (zero, l, refl, sym (same_Some (fact_of r n l) p h) ∙ ap (λ m. fact_of r m l) (let e : n ≡ n + zero = omega arith in e))
  link_of_fact n (Some l ∷ ls) (suc k) p h = let w = link_of_fact (n + 1) ls k p h in (suc w.0, w.1, w.2, w.3 ∙ ap (λ m. fact_of r m w.1) (let e : n + 1 + w.0 ≡ n + suc w.0 = omega arith in e))

  pub fact_of_link : (n : ℕ) (ls : List (Option Link)) (i : ℕ) (l : Link) → slice_get ls i ≡ Some (Some l) → (k : ℕ) × (slice_get (facts_from r n ls) k ≡ Some (fact_of r (n + i) l))
  fact_of_link n [] i l h = absurd cc
  fact_of_link n (None ∷ ls) zero l h = absurd (none-some l (same_Some None (Some l) h))
  fact_of_link n (Some m ∷ ls) zero l h = (
    zero,
    ap (λ (q : Link). Some (fact_of r n q)) (same_Some m l (same_Some (Some m) (Some l) h))
        ∙ ap (λ q. Some (fact_of r q l)) (let e : n ≡ n + zero = omega arith in e),
  )
  fact_of_link n (None ∷ ls) (suc i) l h = let w = fact_of_link (n + 1) ls i l h in (w.0, w.1 ∙ ap (λ q. Some (fact_of r q l)) (let e : n + 1 + i ≡ n + suc i = omega arith in e))
  fact_of_link n (Some m ∷ ls) (suc i) l h = let w = fact_of_link (n + 1) ls i l h in (suc w.0, w.1 ∙ ap (λ q. Some (fact_of r q l)) (let e : n + 1 + i ≡ n + suc i = omega arith in e))

  pub has_fact : (ls : List (Option Link)) (i : ℕ) (l : Link) → slice_get ls i ≡ Some (Some l) → Contains (facts_from r 0 ls) (fact_of r i l)
  has_fact ls i l h = let w = fact_of_link 0 ls i l h in contains_from_get (facts_from r 0 ls) w.0 (fact_of r i l) (w.1 ∙ ap (λ q. Some (fact_of r q l)) (let e : 0 + i ≡ i = omega arith in e))

  pub has_link : (ls : List (Option Link)) (p : Placed) → Contains (facts_from r 0 ls) p → (i : ℕ) × (l : Link) × (slice_get ls i ≡ Some (Some l)) × (p ≡ fact_of r i l)
  has_link ls p c =
      let g = get_from_contains (facts_from r 0 ls) p c in
      let w = link_of_fact 0 ls g.0 p g.1 in
      (w.0, w.1, w.2, w.3 ∙ ap (λ q. fact_of r q w.1) (let e : 0 + w.0 ≡ w.0 = omega arith in e))

  above : IsRanking r → (n : ℕ) (ls : List (Option Link)) (k i : ℕ) (l : Link) → i < n → slice_get (facts_from r n ls) k ≡ Some (fact_of r i l) → ⊥
  above law n ls k i l less h =
      let w = link_of_fact n ls k (fact_of r i l) h in
      let e = (same_facts law i (n + w.0) l w.1 w.3).0 in
      absurd (omega arith)

  pub facts-distinct : IsRanking r → (n : ℕ) (ls : List (Option Link)) → AreDistinct (facts_from r n ls)
  facts-distinct law n [] i j p a b = absurd cc
  facts-distinct law n (None ∷ ls) i j p a b = facts-distinct law (n + 1) ls i j p a b
  facts-distinct law n (Some l ∷ ls) zero zero p a b = refl
  facts-distinct law n (Some l ∷ ls) zero (suc j) p a b = absurd (above law (n + 1) ls j n l (omega arith) (b ∙ sym a))
  facts-distinct law n (Some l ∷ ls) (suc i) zero p a b = absurd (above law (n + 1) ls i n l (omega arith) (a ∙ sym b))
  facts-distinct law n (Some l ∷ ls) (suc i) (suc j) p a b = ap suc (facts-distinct law (n + 1) ls i j p a b)

-- the link of a number by its place
pub link_for-at : (xs : List ℕ) (signs : List Sign) (p i : ℕ) → AreDistinct xs → slice_get xs p ≡ Some i → link_for xs signs i ≡ linked (slice_get xs (suc p)) (slice_get signs i)
link_for-at [] signs p i apart h = absurd cc
link_for-at (x ∷ xs) signs zero i apart h = ap (λ b. cond b (linked (slice_get xs 0) (slice_get signs i)) (link_for xs signs i)) (eq-eqb i x (sym (same_Some x i h)))
link_for-at (x ∷ xs) signs (suc p) i apart h =
    ap (λ b. cond b (linked (slice_get xs 0) (slice_get signs i)) (link_for xs signs i)) (ne_eqb i x (λ e. absurd (let f = apart zero (suc p) i (ap (λ (m : ℕ). Some m) (sym e)) h in omega arith)))
    ∙ link_for-at xs signs p i (λ q r y a b. let e = apart (suc q) (suc r) y a b in omega arith) h

pub link_for-absent : (xs : List ℕ) (signs : List Sign) (i : ℕ) → is_in i xs ≡ false → link_for xs signs i ≡ None
link_for-absent [] signs i out = refl
link_for-absent (x ∷ xs) signs i out =
    let n = or_parts (nat_eq i x) (is_in i xs) out in
    ap (λ b. cond b (linked (slice_get xs 0) (slice_get signs i)) (link_for xs signs i)) n.0 ∙ link_for-absent xs signs i n.1
