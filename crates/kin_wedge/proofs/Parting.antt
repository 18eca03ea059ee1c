-- The facts of the eight lists, by their parts.
use Rattle.std.proofs.Common.{◌≡◌, ◌≢◌, ◌⊎◌, inl, inr, refl, sym, ap, ◌∙◌, subst, arith, List, [], ◌∷◌, ℕ, zero, suc, ◌+◌, ◌<◌, ◌≤◌, Bool, true, map, filter, length, Some}
use Rattle.std.specs.Prelude.{Contains, slice_get}
use Rattle.std.proofs.lemmas.Bool.{cases_eq}
use Rattle.std.proofs.lemmas.Bool.Decides.{nat_tests}
use Rattle.std.proofs.lemmas.List.Elements.{Contains-append_left, Contains-append_right, Contains-append_cases}
use Rattle.std.proofs.lemmas.Option.{same_Some, slice_get_within}
use Rattle.kin_algebra.proofs.Members.{contains_none}
use Rattle.kin_motion.specs.declared.fact.Placed.{Placed}
use Rattle.kin_motion.specs.Kinetics.{ListsFailing, HasGained}
use Rattle.kin_motion.specs.Parts.{moved_by}
use Rattle.kin_motion.specs.Scene.{Scene}
use Rattle.kin_motion.proofs.Gains.{gained_in_words, gained_both}
use Rattle.kin_motion.proofs.SetLaws.{contains_map, contains_mapped, filter-sound, filter-complete, distinct_filter}
use Rattle.kin_list.specs.Listing.{Listing}
use Rattle.kin_wedge.specs.Parts.{in_part, is_of_part, facts_from, AreAtNought}

-- the list of the fact's part has the fact, in its own part 0
abbrev pub HasFact : List Listing → Placed → Type 0
HasFact lists p = (l : Listing) × (slice_get lists p.part ≡ Some l) × Contains l.facts (in_part 0 p)

-- all facts of all lists are in their own part 0
abbrev pub AllAtNought : List Listing → Type 0
AllAtNought lists = (part : ℕ) (l : Listing) → slice_get lists part ≡ Some l → AreAtNought l.facts

-- a moved fact is in that part, and the list has it in part 0
pub moved_out : (n : ℕ) (facts : List Placed) (p : Placed) → AreAtNought facts → Contains (map (moved_by n) facts) p → (p.part ≡ n) × Contains facts (in_part 0 p)
moved_out n facts p nought h =
    let m = contains_mapped (moved_by n) facts p h in
    let z = nought m.0 m.1 in
    let e : p.part ≡ n + m.0.part = ap (λ (x : Placed). x.part) m.2 in
    let f : m.0.fact ≡ p.fact = ap (λ (x : Placed). x.fact) (sym m.2) in
    let g : m.0.part ≡ 0 = z in
    (omega (arith, e, z), subst (Contains facts) (λ t. record { part = g t; fact = f t }) m.1)

pub moved_in : (n : ℕ) (facts : List Placed) (p : Placed) → p.part ≡ n → Contains facts (in_part 0 p) → Contains (map (moved_by n) facts) p
moved_in n facts p e h =
    let f : n + 0 ≡ p.part = omega (arith, e) in
    subst (Contains (map (moved_by n) facts)) (λ t. record { part = f t; fact = p.fact }) (contains_map (moved_by n) facts (in_part 0 p) h)

-- the same, of lists whose parts are numbered from n on
IsAmong : ℕ → List Listing → Placed → Type 0
IsAmong n lists p = (k : ℕ) × (l : Listing) × (slice_get lists k ≡ Some l) × (p.part ≡ n + k) × Contains l.facts (in_part 0 p)

among : (n : ℕ) (lists : List Listing) (p : Placed) → AllAtNought lists → Contains (facts_from n lists) p → IsAmong n lists p
unfolding IsAmong
among n [] p nought h = absurd (contains_none p h)
among n (l ∷ ls) p nought h = at (Contains-append_cases (map (moved_by n) l.facts) (facts_from (n + 1) ls) p h) (among (n + 1) ls p (λ part m e. nought (suc part) m e))
  where
    at : Contains (map (moved_by n) l.facts) p ⊎ Contains (facts_from (n + 1) ls) p → (Contains (facts_from (n + 1) ls) p → (k : ℕ) × (m : Listing) × (slice_get ls k ≡ Some m) × (p.part ≡ n + 1 + k) × Contains m.facts (in_part 0 p))
        → (k : ℕ) × (m : Listing) × (slice_get (l ∷ ls) k ≡ Some m) × (p.part ≡ n + k) × Contains m.facts (in_part 0 p)
    at (inl c) rest = let m = moved_out n l.facts p (nought 0 l refl) c in let e = m.0 in (0, l, refl, omega (arith, e), m.1)
    at (inr c) rest = let r = rest c in let e = r.3 in (suc r.0, r.1, r.2, omega (arith, e), r.4)

pub among_part : (n : ℕ) (lists : List Listing) (p : Placed) → AllAtNought lists → Contains (facts_from n lists) p → n ≤ p.part
unfolding IsAmong
among_part n lists p nought h = let a = among n lists p nought h in let e = a.3 in omega (arith, e)

from_among : (n : ℕ) (lists : List Listing) (p : Placed) → IsAmong n lists p → Contains (facts_from n lists) p
unfolding IsAmong
from_among n [] p (k, l, e, f, c) = absurd cc
from_among n (m ∷ ls) p (zero, l, e, f, c) = Contains-append_left (map (moved_by n) m.facts) (facts_from (n + 1) ls) p (moved_in n m.facts p (omega (arith, f)) (subst (λ (x : Listing). Contains x.facts (in_part 0 p)) (sym (same_Some m l e)) c))
from_among n (m ∷ ls) p (suc k, l, e, f, c) = Contains-append_right (map (moved_by n) m.facts) (facts_from (n + 1) ls) p (from_among (n + 1) ls p (k, l, e, omega (arith, f), c))

pub has_fact : (lists : List Listing) (p : Placed) → AllAtNought lists → Contains (facts_from 0 lists) p → HasFact lists p
unfolding IsAmong
has_fact lists p nought h = let a = among 0 lists p nought h in let e = a.3 in let f : a.0 ≡ p.part = omega (arith, e) in (a.1, ap (slice_get lists) (sym f) ∙ a.2, a.4)

pub fact_there : (lists : List Listing) (p : Placed) → HasFact lists p → Contains (facts_from 0 lists) p
unfolding IsAmong
fact_there lists p h = from_among 0 lists p (p.part, h.0, h.1, omega arith, h.2)

pub part_within : (lists : List Listing) (p : Placed) → HasFact lists p → p.part < length lists
part_within lists p h = slice_get_within lists p.part h.0 h.1

-- the facts of one list, moved
pub here_out : (lists : List Listing) (i : ℕ) (l : Listing) (p : Placed) → slice_get lists i ≡ Some l → p.part ≡ i → HasFact lists p → Contains (map (moved_by i) l.facts) p
here_out lists i l p e f h =
    let same : h.0 ≡ l = same_Some h.0 l (sym h.1 ∙ ap (slice_get lists) f ∙ e) in
    moved_in i l.facts p f (subst (λ (x : Listing). Contains x.facts (in_part 0 p)) same h.2)

pub here_in : (lists : List Listing) (i : ℕ) (l : Listing) (p : Placed) → slice_get lists i ≡ Some l → AreAtNought l.facts → Contains (map (moved_by i) l.facts) p → (p.part ≡ i) × HasFact lists p
here_in lists i l p e nought h = let m = moved_out i l.facts p nought h in (m.0, (l, ap (slice_get lists) m.0 ∙ e, m.1))

pub has_same : (old new : List Listing) (p : Placed) → slice_get new p.part ≡ slice_get old p.part → HasFact old p → HasFact new p
has_same old new p e h = (h.0, e ∙ h.1, h.2)

-- the failed facts of a part are the failed ones of its list
pub failing_of_part : (lists : List Listing) (i : ℕ) (l : Listing) (spared : Placed → Bool) (s : Scene) (failed : List Placed) → AllAtNought lists → slice_get lists i ≡ Some l
    → ListsFailing (facts_from 0 lists) spared s failed → ListsFailing (map (moved_by i) l.facts) spared s (filter (is_of_part i) failed)
failing_of_part lists i l spared s failed nought e h = record {
  once = distinct_filter (is_of_part i) failed h.once;
  each = λ p. (
    λ c. let f = filter-sound (is_of_part i) failed p c in
        let same : p.part ≡ i = same_part p f.1 in
        let k = (h.each p).0 f.0 in
        (here_out lists i l p e same (has_fact lists p nought k.0), k.1, k.2),
    λ k. let m = here_in lists i l p e (nought i l e) k.0 in
        filter-complete (is_of_part i) failed p ((h.each p).1 (fact_there lists p m.1, k.1, k.2)) (of_part p m.0),
  );
}
  where
    same_part : (p : Placed) → is_of_part i p ≡ true → p.part ≡ i
    same_part p f = grind (arith, nat_tests, f)

    of_part : (p : Placed) → p.part ≡ i → is_of_part i p ≡ true
    of_part p f = grind (arith, nat_tests, f)

-- in a part below i one family has the fact and the other has not
abbrev pub IsOnlyIn : List Listing → List Listing → ℕ → Placed → Type 0
IsOnlyIn as' bs i p = (p.part < i) × HasFact as' p × ¬ (HasFact bs p)

-- the list i of both families is told of: the first i and then this one make the first i + 1
module _ (as' as'' bs bs' : List Listing) (i : ℕ) (a b : Listing) (a_same : (k : ℕ) → k ≢ i → slice_get as'' k ≡ slice_get as' k) (b_same : (k : ℕ) → k ≢ i → slice_get bs' k ≡ slice_get bs k)
    (a_here : slice_get as'' i ≡ Some a) (b_here : slice_get bs' i ≡ Some b) (a_nought : AreAtNought a.facts) (b_nought : AreAtNought b.facts) where
  below_not : (p : Placed) → p.part < i → p.part ≢ i
  below_not p h e = omega (arith, h, e)

  to : (p : Placed) → IsOnlyIn as' bs i p ⊎ (Contains (map (moved_by i) a.facts) p × ¬ (Contains (map (moved_by i) b.facts) p)) → IsOnlyIn as'' bs' (i + 1) p
  to p (inl h) =
      let n = below_not p h.0 in
      let l = h.0 in
      (omega (arith, l), has_same as' as'' p (a_same p.part n) h.1, λ k. h.2 (has_same bs' bs p (sym (b_same p.part n)) k))
  to p (inr h) =
      let m = here_in as'' i a p a_here a_nought h.0 in
      let e = m.0 in
      (omega (arith, e), m.1, λ k. h.1 (here_out bs' i b p b_here m.0 k))

  from : (p : Placed) → IsOnlyIn as'' bs' (i + 1) p → (p.part ≡ i) ⊎ (p.part ≢ i) → IsOnlyIn as' bs i p ⊎ (Contains (map (moved_by i) a.facts) p × ¬ (Contains (map (moved_by i) b.facts) p))
  from p h (inl e) = inr (here_out as'' i a p a_here e h.1, λ k. h.2 (here_in bs' i b p b_here b_nought k).1)
  from p h (inr n) =
      let l = h.0 in
      inl (omega (arith, l, n), has_same as'' as' p (sym (a_same p.part n)) h.1, λ k. h.2 (has_same bs bs' p (b_same p.part n) k))

  apart : (p : Placed) → IsOnlyIn as' bs i p → Contains (map (moved_by i) a.facts) p × ¬ (Contains (map (moved_by i) b.facts) p) → ⊥
  apart p h k = below_not p h.0 (here_in as'' i a p a_here a_nought k.0).0

  pub gained_more : (x y z : List Placed) → HasGained x y (IsOnlyIn as' bs i) → HasGained y z (λ p. Contains (map (moved_by i) a.facts) p × ¬ (Contains (map (moved_by i) b.facts) p)) → HasGained x z (IsOnlyIn as'' bs' (i + 1))
  gained_more x y z g h =
      gained_both x y z (IsOnlyIn as' bs i) (λ p. Contains (map (moved_by i) a.facts) p × ¬ (Contains (map (moved_by i) b.facts) p)) (IsOnlyIn as'' bs' (i + 1)) apart (λ p. (to p, λ k. from p k (cases_eq p.part i))) g h

-- all parts are told of
pub gained_all : (as' bs : List Listing) (x y : List Placed) (i : ℕ) → length as' ≤ i → AllAtNought as' → AllAtNought bs → HasGained x y (IsOnlyIn as' bs i) → HasGained x y (λ p. Contains (facts_from 0 as') p × ¬ (Contains (facts_from 0 bs) p))
gained_all as' bs x y i h a b g = gained_in_words x y (IsOnlyIn as' bs i) (λ p. Contains (facts_from 0 as') p × ¬ (Contains (facts_from 0 bs) p)) (λ p. (
  λ k. (fact_there as' p k.1, λ c. k.2 (has_fact bs p b c)),
  λ k. let f = has_fact as' p a k.0 in let w = part_within as' p f in (omega (arith, w, h), f, λ c. k.1 (fact_there bs p c)),
)) g
