-- Facts that no owner's form is told of twice can be brought into the journal's order.
use Rattle.std.proofs.Common.{◌≡◌, ◌≢◌, suc, Bool, true, false, cond, List, [], ◌∷◌, Ordering, Less, Equal, Greater, refl, sym, ap, subst, ◌∙◌, arith}
use Rattle.std.specs.Prelude.{Contains}
use Rattle.std.specs.List.{AllPairs}
use Rattle.std.specs.List.Sorted.{IsPermutation}
use Rattle.std.specs.Ordering.{int_cmp, ordering_reverse}
use Rattle.std.specs.Cmp.Lexicographic.{slice_cmp}
use Rattle.std.proofs.lemmas.Cmp.{int_cmp_total, lists_total}
use Rattle.std.proofs.lemmas.List.Sorted.{IsPermutation-refl, IsPermutation-cons, IsPermutation-trans, IsPermutation-sym, IsPermutation-middle, Contains-permutation}
use Rattle.kin_algebra.proofs.Members.{contains_head, contains_tail}
use Rattle.kin_motion.specs.Numbers.{IsChain}
use Rattle.kin_motion.specs.Sets.{AreDistinct}
use Rattle.kin_motion.proofs.SetLaws.{distinct_none, distinct_cons}
use Rattle.kin_fail.specs.declared.owned.Owned.{Owned}
use Rattle.kin_cert.specs.Taken.{is_taken_before}
use Rattle.kin_fail.specs.Rank.{owned_rank}
use Rattle.kin_cert.proofs.Sorted.{listed, equal_ranks}

abbrev Apart : Owned → Owned → Type 0
Apart o p = owned_rank o ≢ owned_rank p

before : (o p : Owned) → slice_cmp int_cmp (owned_rank o) (owned_rank p) ≡ Less → is_taken_before o p ≡ true
before o p h = listed o.structure o.part o.fact.form p.structure p.part p.fact.form h

-- of two facts apart one comes before the other
one_comes_before : (o p : Owned) → Apart o p → is_taken_before o p ≡ false → is_taken_before p o ≡ true
one_comes_before o p apart not = at (slice_cmp int_cmp (owned_rank o) (owned_rank p)) refl
  where
    at : (c : Ordering) → slice_cmp int_cmp (owned_rank o) (owned_rank p) ≡ c → is_taken_before p o ≡ true
    at Less e = let clash : true ≡ false = sym (before o p e) ∙ not in absurd cc
    at Equal e = absurd (apart (equal_ranks (owned_rank o) (owned_rank p) e))
    at Greater e = before p o ((lists_total int_cmp_total).antisymm (owned_rank p) (owned_rank o) ∙ ap ordering_reverse e)

-- each comes before all those behind it
abbrev put_in : Owned → List Owned → List Owned
put_in o [] = o ∷ []
put_in o (p ∷ ps) = cond (is_taken_before o p) (o ∷ p ∷ ps) (p ∷ put_in o ps)

put_in-same : (o : Owned) (ps : List Owned) → IsPermutation (o ∷ ps) (put_in o ps)
put_in-same o [] = IsPermutation-refl (o ∷ [])
put_in-same o (p ∷ ps) = at (put_in-same o ps) (is_taken_before o p)
  where
    at : IsPermutation (o ∷ ps) (put_in o ps) → (b : Bool) → IsPermutation (o ∷ p ∷ ps) (cond b (o ∷ p ∷ ps) (p ∷ put_in o ps))
    at rest true = IsPermutation-refl (o ∷ p ∷ ps)
    at rest false = IsPermutation-trans (o ∷ p ∷ ps) (p ∷ o ∷ ps) (p ∷ put_in o ps)
        (IsPermutation-sym (p ∷ o ∷ ps) (o ∷ p ∷ ps) (IsPermutation-middle (p ∷ []) o ps))
        (IsPermutation-cons p (o ∷ ps) (put_in o ps) rest)

put_in-chain : (o : Owned) (ps : List Owned) → ((p : Owned) → Contains ps p → Apart o p) → IsChain is_taken_before ps → IsChain is_taken_before (put_in o ps)
put_in-chain o [] apart c = tt
put_in-chain o (p ∷ []) apart c = at (is_taken_before o p) refl
  where
    at : (b : Bool) → is_taken_before o p ≡ b → IsChain is_taken_before (cond b (o ∷ p ∷ []) (p ∷ o ∷ []))
    at true e = (e, tt)
    at false e = (one_comes_before o p (apart p (contains_head p [])) e, tt)
put_in-chain o (p ∷ q ∷ ps) apart c = at (is_taken_before o p) refl (is_taken_before o q) refl (put_in-chain o (q ∷ ps) (λ r h. apart r (contains_tail p r (q ∷ ps) h)) c.1)
  where
    at : (b : Bool) → is_taken_before o p ≡ b → (d : Bool) → is_taken_before o q ≡ d → IsChain is_taken_before (cond d (o ∷ q ∷ ps) (q ∷ put_in o ps))
        → IsChain is_taken_before (cond b (o ∷ p ∷ q ∷ ps) (p ∷ cond d (o ∷ q ∷ ps) (q ∷ put_in o ps)))
    at true e d f r = (e, c)
    at false e true f r = (one_comes_before o p (apart p (contains_head p (q ∷ ps))) e, r)
    at false e false f r = (c.0, r)

-- the first is apart from all behind it
first_apart : (o : Owned) (ps : List Owned) → AllPairs Apart (o ∷ ps) → (p : Owned) → Contains ps p → Apart o p
first_apart o ps a p (k, low, is) = subst (λ (q : Owned). Apart o q) is (a 0 (suc k) p (omega arith) (omega (arith, low)))

rest_apart : (o : Owned) (ps : List Owned) → AllPairs Apart (o ∷ ps) → AllPairs Apart ps
rest_apart o ps a i j d lt within = a (suc i) (suc j) d (omega (arith, lt)) (omega (arith, within))

pub apart_distinct : (ps : List Owned) → AllPairs Apart ps → AreDistinct ps
apart_distinct [] a = distinct_none
apart_distinct (o ∷ ps) a = distinct_cons o ps (λ h. first_apart o ps a o h refl) (apart_distinct ps (rest_apart o ps a))

-- the same facts in the journal's order
pub in_order : (ps : List Owned) → AllPairs Apart ps → (qs : List Owned) × IsPermutation ps qs × IsChain is_taken_before qs
in_order [] a = ([], IsPermutation-refl [], tt)
in_order (o ∷ ps) a =
    let rest = in_order ps (rest_apart o ps a) in
    let qs = rest.0 in (
      put_in o qs,
      IsPermutation-trans (o ∷ ps) (o ∷ qs) (put_in o qs) (IsPermutation-cons o ps qs rest.1) (put_in-same o qs),
      put_in-chain o qs (λ p h. first_apart o ps a p (Contains-permutation qs ps p (IsPermutation-sym ps qs rest.1) h)) rest.2,
    )
