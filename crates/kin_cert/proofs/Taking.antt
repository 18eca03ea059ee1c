-- All facts of the least failure moment are given out, in the journal's order or in any.
use Rattle.std.proofs.Common.{◌≡◌, ◌≢◌, ℕ, zero, suc, [], ◌∷◌, map, ◌<◌, true, false, ℤ, List, length, get_or, Some, IsTrue, refl, sym, ap, subst, ◌∙◌, arith}
use Rattle.std.specs.List.{Contains, AllPairs}
use Rattle.std.specs.List.Sorted.{IsPermutation, IsSortedByKey}
use Rattle.std.specs.Cmp.Lexicographic.{slice_cmp}
use Rattle.std.specs.Ordering.{int_cmp}
use Rattle.std.proofs.lemmas.Cmp.{int_eq_equiv, lists_equiv}
use Rattle.std.proofs.lemmas.List.Sorted.{Contains-permutation, IsPermutation-sym, IsPermutation-map}
use Rattle.std.proofs.lemmas.Map.Keys.{IsDistinct-IsPermutation}
use Rattle.std.proofs.lemmas.Map.Made.{AllPairs-from_IsDistinct, IsDistinct-from_AllPairs}
use Rattle.std.specs.Bool.{Decides}
use Rattle.kin_cert.proofs.Changes.{some-element}
use Rattle.kin_num.specs.declared.instant.Moment.{Moment}
use Rattle.kin_motion.specs.Live.{Certificate}
use Rattle.kin_fail.specs.declared.owned.Owned.{Owned}
use Rattle.kin_fail.specs.Blocks.{certificate_of}
use Rattle.kin_cert.specs.Facts.{LiveFact}
use Rattle.kin_motion.specs.Numbers.{IsChain}
use Rattle.kin_cert.specs.Taken.{IsLeastFailure, IsMarked, HasTaken, HasGivenOut, is_taken_before}
use Rattle.kin_fail.specs.Rank.{is_rank, owned_rank}
use Rattle.kin_cert.specs.Layout.{IsDueAt, IsGivenUpTo}
use Rattle.kin_fail.proofs.Ranks.{rank_same, rank_itself}
use Rattle.kin_cert.proofs.Sorted.{sorted-chain}
use Rattle.kin_cert.proofs.InOrder.{in_order, apart_distinct}

-- the owned fact is told by its certificate
same_owned : (o p : Owned) → certificate_of o ≡ certificate_of p → o ≡ p
same_owned o p e = ap (λ (c : Certificate). record { structure = c.structure; part = c.placed.part; fact = c.placed.fact }) e

rank_decides : (a b : List ℤ) → Decides (is_rank a b) (a ≡ b)
rank_decides a b = (rank_same a b, λ e. subst (λ (x : List ℤ). is_rank a x ≡ true) e (rank_itself a))

-- the rank of an element
rank_at : (xs : List Owned) (i : ℕ) (d : List ℤ) (e : Owned) → i < length xs → get_or (map owned_rank xs) i d ≡ owned_rank (get_or xs i e)
rank_at [] i d e lt = absurd (omega (arith, lt))
rank_at (x ∷ xs) zero d e lt = refl
rank_at (x ∷ xs) (suc i) d e lt = rank_at xs i d e (omega (arith, lt))

ranks_length : (xs : List Owned) → length (map owned_rank xs) ≡ length xs
ranks_length [] = refl
ranks_length (x ∷ xs) = ap suc (ranks_length xs)

apart-permuted : (xs ys : List Owned) → IsPermutation xs ys → AllPairs (λ o p. owned_rank o ≢ owned_rank p) xs → AllPairs (λ o p. owned_rank o ≢ owned_rank p) ys
apart-permuted xs ys perm a =
    let ranks : AllPairs (λ (r q : List ℤ). r ≢ q) (map owned_rank xs) = λ i j d lt within same.
    let in_xs : j < length xs = omega (arith, within, ranks_length xs) in
    let e = some-element xs j in_xs in
    a i j e lt in_xs (sym (rank_at xs i d e (omega (arith, lt, in_xs))) ∙ same ∙ rank_at xs j d e in_xs) in
    let moved = AllPairs-from_IsDistinct rank_decides (map owned_rank ys)
    (IsDistinct-IsPermutation is_rank (lists_equiv int_eq_equiv).symm (map owned_rank xs) (map owned_rank ys) (IsPermutation-map owned_rank xs ys perm)
    (IsDistinct-from_AllPairs rank_decides (map owned_rank xs) ranks)) in
    λ i j d lt within same.
    let in_map : j < length (map owned_rank ys) = omega (arith, within, ranks_length ys) in
    moved i j (owned_rank d) lt in_map (rank_at ys i (owned_rank d) d (omega (arith, lt, within)) ∙ same ∙ sym (rank_at ys j (owned_rank d) d within))

module _ (m : Moment) (old new : List LiveFact) (given : List Owned) (least : IsLeastFailure old m) (up : IsGivenUpTo m old new given)
    (none_due : (l : LiveFact) → Contains new l → ¬ (IsDueAt l m)) (count : length new ≡ length old) where
  -- a fact that fails at the moment waits
  waits : (k : LiveFact) → Contains new k → k.fails ≡ Some m → IsTrue k.waits
  waits k c f =
      elim k.waits as (λ b. k.waits ≡ b → IsTrue b) [
        | true ↦ λ w. refl
        | false ↦ λ w. absurd (none_due k c (record { fails = f; waits_not = w }))
      ] refl

  marked : (l k : LiveFact) → Contains new k → k.certificate ≡ l.certificate → k.fails ≡ l.fails → IsMarked m l k
  marked l k c e f =
      record {
        certificate = e;
        fails = f;
        waits = ((λ w. sym f ∙ up.at_moment k c w), (λ h. waits k c (f ∙ h)));
      }

  -- the facts that were given, once they stand in the journal's order
  ordered-taken : (taken : List Owned) → IsPermutation given taken → IsChain is_taken_before taken → HasTaken old new taken
  ordered-taken taken perm chain =
      record {
        moment = m;
        least = least;
        each = λ o. (to o, from o);
        in_order = chain;
        stays = λ l c. let s = up.stays l c in (s.0, s.1, marked l s.0 s.1 s.2 s.3);
        only = λ k c. let s = up.only k c in (s.0, s.1, marked s.0 k c s.2 s.3);
        count = count;
      }
    where
      to : (o : Owned) → Contains taken o → (l : LiveFact) × Contains old l × (l.fails ≡ Some m) × (l.certificate ≡ certificate_of o)
      to o c =
          let g = up.given o (Contains-permutation taken given o (IsPermutation-sym given taken perm) c) in
          let s = up.only g.0 g.1 in
          (s.0, s.1, sym s.3 ∙ up.at_moment g.0 g.1 g.2, sym s.2 ∙ g.3)

      from : (o : Owned) → (l : LiveFact) × Contains old l × (l.fails ≡ Some m) × (l.certificate ≡ certificate_of o) → Contains taken o
      from o (l, c, f, e) =
          let s = up.stays l c in
          let w = waits s.0 s.1 (s.3 ∙ f) in
          let p = up.each s.0 s.1 w in
          let same : p.0 ≡ o = same_owned p.0 o (sym p.2 ∙ s.2 ∙ e) in
          Contains-permutation given taken o perm (subst (λ (x : Owned). Contains given x) same p.1)

  pub has-taken : (taken : List Owned) → IsPermutation given taken → IsSortedByKey owned_rank (slice_cmp int_cmp) taken → HasTaken old new taken
  has-taken taken perm sorted = ordered-taken taken perm (sorted-chain taken sorted (apart-permuted given taken perm up.once))

  pub has-given_out : HasGivenOut old new given
  has-given_out =
      let listed = in_order given up.once in
      record { taken = listed.0; has_taken = ordered-taken listed.0 listed.1 listed.2; reordered = listed.1; once = apart_distinct given up.once }
