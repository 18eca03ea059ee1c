-- A sweep finds each pair once: where the one opens while the other is open, and both meet along the other axis.
use Rattle.std.proofs.Common.{◌≡◌, ◌≢◌, ◌⊎◌, inl, inr, refl, sym, ap, ap₂, ◌∙◌, subst, arith, List, [], ◌∷◌, ◌++◌, ℕ, Bool, true, false, cond, ◌&&◌, nat_eq, nat_lt, filter}
use Rattle.std.specs.Prelude.{Contains}
use Rattle.std.proofs.lemmas.Bool.{cases_eq, both_ways, or_cases, or_left, or_right, eqb-true}
use Rattle.std.proofs.lemmas.Bool.Decides.{nat_tests}
use Rattle.kin_motion.specs.Numbers.{is_in, IsOnce}
use Rattle.kin_motion.specs.Records.{stands_before}
use Rattle.kin_motion.specs.Sets.{ListsExactly}
use Rattle.kin_motion.proofs.Members.{in_from_contains, contains_from_in, in_head, in_tail, in_cases, in_left, in_right, in_either}
use Rattle.kin_motion.proofs.SetLaws.{contains_map, contains_mapped, filter-sound, filter-complete, distinct_filter, distinct_mapped_on, apart_from_once, exactly_both, exactly_in_words, exactly_none}
use Rattle.kin_sorted.specs.Marks.{without}
use Rattle.kin_sorted.proofs.ListLaws.{is_in-without, not_in-without}
use Rattle.kin_sorted.proofs.MarkLaws.{once-push, once-without, in-without}
use Rattle.kin_motion.proofs.EndPlaces.{never_same}
use Rattle.kin_motion.proofs.OverlapLists.{both_true}
use Rattle.kin_motion.proofs.RankedOrders.{absent_first, absent_last}
use Rattle.kin_motion.specs.BoxFacts.{low_end, high_end, kind, point}
use Rattle.kin_boxes.specs.Sweeps.{pair_of, met, IsFound, IsAhead}

-- ---- pairs
pub pair_cases : (a b c d : ℕ) → pair_of a b ≡ pair_of c d → ((a ≡ c) × (b ≡ d)) ⊎ ((a ≡ d) × (b ≡ c))
pair_cases a b c d e = at (nat_lt a b) (nat_lt c d) e
  where
    at : (u v : Bool) → cond {A = ℕ × ℕ} u (a, b) (b, a) ≡ cond {A = ℕ × ℕ} v (c, d) (d, c) → ((a ≡ c) × (b ≡ d)) ⊎ ((a ≡ d) × (b ≡ c))
    at true true f = inl (ap (λ (p : ℕ × ℕ). p.0) f, ap (λ (p : ℕ × ℕ). p.1) f)
    at true false f = inr (ap (λ (p : ℕ × ℕ). p.0) f, ap (λ (p : ℕ × ℕ). p.1) f)
    at false true f = inr (ap (λ (p : ℕ × ℕ). p.1) f, ap (λ (p : ℕ × ℕ). p.0) f)
    at false false f = inl (ap (λ (p : ℕ × ℕ). p.1) f, ap (λ (p : ℕ × ℕ). p.0) f)

-- ---- ends
pub same_low : (i j : ℕ) → low_end i ≡ low_end j → i ≡ j
same_low i j e = omega (arith, e)

same_high : (i j : ℕ) → high_end i ≡ high_end j → i ≡ j
same_high i j e = omega (arith, e)

low_or_high : (e : ℕ) (b : Bool) → nat_eq (kind e) 0 ≡ b → cond {A = Type 0} b (e ≡ low_end (point e)) (e ≡ high_end (point e))
low_or_high e true h = let k : kind e ≡ 0 = eqb-true (kind e) 0 h in omega (arith, k)
low_or_high e false h = at (cases_eq (kind e) 0)
  where
    at : (kind e ≡ 0) ⊎ (kind e ≢ 0) → e ≡ high_end (point e)
    at (inl k) = absurd (both_ways _ h (let t : nat_eq (kind e) 0 ≡ true = grind (arith, nat_tests, k) in t))
    at (inr k) = omega (arith, k)

-- ---- before another in a list
pub first_there : (xs : List ℕ) (i j : ℕ) → stands_before xs i j ≡ true → is_in i xs ≡ true
first_there xs i j h = at (is_in i xs) refl
  where
    at : (b : Bool) → is_in i xs ≡ b → b ≡ true
    at true e = refl
    at false e = absurd (both_ways _ (absent_first xs i j e) h)

pub second_there : (xs : List ℕ) (i j : ℕ) → stands_before xs i j ≡ true → is_in j xs ≡ true
second_there xs i j h = at (is_in j xs) refl
  where
    at : (b : Bool) → is_in j xs ≡ b → b ≡ true
    at true e = refl
    at false e = absurd (both_ways _ (absent_last xs i j e) h)

before_more : (e : ℕ) (xs : List ℕ) (i j : ℕ) → stands_before xs i j ≡ true → stands_before (e ∷ xs) i j ≡ true
before_more e xs i j h = or_right (nat_eq e i && is_in j xs) (stands_before xs i j) h

before_cases : (e : ℕ) (xs : List ℕ) (i j : ℕ) → stands_before (e ∷ xs) i j ≡ true → ((e ≡ i) × (is_in j xs ≡ true)) ⊎ (stands_before xs i j ≡ true)
before_cases e xs i j h = at (or_cases (nat_eq e i && is_in j xs) (stands_before xs i j) h)
  where
    at : (nat_eq e i && is_in j xs ≡ true) ⊎ (stands_before xs i j ≡ true) → ((e ≡ i) × (is_in j xs ≡ true)) ⊎ (stands_before xs i j ≡ true)
    at (inl k) = let b = both_true (nat_eq e i) (is_in j xs) k in inl (eqb-true e i b.0, b.1)
    at (inr k) = inr k

pub before_first : (e : ℕ) (xs : List ℕ) (j : ℕ) → is_in j xs ≡ true → stands_before (e ∷ xs) e j ≡ true
before_first e xs j h = or_left (nat_eq e e && is_in j xs) (stands_before xs e j) (ap₂ (λ a b. a && b) (let t : nat_eq e e ≡ true = grind (arith, nat_tests) in t) h)

not_both : (e : ℕ) (xs : List ℕ) → is_in e xs ≡ false → is_in e xs ≡ true → ⊥
not_both e xs f t = both_ways _ f t

-- ---- the sweep
-- the pair of a box and an open one that it meets
pub record IsMet (meet : ℕ → ℕ → Bool) (i : ℕ) (open' : List ℕ) (p : ℕ × ℕ) : Type 0 where
  pub other : ℕ
  pub open_there : is_in other open' ≡ true
  pub meeting : meet i other ≡ true
  pub pair : p ≡ pair_of i other

-- at a low end its box is met with the open ones and opens; at a high end its box closes
abbrev pub swept : (ℕ → ℕ → Bool) → List ℕ → List ℕ → List (ℕ × ℕ)
swept meet open' [] = []
swept meet open' (e ∷ es) = cond (nat_eq (kind e) 0) (met meet (point e) open' ++ swept meet (open' ++ point e ∷ []) es)
    (swept meet (without (point e) open') es)

met_exact : (meet : ℕ → ℕ → Bool) (i : ℕ) (open' : List ℕ) → IsOnce open' → ListsExactly (met meet i open') (IsMet meet i open')
met_exact meet i open' once = record {
  once = distinct_mapped_on (pair_of i) (filter (meet i) open') (λ j k a b e. at j k (pair_cases i j i k e)) (distinct_filter (meet i) open' (apart_from_once open' once));
  each = λ p. (
    λ c. let m = contains_mapped (pair_of i) (filter (meet i) open') p c in
        let f = filter-sound (meet i) open' m.0 m.1 in
        record { other = m.0; open_there = in_from_contains open' m.0 f.0; meeting = f.1; pair = m.2 },
    λ m. subst (Contains (met meet i open')) (sym m.pair) (contains_map (pair_of i) (filter (meet i) open') m.other
        (filter-complete (meet i) open' m.other (contains_from_in open' m.other m.open_there) m.meeting)),
  );
}
  where
    at : (j k : ℕ) → ((i ≡ i) × (j ≡ k)) ⊎ ((i ≡ k) × (j ≡ i)) → j ≡ k
    at j k (inl e) = e.1
    at j k (inr e) = e.1 ∙ e.0

module _ (meet : ℕ → ℕ → Bool) (i : ℕ) (open' es : List ℕ) where
  -- ---- at a low end
  module _ (ahead : IsAhead open' (low_end i ∷ es)) where
    not_open : is_in i open' ≡ false
    not_open = at (is_in i open') refl
      where
        at : (b : Bool) → is_in i open' ≡ b → b ≡ false
        at false e = refl
        at true e = absurd (both_ways _ (ahead.no_low i e) (in_head (low_end i) es))

    still_both : (j : ℕ) → is_in (low_end j) es ≡ true → stands_before es (low_end j) (high_end j) ≡ true
    still_both j h = at (before_cases (low_end i) es (low_end j) (high_end j) (ahead.both j (in_tail (low_end j) (low_end i) es h)))
      where
        at : ((low_end i ≡ low_end j) × (is_in (high_end j) es ≡ true)) ⊎ (stands_before es (low_end j) (high_end j) ≡ true) → stands_before es (low_end j) (high_end j) ≡ true
        at (inl e) = absurd (not_both (low_end i) es ahead.once.0 (ap (λ n. is_in n es) e.0 ∙ h))
        at (inr k) = k

    high_behind : (j : ℕ) → is_in (high_end j) (low_end i ∷ es) ≡ true → is_in (high_end j) es ≡ true
    high_behind j h = at (in_cases (high_end j) (low_end i) es h)
      where
        at : (high_end j ≡ low_end i) ⊎ (is_in (high_end j) es ≡ true) → is_in (high_end j) es ≡ true
        at (inl e) = absurd (never_same i j (sym e))
        at (inr k) = k

    own_high : is_in (high_end i) es ≡ true
    own_high = high_behind i (second_there (low_end i ∷ es) (low_end i) (high_end i) (ahead.both i (in_head (low_end i) es)))

    pushed : (j : ℕ) → is_in j (open' ++ i ∷ []) ≡ true → (is_in j open' ≡ true) ⊎ (j ≡ i)
    pushed j h = at (in_either j open' (i ∷ []) h)
      where
        only : (j ≡ i) ⊎ (is_in j [] ≡ true) → j ≡ i
        only (inl e) = e
        only (inr k) = absurd cc

        at : (is_in j open' ≡ true) ⊎ (is_in j (i ∷ []) ≡ true) → (is_in j open' ≡ true) ⊎ (j ≡ i)
        at (inl k) = inl k
        at (inr k) = inr (only (in_cases j i [] k))

    pub ahead_low : IsAhead (open' ++ i ∷ []) es
    ahead_low = record {
      once = ahead.once.1;
      open_once = once-push i open' ahead.open_once not_open;
      no_low = λ j h. no_low' j (pushed j h);
      high = λ j h. high' j (pushed j h);
      both = still_both;
    }
      where
        no_low' : (j : ℕ) → (is_in j open' ≡ true) ⊎ (j ≡ i) → is_in (low_end j) es ≡ false
        no_low' j (inl k) = at (is_in (low_end j) es) refl
          where
            at : (b : Bool) → is_in (low_end j) es ≡ b → b ≡ false
            at false e = refl
            at true e = absurd (both_ways _ (ahead.no_low j k) (in_tail (low_end j) (low_end i) es e))
        no_low' j (inr e) = ap (λ n. is_in (low_end n) es) e ∙ ahead.once.0

        high' : (j : ℕ) → (is_in j open' ≡ true) ⊎ (j ≡ i) → is_in (high_end j) es ≡ true
        high' j (inl k) = high_behind j (ahead.high j k)
        high' j (inr e) = ap (λ n. is_in (high_end n) es) e ∙ own_high

    apart : (p : ℕ × ℕ) → IsMet meet i open' p → IsFound meet (open' ++ i ∷ []) es p → ⊥
    apart p m f = at (pair_cases i m.other f.later f.earlier (sym m.pair ∙ f.pair))
      where
        there : is_in (low_end f.later) es ≡ true
        there = first_there es (low_end f.later) (high_end f.earlier) f.not_closed

        at : ((i ≡ f.later) × (m.other ≡ f.earlier)) ⊎ ((i ≡ f.earlier) × (m.other ≡ f.later)) → ⊥
        at (inl e) = not_both (low_end i) es ahead.once.0 (ap (λ n. is_in (low_end n) es) e.0 ∙ there)
        at (inr e) = both_ways _ (ahead.no_low m.other m.open_there) (in_tail (low_end m.other) (low_end i) es (ap (λ n. is_in (low_end n) es) e.1 ∙ there))

    forth : (p : ℕ × ℕ) → IsMet meet i open' p ⊎ IsFound meet (open' ++ i ∷ []) es p → IsFound meet open' (low_end i ∷ es) p
    forth p (inl m) = record {
      later = i;
      earlier = m.other;
      opened = inl m.open_there;
      not_closed = before_first (low_end i) es (high_end m.other)
          (high_behind m.other (ahead.high m.other m.open_there));
      meeting = m.meeting;
      pair = m.pair;
    }
    forth p (inr f) = record {
      later = f.later;
      earlier = f.earlier;
      opened = at f.opened;
      not_closed = before_more (low_end i) es (low_end f.later)
          (high_end f.earlier) f.not_closed;
      meeting = f.meeting;
      pair = f.pair;
    }
      where
        there : is_in (low_end f.later) es ≡ true
        there = first_there es (low_end f.later) (high_end f.earlier) f.not_closed

        sooner : (is_in f.earlier open' ≡ true) ⊎ (f.earlier ≡ i) → (is_in f.earlier open' ≡ true) ⊎ (stands_before (low_end i ∷ es) (low_end f.earlier) (low_end f.later) ≡ true)
        sooner (inl k) = inl k
        sooner (inr e) = inr (ap (λ n. stands_before (low_end i ∷ es) (low_end n) (low_end f.later)) e ∙ before_first (low_end i) es (low_end f.later) there)

        at : (is_in f.earlier (open' ++ i ∷ []) ≡ true) ⊎ (stands_before es (low_end f.earlier) (low_end f.later) ≡ true)
            → (is_in f.earlier open' ≡ true) ⊎ (stands_before (low_end i ∷ es) (low_end f.earlier) (low_end f.later) ≡ true)
        at (inl k) = sooner (pushed f.earlier k)
        at (inr k) = inr (before_more (low_end i) es (low_end f.earlier) (low_end f.later) k)

    back : (p : ℕ × ℕ) → IsFound meet open' (low_end i ∷ es) p → IsMet meet i open' p ⊎ IsFound meet (open' ++ i ∷ []) es p
    back p f = at (before_cases (low_end i) es (low_end f.later) (high_end f.earlier) f.not_closed)
      where
        here : low_end i ≡ low_end f.later → (is_in f.earlier open' ≡ true) ⊎ (stands_before (low_end i ∷ es) (low_end f.earlier) (low_end f.later) ≡ true) → IsMet meet i open' p
        here e (inl k) =
            let s = same_low i f.later e in
            record { other = f.earlier; open_there = k; meeting = ap (λ n. meet n f.earlier) s ∙ f.meeting; pair = f.pair ∙ ap (λ n. pair_of n f.earlier) (sym s) }
        here e (inr k) = absurd (not_both (low_end i) es ahead.once.0 (ap (λ n. is_in n es) e ∙ later (before_cases (low_end i) es (low_end f.earlier) (low_end f.later) k)))
          where
            later : ((low_end i ≡ low_end f.earlier) × (is_in (low_end f.later) es ≡ true)) ⊎ (stands_before es (low_end f.earlier) (low_end f.later) ≡ true) → is_in (low_end f.later) es ≡ true
            later (inl c) = c.1
            later (inr c) = second_there es (low_end f.earlier) (low_end f.later) c

        opened : (is_in f.earlier open' ≡ true) ⊎ (stands_before (low_end i ∷ es) (low_end f.earlier) (low_end f.later) ≡ true)
            → (is_in f.earlier (open' ++ i ∷ []) ≡ true) ⊎ (stands_before es (low_end f.earlier) (low_end f.later) ≡ true)
        opened (inl k) = inl (in_left f.earlier open' (i ∷ []) k)
        opened (inr k) = sooner (before_cases (low_end i) es (low_end f.earlier) (low_end f.later) k)
          where
            sooner : ((low_end i ≡ low_end f.earlier) × (is_in (low_end f.later) es ≡ true)) ⊎ (stands_before es (low_end f.earlier) (low_end f.later) ≡ true)
                → (is_in f.earlier (open' ++ i ∷ []) ≡ true) ⊎ (stands_before es (low_end f.earlier) (low_end f.later) ≡ true)
            sooner (inl c) = inl (in_right f.earlier open' (i ∷ []) (ap (λ n. is_in n (i ∷ [])) (sym (same_low i f.earlier c.0)) ∙ in_head i []))
            sooner (inr c) = inr c

        at : ((low_end i ≡ low_end f.later) × (is_in (high_end f.earlier) es ≡ true)) ⊎ (stands_before es (low_end f.later) (high_end f.earlier) ≡ true)
            → IsMet meet i open' p ⊎ IsFound meet (open' ++ i ∷ []) es p
        at (inl c) = inl (here c.0 f.opened)
        at (inr c) = inr (record { later = f.later; earlier = f.earlier; opened = opened f.opened; not_closed = c; meeting = f.meeting; pair = f.pair })

    pub low_exact : ListsExactly (swept meet (open' ++ i ∷ []) es) (IsFound meet (open' ++ i ∷ []) es)
        → ListsExactly (met meet i open' ++ swept meet (open' ++ i ∷ []) es) (IsFound meet open' (low_end i ∷ es))
    low_exact rest =
        exactly_in_words (met meet i open' ++ swept meet (open' ++ i ∷ []) es) _ _ (λ p. (forth p, back p))
        (exactly_both (met meet i open') (swept meet (open' ++ i ∷ []) es) (IsMet meet i open') (IsFound meet (open' ++ i ∷ []) es) (met_exact meet i open' ahead.open_once) rest apart)

  -- ---- at a high end
  module _ (ahead : IsAhead open' (high_end i ∷ es)) where
    past : (j k : ℕ) → stands_before (high_end i ∷ es) (low_end j) k ≡ true → stands_before es (low_end j) k ≡ true
    past j k h = at (before_cases (high_end i) es (low_end j) k h)
      where
        at : ((high_end i ≡ low_end j) × (is_in k es ≡ true)) ⊎ (stands_before es (low_end j) k ≡ true) → stands_before es (low_end j) k ≡ true
        at (inl c) = absurd (never_same j i (sym c.0))
        at (inr c) = c

    pub ahead_high : IsAhead (without i open') es
    ahead_high = record {
      once = ahead.once.1;
      open_once = once-without i open' ahead.open_once;
      no_low = λ j h. no_low' j (in-without j i open' h);
      high = λ j h. high' j h (in_cases (high_end j) (high_end i) es (ahead.high j (in-without j i open' h)));
      both = λ j h. past j (high_end j) (ahead.both j (in_tail (low_end j) (high_end i) es h));
    }
      where
        no_low' : (j : ℕ) → is_in j open' ≡ true → is_in (low_end j) es ≡ false
        no_low' j k = at (is_in (low_end j) es) refl
          where
            at : (b : Bool) → is_in (low_end j) es ≡ b → b ≡ false
            at false e = refl
            at true e = absurd (both_ways _ (ahead.no_low j k) (in_tail (low_end j) (high_end i) es e))

        high' : (j : ℕ) → is_in j (without i open') ≡ true → (high_end j ≡ high_end i) ⊎ (is_in (high_end j) es ≡ true) → is_in (high_end j) es ≡ true
        high' j h (inl e) = absurd (both_ways _ (not_in-without i open') (ap (λ n. is_in n (without i open')) (sym (same_high j i e)) ∙ h))
        high' j h (inr k) = k

    closed : (p : ℕ × ℕ) → IsFound meet (without i open') es p → IsFound meet open' (high_end i ∷ es) p
    closed p f = record {
      later = f.later;
      earlier = f.earlier;
      opened = at f.opened;
      not_closed = before_more (high_end i) es (low_end f.later)
          (high_end f.earlier) f.not_closed;
      meeting = f.meeting;
      pair = f.pair;
    }
      where
        at : (is_in f.earlier (without i open') ≡ true) ⊎ (stands_before es (low_end f.earlier) (low_end f.later) ≡ true)
            → (is_in f.earlier open' ≡ true) ⊎ (stands_before (high_end i ∷ es) (low_end f.earlier) (low_end f.later) ≡ true)
        at (inl k) = inl (in-without f.earlier i open' k)
        at (inr k) = inr (before_more (high_end i) es (low_end f.earlier) (low_end f.later) k)

    kept : (p : ℕ × ℕ) → IsFound meet open' (high_end i ∷ es) p → IsFound meet (without i open') es p
    kept p f = record { later = f.later; earlier = f.earlier; opened = at f.opened; not_closed = ahead_there; meeting = f.meeting; pair = f.pair }
      where
        ahead_there : stands_before es (low_end f.later) (high_end f.earlier) ≡ true
        ahead_there = past f.later (high_end f.earlier) f.not_closed

        other : f.earlier ≡ i → ⊥
        other e = not_both (high_end i) es ahead.once.0 (ap (λ n. is_in (high_end n) es) (sym e) ∙ second_there es (low_end f.later) (high_end f.earlier) ahead_there)

        at : (is_in f.earlier open' ≡ true) ⊎ (stands_before (high_end i ∷ es) (low_end f.earlier) (low_end f.later) ≡ true)
            → (is_in f.earlier (without i open') ≡ true) ⊎ (stands_before es (low_end f.earlier) (low_end f.later) ≡ true)
        at (inl k) = inl (is_in-without f.earlier i open' other ∙ k)
        at (inr k) = inr (past f.earlier (low_end f.later) k)

    pub high_exact : ListsExactly (swept meet (without i open') es) (IsFound meet (without i open') es) → ListsExactly (swept meet (without i open') es) (IsFound meet open' (high_end i ∷ es))
    high_exact rest = exactly_in_words (swept meet (without i open') es) _ _ (λ p. (closed p, kept p)) rest

-- the sweep finds exactly these, each once
pub swept_exact : (meet : ℕ → ℕ → Bool) (open' es : List ℕ) → IsAhead open' es → ListsExactly (swept meet open' es) (IsFound meet open' es)
swept_exact meet open' [] ahead = exactly_none (IsFound meet open' []) (λ p f. let none : false ≡ true = f.not_closed in cc)
swept_exact meet open' (e ∷ es) ahead = at (nat_eq (kind e) 0) (low_or_high e (nat_eq (kind e) 0) refl) (swept_exact meet (open' ++ point e ∷ []) es) (swept_exact meet (without (point e) open') es)
  where
    at : (b : Bool) → cond {A = Type 0} b (e ≡ low_end (point e)) (e ≡ high_end (point e))
        → (IsAhead (open' ++ point e ∷ []) es → ListsExactly (swept meet (open' ++ point e ∷ []) es) (IsFound meet (open' ++ point e ∷ []) es))
        → (IsAhead (without (point e) open') es → ListsExactly (swept meet (without (point e) open') es) (IsFound meet (without (point e) open') es))
        → ListsExactly (cond b (met meet (point e) open' ++ swept meet (open' ++ point e ∷ []) es) (swept meet (without (point e) open') es)) (IsFound meet open' (e ∷ es))
    at true f opens closes =
        let ahead' = subst (λ n. IsAhead open' (n ∷ es)) f ahead in
        subst (λ n. ListsExactly (met meet (point e) open' ++ swept meet (open' ++ point e ∷ []) es) (IsFound meet open' (n ∷ es))) (sym f)
        (low_exact meet (point e) open' es ahead' (opens (ahead_low meet (point e) open' es ahead')))
    at false f opens closes =
        let ahead' = subst (λ n. IsAhead open' (n ∷ es)) f ahead in
        subst (λ n. ListsExactly (swept meet (without (point e) open') es) (IsFound meet open' (n ∷ es))) (sym f)
        (high_exact meet (point e) open' es ahead' (closes (ahead_high meet (point e) open' es ahead')))
