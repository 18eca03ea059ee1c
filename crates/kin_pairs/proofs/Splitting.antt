-- The failed facts of both halves: those of the first parts, and those of the tournament in its own parts.
use Rattle.std.proofs.Common.{◌≡◌, ◌⊎◌, inl, inr, refl, sym, ap, ◌∙◌, subst, arith, List, ◌++◌, ℕ, ◌+◌, ◌-◌, ◌<◌, ◌≤◌, Bool, true, false, not, nat_lt, map, filter}
use Rattle.std.specs.Prelude.{Contains}
use Rattle.std.proofs.lemmas.Bool.Decides.{nat_tests}
use Rattle.std.proofs.lemmas.List.Elements.{Contains-append_left, Contains-append_right, Contains-append_cases}
use Rattle.kin_motion.specs.declared.fact.Placed.{Placed}
use Rattle.kin_motion.specs.Forms.{IsAskable}
use Rattle.kin_motion.specs.Kinetics.{ListsFailing}
use Rattle.kin_motion.specs.Parts.{moved_by}
use Rattle.kin_motion.specs.Scene.{Scene}
use Rattle.kin_motion.proofs.SetLaws.{contains_map, contains_mapped, filter-sound, filter-complete, distinct_filter}
use Rattle.kin_tourney.specs.Tournament.{CoversAskable}
use Rattle.kin_pairs.specs.Sorting.{is_before, is_beyond, taken_back}

module _ (n : ℕ) where
  low_part : (p : Placed) → p.part < n → is_before n p ≡ true
  low_part p h = grind (arith, nat_tests, h)

  part_low : (p : Placed) → is_before n p ≡ true → p.part < n
  part_low p e = grind (arith, nat_tests, e)

  pub high_part : (p : Placed) → n ≤ p.part → is_beyond n p ≡ true
  high_part p h = let e : nat_lt p.part n ≡ false = grind (arith, nat_tests, h) in ap not e

  part_high : (p : Placed) → is_beyond n p ≡ true → n ≤ p.part
  part_high p e = at (nat_lt p.part n) refl e
    where
      at : (t : Bool) → nat_lt p.part n ≡ t → not t ≡ true → n ≤ p.part
      at true f g = absurd cc
      at false f g = grind (arith, nat_tests, f)

  there_and_back : (x : Placed) → taken_back n (moved_by n x) ≡ x
  there_and_back x = let e : n + x.part - n ≡ x.part = omega arith in λ t. record { part = e t; fact = x.fact }

  module _ (is_spared : Placed → Bool) (s : Scene) (others pairs failed : List Placed) (low : (p : Placed) → Contains others p → p.part < n)
      (failing : ListsFailing (others ++ map (moved_by n) pairs) is_spared s failed) where
    -- a fact below part n is of the first parts
    of_others : (p : Placed) → p.part < n → Contains (others ++ map (moved_by n) pairs) p → Contains others p
    of_others p h there = at (Contains-append_cases others (map (moved_by n) pairs) p there)
      where
        at : Contains others p ⊎ Contains (map (moved_by n) pairs) p → Contains others p
        at (inl c) = c
        at (inr c) = let m = contains_mapped (moved_by n) pairs p c in absurd (let e : p.part ≡ n + m.0.part = ap (λ (q : Placed). q.part) m.2 in omega (arith, h, e))

    -- and one from part n on is of the tournament
    of_pairs : (p : Placed) → n ≤ p.part → Contains (others ++ map (moved_by n) pairs) p → (x : Placed) × Contains pairs x × (p ≡ moved_by n x)
    of_pairs p h there = at (Contains-append_cases others (map (moved_by n) pairs) p there)
      where
        at : Contains others p ⊎ Contains (map (moved_by n) pairs) p → (x : Placed) × Contains pairs x × (p ≡ moved_by n x)
        at (inl c) = absurd (let k = low p c in omega (arith, h, k))
        at (inr c) = contains_mapped (moved_by n) pairs p c

    pub others_failing : ListsFailing others is_spared s (filter (is_before n) failed)
    others_failing = record {
      once = distinct_filter (is_before n) failed failing.once;
      each = λ p. (
        (λ c. let k = filter-sound (is_before n) failed p c in let f = (failing.each p).0 k.0 in (of_others p (part_low p k.1) f.0, f.1, f.2)),
        (λ h. filter-complete (is_before n) failed p ((failing.each p).1 (Contains-append_left others (map (moved_by n) pairs) p h.0, h.1, h.2)) (low_part p (low p h.0))),
      );
    }

    -- all failed facts of the tournament are told that name live numbers alone, where only others are spared
    pub pairs_covered : ((x : Placed) → Contains pairs x → IsAskable s.live x.fact.form → is_spared (moved_by n x) ≡ false) → CoversAskable pairs s (map (taken_back n) (filter (is_beyond n) failed))
    pairs_covered spares = record {
      only = λ p c.
          let m = contains_mapped (taken_back n) (filter (is_beyond n) failed) p c in
          let k = filter-sound (is_beyond n) failed m.0 m.1 in
          let x = of_pairs m.0 (part_high m.0 k.1) ((failing.each m.0).0 k.0).0 in
          subst (Contains pairs) (sym (m.2 ∙ ap (taken_back n) x.2 ∙ there_and_back x.0)) x.1;
      all = λ x c live fails.
          let k = (failing.each (moved_by n x)).1 (Contains-append_right others (map (moved_by n) pairs) (moved_by n x) (contains_map (moved_by n) pairs x c), spares x c live, fails) in
          subst (Contains (map (taken_back n) (filter (is_beyond n) failed))) (there_and_back x)
          (contains_map (taken_back n) (filter (is_beyond n) failed) (moved_by n x) (filter-complete (is_beyond n) failed (moved_by n x) k (high_part (moved_by n x) (omega arith))));
    }
