-- Entries by instant and number, and the legs that they are.
use Rattle.std.proofs.Common.{◌≡◌, refl, sym, ap, ◌∙◌, arith, ℕ, ◌<◌, Ordering, Bool, true, false, cond, ◌&&◌, ◌||◌, nat_lt, nat_eq, List, [], ◌∷◌, filter}
use Rattle.std.specs.Prelude.{Some, slice_get}
use Rattle.std.proofs.lemmas.Option.{same_Some}
use Rattle.std.specs.List.{AllByRecursion}
use Rattle.std.specs.List.Sorted.{IsStrictlySortedBy}
use Rattle.std.specs.Ordering.{ordering_then, nat_cmp, match_ordering, is_eq}
use Rattle.std.specs.declared.cmp.Ordering.TheVariants.{Less, Equal, Greater}
use Rattle.std.specs.BTreeMap.{insert_entry, is_at}
use Rattle.std.specs.Map.{keys_of, remove_entry}
use Rattle.std.proofs.lemmas.Bool.Decides.{nat_tests}
use Rattle.kin_motion.specs.Course.{Course}
use Rattle.kin_motion.specs.Numbers.{put_in}
use Rattle.kin_legs.specs.declared.leg.Leg.{Leg}
use Rattle.kin_legs.specs.Filing.{leg_in, legs_in}
use Rattle.kin_legs.specs.Planning.{is_earlier, is_of, legs_of, IsRising}

-- the order of keys
abbrev pub by_both : ℕ × ℕ → ℕ × ℕ → Ordering
by_both x y = ordering_then (nat_cmp x.0 y.0) (nat_cmp x.1 y.1)

-- ---- what the tests say
less_case : (p q r s : Bool) → ordering_then (cond p Less (cond q Equal Greater)) (cond r Less (cond s Equal Greater)) ≡ Less → p || (q && r) ≡ true
less_case true q r s h = refl
less_case false true true s h = refl
less_case false true false true h = absurd cc
less_case false true false false h = absurd cc
less_case false false r s h = absurd cc

earlier_if_less : (x y : ℕ × ℕ) (m n : Course) → by_both x y ≡ Less → is_earlier (leg_in (x, m)) (leg_in (y, n)) ≡ true
earlier_if_less x y m n h = less_case (nat_lt x.0 y.0) (nat_eq x.0 y.0) (nat_lt x.1 y.1) (nat_eq x.1 y.1) h

equal_case : (p q r s : Bool) → ordering_then (cond p Less (cond q Equal Greater)) (cond r Less (cond s Equal Greater)) ≡ Equal → (q ≡ true) × (s ≡ true)
equal_case true q r s h = absurd cc
equal_case false true true s h = absurd cc
equal_case false true false true h = (refl, refl)
equal_case false true false false h = absurd cc
equal_case false false r s h = absurd cc

three_ways : {X : Type 0} (a b c : X) (p q r s : Bool) → (q ≡ true → s ≡ true → ⊥) → match_ordering (ordering_then (cond p Less (cond q Equal Greater)) (cond r Less (cond s Equal Greater))) a b c ≡ cond (p || (q && r)) a c
three_ways a b c true q r s apart = refl
three_ways a b c false true true s apart = refl
three_ways a b c false true false true apart = absurd (apart refl refl)
three_ways a b c false true false false apart = refl
three_ways a b c false false r s apart = refl

-- ---- sorted keys are rising legs
rises : (es : List ((ℕ × ℕ) × Course)) → IsStrictlySortedBy by_both (keys_of es) → IsRising (legs_in es)
unfolding IsStrictlySortedBy
rises [] h = tt
rises (e ∷ []) h = tt
rises (e ∷ f ∷ es) h = (earlier_if_less e.0 f.0 e.1 f.1 h.0.0, rises (f ∷ es) h.1)

pub rising_keys : (es : List ((ℕ × ℕ) × Course)) → IsStrictlySortedBy by_both (keys_of es) → IsRising (legs_in es)
rising_keys es h = rises es h

-- ---- a new leg is put in, where no leg of its number begins together with it or later
EachEarlier : Leg → List Leg → Type 0
EachEarlier leg ls = AllByRecursion (λ (l : Leg). l.no ≡ leg.no → l.at < leg.at) ls

pub inserted : (es : List ((ℕ × ℕ) × Course)) (k : ℕ × ℕ) (m : Course) → AllByRecursion (λ (l : Leg). l.no ≡ k.1 → l.at < k.0) (legs_in es) → legs_in (insert_entry by_both es k m) ≡ put_in is_earlier (leg_in (k, m)) (legs_in es)
inserted [] k m h = refl
inserted (e ∷ es) k m h =
    ap legs_in (three_ways ((k, m) ∷ e ∷ es) ((e.0, m) ∷ es) (e ∷ insert_entry by_both es k m) (nat_lt k.0 e.0.0) (nat_eq k.0 e.0.0) (nat_lt k.1 e.0.1) (nat_eq k.1 e.0.1) apart)
    ∙ at (is_earlier (leg_in (k, m)) (leg_in e)) (inserted es k m h.1)
  where
    apart : nat_eq k.0 e.0.0 ≡ true → nat_eq k.1 e.0.1 ≡ true → ⊥
    apart f g =
        let same : e.0.1 ≡ k.1 = grind (arith, nat_tests, g) in
        let less : e.0.0 < k.0 = h.0 same in
        let level : k.0 ≡ e.0.0 = grind (arith, nat_tests, f) in
        omega (arith, less, level)

    at : (b : Bool) → legs_in (insert_entry by_both es k m) ≡ put_in is_earlier (leg_in (k, m)) (legs_in es)
        → legs_in (cond b ((k, m) ∷ e ∷ es) (e ∷ insert_entry by_both es k m)) ≡ cond b (leg_in (k, m) ∷ leg_in e ∷ legs_in es) (leg_in e ∷ put_in is_earlier (leg_in (k, m)) (legs_in es))
    at true rest = refl
    at false rest = ap (λ ls. leg_in e ∷ ls) rest

-- ---- a leg is taken out, which is the first of its number
abbrev head_or : Leg → List Leg → Leg
head_or d [] = d
head_or d (l ∷ ls) = l

abbrev tail_of : List Leg → List Leg
tail_of [] = []
tail_of (l ∷ ls) = ls

module _ (i at : ℕ) where
  found : (x : ℕ × ℕ) → is_at (by_both (at, i)) x ≡ true → (x.0 ≡ at) × (x.1 ≡ i)
  found x h =
      let tests = equal_case (nat_lt at x.0) (nat_eq at x.0) (nat_lt i x.1) (nat_eq i x.1) (is_equal (by_both (at, i) x) h) in
      let first : x.0 ≡ at = grind (arith, nat_tests, tests.0) in
      let second : x.1 ≡ i = grind (arith, nat_tests, tests.1) in
      (first, second)
    where
      is_equal : (o : Ordering) → is_eq o ≡ true → o ≡ Equal
      is_equal Less h = absurd cc
      is_equal Equal h = refl
      is_equal Greater h = absurd cc

  finds : (x : ℕ × ℕ) → x.0 ≡ at → x.1 ≡ i → is_at (by_both (at, i)) x ≡ true
  finds x e f = grind (arith, nat_tests, e, f)

  pub others_stay : (es : List ((ℕ × ℕ) × Course)) (test : Leg → Bool) → ((l : Leg) → l.no ≡ i → test l ≡ false) → filter test (legs_in (remove_entry (is_at (by_both (at, i))) es)) ≡ filter test (legs_in es)
  others_stay [] test h = refl
  others_stay (e ∷ es) test h = go (is_at (by_both (at, i)) e.0) refl (others_stay es test h)
    where
      go : (b : Bool) → is_at (by_both (at, i)) e.0 ≡ b → filter test (legs_in (remove_entry (is_at (by_both (at, i))) es)) ≡ filter test (legs_in es)
          → filter test (legs_in (cond b es (e ∷ remove_entry (is_at (by_both (at, i))) es))) ≡ cond (test (leg_in e)) (leg_in e ∷ filter test (legs_in es)) (filter test (legs_in es))
      go true f rest = sym (ap (λ b. cond b (leg_in e ∷ filter test (legs_in es)) (filter test (legs_in es))) (h (leg_in e) (found e.0 f).1))
      go false f rest = ap (λ ls. cond (test (leg_in e)) (leg_in e ∷ ls) ls) rest

  pub removed : (l : Leg) (later : List Leg) → l.at ≡ at → l.no ≡ i → (es : List ((ℕ × ℕ) × Course)) → legs_of i (legs_in es) ≡ l ∷ later → legs_of i (legs_in (remove_entry (is_at (by_both (at, i))) es)) ≡ later
  removed l later a n [] h = absurd cc
  removed l later a n (e ∷ es) h = go (is_of i (leg_in e)) refl h (removed l later a n es)
    where
      no_hit : (b : Bool) → is_at (by_both (at, i)) e.0 ≡ b → is_of i (leg_in e) ≡ false → b ≡ false
      no_hit false f g = refl
      no_hit true f g = absurd (let same = (found e.0 f).1 in grind (arith, nat_tests, same, g))

      go : (b : Bool) → is_of i (leg_in e) ≡ b → cond b (leg_in e ∷ legs_of i (legs_in es)) (legs_of i (legs_in es)) ≡ l ∷ later
          → (legs_of i (legs_in es) ≡ l ∷ later → legs_of i (legs_in (remove_entry (is_at (by_both (at, i))) es)) ≡ later) → legs_of i (legs_in (remove_entry (is_at (by_both (at, i))) (e ∷ es))) ≡ later
      go true f g rest =
          let head : leg_in e ≡ l = ap (λ ls. head_or (leg_in e) ls) g in
          let hit = finds e.0 (ap (λ (l : Leg). l.at) head ∙ a) (ap (λ (l : Leg). l.no) head ∙ n) in
          ap (λ b. legs_of i (legs_in (cond b es (e ∷ remove_entry (is_at (by_both (at, i))) es)))) hit ∙ ap tail_of g
      go false f g rest =
          let miss : is_at (by_both (at, i)) e.0 ≡ false = no_hit (is_at (by_both (at, i)) e.0) refl f in
          ap (λ b. legs_of i (legs_in (cond b es (e ∷ remove_entry (is_at (by_both (at, i))) es)))) miss
          ∙ ap (λ b. cond b (leg_in e ∷ legs_of i (legs_in (remove_entry (is_at (by_both (at, i))) es))) (legs_of i (legs_in (remove_entry (is_at (by_both (at, i))) es)))) f
          ∙ rest g

-- ---- the first entry is the first leg
pub first_leg : (es : List ((ℕ × ℕ) × Course)) (e : (ℕ × ℕ) × Course) → slice_get es 0 ≡ Some e → (rest : List Leg) × (legs_in es ≡ leg_in e ∷ rest)
first_leg [] e h = absurd cc
first_leg (f ∷ es) e h = (legs_in es, ap (λ (g : (ℕ × ℕ) × Course). leg_in g ∷ legs_in es) (same_Some f e h))
