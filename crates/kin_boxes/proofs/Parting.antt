-- The failed facts of each axis.
use Rattle.std.proofs.Common.{◌≡◌, ◌⊎◌, inl, inr, refl, sym, ap, ap₂, ◌∙◌, subst, arith, List, [], ◌∷◌, ◌++◌, ℕ, ◌+◌, ◌-◌, ◌<◌, ◌≤◌, Bool, true, false, not, cond, nat_lt, length, map, filter, take, get_or}
use Rattle.std.specs.Prelude.{Contains}
use Rattle.std.proofs.lemmas.Bool.Decides.{nat_tests}
use Rattle.std.proofs.lemmas.List.{take_more, take_all, map-append}
use Rattle.std.proofs.lemmas.List.Elements.{filter-append, Contains-append_left, Contains-append_right, Contains-append_cases}
use Rattle.kin_motion.specs.declared.fact.Placed.{Placed}
use Rattle.kin_motion.specs.Kinetics.{ListsFailing}
use Rattle.kin_motion.specs.Parts.{moved_by}
use Rattle.kin_motion.specs.Scene.{Scene}
use Rattle.kin_motion.proofs.PartLaws.{moved_facts_fail}
use Rattle.kin_motion.proofs.SetLaws.{contains_mapped, filter-sound, filter-complete, distinct_filter}
use Rattle.kin_sorted.proofs.TellingLaws.{moved_nowhere}
use Rattle.kin_boxes.specs.Boxing.{is_along_x, is_along_y, moved_back}

-- ---- sorting them out
module _ (f : Placed → Placed) (test : Placed → Bool) (failed : List Placed) where
  pub picked_all : (picked : List Placed) (i : ℕ) → length failed ≤ i → picked ≡ map f (filter test (take i failed)) → picked ≡ map f (filter test failed)
  picked_all picked i l e = e ∙ ap (λ (ps : List Placed). map f (filter test ps)) (take_all i failed l)

  module _ (picked : List Placed) (i : ℕ) (d : Placed) (l : i < length failed) (e : picked ≡ map f (filter test (take i failed))) where
    next : map f (filter test (take (i + 1) failed)) ≡ map f (filter test (take i failed)) ++ map f (cond (test (get_or failed i d)) (get_or failed i d ∷ []) [])
    next =
        ap (λ (ps : List Placed). map f (filter test ps)) (take_more failed i d l)
        ∙ ap (map f) (filter-append test (take i failed) (get_or failed i d ∷ []))
        ∙ map-append f (filter test (take i failed)) (cond (test (get_or failed i d)) (get_or failed i d ∷ []) [])

    pub picked_one : test (get_or failed i d) ≡ true → picked ++ f (get_or failed i d) ∷ [] ≡ map f (filter test (take (i + 1) failed))
    picked_one h = ap (λ (ps : List Placed). ps ++ f (get_or failed i d) ∷ []) e ∙ sym (next ∙ ap (λ (b : Bool). map f (filter test (take i failed)) ++ map f (cond b (get_or failed i d ∷ []) [])) h)

    pub passed_one : test (get_or failed i d) ≡ false → picked ≡ map f (filter test (take (i + 1) failed))
    passed_one h = e ∙ sym (next ∙ ap (λ (b : Bool). map f (filter test (take i failed)) ++ map f (cond b (get_or failed i d ∷ []) [])) h ∙ nothing_behind (map f (filter test (take i failed))))
      where
        nothing_behind : (ps : List Placed) → ps ++ [] ≡ ps
        nothing_behind [] = refl
        nothing_behind (p ∷ ps) = ap (λ (qs : List Placed). p ∷ qs) (nothing_behind ps)

-- ---- which of them are a list's
-- all facts of a list are in its own four parts
abbrev pub InParts : List Placed → Type 0
InParts facts = (p : Placed) → Contains facts p → p.part < 4

pub along_x : (facts : List Placed) (p : Placed) → InParts facts → Contains (map (moved_by 0) facts) p → p.part < 4
along_x facts p low h = let m = contains_mapped (moved_by 0) facts p h in let l = low m.0 m.1 in let e : p.part ≡ 0 + m.0.part = ap (λ (q : Placed). q.part) m.2 in omega (arith, l, e)

pub along_y : (facts : List Placed) (p : Placed) → Contains (map (moved_by 4) facts) p → 4 ≤ p.part
along_y facts p h = let m = contains_mapped (moved_by 4) facts p h in let e : p.part ≡ 4 + m.0.part = ap (λ (q : Placed). q.part) m.2 in omega (arith, e)

less : (n : ℕ) → n < 4 → nat_lt n 4 ≡ true
less n h = grind (arith, nat_tests, h)

not_less : (n : ℕ) → 4 ≤ n → nat_lt n 4 ≡ false
not_less n h = grind (arith, nat_tests, h)

below : (n : ℕ) → nat_lt n 4 ≡ true → n < 4
below n h = grind (arith, nat_tests, h)

above : (n : ℕ) → not (nat_lt n 4) ≡ true → 4 ≤ n
above n h = at (nat_lt n 4) refl h
  where
    at : (b : Bool) → nat_lt n 4 ≡ b → not b ≡ true → 4 ≤ n
    at true e g = absurd cc
    at false e g = grind (arith, nat_tests, e)

-- the failed facts of one kind are those of the part that has this kind
failing_among : (all part : List Placed) (test : Placed → Bool) (spared : Placed → Bool) (s : Scene) (failed : List Placed) → ((p : Placed) → Contains part p → Contains all p × (test p ≡ true))
    → ((p : Placed) → Contains all p → test p ≡ true → Contains part p) → ListsFailing all spared s failed → ListsFailing part spared s (filter test failed)
failing_among all part test spared s failed to from h = record {
  once = distinct_filter test failed h.once;
  each = λ p. (
    λ c. let f = filter-sound test failed p c in let k = (h.each p).0 f.0 in (from p k.0 f.1, k.1, k.2),
    λ k. let m = to p k.0 in filter-complete test failed p ((h.each p).1 (m.0, k.1, k.2)) m.1,
  );
}

-- what was moved back is where it was
back_again : (p : Placed) → 4 ≤ p.part → moved_by 4 (moved_back p) ≡ p
back_again p h = let e : 4 + (p.part - 4) ≡ p.part = omega (arith, h) in λ t. record { part = e t; fact = p.fact }

all_back : (ps : List Placed) → map (moved_by 4) (map moved_back (filter is_along_y ps)) ≡ filter is_along_y ps
all_back [] = refl
all_back (p ∷ ps) = at (is_along_y p) refl (all_back ps)
  where
    at : (b : Bool) → is_along_y p ≡ b → map (moved_by 4) (map moved_back (filter is_along_y ps)) ≡ filter is_along_y ps
        → map (moved_by 4) (map moved_back (cond b (p ∷ filter is_along_y ps) (filter is_along_y ps))) ≡ cond b (p ∷ filter is_along_y ps) (filter is_along_y ps)
    at true e rest = ap₂ (λ (q : Placed) (qs : List Placed). q ∷ qs) (back_again p (above p.part e)) rest
    at false e rest = rest

module _ (x y : List Placed) (x_low : InParts x) (spared : Placed → Bool) (s : Scene) (failed : List Placed) (h : ListsFailing (map (moved_by 0) x ++ map (moved_by 4) y) spared s failed) where
  pub x_failing : ListsFailing x spared s (filter is_along_x failed)
  x_failing = subst (λ fs. ListsFailing fs spared s (filter is_along_x failed)) (moved_nowhere x)
      (failing_among (map (moved_by 0) x ++ map (moved_by 4) y) (map (moved_by 0) x) is_along_x spared s failed
      (λ p c. (Contains-append_left (map (moved_by 0) x) (map (moved_by 4) y) p c, less p.part (along_x x p x_low c)))
      (λ p c e. at p e (Contains-append_cases (map (moved_by 0) x) (map (moved_by 4) y) p c)) h)
    where
      at : (p : Placed) → is_along_x p ≡ true → Contains (map (moved_by 0) x) p ⊎ Contains (map (moved_by 4) y) p → Contains (map (moved_by 0) x) p
      at p e (inl c) = c
      at p e (inr c) = absurd (let l = below p.part e in let m = along_y y p c in omega (arith, l, m))

  pub y_failing : ((p : Placed) → spared (moved_by 4 p) ≡ spared p) → ListsFailing y spared s (map moved_back (filter is_along_y failed))
  y_failing anywhere = subst (λ (sp : Placed → Bool). ListsFailing y sp s (map moved_back (filter is_along_y failed))) (λ t. λ p. anywhere p t)
      ((moved_facts_fail 4 y (map moved_back (filter is_along_y failed)) spared s).1
      (subst (ListsFailing (map (moved_by 4) y) spared s) (sym (all_back failed))
      (failing_among (map (moved_by 0) x ++ map (moved_by 4) y) (map (moved_by 4) y) is_along_y spared s failed
      (λ p c. (Contains-append_right (map (moved_by 0) x) (map (moved_by 4) y) p c, ap not (not_less p.part (along_y y p c))))
      (λ p c e. at p e (Contains-append_cases (map (moved_by 0) x) (map (moved_by 4) y) p c)) h)))
    where
      at : (p : Placed) → is_along_y p ≡ true → Contains (map (moved_by 0) x) p ⊎ Contains (map (moved_by 4) y) p → Contains (map (moved_by 4) y) p
      at p e (inl c) = absurd (let l = above p.part e in let m = along_x x p x_low c in omega (arith, l, m))
      at p e (inr c) = c
