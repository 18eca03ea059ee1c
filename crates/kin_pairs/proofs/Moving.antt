-- The facts that the tournament has reported are moved to their parts after the first ones.
use Rattle.std.proofs.Common.{◌≡◌, refl, sym, ap, ap₂, ◌∙◌, subst, arith, List, [], ◌∷◌, ◌++◌, ℕ, zero, suc, ◌+◌, ◌-◌, ◌^◌, ◌<◌, ◌≤◌, length, map, take, drop, set, get_or, add-one}
use Rattle.std.specs.Prelude.{Contains}
use Rattle.std.proofs.lemmas.List.{drop_all, take_all, append-nil, get_or-drop, length-drop, length-set}
use Rattle.std.proofs.lemmas.List.Elements.{Contains-get_or}
use Rattle.kin_motion.specs.declared.fact.Placed.{Placed}
use Rattle.kin_motion.specs.Parts.{moved_by}

-- the facts before a place are as they are wanted, and those from there on are as they were, still to be moved
pub record AreMoved (n from : ℕ) (first now : List Placed) (k : ℕ) : Type 0 where
  pub count : length now ≡ length first
  pub start : from ≤ k
  pub rest : take k now ++ map (moved_by n) (drop k now) ≡ take from first ++ map (moved_by n) (drop from first)
  pub left : drop k now ≡ drop k first

-- one fact more is moved
moved_here : (f : Placed → Placed) (xs : List Placed) (k : ℕ) (d : Placed) → k < length xs → take (suc k) (set xs k (f (get_or xs k d))) ++ map f (drop (suc k) (set xs k (f (get_or xs k d)))) ≡ take k xs ++ map f (drop k xs)
moved_here f [] k d l = absurd (omega (arith, l))
moved_here f (x ∷ xs) zero d l = refl
moved_here f (x ∷ xs) (suc k) d l = ap (λ (v : List Placed). x ∷ v) (moved_here f xs k d (omega (arith, l)))

left_here : (xs ys : List Placed) (k : ℕ) (fact : Placed) → drop k xs ≡ drop k ys → drop (suc k) (set xs k fact) ≡ drop (suc k) ys
left_here [] [] k fact e = refl
left_here [] (y ∷ ys) zero fact e = absurd (let c : [] ≡ y ∷ ys = e in cc)
left_here [] (y ∷ ys) (suc k) fact e = left_here [] ys k fact (drop_all k [] (omega arith) ∙ e)
left_here (x ∷ xs) [] zero fact e = absurd (let c : x ∷ xs ≡ [] = e in cc)
left_here (x ∷ xs) [] (suc k) fact e = left_here xs [] k fact (e ∙ sym (drop_all k [] (omega arith)))
left_here (x ∷ xs) (y ∷ ys) zero fact e = let same : xs ≡ ys = cc in same
left_here (x ∷ xs) (y ∷ ys) (suc k) fact e = left_here xs ys k fact e

module _ (n from : ℕ) (first : List Placed) where
  pub moved_none : AreMoved n from first first from
  moved_none = record { count = refl; start = omega arith; rest = refl; left = refl }

  pub moved_more : (now : List Placed) (k : ℕ) (d fact : Placed) → k < length now → AreMoved n from first now k → fact ≡ moved_by n (get_or now k d) → AreMoved n from first (set now k fact) (k + 1)
  moved_more now k d fact l a e = let s = a.start in record {
    count = length-set now k fact ∙ a.count;
    start = omega (arith, s);
    rest = ap (λ (x : Placed). take (k + 1) (set now k x) ++ map (moved_by n) (drop (k + 1) (set now k x))) e
        ∙ ap (λ (i : ℕ). take i (set now k (moved_by n (get_or now k d))) ++ map (moved_by n) (drop i (set now k (moved_by n (get_or now k d))))) (add-one k)
        ∙ moved_here (moved_by n) now k d l ∙ a.rest;
    left = ap (λ (i : ℕ). drop i (set now k fact)) (add-one k) ∙ left_here now first k fact a.left ∙ ap (λ (i : ℕ). drop i first) (sym (add-one k));
  }

  pub moved_all : (now : List Placed) (k : ℕ) → length first ≤ k → AreMoved n from first now k → now ≡ take from first ++ map (moved_by n) (drop from first)
  moved_all now k l a =
      let c = a.count in
      sym (ap₂ (λ (u v : List Placed). u ++ map (moved_by n) v) (take_all k now (omega (arith, l, c))) (drop_all k now (omega (arith, l, c))) ∙ append-nil now) ∙ a.rest

  -- the fact that is moved next is one of those behind the place
  pub next_low : (now : List Placed) (k : ℕ) (d : Placed) → ((p : Placed) → Contains (drop from first) p → p.part < 2 ^ 15) → k < length now → AreMoved n from first now k → (get_or now k d).part < 2 ^ 15
  next_low now k d low l a =
      let c = a.count in
      let s = a.start in
      let m = length-drop from first in
      let here : get_or now k d ≡ get_or (drop from first) (k - from) d =
      ap (λ (i : ℕ). get_or now i d) (let e : k ≡ k + 0 = omega arith in e) ∙ sym (get_or-drop k now 0 d) ∙ ap (λ (v : List Placed). get_or v 0 d) a.left ∙ get_or-drop k first 0 d
      ∙ ap (λ (i : ℕ). get_or first i d) (let e : k + 0 ≡ from + (k - from) = omega (arith, s) in e) ∙ sym (get_or-drop from first (k - from) d) in
      subst (λ (p : Placed). p.part < 2 ^ 15) (sym here) (low _ (Contains-get_or (drop from first) (k - from) d (omega (arith, c, s, m, l))))
