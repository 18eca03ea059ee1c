-- What two lists of slopes don't have in common is between what they share at both ends.
use Rattle.std.proofs.Common.{◌≡◌, ◌⊎◌, inl, inr, refl, sym, ap, ◌∙◌, subst, List, [], ◌∷◌, ◌++◌, ℕ, ◌+◌, ◌<◌, map, take, drop, length, get_or}
use Rattle.std.specs.Prelude.{Contains, ◌↔◌}
use Rattle.std.proofs.lemmas.List.{map-append, take_more, take-append-drop}
use Rattle.std.proofs.lemmas.List.Elements.{Contains-append_left, Contains-append_right, Contains-append_cases}
use Rattle.kin_algebra.proofs.Members.{contains_none, contains_head, contains_cases}
use Rattle.kin_motion.specs.declared.fact.Placed.{Placed}
use Rattle.kin_motion.specs.Deltas.{Change}
use Rattle.kin_motion.specs.Forms.{numbers_of}
use Rattle.kin_motion.specs.Kinetics.{HasGained, HasChanged}
use Rattle.kin_motion.specs.Sets.{AreDistinct}
use Rattle.kin_motion.proofs.Gains.{gained_none, gained_both, gained_in_words}
use Rattle.kin_motion.proofs.SetLaws.{contains_map, contains_mapped, distinct_none, distinct_cons, distinct_head, distinct_tail, exactly_one}
use Rattle.kin_diameter.specs.declared.slope.Slope.{Slope as Kept}
use Rattle.kin_diameter.specs.Changes.{IsLost, IsLostOne, DifferBetween}
use Rattle.kin_diameter.specs.Seen.{slope_fact}
use Rattle.kin_diameter.proofs.ListEnds.{between_turned}

-- ---- slopes are told apart by their facts
number : ℕ → Placed → ℕ
number n p = get_or (numbers_of p.fact.form) n 0

pub one_slope : (x y : Kept) → slope_fact x ≡ slope_fact y → x ≡ y
unfolding number
one_slope x y q =
    let a : x.i ≡ y.i = ap (number 0) q in
    let b : x.j ≡ y.j = ap (number 1) q in
    let c : x.k ≡ y.k = ap (number 2) q in
    let d : x.l ≡ y.l = ap (number 3) q in
    let e : x.sign ≡ y.sign = ap (λ (p : Placed). p.fact.sign) q in
    λ t. record { i = a t; j = b t; k = c t; l = d t; sign = e t }

has_fact : (xs : List Kept) (x : Kept) → Contains (map slope_fact xs) (slope_fact x) → Contains xs x
has_fact xs x c = let m = contains_mapped slope_fact xs (slope_fact x) c in subst (Contains xs) (sym (one_slope x m.0 m.2)) m.1

-- ---- distinct lists
distinct_last : {A : Type 0} (xs ys : List A) → AreDistinct (xs ++ ys) → AreDistinct ys
distinct_last {A} [] ys d = d
distinct_last {A} (x ∷ xs) ys d = distinct_last xs ys (distinct_tail x (xs ++ ys) d)

pub distinct_apart : {A : Type 0} (xs ys : List A) → AreDistinct (xs ++ ys) → (z : A) → Contains xs z → Contains ys z → ⊥
distinct_apart {A} [] ys d z h k = contains_none z h
distinct_apart {A} (x ∷ xs) ys d z h k = at (contains_cases x z xs h) (distinct_apart xs ys (distinct_tail x (xs ++ ys) d) z)
  where
    at : (x ≡ z) ⊎ Contains xs z → (Contains xs z → Contains ys z → ⊥) → ⊥
    at (inl e) rest = distinct_head x (xs ++ ys) d (Contains-append_right xs ys x (subst (Contains ys) (sym e) k))
    at (inr m) rest = rest m k

distinct_first : {A : Type 0} (xs ys : List A) → AreDistinct (xs ++ ys) → AreDistinct xs
distinct_first {A} [] ys d = distinct_none
distinct_first {A} (x ∷ xs) ys d = distinct_cons x xs (λ h. distinct_head x (xs ++ ys) d (Contains-append_left xs ys x h)) (distinct_first xs ys (distinct_tail x (xs ++ ys) d))

-- what is between
pub distinct_between : (old new olds news : List Kept) → DifferBetween old new olds news → AreDistinct old → AreDistinct olds
distinct_between old new olds news w d = distinct_first olds w.1 (distinct_last w.0 (olds ++ w.1) (subst (λ (l : List Kept). AreDistinct l) w.2 d))

-- ---- what is lost
-- it is between
module _ (old new olds news : List Kept) (w : DifferBetween old new olds news) (once : AreDistinct old) where
  in_old : (p : Placed) → Contains (map slope_fact olds) p → Contains (map slope_fact old) p
  in_old p c = let m = contains_mapped slope_fact olds p c in subst (Contains (map slope_fact old)) (sym m.2) (contains_map slope_fact old m.0 (in_all m.0 m.1))
    where
      in_all : (x : Kept) → Contains olds x → Contains old x
      in_all x k = subst (λ (l : List Kept). Contains l x) (sym w.2) (Contains-append_right w.0 (olds ++ w.1) x (Contains-append_left olds w.1 x k))

  pub lost_between : (p : Placed) → IsLost olds news p ↔ IsLost old new p
  lost_between p = (λ l. (in_old p l.0, λ c. to l c), λ l. from l)
    where
      parts : (xs ys : List Kept) (x : Kept) → xs ≡ w.0 ++ (ys ++ w.1) → Contains xs x → Contains w.0 x ⊎ (Contains ys x ⊎ Contains w.1 x)
      parts xs ys x is c = at (Contains-append_cases w.0 (ys ++ w.1) x (subst (λ (l : List Kept). Contains l x) is c))
        where
          at : Contains w.0 x ⊎ Contains (ys ++ w.1) x → Contains w.0 x ⊎ (Contains ys x ⊎ Contains w.1 x)
          at (inl h) = inl h
          at (inr h) = inr (Contains-append_cases ys w.1 x h)

      split : AreDistinct (w.0 ++ (olds ++ w.1))
      split = subst (λ (l : List Kept). AreDistinct l) w.2 once

      to : IsLost olds news p → Contains (map slope_fact new) p → ⊥
      to l c = let m = contains_mapped slope_fact new p c in at m.0 m.2 (parts new news m.0 w.3 m.1)
        where
          at : (x : Kept) → p ≡ slope_fact x → Contains w.0 x ⊎ (Contains news x ⊎ Contains w.1 x) → ⊥
          at x e (inr (inl h)) = l.1 (subst (Contains (map slope_fact news)) (sym e) (contains_map slope_fact news x h))
          at x e (inl h) = distinct_apart w.0 (olds ++ w.1) split x h (Contains-append_left olds w.1 x (has_fact olds x (subst (Contains (map slope_fact olds)) e l.0)))
          at x e (inr (inr h)) = distinct_apart olds w.1 (distinct_last w.0 (olds ++ w.1) split) x (has_fact olds x (subst (Contains (map slope_fact olds)) e l.0)) h

      from : IsLost old new p → IsLost olds news p
      from l = let m = contains_mapped slope_fact old p l.0 in (at m.0 m.2 (parts old olds m.0 w.2 m.1), λ c. there c)
        where
          -- what is in both lists isn't lost
          shared : (x : Kept) → p ≡ slope_fact x → Contains new x → ⊥
          shared x e h = l.1 (subst (Contains (map slope_fact new)) (sym e) (contains_map slope_fact new x h))

          in_new : (x : Kept) → Contains (w.0 ++ (news ++ w.1)) x → Contains new x
          in_new x h = subst (λ (l : List Kept). Contains l x) (sym w.3) h

          at : (x : Kept) → p ≡ slope_fact x → Contains w.0 x ⊎ (Contains olds x ⊎ Contains w.1 x) → Contains (map slope_fact olds) p
          at x e (inl h) = absurd (shared x e (in_new x (Contains-append_left w.0 (news ++ w.1) x h)))
          at x e (inr (inl h)) = subst (Contains (map slope_fact olds)) (sym e) (contains_map slope_fact olds x h)
          at x e (inr (inr h)) = absurd (shared x e (in_new x (Contains-append_right w.0 (news ++ w.1) x (Contains-append_right news w.1 x h))))

          there : Contains (map slope_fact news) p → ⊥
          there c = let m = contains_mapped slope_fact news p c in shared m.0 m.2 (in_new m.0 (Contains-append_right w.0 (news ++ w.1) m.0 (Contains-append_left news w.1 m.0 m.1)))

-- the report of what is between is the report of both lists
pub told_between : (old new olds news : List Kept) (out out' : Change) → DifferBetween old new olds news → AreDistinct old → AreDistinct new
    → HasGained out.dropped out'.dropped (IsLost olds news) → HasGained out.born out'.born (IsLost news olds) → HasChanged (map slope_fact old) (map slope_fact new) out out'
told_between old new olds news out out' w once once' g h = record {
  dropped = gained_in_words out.dropped out'.dropped (IsLost olds news) (IsLost old new) (lost_between old new olds news w once) g;
  born = gained_in_words out.born out'.born (IsLost news olds) (IsLost new old) (lost_between new old news olds (between_turned old new olds news w) once') h;
}

-- ---- one slope after another
module _ (slopes others : List Kept) (once : AreDistinct slopes) where
  lost_here : (n : ℕ) (x : Kept) → take (n + 1) slopes ≡ take n slopes ++ x ∷ [] → AreDistinct (take n slopes ++ x ∷ []) → (p : Placed) → (IsLost (take n slopes) others p ⊎ IsLostOne others x p) ↔ IsLost (take (n + 1) slopes) others p
  lost_here n x more d p = (to, λ l. from l (cases l.0))
    where
      facts : map slope_fact (take (n + 1) slopes) ≡ map slope_fact (take n slopes) ++ slope_fact x ∷ []
      facts = ap (map slope_fact) more ∙ map-append slope_fact (take n slopes) (x ∷ [])

      into : Contains (map slope_fact (take n slopes) ++ slope_fact x ∷ []) p → Contains (map slope_fact (take (n + 1) slopes)) p
      into c = subst (λ (l : List Placed). Contains l p) (sym facts) c

      cases : Contains (map slope_fact (take (n + 1) slopes)) p → Contains (map slope_fact (take n slopes)) p ⊎ Contains (slope_fact x ∷ []) p
      cases c = Contains-append_cases (map slope_fact (take n slopes)) (slope_fact x ∷ []) p (subst (λ (l : List Placed). Contains l p) facts c)

      to : IsLost (take n slopes) others p ⊎ IsLostOne others x p → IsLost (take (n + 1) slopes) others p
      to (inl l) = (into (Contains-append_left (map slope_fact (take n slopes)) (slope_fact x ∷ []) p l.0), l.1)
      to (inr l) = (
        into (subst (Contains (map slope_fact (take n slopes) ++ slope_fact x ∷ [])) (sym l.0) (Contains-append_right (map slope_fact (take n slopes)) (slope_fact x ∷ []) (slope_fact x) (contains_head (slope_fact x) []))),
        λ c. l.1 (has_fact others x (subst (Contains (map slope_fact others)) l.0 c)),
      )

      from : IsLost (take (n + 1) slopes) others p → Contains (map slope_fact (take n slopes)) p ⊎ Contains (slope_fact x ∷ []) p → IsLost (take n slopes) others p ⊎ IsLostOne others x p
      from l (inl c) = inl (c, l.1)
      from l (inr c) = at (contains_cases (slope_fact x) p [] c)
        where
          at : (slope_fact x ≡ p) ⊎ Contains [] p → IsLost (take n slopes) others p ⊎ IsLostOne others x p
          at (inl e) = inr (sym e, λ k. l.1 (subst (Contains (map slope_fact others)) e (contains_map slope_fact others x k)))
          at (inr k) = absurd (contains_none p k)

  pub told_more : (n : ℕ) (d : Kept) (before middle after : List Placed) → n < length slopes
      → HasGained before middle (IsLost (take n slopes) others) → HasGained middle after (IsLostOne others (get_or slopes n d)) → HasGained before after (IsLost (take (n + 1) slopes) others)
  told_more n d before middle after low g h =
      gained_both before middle after (IsLost (take n slopes) others) (IsLostOne others (get_or slopes n d)) (IsLost (take (n + 1) slopes) others)
      (λ p l k. distinct_apart (take n slopes) (get_or slopes n d ∷ []) apart (get_or slopes n d) (has_fact (take n slopes) (get_or slopes n d) (subst (Contains (map slope_fact (take n slopes))) k.0 l.0)) (contains_head (get_or slopes n d) []))
      (lost_here n (get_or slopes n d) more apart) g h
    where
      more : take (n + 1) slopes ≡ take n slopes ++ get_or slopes n d ∷ []
      more = take_more slopes n d low

      apart : AreDistinct (take n slopes ++ get_or slopes n d ∷ [])
      apart = subst (λ (l : List Kept). AreDistinct l) more (distinct_first (take (n + 1) slopes) (drop (n + 1) slopes) (subst (λ (l : List Kept). AreDistinct l) (sym (take-append-drop (n + 1) slopes)) once))

-- it is told
pub told_one : (others : List Kept) (x : Kept) (before after : List Placed) → ¬ (Contains others x) → after ≡ before ++ slope_fact x ∷ [] → HasGained before after (IsLostOne others x)
told_one others x before after missing is = record {
  more = slope_fact x ∷ [];
  joined = is;
  exactly = exactly_one (slope_fact x) (IsLostOne others x) (refl, missing) (λ z l. l.0);
}

-- it isn't, since both lists have it
pub told_none : (others : List Kept) (x : Kept) (before : List Placed) → Contains others x → HasGained before before (IsLostOne others x)
told_none others x before c = gained_none before (IsLostOne others x) (λ p l. l.1 c)
