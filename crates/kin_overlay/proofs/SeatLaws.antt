-- The turns that aren't known are those of the breakpoints that don't stand at their seats.
use Rattle.std.proofs.Common.{◌≡◌, refl, sym, ap, ap₂, ◌∙◌, subst, arith, List, [], ◌∷◌, ◌++◌, ℕ, zero, suc, ◌+◌, ◌<◌, Bool, cond, length, drop, Option, Some}
use Rattle.std.specs.Prelude.{slice_get}
use Rattle.std.proofs.lemmas.List.{drop-drop}
use Rattle.kin_motion.specs.Merges.{Half.{A, B}, Half, is_of, other, own_of, breakpoints_of, other_current, current_after}
use Rattle.kin_chain.specs.Supports.{list_of}
use Rattle.kin_overlay.specs.declared.draft.Draft.{Draft}
use Rattle.kin_overlay.specs.Lists.{front}
use Rattle.kin_overlay.specs.Sketches.{spot_of, half_at, spots, others, is_told, missing_turns}
use Rattle.kin_overlay.specs.Resorting.{count, unseated}
use Rattle.kin_overlay.specs.Seats.{is_told_of, seat_in}
use Rattle.kin_overlay.proofs.HalfLaws.{count-append}
use Rattle.kin_overlay.proofs.FillLaws.{split-own}

-- what stands at a place is the first of what is left from there on
get_front : (xs : List ℕ) (n : ℕ) → 0 < length (drop n xs) → slice_get xs n ≡ Some (front (drop n xs))
get_front [] zero l = absurd (omega arith)
get_front [] (suc n) l = absurd (omega arith)
get_front (x ∷ xs) zero l = refl
get_front (x ∷ xs) (suc n) l = get_front xs n l

drop_one : (xs : List ℕ) (n : ℕ) (i : ℕ) (t : List ℕ) → drop n xs ≡ i ∷ t → t ≡ drop (n + 1) xs
drop_one xs n i t e = sym (ap (drop 1) e) ∙ drop-drop 1 n xs

count-own : (h : Half) (f : List Draft) (d : Draft) → half_at d ≡ h → count h (f ++ d ∷ []) ≡ count h f + 1
count-own h f d e = count-append h f (d ∷ []) ∙ ap (λ (n : ℕ). count h f + n) (one h e)
  where
    one : (g : Half) → half_at d ≡ g → count g (d ∷ []) ≡ 1
    one A e = ap (λ (k : Half). length (cond {A = List Draft} (is_of A k) (d ∷ []) [])) e
    one B e = ap (λ (k : Half). length (cond {A = List Draft} (is_of B k) (d ∷ []) [])) e

count-other : (h : Half) (f : List Draft) (d : Draft) → half_at d ≡ other h → count h (f ++ d ∷ []) ≡ count h f
count-other h f d e = count-append h f (d ∷ []) ∙ (let z = none h e in omega (arith, z))
  where
    none : (g : Half) → half_at d ≡ other g → count g (d ∷ []) ≡ 0
    none A e = ap (λ (k : Half). length (cond {A = List Draft} (is_of A k) (d ∷ []) [])) e
    none B e = ap (λ (k : Half). length (cond {A = List Draft} (is_of B k) (d ∷ []) [])) e

module _ (a b : List ℕ) where
  pub missing-unseated : (f ds : List Draft) (a' b' : List ℕ) → a' ≡ drop (count A f) a → b' ≡ drop (count B f) b → 0 < length a' → 0 < length b' → own_of A (spots ds) ≡ breakpoints_of A a' → own_of B (spots ds) ≡ breakpoints_of B b'
      → missing_turns (front a') (front b') ds ≡ unseated (seat_in a b) f ds
  missing-unseated f [] a' b' p q l m x y = refl
  missing-unseated f (d ∷ ds) a' b' p q l m x y = at (half_at d) refl (λ a2 b2 p2 q2 l2 m2 x2 y2. missing-unseated (f ++ d ∷ []) ds a2 b2 p2 q2 l2 m2 x2 y2)
    where
      at : (h : Half) → half_at d ≡ h
          → ((a2 b2 : List ℕ) → a2 ≡ drop (count A (f ++ d ∷ [])) a → b2 ≡ drop (count B (f ++ d ∷ [])) b → 0 < length a2 → 0 < length b2 → own_of A (spots ds) ≡ breakpoints_of A a2 → own_of B (spots ds) ≡ breakpoints_of B b2
          → missing_turns (front a2) (front b2) ds ≡ unseated (seat_in a b) (f ++ d ∷ []) ds)
          → missing_turns (front a') (front b') (d ∷ ds) ≡ unseated (seat_in a b) f (d ∷ ds)
      at A is rest =
          let own : spot_of d ∷ own_of A (spots ds) ≡ breakpoints_of A a' = sym (ap (λ (g : Half). cond (is_of A g) (spot_of d ∷ own_of A (spots ds)) (own_of A (spots ds))) is) ∙ x in
          let their : own_of B (spots ds) ≡ breakpoints_of B b' = sym (ap (λ (g : Half). cond (is_of B g) (spot_of d ∷ own_of B (spots ds)) (own_of B (spots ds))) is) ∙ y in
          let s = split-own A a' (spot_of d) (own_of A (spots ds)) own in
          let here : is_told d (other_current (half_at d) (front a') (front b')) ≡ seat_in a b d (others d f) =
          ap (λ (g : Half). is_told d (other_current g (front a') (front b'))) is
          ∙ sym (ap (λ (g : Half). is_told_of (slice_get (list_of (other g) a b) (count (other g) f)) d) is ∙ ap (λ (o : Option ℕ). is_told_of o d) (get_front b (count B f) (subst (λ (l : List ℕ). 0 < length l) q m) ∙ ap (λ (l : List ℕ). Some (front l)) (sym q))) in
          let next = rest ((spot_of d).right ∷ s.0) b' (drop_one a (count A f) (spot_of d).left ((spot_of d).right ∷ s.0) (sym p ∙ s.1) ∙ ap (λ (n : ℕ). drop n a) (sym (count-own A f d is))) (q ∙ ap (λ (n : ℕ). drop n b) (sym (count-other B f d is))) (omega arith) m s.2 their in
          let ca : current_after A (spot_of d) (front a') ≡ (spot_of d).right = ap (λ (g : Half). cond (is_of A g) (spot_of d).right (front a')) is in
          let cb : current_after B (spot_of d) (front b') ≡ front b' = ap (λ (g : Half). cond (is_of B g) (spot_of d).right (front b')) is in
          ap₂ (λ (t : Bool) (n : ℕ). cond {A = ℕ} t 0 1 + n) here (ap₂ (λ (x y : ℕ). missing_turns x y ds) ca cb ∙ next)
      at B is rest =
          let own : spot_of d ∷ own_of B (spots ds) ≡ breakpoints_of B b' = sym (ap (λ (g : Half). cond (is_of B g) (spot_of d ∷ own_of B (spots ds)) (own_of B (spots ds))) is) ∙ y in
          let their : own_of A (spots ds) ≡ breakpoints_of A a' = sym (ap (λ (g : Half). cond (is_of A g) (spot_of d ∷ own_of A (spots ds)) (own_of A (spots ds))) is) ∙ x in
          let s = split-own B b' (spot_of d) (own_of B (spots ds)) own in
          let here : is_told d (other_current (half_at d) (front a') (front b')) ≡ seat_in a b d (others d f) =
          ap (λ (g : Half). is_told d (other_current g (front a') (front b'))) is
          ∙ sym (ap (λ (g : Half). is_told_of (slice_get (list_of (other g) a b) (count (other g) f)) d) is ∙ ap (λ (o : Option ℕ). is_told_of o d) (get_front a (count A f) (subst (λ (l : List ℕ). 0 < length l) p l) ∙ ap (λ (l : List ℕ). Some (front l)) (sym p))) in
          let next = rest a' ((spot_of d).right ∷ s.0) (p ∙ ap (λ (n : ℕ). drop n a) (sym (count-other A f d is))) (drop_one b (count B f) (spot_of d).left ((spot_of d).right ∷ s.0) (sym q ∙ s.1) ∙ ap (λ (n : ℕ). drop n b) (sym (count-own B f d is))) l (omega arith) their s.2 in
          let ca : current_after A (spot_of d) (front a') ≡ front a' = ap (λ (g : Half). cond (is_of A g) (spot_of d).right (front a')) is in
          let cb : current_after B (spot_of d) (front b') ≡ (spot_of d).right = ap (λ (g : Half). cond (is_of B g) (spot_of d).right (front b')) is in
          ap₂ (λ (t : Bool) (n : ℕ). cond {A = ℕ} t 0 1 + n) here (ap₂ (λ (x y : ℕ). missing_turns x y ds) ca cb ∙ next)
