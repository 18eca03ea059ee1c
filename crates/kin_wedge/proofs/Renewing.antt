-- A candidate after an offer is in its octant.
use Rattle.std.proofs.Common.{◌≡◌, ◌≢◌, refl, sym, ap, ◌∙◌, arith, ◌*◌, ◌<◌, List, ℕ, [], ◌∷◌, zero, suc, set, Bool, true, false, cond, Some, None, Option, inl, inr, ◌⊎◌}
use Rattle.std.specs.Prelude.{slice_get}
use Rattle.std.proofs.lemmas.Option.{same_Some}
use Rattle.std.proofs.lemmas.Bool.{cases_Bool, and_parts}
use Rattle.kin_motion.specs.Numbers.{is_in}
use Rattle.kin_motion.specs.Records.{stands_before}
use Rattle.kin_motion.specs.Octants.{Octant, octants}
use Rattle.kin_wedge.specs.Rows.{row_of, stands_after, is_in_wedge, IsFirstAnswer, HaveSlots}
use Rattle.kin_wedge.specs.Touched.{IsRenewed}
use Rattle.kin_wedge.proofs.Places.{first_is_in, second_is_in}

module _ (rows : List (List ℕ)) (o : Octant) (p : ℕ) where
  answer_within : (new : Option ℕ) (c : ℕ) → IsFirstAnswer rows o p new → new ≡ Some c → is_in_wedge rows o p c ≡ true
  answer_within None c h e = absurd cc
  answer_within (Some d) c h e = ap (is_in_wedge rows o p) (sym (same_Some d c e)) ∙ h.member

  -- a candidate that is another one than before
  pub renewed_within : (old offer new : Option ℕ) (c : ℕ) → IsRenewed rows o p old offer new → old ≢ new → new ≡ Some c → is_in_wedge rows o p c ≡ true
  renewed_within old None new c r n e = answer_within new c (r.looked_up refl) e
  renewed_within None (Some q) new c r n e = at (cases_Bool (is_in_wedge rows o p q))
    where
      at : (is_in_wedge rows o p q ≡ true) ⊎ (is_in_wedge rows o p q ≡ false) → is_in_wedge rows o p c ≡ true
      at (inl t) = ap (is_in_wedge rows o p) (same_Some c q (sym e ∙ r.taken q refl refl t)) ∙ t
      at (inr f) = absurd (n (sym (r.still_none q refl refl f)))
  renewed_within (Some d) (Some q) new c r n e = at (cases_Bool (is_in_wedge rows o p q)) (cases_Bool (stands_after rows o.third q d))
    where
      at : (is_in_wedge rows o p q ≡ true) ⊎ (is_in_wedge rows o p q ≡ false) → (stands_after rows o.third q d ≡ true) ⊎ (stands_after rows o.third q d ≡ false) → is_in_wedge rows o p c ≡ true
      at (inl i) (inl b) = ap (is_in_wedge rows o p) (same_Some c q (sym e ∙ r.better d q refl refl i b)) ∙ i
      at (inl i) (inr w) = absurd (n (sym (r.kept d q refl refl (inr w))))
      at (inr f) w = absurd (n (sym (r.kept d q refl refl (inl f))))

  -- who is in an octant is in the lists, so it has slots
  pub within_slots : (n c : ℕ) → HaveSlots rows n → is_in_wedge rows o p c ≡ true → 8 * c < n
  within_slots n c slots h = at o.first.from_end (and_parts _ _ h).0
    where
      member : is_in c (row_of rows o.first.part) ≡ true → 8 * c < n
      member m = let s = slots o.first.part c m in omega (arith, s)

      at : (e : Bool) → cond e (stands_before (row_of rows o.first.part) c p) (stands_before (row_of rows o.first.part) p c) ≡ true → 8 * c < n
      at true k = member (first_is_in _ c p k)
      at false k = member (second_is_in _ p c k)

pub same_octant : (w : ℕ) (a b : Octant) → slice_get octants w ≡ Some a → slice_get octants w ≡ Some b → a ≡ b
same_octant w a b e f = same_Some a b (sym e ∙ f)

-- a write of what is there changes nothing
pub set_as_it_is : {A : Type 0} (xs : List A) (p : ℕ) (x : A) → slice_get xs p ≡ Some x → xs ≡ set xs p x
set_as_it_is [] p x e = refl
set_as_it_is {A} (y ∷ ys) zero x e = ap (λ z. z ∷ ys) (same_Some y x e)
set_as_it_is {A} (y ∷ ys) (suc p) x e = ap (λ (l : List A). y ∷ l) (set_as_it_is ys p x e)
