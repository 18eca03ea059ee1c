-- A form that may be asked for names no number that isn't live.
use Rattle.std.proofs.Common.{◌≡◌, ◌≢◌, refl, sym, subst, List, [], ◌∷◌, ℕ, false}
use Rattle.kin_motion.specs.declared.form.Form.{Form}
use Rattle.kin_motion.specs.declared.form.Form.TheVariants.{Line, Turn, Slope, Dist}
use Rattle.kin_motion.specs.Forms.{names, IsAskable}
use Rattle.kin_motion.specs.Numbers.{IsIn}
use Rattle.kin_motion.proofs.Members.{not_in_cons}

module _ (live : List ℕ) (i : ℕ) (absent : ¬ (IsIn i live)) where
  other : {n : ℕ} → IsIn n live → i ≢ n
  other k e = absent (subst (λ m. IsIn m live) (sym e) k)

  pub names_live : (f : Form) → IsAskable live f → names f i ≡ false
  names_live (Line dx dy off a b) h = not_in_cons i a (b ∷ []) (other h.i_live) (not_in_cons i b [] (other h.j_live) refl)
  names_live (Turn a b c) h = not_in_cons i a (b ∷ c ∷ []) (other h.0) (not_in_cons i b (c ∷ []) (other h.1) (not_in_cons i c [] (other h.2) refl))
  names_live (Slope a b c d) h = not_in_cons i a (b ∷ c ∷ d ∷ []) (other h.0) (not_in_cons i b (c ∷ d ∷ []) (other h.1) (not_in_cons i c (d ∷ []) (other h.2) (not_in_cons i d [] (other h.3) refl)))
  names_live (Dist a b c d) h = not_in_cons i a (b ∷ c ∷ d ∷ []) (other h.0) (not_in_cons i b (c ∷ d ∷ []) (other h.1) (not_in_cons i c (d ∷ []) (other h.2) (not_in_cons i d [] (other h.3) refl)))
