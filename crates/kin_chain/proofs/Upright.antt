-- The lines of a merge go along x or along y, so its facts may be reflected.
use Rattle.std.proofs.Common.{◌≡◌, ◌⊎◌, inl, inr, refl, sym, ap, ◌∙◌, subst, List, [], ◌∷◌, ℕ, Bool, true, false, cond, pos}
use Rattle.std.specs.Prelude.{Contains}
use Rattle.std.proofs.lemmas.List.Elements.{Contains-append_cases}
use Rattle.kin_algebra.proofs.Members.{contains_none, contains_cases}
use Rattle.kin_algebra.specs.declared.sign.Sign.{Sign}
use Rattle.kin_motion.specs.declared.form.Form.{Form}
use Rattle.kin_motion.specs.declared.form.Form.TheVariants.{Line}
use Rattle.kin_motion.specs.declared.fact.Placed.{Placed}
use Rattle.kin_motion.specs.Chains.{is_zero}
use Rattle.kin_motion.specs.Merges.{Breakpoint, is_of, slope_form, slope_between, slopes_from, end_forms, last_of, forms_of_ends, IsTurnForm, IsListedForm, IsMergeForm, IsTreeFact}
use Rattle.kin_motion.specs.Scene.{Scene, IsReal, x_sign, fact_at, reflected}
use Rattle.kin_motion.specs.ReflectedFacts.{IsUpright, reflected_fact}
use Rattle.kin_motion.proofs.ReflectedFactLaws.{reflected_facts_hold, reflected_twice}

between_upright : (e f : Breakpoint) (g : Form) → Contains (slope_between e f) g → IsUpright g
between_upright e f g c = at (is_of e.half f.half) c
  where
    only : (slope_form e f ≡ g) ⊎ Contains [] g → IsUpright g
    only (inl q) = subst IsUpright q tt
    only (inr k) = absurd (contains_none g k)

    at : (b : Bool) → Contains (cond b [] (slope_form e f ∷ [])) g → IsUpright g
    at true c = absurd (contains_none g c)
    at false c = only (contains_cases (slope_form e f) g [] c)

slopes_upright : (es : List Breakpoint) (g : Form) → Contains (slopes_from es) g → IsUpright g
slopes_upright [] g c = absurd (contains_none g c)
slopes_upright (e ∷ []) g c = absurd (contains_none g c)
slopes_upright (e ∷ f ∷ es) g c = at (Contains-append_cases (slope_between e f) (slopes_from (f ∷ es)) g c) (slopes_upright (f ∷ es) g)
  where
    at : Contains (slope_between e f) g ⊎ Contains (slopes_from (f ∷ es)) g → (Contains (slopes_from (f ∷ es)) g → IsUpright g) → IsUpright g
    at (inl k) rest = between_upright e f g k
    at (inr k) rest = rest k

end_upright : (s : Scene) (a b : ℕ) (g : Form) → Contains (end_forms s a b) g → IsUpright g
end_upright s a b g c = at (contains_cases (Line (pos 1) (pos 0) (pos 0) a b) g (cond (is_zero (x_sign s a b)) (Line (pos 0) (pos 1) (pos 0) a b ∷ []) []) c)
  where
    only : (Line (pos 0) (pos 1) (pos 0) a b ≡ g) ⊎ Contains [] g → IsUpright g
    only (inl q) = subst IsUpright q (inl refl, refl)
    only (inr k) = absurd (contains_none g k)

    along_y : (t : Bool) → Contains (cond t (Line (pos 0) (pos 1) (pos 0) a b ∷ []) []) g → IsUpright g
    along_y false c = absurd (contains_none g c)
    along_y true c = only (contains_cases (Line (pos 0) (pos 1) (pos 0) a b) g [] c)

    at : (Line (pos 1) (pos 0) (pos 0) a b ≡ g) ⊎ Contains (cond (is_zero (x_sign s a b)) (Line (pos 0) (pos 1) (pos 0) a b ∷ []) []) g → IsUpright g
    at (inl q) = subst IsUpright q (inr refl, refl)
    at (inr k) = along_y (is_zero (x_sign s a b)) k

ends_upright : (s : Scene) (a : ℕ) (as' : List ℕ) (b : ℕ) (bs : List ℕ) (g : Form) → Contains (forms_of_ends s a as' b bs) g → IsUpright g
ends_upright s a as' b bs g c = by_chains as' bs c
  where
    both : (c d : ℕ) → Contains (end_forms s a b) g ⊎ Contains (end_forms s c d) g → IsUpright g
    both c d (inl k) = end_upright s a b g k
    both c d (inr k) = end_upright s c d g k

    by_chains : (as' bs : List ℕ) → Contains (forms_of_ends s a as' b bs) g → IsUpright g
    by_chains [] [] c = end_upright s a b g c
    by_chains [] (q ∷ qs) c = both a (last_of b (q ∷ qs)) (Contains-append_cases (end_forms s a b) (end_forms s a (last_of b (q ∷ qs))) g c)
    by_chains (p ∷ ps) bs c = both (last_of a (p ∷ ps)) (last_of b bs) (Contains-append_cases (end_forms s a b) (end_forms s (last_of a (p ∷ ps)) (last_of b bs)) g c)

listed_upright : (s : Scene) (a b : List ℕ) (es : List Breakpoint) (g : Form) → IsListedForm s a b es g → IsUpright g
listed_upright s [] b es g l = absurd l
listed_upright s (a ∷ as') [] es g l = absurd l
listed_upright s (a ∷ as') (b ∷ bs) es g l = by_kind l
  where
    by_kind : IsTurnForm a b es g ⊎ (Contains (slopes_from es) g ⊎ Contains (forms_of_ends s a as' b bs) g) → IsUpright g
    by_kind (inl t) = subst IsUpright (sym t.form) tt
    by_kind (inr (inl c)) = slopes_upright es g c
    by_kind (inr (inr c)) = ends_upright s a as' b bs g c

pub merge_upright : (s : Scene) (left right : List ℕ) (g : Form) → IsMergeForm s left right g → IsUpright g
merge_upright s left right g m = listed_upright s m.a m.b m.breakpoints g m.listed

pub tree_upright : (size : ℕ) (s : Scene) (p : Placed) → IsTreeFact size s p → IsUpright p.fact.form
tree_upright size s p f = subst (λ (q : Placed). IsUpright q.fact.form) (sym f.fact) (merge_upright s _ _ f.form f.merge)

-- where the reflected scene shows a sign, the fact reflected back has the real one
pub reflected_back : (s : Scene) (f : Form) → IsReal s → (left right : List ℕ) → IsMergeForm (reflected s) left right f → reflected_fact (fact_at (reflected s) f) ≡ fact_at s f
reflected_back s f real left right m =
    let shown = (reflected_facts_hold s (fact_at s f) real (merge_upright (reflected s) left right f m)).0 refl in
    ap (λ (t : Sign). reflected_fact (record { form = f; sign = t })) shown ∙ reflected_twice (fact_at s f)

-- where a form of a merge has the same sign in two scenes, it has the same sign after y is turned round in both
pub reflected_alike : (s t : Scene) (f : Form) → IsReal s → IsReal t → IsUpright f → t.sign f ≡ s.sign f → (reflected t).sign f ≡ (reflected s).sign f
reflected_alike s t f real real' upright same = (reflected_facts_hold t (fact_at s f) real' upright).0 same ∙ sym ((reflected_facts_hold s (fact_at s f) real upright).0 refl)
