-- What isn't remembered of the outer ends, and what is asked at them.
use Rattle.std.proofs.Common.{◌≡◌, ◌⊎◌, inl, inr, refl, sym, ap, ◌∙◌, subst, arith, List, [], ◌∷◌, ℕ, ◌+◌, ℤ, pos, Option, Some, Contains}
use Rattle.kin_algebra.specs.declared.sign.Sign.{Sign}
use Rattle.kin_motion.specs.declared.form.Form.TheVariants.{Line}
use Rattle.kin_motion.specs.declared.fact.Fact.{Fact}
use Rattle.kin_motion.proofs.SetLaws.{contains_mapped}
use Rattle.kin_overlay.specs.declared.end.End.{End}
use Rattle.kin_overlay.specs.Remembered.{Remembered, place_of, turn_fact, end_facts, facts_of}
use Rattle.kin_overlay.specs.Repairing.{AtLeast}
use Rattle.kin_overlay.proofs.HasLaws.{kinds, Kinds, of-record, slope-is}

abbrev pub x-fact : ℕ → ℕ → Sign → Fact
x-fact a b t = record { form = Line (pos 1) (pos 0) (pos 0) a b; sign = t }

abbrev pub y-fact : ℕ → ℕ → Sign → Fact
y-fact a b t = record { form = Line (pos 0) (pos 1) (pos 0) a b; sign = t }

-- a fact by a line is one of the ends
pub of-end : (m : Remembered) (f : Fact) (dx dy off : ℤ) (i j : ℕ) → f.form ≡ Line dx dy off i j → Contains (facts_of m) f → Contains (end_facts m.left) f ⊎ Contains (end_facts m.right) f
of-end m f dx dy off i j is c = at (kinds m f c)
  where
    at : Kinds m f → Contains (end_facts m.left) f ⊎ Contains (end_facts m.right) f
    at (inl (inl d)) = absurd (let r = contains_mapped turn_fact m.records f d in let clash = sym (ap (λ (g : Fact). g.form) r.2) ∙ is in cc)
    at (inl (inr d)) = absurd (let r = of-record m.records f d in let s = slope-is (place_of r.0) r.0.next f r.2 in let clash = sym s.2 ∙ is in cc)
    at (inr d) = d

-- one of both ends
pub an-end : (left right o : Option End) (n : End) → (left ≡ o) ⊎ (right ≡ o) → o ≡ Some n → (left ≡ Some n) ⊎ (right ≡ Some n)
an-end left right o n (inl e) q = inl (e ∙ q)
an-end left right o n (inr e) q = inr (e ∙ q)

-- ---- what is asked
-- nothing was asked, or one sign that isn't known
abbrev pub IsAsked : (Fact → Type 0) → Fact → ℕ → ℕ → Type 0
IsAsked P f before after = (after ≡ before) ⊎ ((after ≡ before + 1) × P f)

pub asked-by : (P : Fact → Type 0) (f : Fact) (before after : ℕ) → (after ≡ before) ⊎ ((after ≡ before + 1) × ((g : Fact) → g.form ≡ f.form → P g)) → IsAsked P f before after
asked-by P f before after (inl e) = inl e
asked-by P f before after (inr k) = inr (k.0, k.1 f refl)

pub asked-one : (P : Fact → Type 0) (f : Fact) (fs : List Fact) (before middle after : ℕ) → fs ≡ [] → IsAsked P f before middle → after ≡ middle → (n : ℕ) × AtLeast P (f ∷ fs) n × (after ≡ before + n)
asked-one P f fs before middle after none (inl e) q = (0, inl (subst (λ (l : List Fact). AtLeast P l 0) (sym none) refl), omega (arith, e, q))
asked-one P f fs before middle after none (inr k) q = let e = k.0 in (1, inr (0, refl, k.1, subst (λ (l : List Fact). AtLeast P l 0) (sym none) refl), omega (arith, e, q))

pub asked-both : (P : Fact → Type 0) (f g : Fact) (fs : List Fact) (before middle after : ℕ) → fs ≡ g ∷ [] → IsAsked P f before middle → IsAsked P g middle after → (n : ℕ) × AtLeast P (f ∷ fs) n × (after ≡ before + n)
asked-both P f g fs before middle after is k l = at k (second l)
  where
    second : IsAsked P g middle after → (n : ℕ) × AtLeast P fs n × (after ≡ middle + n)
    second m = let w = asked-one P g [] middle after after refl m refl in (w.0, subst (λ (x : List Fact). AtLeast P x w.0) (sym is) w.1, w.2)

    at : IsAsked P f before middle → (n : ℕ) × AtLeast P fs n × (after ≡ middle + n) → (n : ℕ) × AtLeast P (f ∷ fs) n × (after ≡ before + n)
    at (inl e) w = let q = w.2 in (w.0, inl w.1, omega (arith, e, q))
    at (inr m) w = let e = m.0 in let q = w.2 in (w.0 + 1, inr (w.0, refl, m.1, w.1), omega (arith, e, q))
