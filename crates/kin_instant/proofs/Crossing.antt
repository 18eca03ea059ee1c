-- A line that comes to 0 at an instant is on the other side just after it.
use Rattle.std.proofs.Common.{◌≡◌, refl, sym, ap, ◌∙◌, subst, ℤ, pos}
use Rattle.std.specs.Prelude.{◌<ℤ◌}
use lib.IntN.{neg_ℤ}
use Rattle.kin_algebra.specs.declared.sign.Sign.{Sign}
use Rattle.kin_algebra.specs.declared.sign.Sign.TheVariants.{Minus, Zero, Plus}
use Rattle.kin_algebra.specs.Signs.{sign_of, opposite_of}
use Rattle.kin_algebra.proofs.Signs.{code, opposite-opposite}
use Rattle.kin_algebra.proofs.IntegerSigns.{sign_of-negative, sign_out, zero_of}
use Rattle.kin_num.specs.declared.instant.Moment.{Moment}
use Rattle.kin_num.specs.declared.instant.Phase.{Phase}
use Rattle.kin_num.specs.declared.instant.Phase.TheVariants.{At, After}
use Rattle.kin_num.specs.declared.instant.Shape.{Shape}
use Rattle.kin_num.specs.Canonical.{IsCanonicalForm}
use Rattle.kin_num.specs.Instants.{sign_at, sign_at_instant}
use Rattle.kin_num.specs.Order.{IsLess}
use Rattle.kin_num.specs.Quadratic.{Quadratic, quadratic, negated}
use Rattle.kin_num.proofs.LowerFractions.{not_less_itself, less_asym}
use Rattle.kin_num.proofs.SignLaws.{sign_at-neg}
use Rattle.kin_instant.proofs.Kept.{constant_at}
use Rattle.kin_instant.proofs.RootsOf.{line_as}
use Rattle.kin_instant.proofs.SignTable.{IsAt, lift, line_place, line_sign, at_at}

-- an instant itself, and just after it
abbrev pub at_it : Shape → Moment
at_it w = record { at = w; phase = At }

abbrev pub just_after : Shape → Moment
just_after w = record { at = w; phase = After }

module _ (now : Moment) (here : IsCanonicalForm now.at) (w : Shape) (c : IsCanonicalForm w) (before : IsLess now.at w) where
  -- What has the same sign just after the instant as before has it at the instant, too.
  abbrev pub HasStayed : Quadratic → Type 0
  HasStayed p = sign_at p (just_after w) ≡ sign_at p now → sign_at p (at_it w) ≡ sign_at p now

  -- a line that rises, and is 0 at the instant, lies below before it
  module _ (b k : ℤ) (up : pos 0 <ℤ b) where
    abbrev P : Quadratic
    P = quadratic (pos 0) b k

    place_before : sign_at_instant P w ≡ Zero → (u : Sign) → sign_at_instant P now.at ≡ u → IsAt now.at w u
    place_before zero = subst (λ (p : Quadratic). sign_at_instant p w ≡ Zero → (u : Sign) → sign_at_instant p now.at ≡ u → IsAt now.at w u) (line_as b k)
        (λ z. line_place w c (neg_ℤ k) b up z now.at here) zero

    below : (u : Sign) → IsAt now.at w u → (f : Phase) → lift f u ≡ Minus
    below Minus there At = refl
    below Minus there After = refl
    below Zero there f = absurd (not_less_itself w (subst (λ (v : Shape). IsLess v w) there before))
    below Plus there f = absurd (less_asym now.at w here c before there)

    stays : (v : Sign) → sign_at_instant P w ≡ v → lift After v ≡ sign_at P now → v ≡ sign_at P now
    stays Minus e same = same
    stays Plus e same = same
    stays Zero e same =
        let u = sign_at_instant P now.at in
        absurd (code (same ∙ line_sign b k up now.at here now.phase ∙ below u (place_before e u refl) now.phase))

    pub rising : HasStayed P
    rising same = at_at P w ∙ stays (sign_at_instant P w) refl (sym (line_sign b k up w c After) ∙ same)

  -- a line without slope
  level : (k : ℤ) → HasStayed (quadratic (pos 0) (pos 0) k)
  level k same = constant_at w c At k ∙ sym (constant_at now.at here now.phase k)

  -- one that falls is one that rises, turned round
  turned : (p : Quadratic) → HasStayed (negated p) → HasStayed p
  turned p stayed same =
      let there = stayed (sign_at-neg p (just_after w) ∙ ap opposite_of same ∙ sym (sign_at-neg p now)) in
      sym (opposite-opposite (sign_at p (at_it w))) ∙ ap opposite_of (sym (sign_at-neg p (at_it w)) ∙ there ∙ sign_at-neg p now) ∙ opposite-opposite (sign_at p now)

  pub line_stays : (p : Quadratic) → p.a ≡ pos 0 → HasStayed p
  line_stays p flat = at (sign_of p.b) refl
    where
      flat_line : quadratic (pos 0) p.b p.c ≡ p
      flat_line = ap (λ (x : ℤ). quadratic x p.b p.c) (sym flat)

      at : (s : Sign) → sign_of p.b ≡ s → HasStayed p
      at Plus e = subst HasStayed flat_line (rising p.b p.c (sign_out Plus p.b e))
      at Minus e = turned p (subst HasStayed (ap negated flat_line) (rising (neg_ℤ p.b) (neg_ℤ p.c) (sign_out Plus (neg_ℤ p.b) (sign_of-negative p.b ∙ ap opposite_of e))))
      at Zero e = subst HasStayed flat_line (subst (λ (x : ℤ). HasStayed (quadratic (pos 0) x p.c)) (sym (zero_of p.b e)) (level p.c))
