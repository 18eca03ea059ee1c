use Rattle.std.proofs.Common.{◌≡◌, ◌⊎◌, inl, inr, refl, [], ◌∷◌, sym, ap, ◌∙◌, cond, ℕ, Some, None}
use Rattle.kin_algebra.specs.declared.sign.Sign.{Sign}
use Rattle.kin_algebra.specs.declared.sign.Sign.TheVariants.{Minus, Plus}
use Rattle.kin_motion.specs.Chains.{is_zero}
use Rattle.kin_motion.specs.Scene.{Scene, x_sign, y_sign}
use Rattle.kin_overlay.specs.Fingers.{end_at}
use Rattle.kin_overlay.specs.Repairing.{IsUnknown}
use Rattle.kin_overlay.proofs.AskedLaws.{x-fact, y-fact, asked-by, asked-both}
use Rattle.kin_overlay.proofs.ends.end_of.Goals as goal

-- an end with another sign by x than 0
apart : (s : Scene) (a b : ℕ) (t : Sign) → (t ≡ Minus) ⊎ (t ≡ Plus) → t ≡ x_sign s a b → record { a = a; b = b; x = t; y = None } ≡ end_at s a b
apart s a b t (inl e) q = ap (λ (u : Sign). record { a = a; b = b; x = u; y = None }) e ∙ ap (λ (u : Sign). record { a = a; b = b; x = u; y = cond (is_zero u) (Some (y_sign s a b)) None }) (sym e ∙ q)
apart s a b t (inr e) q = ap (λ (u : Sign). record { a = a; b = b; x = u; y = None }) e ∙ ap (λ (u : Sign). record { a = a; b = b; x = u; y = cond (is_zero u) (Some (y_sign s a b)) None }) (sym e ∙ q)

pub returns-in-Minus-clause-value : goal.returns-in-Minus-clause-value
returns-in-Minus-clause-value g c = apart (g.O.Signs.scene c.args.now.now) c.args.a c.args.b c.end_sign-x.result c.in-Minus.is c.end_sign-x.ensures.value

pub returns-in-Zero-clause-asked : goal.returns-in-Zero-clause-asked
returns-in-Zero-clause-asked g c =
    let by-x = x-fact c.args.a c.args.b c.end_sign-x.result in
    let by-y = y-fact c.args.a c.args.b c.end_height.result in
    let before = c.args.steps.now in
    let middle = c.end_sign-x.new.steps in
    let after = c.end_height.new.steps in
    let unknown = IsUnknown c.args.standing.now in
    asked-both unknown by-x by-y (by-y ∷ []) before middle after refl (asked-by unknown by-x before middle c.end_sign-x.ensures.asked) (asked-by unknown by-y middle after c.end_height.ensures.asked)
