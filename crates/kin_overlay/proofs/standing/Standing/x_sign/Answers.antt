use Rattle.std.proofs.Common.{◌≡◌, ◌⊎◌, inl, inr, refl, sym, subst, Option, pos, Contains}
use Rattle.kin_overlay.specs.declared.end.End.{End}
use Rattle.kin_motion.specs.declared.fact.Fact.{Fact}
use Rattle.kin_overlay.specs.Remembered.{end_facts}
use Rattle.kin_overlay.proofs.AskedLaws.{of-end}
use Rattle.kin_overlay.proofs.standing.Standing.x_sign.Goals as goal

-- an end that is read
read : (o m : Option End) (f : Fact) → o ≡ m → Contains (end_facts m) f → Contains (end_facts o) f
read o m f e c = subst (λ (x : Option End). Contains (end_facts x) f) (sym e) c

pub returns-clause-unknown : goal.returns-clause-unknown
returns-clause-unknown c = λ none f is there u.
    let m = c.args.self.now.list.now in
    let at : Contains (end_facts m.left) f ⊎ Contains (end_facts m.right) f → ⊥ = λ e. elim e [
      | inl d ↦ c.in_default.ensures.unknown refl f is (read c.left.result m.left f c.left.ensures d) u
      | inr d ↦ c.x_sign_of-2.ensures.unknown none f is (read c.right.result m.right f c.right.ensures d) u
    ] in
    at (of-end m f (pos 1) (pos 0) (pos 0) c.args.a c.args.b is there)
