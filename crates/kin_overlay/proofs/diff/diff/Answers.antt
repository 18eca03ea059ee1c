use Rattle.std.proofs.Common.{Result}
use Rattle.std.specs.Prelude.{OnOk}
use Rattle.std.proofs.lemmas.Result.{IfOk-weaker}
use Rattle.kin_overlay.proofs.ShiftLaws.{not-later}
use Rattle.kin_overlay.proofs.diff.diff.Goals as goal

-- what follows from what is so on `Ok`
by : {T E P Q : Type 0} (r : Result T E) → OnOk r P → (P → Q) → OnOk r Q
by {T} {E} {P} {Q} r h f = IfOk-weaker r (λ _. P) (λ _. Q) (λ _ p. f p) h

pub returns : goal.returns
returns c =
    let r = c.diff_middle.result in
    let h = c.diff_middle.ensures in
    record {
      lead = by r h (λ d. (not-later d.0 _ _ _ d.1 d.2).lead);
      fit = by r h (λ d. (not-later d.0 _ _ _ d.1 d.2).fit);
      apart = by r h (λ d. (not-later d.0 _ _ _ d.1 d.2).apart);
    }
