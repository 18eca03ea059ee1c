use Rattle.std.proofs.Common.{Result}
use Rattle.std.specs.Prelude.{OnOk}
use Rattle.std.proofs.lemmas.Result.{IfOk-weaker}
use Rattle.kin_overlay.proofs.overlay.OverlayKinetic.settle.Goals as goal

-- a part of what a repair promises
part_of : {T E P Q : Type 0} (r : Result T E) → OnOk r P → (P → Q) → OnOk r Q
part_of {T} {E} {P} {Q} r h f = IfOk-weaker r (λ _. P) (λ _. Q) (λ _ p. f p) h

pub returns : goal.returns
returns g c =
    let r = c.repair.result in
    let h = c.repair.ensures.repaired in
    record {
      rest = part_of r h (λ k. k.rest);
      settled = part_of r h (λ k. k.settled);
      delta = part_of r h (λ k. k.delta);
      lead = part_of r h (λ k. k.lead);
      fit = part_of r h (λ k. k.fit);
      apart = part_of r h (λ k. k.apart);
      same = part_of r h (λ k. k.same);
      gone = part_of r h (λ k. k.gone);
      unedited = part_of r h (λ k. k.unedited);
      tests = part_of r h (λ k. k.tests);
      broken = c.repair.ensures.broken;
    }
