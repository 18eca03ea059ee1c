use Rattle.std.proofs.Common.{ℕ, List, Some, sym, ap, ◌∙◌}
use Rattle.kin_cert.proofs.Keys.{found-key}
use Rattle.kin_cert.proofs.guesses.asked.Goals as goal

pub returns-clause-some : goal.returns-clause-some
returns-clause-some c =
    let key_is = found-key c.args.bucket.now c.args.index.now.entries c.in_ok-position.field-0-1.now (sym c.in_ok-position.ensures.key) in
    record {
      at = c.in_ok-position.ensures.entry ∙ ap (λ (key : List ℕ). Some (key, c.in_ok-position.holder.now)) (sym key_is);
      known = sym c.in_ok-position.ensures.value;
    }
