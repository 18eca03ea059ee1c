use Rattle.std.proofs.Common.{refl, sym, ◌∙◌}
use Rattle.kin_cert.proofs.Tables.{none-of}
use Rattle.kin_cert_cases.proofs.trial.Trial.bear.Goals as goal

pub bear_listed-requires-clause-free : goal.bear_listed-requires-clause-free
bear_listed-requires-clause-free g c = c.sign_of.ensures.none.0 (none-of c.sign_of.result (sym c.is_some.ensures ∙ c.if-is_some.false))

pub bear_listed-requires-clause-askable : goal.bear_listed-requires-clause-askable
bear_listed-requires-clause-askable g c = c.if-not-is_askable.ensures refl
