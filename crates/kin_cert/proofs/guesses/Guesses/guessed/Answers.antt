use Rattle.std.proofs.Common.{rules}
use Rattle.kin_cert.proofs.guesses.Guesses.guessed.Goals as goal

pub returns-then-eq : goal.returns-then-eq
returns-then-eq c = search rules
