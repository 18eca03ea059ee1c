use Rattle.std.specs.Prelude.{◌≡◌, false, Result, Ok, Err, is_err, IfOk}
use Rattle.std.proofs.Common.{◌∙◌, sym}
use Rattle.kin_proved_example.proofs.turn.Goals as goal

-- what isn't an `Err` has a value
value_of : {A E : Type 0} (P : A → Type 0) (r : Result A E) → is_err r ≡ false → IfOk r P → (v : A) × P v
value_of P (Ok v) ok h = (v, h)
value_of P (Err e) ok h = absurd cc

pub turn-requires-clause-turnable : goal.turn-requires-clause-turnable
turn-requires-clause-turnable g c = value_of _ c.turned.result (sym c.is_err.ensures.value ∙ c.if-is_err.false) c.turned.ensures.turns
