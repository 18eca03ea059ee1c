-- A script of the grammar is in its ranges.
use Rattle.std.proofs.Common.{◌≡◌, ℕ, ◌+◌, ◌≤◌, ◌<◌, ◌^◌, List, length, Result, Ok, Err, arith}
use Rattle.std.specs.Prelude.{IfOk}
use Rattle.std.proofs.lemmas.List.Elements.{All-weaker}
use Rattle.kin_script.specs.declared.script.Script.{Script}
use Rattle.kin_script.specs.declared.read.ReadError.{ReadError}
use Rattle.kin_script.specs.Grammar.{script_of}
use Rattle.kin_script.specs.Gives.{Gives}
use Rattle.kin_script.specs.Ranges.{IsInRange}
use Rattle.kin_script.proofs.NumberedLaws.{script_of-rises, lows, highs, pairs}
use Rattle.kin_script.proofs.ScriptRanges.{script_within}

in_range : (bytes : List ℕ) (s : Script) → length bytes ≤ 2 ^ 20 → script_of bytes ≡ Ok s → IsInRange s
in_range bytes s few e =
    let rises = script_of-rises bytes s e in
    record {
      within = script_within bytes s e;
      low = lows 2 (1 + length bytes) s.lines rises;
      high = All-weaker (λ l. l.0 < 1 + length bytes) (λ l. l.0 ≤ 2 ^ 20) (λ l h. omega arith) s.lines (highs 2 (1 + length bytes) s.lines rises);
      rising = pairs 2 (1 + length bytes) s.lines rises;
    }

pub ranges : (bytes : List ℕ) (r : Result Script ReadError) → length bytes ≤ 2 ^ 20 → Gives r (script_of bytes) → IfOk r IsInRange
ranges bytes (Ok s) few gives = in_range bytes s few gives
ranges bytes (Err e) few gives = tt
