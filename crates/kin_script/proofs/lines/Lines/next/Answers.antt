use Rattle.std.proofs.Common.{ℕ, List, ◌∷◌, ◌+◌, length, sym, ap, ◌∙◌, arith}
use Rattle.kin_script.specs.Lines.{Word, lines_of, is_nil}
use Rattle.kin_script.specs.Left.{numbered}
use Rattle.kin_script.proofs.LeftLaws.{skips, finds, none_left}
use Rattle.kin_script.proofs.lines.Lines.next.Goals as goal

pub returns-then-not-is_empty-clause-some : goal.returns-then-not-is_empty-clause-some
returns-then-not-is_empty-clause-some c =
    let words = ap is_nil (sym c.of-words.ensures) ∙ sym c.is_empty.ensures ∙ c.if-not-is_empty.true in
    sym c.loop-line.invariant.same
    ∙ finds c.loop-line.self-inside.number c.loop-line.self-inside.rest.now c.in-Some.line.now c.in-Some.rest.now c.in-Some.ensures.line words
    ∙ ap (λ (ws : List Word). (c.loop-line.self-inside.number, ws) ∷ numbered (c.loop-line.self-inside.number + 1) (lines_of c.in-Some.rest.now)) (sym c.of-words.ensures)

pub loop-line-preserved : goal.loop-line-preserved
loop-line-preserved c =
    let none = ap is_nil (sym c.of-words.ensures) ∙ sym c.is_empty.ensures ∙ c.if-not-is_empty.false in
    record {
      room = omega (arith, c.in-Some.ensures.shorter);
      same = sym (skips c.loop-line.self-inside.number c.loop-line.self-inside.rest.now c.in-Some.line.now c.in-Some.rest.now c.in-Some.ensures.line none) ∙ c.loop-line.invariant.same;
      count = omega (arith, ap (λ (ls : List (List ℕ)). length ls) c.in-Some.ensures.line, c.loop-line.invariant.count);
    }

pub returns-clause-none : goal.returns-clause-none
returns-clause-none c = (
  sym c.loop-line.invariant.same ∙ none_left c.loop-line.self-inside.number c.loop-line.self-inside.rest.now c.in_default.ensures.line,
  omega (arith, ap (λ (ls : List (List ℕ)). length ls) c.in_default.ensures.line, c.loop-line.invariant.count),
)
