use Rattle.std.proofs.Common.{inl, inr, refl, sym, ap, ◌∙◌}
use Rattle.kin_algebra.specs.declared.sign.Sign.TheVariants.{Minus, Plus}
use Rattle.kin_algebra.specs.Signs.{sign_of}
use Rattle.kin_algebra.proofs.IntegerSigns.{sign_in}
use Rattle.kin_algebra.proofs.Signs.{code}
use Rattle.kin_instant.proofs.LineFailures.{turns, turns_not}
use Rattle.kin_instant.proofs.next.line_root_from.Goals as goal

pub returns-then-not-comes_to_zero : goal.returns-then-not-comes_to_zero
returns-then-not-comes_to_zero c =
    let told = c.if-not-comes_to_zero.ensures in
    let never = turns_not c.args.p.now c.args.m.now c.recall_canonical.ensures.form c.requires.flat c.recall_small.ensures c.args.sign c.requires.sign c.requires.some (told.rises refl) (told.falls refl) in
    record { next = tt; none = never.0; kept = never.1 }

pub root_of_line-requires : goal.root_of_line-requires
root_of_line-requires c = record {
  sloped = λ level. elim (c.if-not-comes_to_zero.ensures.comes refl) [
    | inl up ↦ code (sym (sign_in Plus c.args.p.now.b up.0) ∙ ap sign_of level)
    | inr down ↦ code (sym (sign_in Minus c.args.p.now.b down.0) ∙ ap sign_of level)
  ];
}

pub returns : goal.returns
returns c =
    let root = c.root_of_line.ensures in
    let comes = turns c.args.p.now c.args.m.now c.recall_canonical.ensures.form c.requires.flat c.recall_small.ensures c.args.sign c.requires.sign (c.if-not-comes_to_zero.ensures.comes refl) c.root_of_line.result root.rising root.falling root.canonical in
    record { next = comes.0; none = tt; kept = comes.1 }
