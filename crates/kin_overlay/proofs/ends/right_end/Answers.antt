use Rattle.std.proofs.Common.{sym, ap, ap₂, ◌∙◌, arith, ℕ, Some}
use Rattle.kin_overlay.specs.declared.end.End.{End}
use Rattle.kin_overlay.specs.Fingers.{end_at}
use Rattle.kin_overlay.proofs.MergedLaws.{last_live, last_is, right_is}
use Rattle.kin_overlay.proofs.ends.right_end.Goals as goal

pub end_of-requires-clause-a_live : goal.end_of-requires-clause-a_live
end_of-requires-clause-a_live g c = last_live (g.O.Signs.scene c.args.now.now).live c.args.a.now c.requires.a_some c.requires.a_live

pub end_of-requires-clause-b_live : goal.end_of-requires-clause-b_live
end_of-requires-clause-b_live g c = last_live (g.O.Signs.scene c.args.now.now).live c.args.b.now c.requires.b_some c.requires.b_live

pub returns-clause-value : goal.returns-clause-value
returns-clause-value g c =
    let s = g.O.Signs.scene c.args.now.now in
    let a = c.args.a.now in
    let b = c.args.b.now in
    ap (λ (e : End). Some e) (c.end_of.ensures.value ∙ ap₂ (λ (x y : ℕ). end_at s x y) (last_is a c.requires.a_some) (last_is b c.requires.b_some)) ∙ sym (right_is s a b c.requires.a_some c.requires.b_some (let n = c.if-a-b-eq2.false in let l = c.requires.a_some in let m = c.requires.b_some in omega arith))
