use Rattle.std.proofs.Common.{◌≡◌, sym, ap, ◌∙◌, ◌∷◌, [], ◌++◌, true, false}
use Rattle.kin_motion.specs.declared.fact.Placed.{Placed}
use Rattle.kin_diameter.proofs.ListChanges.{told_one, told_none}
use Rattle.kin_diameter.proofs.changes.tell.Goals as goal

pub returns : goal.returns
returns c =
    let before = c.args.told.now.items in
    told_one c.args.others.now c.args.slope before c.push.new.self.items (λ k. let clash : true ≡ false = sym (c.has.ensures.1 k) ∙ c.if-has.false in cc)
    (c.in-Ok.ensures.items ∙ ap (λ (p : Placed). c.args.told.now.items ++ p ∷ []) c.fact.ensures)

pub returns-then-has : goal.returns-then-has
returns-then-has c = told_none c.args.others.now c.args.slope c.args.told.now.items (c.has.ensures.0 c.if-has.true)
