use Rattle.std.proofs.Common.{◌≡◌, sym, ◌∙◌, subst, []}
use Rattle.std.proofs.lemmas.Bool.{eqb-true}
use Rattle.std.proofs.lemmas.List.{nil_from_length}
use Rattle.kin_motion.specs.Edits.{Edit, edited}
use Rattle.kin_overlay.proofs.InTurnLaws.{taken-out}
use Rattle.kin_overlay.proofs.edit.ChainEdit.apply.Goals as goal

pub returns-then-self-eq1-2 : goal.returns-then-self-eq1-2
returns-then-self-eq1-2 c =
    let o = c.self.inside in
    let xs = c.args.list.now.items in
    let none : o.put.items ≡ [] = sym c.as_slice-put.ensures ∙ nil_from_length c.as_slice-put.result.now (eqb-true _ 0 (sym c.is_empty.ensures ∙ c.if-is_empty.true)) in
    subst (λ (e : Edit). c.remove.new.self.items ≡ edited e xs) c.self.view_is
    (c.remove.ensures.items ∙ taken-out (record { place = o.place; drop = o.drop; put = o.put.items }) xs none c.if-self-eq1-2.true)
