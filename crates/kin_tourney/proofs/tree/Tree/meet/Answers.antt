use Rattle.std.proofs.Common.{sym, subst, rules}
use Rattle.kin_motion.specs.Forms.{IsAskable}
use Rattle.kin_tourney.proofs.tree.Tree.meet.Goals as goal

pub sign-sign-requires : goal.sign-sign-requires
sign-sign-requires g c = record {
  askable = subst (IsAskable (g.O.Signs.scene c.args.now.now).live) (sym c.form-form.ensures)
      (g.met.K.Keyed.askable c.args.key.now (g.O.Signs.scene c.args.now.now).live c.args.left.item c.args.right.item c.requires.left c.requires.right);
}

pub returns-clause-cost : goal.returns-clause-cost
returns-clause-cost g c = search rules

pub returns-in_err-tell-clause-cost : goal.returns-in_err-tell-clause-cost
returns-in_err-tell-clause-cost g c = search rules

pub returns-clause-value : goal.returns-clause-value
returns-clause-value g c = search rules
