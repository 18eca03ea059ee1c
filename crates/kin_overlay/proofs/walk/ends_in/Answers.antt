use Rattle.std.proofs.Common.{sym, ap, ◌∙◌, Option, ℕ}
use Rattle.kin_motion.specs.Cells.{is_last}
use Rattle.kin_overlay.proofs.WalkLaws.{last-get}
use Rattle.kin_overlay.proofs.walk.ends_in.Goals as goal

pub returns-in-Some : goal.returns-in-Some
returns-in-Some c = ap (λ (o : Option ℕ). is_last o c.args.no) (c.in-Some.ensures.value ∙ sym (last-get c.args.chain.now))

pub returns-in-None : goal.returns-in-None
returns-in-None c = ap (λ (o : Option ℕ). is_last o c.args.no) (c.in-None.ensures.value ∙ sym (last-get c.args.chain.now))
