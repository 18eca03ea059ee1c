use Rattle.std.proofs.Common.{◌∙◌, sym, ap, subst}
use Rattle.std.specs.Prelude.{is_some, IsTrue}
use Rattle.kin_motion.proofs.LiveLaws.{live-members}
use Rattle.kin_cert_cases.proofs.trial.is_live.Goals as goal

pub returns : goal.returns
returns c = λ h. subst IsTrue (c.is_some.ensures ∙ ap is_some c.get.ensures.motion ∙ sym (live-members c.args.motions.now c.args.number)) h
