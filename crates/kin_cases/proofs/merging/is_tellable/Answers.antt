use Rattle.std.proofs.Common.{sym, subst, List, ℕ, length}
use Rattle.kin_motion.specs.Course.{live_of}
use Rattle.kin_motion.specs.Numbers.{IsIn}
use Rattle.kin_overlay.specs.Fingers.{AreLive}
use Rattle.kin_cases.proofs.ByTests.{all_in, has_some}
use Rattle.kin_cases.proofs.merging.is_tellable.Goals as goal

pub returns-then-is_empty : goal.returns-then-is_empty
returns-then-is_empty g c = λ e. absurd cc

pub returns : goal.returns
returns g c = λ e. record {
  some = has_some (length c.args.chain.now) c.is_empty.result c.is_empty.ensures c.if-is_empty.false;
  live = subst (λ (live : List ℕ). AreLive live c.args.chain.now) (sym c.args.now.now.live) (all_in (λ (i : ℕ). IsIn i (live_of c.args.now.now.motions.now)) c.args.chain.now (c.are_live.ensures c.if-not-are_live.false));
  is_chain = c.in_ok-is_chain.ensures e;
}
