use Rattle.std.proofs.Common.{sym, subst, ℕ, ◌<◌, length, List, Option}
use Rattle.std.specs.Prelude.{MatchOption}
use Rattle.kin_wedge.proofs.Pointing.{target_within}
use Rattle.kin_wedge.proofs.threads.Threads.target.Goals as goal

pub returns-clause-within : goal.returns-clause-within
returns-clause-within c =
    subst (λ (targets : List (Option ℕ)). MatchOption c.named.result (Unit {0}) (λ target. target < length targets)) c.self.view_is
    (target_within c.self.inside.words.items c.self.inside.threads.items c.self.invariant.threaded c.args.slot c.index.result.now c.named.result
    (subst (λ (targets : List (Option ℕ)). c.args.slot < length targets) (sym c.self.view_is) c.requires) c.index.ensures c.named.ensures)
