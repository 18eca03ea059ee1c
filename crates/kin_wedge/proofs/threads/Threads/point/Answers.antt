use Rattle.std.proofs.Common.{ap, sym, ◌∙◌, subst, List, ℕ, ◌<◌, length, Option}
use Rattle.std.specs.Prelude.{slice_get}
use Rattle.kin_wedge.proofs.Pointing.{threads_linked}
use Rattle.kin_wedge.proofs.threads.Threads.point.Goals as goal

pub invariant_of-self : goal.invariant_of-self
invariant_of-self c =
    threads_linked c.self.inside.words.items c.self.inside.threads.items c.link.new.words.items c.link.new.threads.items c.link.ensures.even c.args.slot c.args.target c.self.invariant
    (ap (λ (xs : List (Option ℕ)). slice_get xs c.args.slot) c.self.view_is ∙ c.requires.vacant)
    (subst (λ (xs : List (Option ℕ)). c.args.target < length xs) (sym c.self.view_is) c.requires.target) c.link.ensures.web
