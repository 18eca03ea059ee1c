use Rattle.std.proofs.Common.{ap, sym, ◌∙◌, List, ℕ, Some, Option}
use Rattle.std.specs.Prelude.{slice_get, None}
use Rattle.kin_wedge.proofs.Pointing.{slot_room, target_there, threads_unlinked}
use Rattle.kin_wedge.proofs.Renewing.{set_as_it_is}
use Rattle.kin_wedge.proofs.threads.Threads.release.Goals as goal

pub invariant_of-self : goal.invariant_of-self
invariant_of-self c =
    let words = c.self.inside.words.items in
    let threads = c.self.inside.threads.items in
    threads_unlinked words threads c.unlink.new.words.items c.unlink.new.threads.items c.unlink.ensures.even c.args.slot c.in-Some.target c.self.invariant
    (target_there words threads c.args.slot c.index.result.now (slot_room words threads c.args.slot c.args.self.now c.self.view_is c.requires) c.index.ensures
    ∙ ap (λ (o : Option ℕ). Some o) (sym c.named.ensures ∙ c.in-Some.is)) c.unlink.ensures.web

pub returns-in_default : goal.returns-in_default
returns-in_default c =
    let words = c.self.inside.words.items in
    let threads = c.self.inside.threads.items in
    set_as_it_is c.args.self.now c.args.slot None
    (ap (λ (xs : List (Option ℕ)). slice_get xs c.args.slot) (sym c.self.view_is)
    ∙ target_there words threads c.args.slot c.index.result.now (slot_room words threads c.args.slot c.args.self.now c.self.view_is c.requires) c.index.ensures
    ∙ ap (λ (o : Option ℕ). Some o) (sym c.named.ensures ∙ c.in_default.is))
