use Rattle.std.proofs.Common.{◌≡◌, sym, subst, List, ℕ, length, Some, Option}
use Rattle.std.specs.Prelude.{slice_get}
use Rattle.kin_motion.specs.Sets.{ListsExactly}
use Rattle.kin_wedge.specs.Threads.{AreThreads, named, next_in, walk}
use Rattle.kin_wedge.proofs.Pointing.{walk_exact, walk_there}
use Rattle.kin_wedge.proofs.threads.Threads.pointing.Goals as goal

pub new-requires : goal.new-requires
new-requires c =
    let words = c.self.inside.words.items in
    walk_there words c.deref-threads.result.now (subst (AreThreads words) (sym c.deref-threads.ensures.value) c.self.invariant) c.args.target c.first_of.result (c.first_of.ensures words)

pub returns : goal.returns
returns c =
    let words = c.self.inside.words.items in
    let threads = c.deref-threads.result.now in
    subst (λ (xs : List ℕ). ListsExactly xs (λ s. slice_get c.args.self.now s ≡ Some (Some c.args.target))) (sym c.new.ensures)
    (subst (λ (xs : List (Option ℕ)). ListsExactly (walk (length threads) (next_in threads) (named c.first_of.result)) (λ s. slice_get xs s ≡ Some (Some c.args.target))) c.self.view_is
    (walk_exact words threads (subst (AreThreads words) (sym c.deref-threads.ensures.value) c.self.invariant) c.args.target c.first_of.result (c.first_of.ensures words)))
