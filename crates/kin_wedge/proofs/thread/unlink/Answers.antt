use Rattle.std.proofs.Common.{sym, subst, ℕ, ◌<◌, ◌∙◌}
use Rattle.kin_wedge.specs.Threads.{web}
use Rattle.kin_wedge.proofs.Linking.{slot_below, target_below, next_below, previous_below, unlinked_so}
use Rattle.kin_wedge.proofs.thread.unlink.Goals as goal

pub index-requires : goal.index-requires
index-requires c = subst (λ (n : ℕ). c.args.slot < n) (sym c.args.threads.now.ok.0) (slot_below c.args.words.now.items c.args.threads.now.items c.requires.even c.args.slot c.args.target c.requires.points)

pub follow-requires-clause-target : goal.follow-requires-clause-target
follow-requires-clause-target c =
    let words = c.args.words.now.items in
    let threads = c.args.threads.now.items in
    target_below words threads c.requires.even c.args.slot c.index.result.now (slot_below words threads c.requires.even c.args.slot c.args.target c.requires.points) c.index.ensures c.requires.threaded c.args.target c.requires.points

pub follow-requires-clause-previous : goal.follow-requires-clause-previous
follow-requires-clause-previous c =
    let words = c.args.words.now.items in
    let threads = c.args.threads.now.items in
    previous_below words threads c.requires.even c.args.slot c.index.result.now (slot_below words threads c.requires.even c.args.slot c.args.target c.requires.points) c.index.ensures c.requires.threaded c.args.target c.requires.points

pub precede-requires : goal.precede-requires
precede-requires c = λ n e.
    let words = c.args.words.now.items in
    let threads = c.args.threads.now.items in
    subst (λ (m : ℕ). n < m) (sym c.follow.ensures.length)
    (next_below words threads c.requires.even c.args.slot c.index.result.now (slot_below words threads c.requires.even c.args.slot c.args.target c.requires.points) c.index.ensures c.requires.threaded c.args.target c.requires.points n e)

pub set_target-requires : goal.set_target-requires
set_target-requires c = subst (λ (m : ℕ). c.args.slot < m) c.requires.even (slot_below c.args.words.now.items c.args.threads.now.items c.requires.even c.args.slot c.args.target c.requires.points)

pub returns-clause-web : goal.returns-clause-web
returns-clause-web c =
    let words = c.args.words.now.items in
    let threads = c.args.threads.now.items in
    unlinked_so words threads c.requires.even c.args.slot c.index.result.now (slot_below words threads c.requires.even c.args.slot c.args.target c.requires.points) c.index.ensures c.args.target
    (web words c.follow.new.threads.items) (web words c.precede.new.threads.items) (web c.set_target.new.words.items c.precede.new.threads.items)
    (c.follow.ensures.web words) (c.precede.ensures.web words) (c.set_target.ensures.web c.precede.new.threads.items)

pub returns-clause-even : goal.returns-clause-even
returns-clause-even c = c.precede.ensures.length ∙ c.follow.ensures.length ∙ c.requires.even ∙ sym c.set_target.ensures.length
