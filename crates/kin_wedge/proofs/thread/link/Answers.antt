use Rattle.std.proofs.Common.{sym, subst, ℕ, ◌<◌, ◌∙◌}
use Rattle.kin_wedge.specs.Threads.{web}
use Rattle.kin_wedge.proofs.Linking.{first_below, linked_so}
use Rattle.kin_wedge.proofs.thread.link.Goals as goal

pub index-requires : goal.index-requires
index-requires c = subst (λ (n : ℕ). c.args.target < n) (sym c.requires.even ∙ sym c.args.threads.now.ok.0) c.requires.target

pub set_next-requires : goal.set_next-requires
set_next-requires c = subst (λ (n : ℕ). c.args.slot < n) (sym c.requires.even) c.requires.slot

pub set_previous-requires : goal.set_previous-requires
set_previous-requires c = subst (λ (n : ℕ). c.args.slot < n) (sym c.requires.even ∙ sym c.set_next.ensures.length) c.requires.slot

pub precede-requires : goal.precede-requires
precede-requires c = λ n e.
    let words = c.args.words.now.items in
    let threads = c.args.threads.now.items in
    subst (λ (m : ℕ). n < m) (sym (c.set_previous.ensures.length ∙ c.set_next.ensures.length))
    (first_below words threads c.requires.even c.args.target c.index.result.now (subst (λ (m : ℕ). c.args.target < m) (sym c.requires.even) c.requires.target) c.index.ensures c.requires.threaded n e)

pub set_first-requires : goal.set_first-requires
set_first-requires c = subst (λ (m : ℕ). c.args.target < m) (sym (c.precede.ensures.length ∙ c.set_previous.ensures.length ∙ c.set_next.ensures.length ∙ c.requires.even)) c.requires.target

pub returns-clause-web : goal.returns-clause-web
returns-clause-web c =
    let ws = c.set_target.new.words.items in
    linked_so c.args.words.now.items c.args.threads.now.items c.requires.even c.args.slot c.args.target c.index.result.now c.requires.small c.requires.slot c.requires.target c.index.ensures
    (web ws c.args.threads.now.items) (web ws c.set_next.new.threads.items) (web ws c.set_previous.new.threads.items) (web ws c.precede.new.threads.items) (web ws c.set_first.new.threads.items)
    (c.set_target.ensures.web c.args.threads.now.items) (c.set_next.ensures.web ws) (c.set_previous.ensures.web ws) (c.precede.ensures.web ws) (c.set_first.ensures.web ws)

pub returns-clause-even : goal.returns-clause-even
returns-clause-even c = c.set_first.ensures.length ∙ c.precede.ensures.length ∙ c.set_previous.ensures.length ∙ c.set_next.ensures.length ∙ c.requires.even ∙ sym c.set_target.ensures.length
