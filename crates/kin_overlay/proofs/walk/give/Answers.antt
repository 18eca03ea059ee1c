use Rattle.std.proofs.Common.{sym, ap, ◌∙◌, List, ℕ}
use Rattle.kin_motion.specs.Cells.{is_last}
use Rattle.kin_overlay.specs.Walks.{last_item}
use Rattle.kin_overlay.proofs.WalkLaws.{give-kept, give-pushed}
use Rattle.kin_overlay.proofs.walk.give.Goals as goal

pub returns-then-ends_in : goal.returns-then-ends_in
returns-then-ends_in c =
    give-kept c.args.chain.now.items c.in-Some.no c.args.point c.in-Some.is
    (ap (λ (l : List ℕ). is_last (last_item l) c.in-Some.no) (sym c.deref.ensures.value) ∙ sym c.ends_in.ensures ∙ c.if-ends_in.true)

pub returns : goal.returns
returns c =
    give-pushed c.args.chain.now.items c.push.new.self.items c.in-Some.no c.args.point c.in-Some.is
    (ap (λ (l : List ℕ). is_last (last_item l) c.in-Some.no) (sym c.deref.ensures.value) ∙ sym c.ends_in.ensures ∙ c.if-ends_in.false) c.in-Ok.ensures.items
