use Rattle.std.proofs.Common.{sym, ap, ◌∙◌, subst, false, ◌^◌}
use Rattle.std.specs.Prelude.{is_some}
use Rattle.kin_algebra.proofs.Places.{get_or-replicate_any}
use Rattle.kin_motion.proofs.LiveLaws.{live-members}
use Rattle.kin_env.specs.Trees.{Envelope}
use Rattle.kin_env.specs.Walks.{slot_in}
use Rattle.kin_cases.specs.Envelopes.{IsFollowed}
use Rattle.kin_cases.proofs.Marked.{followed_at_rest}
use Rattle.kin_cases.proofs.envelope.Envelope.new.Goals as goal

pub invariant_of-result : goal.invariant_of-result
invariant_of-result c =
    let m = c.in_ok-motions in
    let t = c.in_ok-new in
    let gone = c.new-3.result.items in
    let fresh = c.new-4.result.items in
    subst (λ (x : Envelope). IsFollowed c.args.size m.motions x gone fresh) (sym c.new-tree.ensures)
    (followed_at_rest c.args.size m.motions t.field-0 gone fresh c.requires.high m.ensures.room t.ensures.size t.ensures.rest
    (λ i. live-members m.motions i ∙ ap is_some (m.ensures.none i) ∙ sym (ap (λ l. slot_in l i) t.ensures.slots ∙ get_or-replicate_any (2 ^ c.args.size) i false)) c.new-3.ensures.items c.new-4.ensures.items)
