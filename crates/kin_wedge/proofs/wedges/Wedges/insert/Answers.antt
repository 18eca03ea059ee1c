use Rattle.std.proofs.Common.{◌∙◌, sym, ap, ap₂, subst, ◌<◌, ◌^◌}
use Rattle.kin_motion.specs.Numbers.{is_in}
use Rattle.kin_list.specs.declared.mark.Mark.TheVariants.{Rest, Enters}
use Rattle.kin_wedge.specs.Passages.{changed_slots}
use Rattle.kin_wedge.specs.Wedging.{Wedging, members_of}
use Rattle.kin_wedge.proofs.Keeping.{wedging, kept_at, kept_with, marked_rows, marked_facts, member_as}
use Rattle.kin_wedge.proofs.wedges.Wedges.insert.Goals as goal

pub insert-requires-clause-new : goal.insert-requires-clause-new
insert-requires-clause-new c = λ part l e.
    let k = kept_at c.self.inside.size c.self.inside.mark c.args.self.now.mark c.self.inside.orders.lists.items c.self.inside.candidates.rows.rows.items c.self.inside.candidates.table (ap (λ (v : Wedging). v.mark) c.self.view_is) c.requires.rest c.self.invariant.kept in
    member_as c.self.inside.size Rest c.self.inside.orders.lists.items c.self.inside.candidates.rows.rows.items c.self.inside.candidates.table k part l c.args.no e
    ∙ ap (λ (v : Wedging). is_in c.args.no (members_of v)) c.self.view_is ∙ c.requires.new

pub invariant_of-self-2 : goal.invariant_of-self-2
invariant_of-self-2 c =
    let k = kept_at c.self.inside.size c.self.inside.mark c.args.self.now.mark c.self.inside.orders.lists.items c.self.inside.candidates.rows.rows.items c.self.inside.candidates.table (ap (λ (v : Wedging). v.mark) c.self.view_is) c.requires.rest c.self.invariant.kept in
    let there = ap (λ (v : Wedging). is_in c.args.no (members_of v)) c.self.view_is ∙ c.requires.new in
    record {
      small = c.self.invariant.small;
      slots = c.self.invariant.slots;
      kept = kept_with c.self.inside.size (Enters c.args.no) c.self.inside.orders.lists.items c.insert.new.self.lists.items c.self.inside.candidates.rows.rows.items c.self.inside.candidates.table k c.in_ok-insert.ensures (subst (λ (v : Wedging). c.args.no < 2 ^ v.size) (sym c.self.view_is) c.requires.within, there);
    }

pub returns-clause-ok : goal.returns-clause-ok
returns-clause-ok c =
    let e = c.in_ok-insert.ensures in
    let old = c.self.inside.orders.lists.items in
    let new = c.insert.new.self.lists.items in
    ap₂ (wedging c.self.inside.size c.self.inside.candidates.table (changed_slots c.self.inside.candidates.table c.self.inside.candidates.touches.all.items) (Enters c.args.no)) (marked_rows (Enters c.args.no) old new e) (marked_facts (Enters c.args.no) 0 old new e)
    ∙ ap (λ (v : Wedging). record v { mark = Enters c.args.no }) c.self.view_is
