use Rattle.std.proofs.Common.{◌∙◌, ap, ap₂}
use Rattle.kin_motion.specs.Numbers.{is_in}
use Rattle.kin_list.specs.declared.mark.Mark.TheVariants.{Rest, Leaves}
use Rattle.kin_wedge.specs.Passages.{changed_slots}
use Rattle.kin_wedge.specs.Wedging.{Wedging, members_of}
use Rattle.kin_wedge.proofs.Keeping.{wedging, kept_at, kept_with, marked_rows, marked_facts, member_as}
use Rattle.kin_wedge.proofs.wedges.Wedges.remove.Goals as goal

pub remove-requires-clause-member : goal.remove-requires-clause-member
remove-requires-clause-member c = λ part l e.
    let k = kept_at c.self.inside.size c.self.inside.mark c.args.self.now.mark c.self.inside.orders.lists.items c.self.inside.candidates.rows.rows.items c.self.inside.candidates.table (ap (λ (v : Wedging). v.mark) c.self.view_is) c.requires.rest c.self.invariant.kept in
    member_as c.self.inside.size Rest c.self.inside.orders.lists.items c.self.inside.candidates.rows.rows.items c.self.inside.candidates.table k part l c.args.no e
    ∙ ap (λ (v : Wedging). is_in c.args.no (members_of v)) c.self.view_is ∙ c.requires.member

pub invariant_of-self : goal.invariant_of-self
invariant_of-self c =
    let k = kept_at c.self.inside.size c.self.inside.mark c.args.self.now.mark c.self.inside.orders.lists.items c.self.inside.candidates.rows.rows.items c.self.inside.candidates.table (ap (λ (v : Wedging). v.mark) c.self.view_is) c.requires.rest c.self.invariant.kept in
    let there = ap (λ (v : Wedging). is_in c.args.no (members_of v)) c.self.view_is ∙ c.requires.member in
    record {
      small = c.self.invariant.small;
      slots = c.self.invariant.slots;
      kept = kept_with c.self.inside.size (Leaves c.args.no) c.self.inside.orders.lists.items c.remove.new.self.lists.items c.self.inside.candidates.rows.rows.items c.self.inside.candidates.table k c.remove.ensures there;
    }

pub returns : goal.returns
returns c =
    let e = c.remove.ensures in
    let old = c.self.inside.orders.lists.items in
    let new = c.remove.new.self.lists.items in
    ap₂ (wedging c.self.inside.size c.self.inside.candidates.table (changed_slots c.self.inside.candidates.table c.self.inside.candidates.touches.all.items) (Leaves c.args.no)) (marked_rows (Leaves c.args.no) old new e) (marked_facts (Leaves c.args.no) 0 old new e)
    ∙ ap (λ (v : Wedging). record v { mark = Leaves c.args.no }) c.self.view_is
