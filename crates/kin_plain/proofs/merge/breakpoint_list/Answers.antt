use Rattle.std.proofs.Common.{refl}
use Rattle.kin_motion.specs.Merges.{Half.{A, B}}
use Rattle.kin_plain.proofs.Merging.{new_ends_live}
use Rattle.kin_plain.proofs.merge.breakpoint_list.Goals as goal

pub merge-requires-clause-these : goal.merge-requires-clause-these
merge-requires-clause-these g c =
    new_ends_live (g.O.Signs.scene c.args.now.now).live A c.args.a.now c.new-these.result.items c.put_breakpoints.new.list.items c.deref.result.now c.requires.a_live c.new-these.ensures.items
    c.in_ok-put_breakpoints.ensures c.deref.ensures.value

pub merge-requires-clause-list : goal.merge-requires-clause-list
merge-requires-clause-list g c =
    new_ends_live (g.O.Signs.scene c.args.now.now).live B c.args.b.now c.new-list.result.items c.put_breakpoints-2.new.list.items c.put_breakpoints-2.new.list.items c.requires.b_live
    c.new-list.ensures.items c.in_ok-put_breakpoints-2.ensures refl
