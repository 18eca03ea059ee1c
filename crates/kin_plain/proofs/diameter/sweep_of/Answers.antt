use Rattle.kin_motion.specs.Merges.{Half.{A}}
use Rattle.kin_plain.proofs.Merging.{new_ends_live}
use Rattle.kin_plain.proofs.Sweeping.{new_back_live}
use Rattle.kin_plain.proofs.diameter.sweep_of.Goals as goal

pub merge-requires-clause-these : goal.merge-requires-clause-these
merge-requires-clause-these g c =
    new_ends_live (g.O.Signs.scene c.args.now.now).live A c.args.upper.now c.new-these.result.items c.put_breakpoints.new.list.items c.deref.result.now c.requires.upper_live c.new-these.ensures.items
    c.in_ok-put_breakpoints.ensures c.deref.ensures.value

pub merge-requires-clause-list : goal.merge-requires-clause-list
merge-requires-clause-list g c =
    new_back_live (g.O.Signs.scene c.args.now.now).live c.args.back.now c.new-list.result.items c.put_breakpoints_back.new.list.items c.requires.back_live c.new-list.ensures.items
    c.in_ok-put_breakpoints_back.ensures
