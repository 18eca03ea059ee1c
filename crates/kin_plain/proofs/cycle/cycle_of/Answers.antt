use Rattle.std.proofs.Common.{◌∙◌}
use Rattle.kin_plain.proofs.LiveLists.{all_live}
use Rattle.kin_plain.proofs.Chains.{cycle_made}
use Rattle.kin_plain.proofs.cycle.cycle_of.Goals as goal

pub lower_chain_of-requires : goal.lower_chain_of-requires
lower_chain_of-requires g c = record { set_live = all_live (g.O.Signs.scene c.args.now.now) c.args.live.now c.requires.live }

pub upper_chain_of-requires : goal.upper_chain_of-requires
upper_chain_of-requires g c = record { set_live = all_live (g.O.Signs.scene c.args.now.now) c.args.live.now c.requires.live }

pub returns : goal.returns
returns g c =
    cycle_made (g.O.Signs.scene c.args.now.now) c.args.live.now c.deref.result.now c.deref-2.result.now c.in_ok-cycle.cycle.items c.requires.live (c.deref.ensures.value ∙ c.in_ok-lower.ensures)
    (c.deref-2.ensures.value ∙ c.in_ok-upper.ensures) c.in_ok-cycle.ensures
