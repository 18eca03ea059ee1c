use Rattle.std.proofs.Common.{◌∙◌}
use Rattle.std.proofs.lemmas.Result.{on_ok_weaker}
use Rattle.kin_motion.specs.Scene.{reflected}
use Rattle.kin_plain.proofs.LiveLists.{all_live, chain_live, number_small}
use Rattle.kin_plain.proofs.Sweeping.{reversed_live, diameter_made}
use Rattle.kin_plain.proofs.diameter.put_diameter_facts.Goals as goal

pub upper_chain_of-requires : goal.upper_chain_of-requires
upper_chain_of-requires g c = record { set_live = all_live (g.O.Signs.scene c.args.now.now) c.args.live.now c.requires.live }

pub lower_chain_of-requires : goal.lower_chain_of-requires
lower_chain_of-requires g c = record { set_live = all_live (g.O.Signs.scene c.args.now.now) c.args.live.now c.requires.live }

pub put_sweep_facts-requires-clause-upper_live : goal.put_sweep_facts-requires-clause-upper_live
put_sweep_facts-requires-clause-upper_live g c =
    chain_live (g.O.Signs.scene c.args.now.now) c.args.live.now c.deref-2.result.now (all_live (g.O.Signs.scene c.args.now.now) c.args.live.now c.requires.live)
    (c.deref-2.ensures.value ∙ c.in_ok-upper.ensures)

pub put_sweep_facts-requires-clause-back_live : goal.put_sweep_facts-requires-clause-back_live
put_sweep_facts-requires-clause-back_live g c =
    reversed_live (g.O.Signs.scene c.args.now.now) c.deref.result.now c.deref-3.result.now
    (chain_live (reflected (g.O.Signs.scene c.args.now.now)) c.args.live.now c.deref.result.now (all_live (g.O.Signs.scene c.args.now.now) c.args.live.now c.requires.live)
    (c.deref.ensures.value ∙ c.in_ok-lower.ensures))
    (c.deref-3.ensures.value ∙ c.in_ok-back.ensures)

pub returns : goal.returns
returns g c =
    on_ok_weaker c.put_sweep_facts.result
    (λ put.
    diameter_made (g.O.Signs.scene c.args.now.now) c.args.size c.args.live.now c.deref-2.result.now c.deref.result.now c.deref-3.result.now c.args.facts.now.items c.put_sweep_facts.new.facts.items
    c.requires.live
    (c.deref-2.ensures.value ∙ c.in_ok-upper.ensures) (c.deref.ensures.value ∙ c.in_ok-lower.ensures) (c.deref-3.ensures.value ∙ c.in_ok-back.ensures) put)
    c.put_sweep_facts.ensures

pub put_sweep_facts-requires-clause-small : goal.put_sweep_facts-requires-clause-small
put_sweep_facts-requires-clause-small g c = number_small (g.O.Signs.scene c.args.now.now) c.args.size c.requires.fits c.requires.size
