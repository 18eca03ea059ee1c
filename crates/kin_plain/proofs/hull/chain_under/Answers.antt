use Rattle.std.proofs.Common.{◌∙◌}
use Rattle.kin_motion.specs.Tournaments.{is_under}
use Rattle.kin_plain.proofs.LiveLists.{all_live, part_live, chain_live}
use Rattle.kin_plain.proofs.hull.chain_under.Goals as goal

pub upper_chain_of-requires : goal.upper_chain_of-requires
upper_chain_of-requires g c = record {
  set_live =
      part_live (g.O.Signs.scene c.args.now.now) (is_under c.args.size c.args.node) c.args.live.now c.deref.result.now (all_live (g.O.Signs.scene c.args.now.now) c.args.live.now c.requires.live)
      (c.deref.ensures.value ∙ c.in_ok-under.ensures);
}

pub returns-clause-live : goal.returns-clause-live
returns-clause-live g c =
    chain_live (g.O.Signs.scene c.args.now.now) c.deref.result.now c.in_ok-chain.chain.items
    (part_live (g.O.Signs.scene c.args.now.now) (is_under c.args.size c.args.node) c.args.live.now c.deref.result.now (all_live (g.O.Signs.scene c.args.now.now) c.args.live.now c.requires.live)
    (c.deref.ensures.value ∙ c.in_ok-under.ensures)) c.in_ok-chain.ensures
