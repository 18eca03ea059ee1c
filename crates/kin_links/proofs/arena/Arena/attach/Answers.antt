use Rattle.kin_links.proofs.Rewiring.{attached}
use Rattle.kin_links.proofs.arena.Arena.attach.Goals as goal

pub returns-clause-attached : goal.returns-clause-attached
returns-clause-attached g c =
    attached _ _ _ _ _ c.args.node c.args.gap _ c.requires.apart (λ n e. (c.requires.next n e).0) c.next_of-next.ensures
    c.set_next.ensures.next c.set_next-2.ensures.next c.set_prev.ensures.prev c.set_prev-2.ensures.prev
