use Rattle.std.proofs.Common.{ℕ, ◌<◌, ◌^◌}
use Rattle.std.proofs.lemmas.List.Elements.{All-same, All-weaker}
use Rattle.kin_motion.specs.Numbers.{IsIn}
use Rattle.kin_plain.specs.Halves.{AreEndsLive}
use Rattle.kin_plain.proofs.Sweeping.{ends_small}
use Rattle.kin_plain.proofs.diameter.put_sweep_facts.Goals as goal

pub put_cell_facts-requires-clause-first : goal.put_cell_facts-requires-clause-first
put_cell_facts-requires-clause-first g c = All-weaker (λ (i : ℕ). IsIn i (g.O.Signs.scene c.args.now.now).live) (λ (i : ℕ). i < 2 ^ 12) c.requires.small c.args.upper.now c.requires.upper_live

pub put_cell_facts-requires-clause-small : goal.put_cell_facts-requires-clause-small
put_cell_facts-requires-clause-small g c =
    ends_small (g.O.Signs.scene c.args.now.now).live c.requires.small c.deref-2.result.now
    (All-same (AreEndsLive (g.O.Signs.scene c.args.now.now).live) c.deref-2.result.now c.in_ok-list.list.items c.deref-2.ensures.value c.in_ok-list.ensures.live)
