use Rattle.std.proofs.Common.{◌∙◌}
use Rattle.kin_plain.proofs.Wedges.{near_slots_count}
use Rattle.kin_plain.proofs.closest.put_closest_facts.Goals as goal

pub put_tournament_facts-requires-clause-count : goal.put_tournament_facts-requires-clause-count
put_tournament_facts-requires-clause-count g c = near_slots_count (g.O.Signs.scene c.args.now.now) c.args.size c.deref.result.now (c.deref.ensures.value ∙ c.in_ok-slots.ensures.value)
