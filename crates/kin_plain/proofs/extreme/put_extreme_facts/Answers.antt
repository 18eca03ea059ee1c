use Rattle.std.proofs.Common.{w32, ◌∙◌}
use Rattle.std.proofs.lemmas.Int.{to_z-of_z}
use Rattle.std.proofs.lemmas.Result.{on_ok_weaker}
use Rattle.kin_plain.proofs.Nodes.{extreme_put, point_slots_count, points_may}
use Rattle.kin_plain.proofs.extreme.put_extreme_facts.Goals as goal

pub put_tournament_facts-requires-clause-count : goal.put_tournament_facts-requires-clause-count
put_tournament_facts-requires-clause-count g c = point_slots_count c.args.size c.args.live.now c.deref.result.now (c.deref.ensures.value ∙ c.in_ok-slots.ensures)

pub put_tournament_facts-requires-clause-may : goal.put_tournament_facts-requires-clause-may
put_tournament_facts-requires-clause-may g c =
    points_may (g.O.Signs.scene c.args.now.now) c.args.dx c.args.dy _ _ c.args.size c.args.live.now c.deref.result.now (to_z-of_z w32 c.args.dx (record { sfits = c.ranges.dx.sfits }))
    (to_z-of_z w32 c.args.dy (record { sfits = c.ranges.dy.sfits })) c.requires.small
    c.requires.live (c.deref.ensures.value ∙ c.in_ok-slots.ensures)

pub returns : goal.returns
returns g c =
    on_ok_weaker c.put_tournament_facts.result
    (λ put.
    extreme_put (g.O.Signs.scene c.args.now.now) c.args.dx c.args.dy _ _ c.args.size c.args.live.now c.deref.result.now c.args.facts.now.items c.put_tournament_facts.new.facts.items
    (to_z-of_z w32 c.args.dx (record { sfits = c.ranges.dx.sfits }))
    (to_z-of_z w32 c.args.dy (record { sfits = c.ranges.dy.sfits })) c.requires.live (c.deref.ensures.value ∙ c.in_ok-slots.ensures) put)
    c.put_tournament_facts.ensures
