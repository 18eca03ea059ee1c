use Rattle.kin_nearest.proofs.Stepping.{at_one_place, at_two_places}
use Rattle.kin_nearest.proofs.walk.are_at_one_place.Goals as goal

pub returns-in-Zero-clause-value : goal.returns-in-Zero-clause-value
returns-in-Zero-clause-value g c = at_one_place (g.O.Signs.scene c.args.now.now) c.requires.real c.args.i c.args.j c.sign.result c.sign.ensures.value c.in-Zero.is

pub returns-in_default : goal.returns-in_default
returns-in_default g c = record { value = at_two_places (g.O.Signs.scene c.args.now.now) c.requires.real c.args.i c.args.j c.sign.result c.sign.ensures.value c.in_default.not-Zero; count = c.sign.ensures.count }

pub returns-in-Zero-clause-count : goal.returns-in-Zero-clause-count
returns-in-Zero-clause-count g c = c.sign.ensures.count
