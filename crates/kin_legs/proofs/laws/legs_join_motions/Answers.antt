use Rattle.kin_legs.proofs.JoinedLaws.{dropped_legs_are_gone, added_legs_are_last, begun_legs_are_motions, legs_ahead_are_left}
use Rattle.kin_legs.proofs.laws.legs_join_motions.Goals as goal

pub returns : goal.returns
returns c = record { dropped = dropped_legs_are_gone; added = added_legs_are_last; begun = begun_legs_are_motions; ahead = legs_ahead_are_left }
