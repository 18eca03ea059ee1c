use Rattle.kin_legs.proofs.BeginLaws.{legs_begin_in_time}
use Rattle.kin_legs.proofs.LeftLaws.{paths_are_left, past_legs_dont_matter}
use Rattle.kin_legs.proofs.LastingLaws.{lasting_motions_stay}
use Rattle.kin_legs.proofs.laws.paths_are_left.Goals as goal

pub returns : goal.returns
returns c = record { begin = legs_begin_in_time; path = paths_are_left; past = past_legs_dont_matter; lasting = lasting_motions_stay }
