use Rattle.kin_part_cases.proofs.races.two_points_that_meet.Given as goal

abbrev pub ghosts-races : goal.ghosts-races
ghosts-races g a = record { name = a.blank.name; parts = a.blank.parts }
