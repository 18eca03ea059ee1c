use Rattle.kin_crowd_cases.proofs.crowds.written_points.Given as goal

abbrev pub ghosts-still_points : goal.ghosts-still_points
ghosts-still_points a = record { name = a.blank.name; parts = a.blank.parts }
