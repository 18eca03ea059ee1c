use Rattle.kin_sorted_cases.proofs.points.three_points_that_meet.Given as goal

abbrev pub ghosts-meetings : goal.ghosts-meetings
ghosts-meetings g a = record { name = a.blank.name; parts = a.blank.parts }
