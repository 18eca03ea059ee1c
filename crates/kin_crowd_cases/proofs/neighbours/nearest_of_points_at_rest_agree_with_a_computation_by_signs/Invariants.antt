use Rattle.kin_crowd_cases.proofs.neighbours.nearest_of_points_at_rest_agree_with_a_computation_by_signs.Given as goal

abbrev pub ghosts-still_agree : goal.ghosts-still_agree
ghosts-still_agree g a = record { name = a.blank.name; parts = a.blank.parts }
