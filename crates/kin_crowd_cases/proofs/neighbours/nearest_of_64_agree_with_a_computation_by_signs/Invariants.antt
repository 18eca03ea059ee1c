use Rattle.kin_crowd_cases.proofs.neighbours.nearest_of_64_agree_with_a_computation_by_signs.Given as goal

abbrev pub ghosts-crowd_passes : goal.ghosts-crowd_passes
ghosts-crowd_passes g a = record { name = a.blank.name; parts = a.blank.parts }
