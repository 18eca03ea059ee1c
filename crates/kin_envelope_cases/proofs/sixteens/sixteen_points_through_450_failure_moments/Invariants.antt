use Rattle.kin_envelope_cases.proofs.sixteens.sixteen_points_through_450_failure_moments.Given as goal

abbrev pub ghosts-crowd_passes : goal.ghosts-crowd_passes
ghosts-crowd_passes g a = record { name = a.blank.name; parts = a.blank.parts }
