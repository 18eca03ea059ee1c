use Rattle.kin_merge_cases.proofs.sixteens.twice_sixteen_points_through_300_failure_moments.Given as goal

abbrev pub ghosts-crowd_passes : goal.ghosts-crowd_passes
ghosts-crowd_passes g a = record { name = a.blank.name; parts = a.blank.parts }
