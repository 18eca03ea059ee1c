use Rattle.kin_envelope_cases.proofs.sixteens.sixteen_points_on_a_small_lattice.Given as goal

abbrev pub ghosts-crowd_passes : goal.ghosts-crowd_passes
ghosts-crowd_passes g a = record { name = a.blank.name; parts = a.blank.parts }
