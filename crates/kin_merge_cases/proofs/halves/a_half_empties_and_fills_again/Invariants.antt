use Rattle.kin_merge_cases.proofs.halves.a_half_empties_and_fills_again.Given as goal

abbrev pub ghosts-half_changes : goal.ghosts-half_changes
ghosts-half_changes g a = record { name = a.blank.name; parts = a.blank.parts }
