use Rattle.kin_merge_cases.proofs.halves.facts_that_name_a_dropped_number_are_spared.Given as goal

abbrev pub ghosts-middle_leaves : goal.ghosts-middle_leaves
ghosts-middle_leaves g a = record { name = a.blank.name; parts = a.blank.parts }
