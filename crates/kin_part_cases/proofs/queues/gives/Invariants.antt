use Rattle.kin_part_cases.proofs.queues.gives.Given as goal

abbrev pub ghosts-give : goal.ghosts-give
ghosts-give a = record { name = a.blank.name; parts = a.blank.parts }
