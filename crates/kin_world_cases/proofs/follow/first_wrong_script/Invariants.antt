use Rattle.kin_world_cases.proofs.follow.first_wrong_script.Given as goal

abbrev pub ghosts-first_wrong : goal.ghosts-first_wrong
ghosts-first_wrong a = record { name = a.blank.name; parts = a.blank.parts }
