use Rattle.kin_cases.proofs.scene.goes.Given as goal

abbrev pub ghosts-goes_by : goal.ghosts-goes_by
ghosts-goes_by g a = record { name = a.blank.name; parts = a.blank.parts }
