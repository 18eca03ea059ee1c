use Rattle.kin_cases.proofs.failures.earlier.Given as goal

abbrev pub ghosts-earlier_for : goal.ghosts-earlier_for
ghosts-earlier_for a = record { name = a.blank.name; parts = a.blank.parts }
