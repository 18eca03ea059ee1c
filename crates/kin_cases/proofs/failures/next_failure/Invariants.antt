use Rattle.kin_cases.proofs.failures.next_failure.Given as goal

abbrev pub ghosts-failure_of : goal.ghosts-failure_of
ghosts-failure_of a = record { name = a.blank.name; parts = a.blank.parts }
