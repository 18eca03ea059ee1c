use Rattle.kin_cert_cases.proofs.first_failures.facts_fail_first.Given as goal

abbrev pub ghosts-failure_from : goal.ghosts-failure_from
ghosts-failure_from g a = record { name = a.blank.name; parts = a.blank.parts }
