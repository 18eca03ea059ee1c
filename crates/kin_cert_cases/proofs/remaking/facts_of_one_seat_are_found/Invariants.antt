use Rattle.kin_cert_cases.proofs.remaking.facts_of_one_seat_are_found.Given as goal

abbrev pub ghosts-is_shown : goal.ghosts-is_shown
ghosts-is_shown g a = record { name = a.blank.name; parts = a.blank.parts }
