use Rattle.kin_cert_cases.proofs.remaking.a_point_goes_on_as_before.Given as goal

abbrev pub ghosts-is_shown : goal.ghosts-is_shown
ghosts-is_shown g a = record { name = a.blank.name; parts = a.blank.parts }
