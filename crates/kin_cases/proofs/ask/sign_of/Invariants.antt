use Rattle.kin_cases.proofs.ask.sign_of.Given as goal

abbrev pub ghosts-sign_for : goal.ghosts-sign_for
ghosts-sign_for g a = record { name = a.blank.name; parts = a.blank.parts }
