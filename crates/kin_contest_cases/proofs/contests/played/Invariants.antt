use Rattle.kin_contest_cases.proofs.contests.played.Given as goal

abbrev pub ghosts-play : goal.ghosts-play
ghosts-play a = record { name = a.blank.name; parts = a.blank.parts }
