use Rattle.kin_tracker.proofs.tracker.Tracker.first_within.Given as goal

abbrev pub ghosts-first_within : goal.ghosts-first_within
ghosts-first_within a = record { name = a.blank.name; parts = a.blank.parts }
