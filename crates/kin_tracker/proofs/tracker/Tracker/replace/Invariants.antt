use Rattle.kin_tracker.proofs.tracker.Tracker.replace.Given as goal

abbrev pub ghosts-replace : goal.ghosts-replace
ghosts-replace a = record { name = a.blank.name; parts = a.blank.parts }
