use Rattle.kin_tracker.proofs.tracker.Tracker.remove.Given as goal

abbrev pub ghosts-remove : goal.ghosts-remove
ghosts-remove a = record { name = a.blank.name; parts = a.blank.parts }
