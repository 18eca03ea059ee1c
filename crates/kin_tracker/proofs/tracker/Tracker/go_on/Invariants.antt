use Rattle.kin_tracker.proofs.tracker.Tracker.go_on.Given as goal

abbrev pub ghosts-step : goal.ghosts-step
ghosts-step a = record { name = a.blank.name; parts = a.blank.parts }
