use Rattle.kin_tracker.proofs.tracker.Tracker.go_to.Given as goal

abbrev pub ghosts-go_to : goal.ghosts-go_to
ghosts-go_to a = record { name = a.blank.name; parts = a.blank.parts }
