use Rattle.kin_tracker.proofs.tracker.Tracker.turn.Given as goal

abbrev pub ghosts-turn : goal.ghosts-turn
ghosts-turn a = record { name = a.blank.name; parts = a.blank.parts }
