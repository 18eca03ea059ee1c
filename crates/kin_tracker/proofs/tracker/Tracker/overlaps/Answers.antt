use Rattle.kin_tracker.proofs.tracker.Tracker.overlaps.Goals as goal

pub returns-clause-overlaps : goal.returns-clause-overlaps
returns-clause-overlaps c = rw (← c.self.view_is) c.in-Ok.ensures.overlaps
