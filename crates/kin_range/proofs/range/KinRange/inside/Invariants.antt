use Rattle.kin_range.proofs.range.KinRange.inside.Given as goal

abbrev pub ghosts-spans_in : goal.ghosts-spans_in
ghosts-spans_in a = record { name = a.blank.name; parts = a.blank.parts }
