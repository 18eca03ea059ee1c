use Rattle.kin_contest_cases.proofs.many.a_tournament_of_64_asks_with_the_callers_counter_alone.Given as goal

abbrev pub ghosts-contest_passes : goal.ghosts-contest_passes
ghosts-contest_passes g a = record { name = a.blank.name; parts = a.blank.parts }
