use Rattle.kin_order_cases.proofs.many.a_list_of_64_asks_with_the_callers_counter_alone.Given as goal

abbrev pub ghosts-crowd_passes : goal.ghosts-crowd_passes
ghosts-crowd_passes g a = record { name = a.blank.name; parts = a.blank.parts }
