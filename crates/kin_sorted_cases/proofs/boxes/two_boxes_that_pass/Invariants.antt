use Rattle.kin_sorted_cases.proofs.boxes.two_boxes_that_pass.Given as goal

abbrev pub ghosts-passing : goal.ghosts-passing
ghosts-passing g a = record { name = a.blank.name; parts = a.blank.parts }
