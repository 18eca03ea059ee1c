use Rattle.kin_order_cases.proofs.overlapping.the_overlaps_of_64_boxes_are_those_by_signs.Given as goal

abbrev pub ghosts-crowd_passes : goal.ghosts-crowd_passes
ghosts-crowd_passes g a = record { name = a.blank.name; parts = a.blank.parts }
