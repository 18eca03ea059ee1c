use Rattle.kin_check.proofs.replay.is_text_of.Given as goal

abbrev pub ghosts-is_text_of_script : goal.ghosts-is_text_of_script
ghosts-is_text_of_script a = record { name = a.blank.name; parts = a.blank.parts }
