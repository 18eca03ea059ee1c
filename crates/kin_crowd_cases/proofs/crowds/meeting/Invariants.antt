use Rattle.kin_crowd_cases.proofs.crowds.meeting.Given as goal

abbrev pub ghosts-meeting_by : goal.ghosts-meeting_by
ghosts-meeting_by a = record { name = a.blank.name; parts = a.blank.parts }
