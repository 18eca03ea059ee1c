-- The grammar, tried on worked scripts by computing.
use Rattle.std.proofs.Common.{refl, [], ◌∷◌, pos, true, false}
use Rattle.std.specs.Prelude.{codes}
use lib.IntN.{neg_ℤ}
use Rattle.kin_motion.specs.declared.keep.Keep.TheVariants as keep
use Rattle.kin_script.specs.declared.command.Command.TheVariants.{Insert, Remove, Replace, Turn, Leg, AtRatio, AtRoot, Next, Order, Extreme, Nearest, Farthest, Overlaps, Live}
use Rattle.kin_script.specs.Lines.{lines_of, words_of, pieces_of}
use Rattle.kin_script.specs.Left.{numbered}
use Rattle.kin_script.specs.Numbers.{digits_after, numeral_of, natural_of, integer_of, ratio_of}
use Rattle.kin_script.specs.Words.{natural_at, number_at, instant_at, integer_at, motion_at, velocity_at, side_at, direction_at}
use Rattle.kin_script.specs.Questions.{boxes_of, keep_of, order_question_of, extreme_question_of, box_question_of, nearest_question_of, question_of}
use Rattle.kin_script.specs.Changes.{insert_of, remove_of, replace_of, turn_of, leg_of}
use Rattle.kin_script.specs.Commands.{quadratic_at, root_of, at_of, command_of, size_of, journal_of, header_line_of}
use Rattle.kin_script.specs.Grammar.{IsScript, IsFirstOutside, commands_of, behind_size, script_of_lines, script_of}

-- carriage returns, a tab, a comment, a line without words, leading zeros and -0; no line feed at the end
abbrev Spelling : Type 0
Spelling = IsScript
    (codes "size 01\r\n\tkeep order 1 -0 # east\r\n\r\ninsert 0 8192 -8192 -0 007\r\norder 0")
    (record {
      size = 1;
      keeps = keep.Order (pos 1) (pos 0) ∷ [];
      journal = false;
      lines = (4, Insert 0 (record { x = pos 8192; y = neg_ℤ (pos 8192); u = pos 0; v = pos 7 })) ∷ (5, Order 0) ∷ [];
    })

-- the same with a coordinate one too far out
abbrev TooFar : Type 0
TooFar = IsFirstOutside (codes "size 01\r\n\tkeep order 1 -0 # east\r\n\r\ninsert 0 8193 -8192 -0 007\r\norder 0") 4

-- a fraction is one word, in lowest terms or not
abbrev Fraction : Type 0
Fraction = IsScript (codes "size 3\nat 6/004\n") (record { size = 3; keeps = []; journal = false; lines = (2, AtRatio (pos 6) (pos 4)) ∷ [] })

abbrev Root : Type 0
Root = IsScript (codes "size 1\nat root 2 -0 -4 hi\n") (record { size = 1; keeps = []; journal = false; lines = (2, AtRoot (pos 2) (pos 0) (neg_ℤ (pos 4)) true) ∷ [] })

-- a point leaves, one starts anew, one turns and one gets a leg
abbrev Changed : Type 0
Changed = IsScript
    (codes "size 2\nremove 3\nreplace 0 1 -2 3 -4\nturn 1 -8192 007\nleg 2 2147483647 -0 8192\n")
    (record {
      size = 2;
      keeps = [];
      journal = false;
      lines =
          (2, Remove 3)
          ∷ (3, Replace 0 (record { x = pos 1; y = neg_ℤ (pos 2); u = pos 3; v = neg_ℤ (pos 4) }))
          ∷ (4, Turn 1 (neg_ℤ (pos 8192)) (pos 7))
          ∷ (5, Leg 2 2147483647 (pos 0) (pos 8192))
          ∷ [];
    })

abbrev HalfAVelocity : Type 0
HalfAVelocity = IsFirstOutside (codes "size 1\nremove 0\nturn 0 1\n") 3

-- the journal is on, and an order and an extreme point are kept
abbrev JournalOn : Type 0
JournalOn = IsScript
    (codes "size 1\njournal on\nkeep order 1 0\nkeep extreme 0 -1\nlive\nnext\nextreme 1\n")
    (record {
      size = 1;
      keeps = keep.Order (pos 1) (pos 0) ∷ keep.Extreme (pos 0) (neg_ℤ (pos 1)) ∷ [];
      journal = true;
      lines = (5, Live) ∷ (6, Next) ∷ (7, Extreme 1) ∷ [];
    })

-- nearest neighbours are kept, once at most
abbrev NearestAsked : Type 0
NearestAsked = IsScript (codes "size 2\nkeep nearest\nnearest 3\n") (record { size = 2; keeps = keep.Nearest ∷ []; journal = false; lines = (3, Nearest 3) ∷ [] })

abbrev NearestTwice : Type 0
NearestTwice = IsFirstOutside (codes "size 2\nkeep nearest\nkeep nearest\n") 3

abbrev NearestOfTooGreatANumber : Type 0
NearestOfTooGreatANumber = IsFirstOutside (codes "size 2\nkeep nearest\nnearest 4\n") 3

-- a farthest pair is kept, once at most and after a hull
abbrev FarthestAsked : Type 0
FarthestAsked = IsScript
    (codes "size 1\nkeep hull\nkeep closest\nkeep diameter\nfarthest\n")
    (record {
      size = 1;
      keeps = keep.Hull ∷ keep.Closest ∷ keep.Diameter ∷ [];
      journal = false;
      lines = (5, Farthest) ∷ [];
    })

abbrev DiameterTwice : Type 0
DiameterTwice = IsFirstOutside (codes "size 1\nkeep hull\nkeep diameter\nkeep diameter\n") 4

abbrev DiameterBeforeItsHull : Type 0
DiameterBeforeItsHull = IsFirstOutside (codes "size 1\nkeep diameter\nkeep hull\n") 2

-- boxes are kept, of a width and a height from 0 to 4096 and once at most
abbrev BoxesAsked : Type 0
BoxesAsked = IsScript
    (codes "size 1\nkeep boxes 4096 -0\noverlaps\n")
    (record { size = 1; keeps = keep.Boxes (pos 4096) (pos 0) ∷ []; journal = false; lines = (3, Overlaps) ∷ [] })

abbrev BoxesTooWide : Type 0
BoxesTooWide = IsFirstOutside (codes "size 1\nkeep boxes 4097 0\n") 2

abbrev BoxesTwice : Type 0
BoxesTwice = IsFirstOutside (codes "size 1\nkeep boxes 1 2\nkeep boxes 2 1\n") 3

abbrev SecondJournalLine : Type 0
SecondJournalLine = IsFirstOutside (codes "size 1\njournal on\njournal off\nlive\n") 3

abbrev EmptyInput : Type 0
EmptyInput = IsFirstOutside [] 1

abbrev NumberOutOfRange : Type 0
NumberOutOfRange = IsFirstOutside (codes "size 1\ninsert 2 0 0 0 0\n") 2

abbrev LateKeep : Type 0
LateKeep = IsFirstOutside (codes "size 1\norder 0\nkeep order 1 0\n") 3

abbrev WordsOnlyInComments : Type 0
WordsOnlyInComments = IsFirstOutside (codes "# one\n\n  # two") 4

-- all of it is so
rows : Spelling × TooFar × Fraction × Root × Changed × HalfAVelocity × JournalOn × NearestAsked × NearestTwice × NearestOfTooGreatANumber × FarthestAsked × DiameterTwice × DiameterBeforeItsHull × BoxesAsked × BoxesTooWide × BoxesTwice × SecondJournalLine × EmptyInput × NumberOutOfRange × LateKeep × WordsOnlyInComments
unfolding script_of lines_of words_of pieces_of numbered commands_of behind_size script_of_lines command_of question_of insert_of remove_of replace_of turn_of leg_of instant_at side_at quadratic_at root_of at_of order_question_of extreme_question_of box_question_of nearest_question_of motion_at velocity_at number_at natural_at integer_at size_of direction_at boxes_of keep_of journal_of header_line_of digits_after numeral_of natural_of integer_of ratio_of
rows = (refl, refl, refl, refl, refl, refl, refl, refl, refl, refl, refl, refl, refl, refl, refl, refl, refl, refl, refl, refl, refl)
