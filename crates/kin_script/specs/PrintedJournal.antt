-- The printed text of failures, and of what is counted.
use Rattle.std.specs.Prelude.{ℕ, ℤ, ◌==◌, List, [], ◌∷◌, ◌++◌, Option, Some, None, codes, unsigned_abs, if◌then◌else◌}
use Rattle.std.specs.Fmt.{decimal, signed_decimal}
use Rattle.std.specs.List.{flat_map, join_by}
use Rattle.kin_algebra.specs.declared.sign.Sign.{Sign}
use Rattle.kin_algebra.specs.declared.sign.Sign.TheVariants.{Minus, Zero, Plus}
use Rattle.kin_num.specs.declared.instant.Moment.{Moment}
use Rattle.kin_motion.specs.declared.form.Form.{Form}
use Rattle.kin_motion.specs.declared.form.Form.TheVariants.{Line, Turn, Slope, Dist}
use Rattle.kin_motion.specs.Forms.{numbers_of}
use Rattle.kin_motion.specs.Live.{Certificate}
use Rattle.kin_motion.specs.Journal.{Failure, Block}
use Rattle.kin_script.specs.Printed.{list_line, moment_text}

abbrev pub sign_text : Sign → List ℕ
sign_text Minus = codes "-"
sign_text Zero = codes "0"
sign_text Plus = codes "+"

-- an offset is named only where it is not 0
abbrev pub offset_text : ℤ → List ℕ
offset_text off = if unsigned_abs off == 0 then [] else codes "," ++ signed_decimal off

-- the kind of a line, as line(1,0), or line(1,0,-5) with an offset
abbrev pub line_text : ℤ → ℤ → ℤ → List ℕ
line_text dx dy off = codes "line(" ++ signed_decimal dx ++ codes "," ++ signed_decimal dy ++ offset_text off ++ codes ")"

-- the kind of a form, as line(1,0) or turn
abbrev pub kind_text : Form → List ℕ
kind_text (Line dx dy off i j) = line_text dx dy off
kind_text (Turn i j k) = codes "turn"
kind_text (Slope i j k l) = codes "slope"
kind_text (Dist i j k l) = codes "dist"

-- a form, as line(1,0) 0 1
abbrev pub form_text : Form → List ℕ
form_text f = kind_text f ++ codes " " ++ join_by decimal (codes " ") (numbers_of f)

-- whose a fact is: its structure and its part, as 0/4
abbrev pub owner_text : Certificate → List ℕ
owner_text c = decimal c.structure ++ codes "/" ++ decimal c.placed.part

-- a failure at the moment: whose fact it is, its form, its sign before and its sign now, as a line
abbrev pub failure_line : Moment → Failure → List ℕ
failure_line m f =
    codes "! " ++ moment_text m ++ codes " " ++ owner_text f.was ++ codes " " ++ form_text f.was.placed.fact.form
    ++ codes " " ++ sign_text f.was.placed.fact.sign ++ codes " " ++ sign_text f.now ++ codes "\n"

-- one line for each failure of the block
abbrev pub block_lines : Block → List ℕ
block_lines b = flat_map (failure_line b.moment) b.failures

-- the lines of one block after the other
abbrev pub journal_lines : List Block → List ℕ
journal_lines bs = flat_map block_lines bs

-- the moment that `next` moved to, as a line
abbrev pub now_line : Moment → List ℕ
now_line m = codes "now " ++ moment_text m ++ codes "\n"

-- a number, as a line
abbrev pub count_line : ℕ → List ℕ
count_line n = decimal n ++ codes "\n"

abbrev pub none_line : List ℕ
none_line = codes "none\n"

-- a number or the word none, as a line
abbrev pub one_line : Option ℕ → List ℕ
one_line None = none_line
one_line (Some n) = count_line n

-- two numbers, as a line
abbrev pub two_line : ℕ × ℕ → List ℕ
two_line p = list_line (p.0 ∷ p.1 ∷ [])

-- two numbers or the word none, as a line
abbrev pub pair_line : Option (ℕ × ℕ) → List ℕ
pair_line None = none_line
pair_line (Some p) = two_line p

-- one line for each pair, or the word none as a line
abbrev pub pairs_lines : List (ℕ × ℕ) → List ℕ
pairs_lines [] = none_line
pairs_lines (p ∷ ps) = flat_map two_line (p ∷ ps)
