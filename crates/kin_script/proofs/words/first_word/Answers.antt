use Rattle.std.proofs.Common.{◌<◌, length, sym, ◌∙◌, arith}
use Rattle.std.proofs.lemmas.Bool.Decides.{nat_tests}
use Rattle.kin_script.proofs.WordLaws.{none_of_nothing, first_piece, only_piece}
use Rattle.kin_script.proofs.words.first_word.Goals as goal

pub returns-then-is_empty : goal.returns-then-is_empty
returns-then-is_empty c = c.skip_blanks-bytes.ensures.same ∙ none_of_nothing c.skip_blanks-bytes.result.now (grind (arith, nat_tests))

pub returns-in-Some : goal.returns-in-Some
returns-in-Some c =
    let some : 0 < length c.skip_blanks-bytes.result.now = grind (arith, nat_tests) in
    c.skip_blanks-bytes.ensures.same ∙ first_piece c.skip_blanks-bytes.result.now c.in-Some.at (sym c.blank_place.ensures ∙ c.in-Some.is) some (c.skip_blanks-bytes.ensures.word some)

pub returns-in-None : goal.returns-in-None
returns-in-None c =
    let some : 0 < length c.skip_blanks-bytes.result.now = grind (arith, nat_tests) in
    c.skip_blanks-bytes.ensures.same ∙ only_piece c.skip_blanks-bytes.result.now (sym c.blank_place.ensures ∙ c.in-None.is) some
