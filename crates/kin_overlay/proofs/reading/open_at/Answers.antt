use Rattle.std.proofs.Common.{◌≡◌, sym, ap, ap₂, ◌∙◌, subst, arith, List, [], ◌∷◌, ◌++◌, ℕ, ◌<◌, Option, Some}
use Rattle.std.specs.Prelude.{option_to_list, unwrap_or}
use Rattle.kin_overlay.specs.declared.end.End.{End}
use Rattle.kin_overlay.specs.declared.walk.Cell.{Cell}
use Rattle.kin_overlay.specs.Reading.{AreAlike, AreOpened}
use Rattle.kin_overlay.specs.Walks.{right_above, first_cell, upper_before}
use Rattle.kin_overlay.proofs.AgainLaws.{same-end, opened-whole, opened-at}
use Rattle.kin_overlay.proofs.reading.open_at.Goals as goal

pub returns-clause-opened : goal.returns-clause-opened
returns-clause-opened c = λ m back k is once.
    let n = c.args.list.now in
    let r = c.at-record.result.now in
    let p = c.in-Some.point in
    let upper : upper_before r ≡ p ∷ [] = sym c.upper_before.ensures ∙ ap option_to_list c.in-Some.is in
    let front : 0 < c.args.front = omega (arith, c.if-front-eq0.false) in
    let end : k.new_end ≡ c.args.left = same-end m n c.args.front back k c.args.left c.requires.left in
    rw (end, sym c.cell_after.ensures, sym (c.in_ok-push.ensures.items ∙ ap (λ (l : List ℕ). l ++ p ∷ []) c.clear.ensures.items)) at
    (opened-at m n c.args.front back k r p c.count_before.result c.args.old.now front c.at-record.ensures upper is once (λ j y l e. c.count_before.ensures.others j y l e) (λ y e. c.count_before.ensures.at y e))
