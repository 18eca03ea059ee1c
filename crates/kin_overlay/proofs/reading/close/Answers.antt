use Rattle.std.proofs.Common.{◌≡◌, inl, inr, refl, sym, ap, ap₂, ◌∙◌, subst, List, [], ◌∷◌, ◌++◌, ℕ, ◌+◌, Option, Some}
use Rattle.std.specs.Prelude.{option_to_list}
use Rattle.kin_algebra.specs.declared.sign.Sign.{Sign}
use Rattle.kin_motion.specs.Cells.{above_of, changes_of}
use Rattle.kin_overlay.specs.declared.record.Record.{Record}
use Rattle.kin_overlay.specs.declared.walk.Cell.{Cell}
use Rattle.kin_overlay.specs.Walks.{above_by, right_above, last_item, gifts_before, cell_after, last_gifts, cell_by}
use Rattle.kin_overlay.proofs.AgainLaws.{first-place}
use Rattle.kin_overlay.proofs.SplitLaws.{given-until}
use Rattle.kin_overlay.proofs.WalkLaws.{given-more}
use Rattle.kin_overlay.proofs.reading.close.Goals as goal

pub returns-in-Some-upper_left : goal.returns-in-Some-upper_left
returns-in-Some-upper_left c =
    let r = c.in-Some.record.now in
    let p = c.in-Some-upper_left.point in
    let old = c.args.given.now.items in
    let mid = c.give_until.new.chain.items in
    inr
    (record {
      first = r;
      others = c.in-Some.field-0-1.now;
      point = p;
      is = c.in-Some.ensures.cases.0;
      upper = ap (λ (d : Cell). above_of d.left d.a d.b) (sym c.cell_after.ensures) ∙ sym c.upper_left.ensures ∙ ap option_to_list c.in-Some-upper_left.is;
      given = given-until c.args.cell r p c.above.result old mid c.give.new.chain.items c.above.ensures c.in_ok-give_until.ensures c.in_ok-give.ensures;
      here = λ front back is out. ap (λ (n : ℕ). n + 1) (first-place c.args.old.now front back p c.count_before.result is (λ k y l e. c.count_before.ensures.others k y l e) (λ y e. c.count_before.ensures.at y e) out);
    })

pub returns : goal.returns
returns c =
    let old = c.args.given.now.items in
    let mid = c.walk.new.chain.items in
    inl
    (record {
      all = refl;
      given =
          c.in_ok-give_until-2.ensures ∙ ap₂ (λ (d : Cell) (s : Sign). mid ++ changes_of (last_item mid) (last_gifts d s)) c.in_ok-last.ensures.after c.above_at_right.ensures
          ∙ sym (given-more old mid (gifts_before c.args.cell c.args.behind.now) (last_gifts (cell_after c.args.cell c.args.behind.now) (right_above c.args.right)) c.in_ok-last.ensures.given);
    })
