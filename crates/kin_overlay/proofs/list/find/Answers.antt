use Rattle.std.proofs.Common.{◌≡◌, sym, ap, ◌∙◌, subst, List, ◌-◌, length, take, drop, Contains}
use Rattle.kin_motion.specs.Numbers.{is_in}
use Rattle.kin_overlay.specs.declared.record.Record.{Record}
use Rattle.kin_overlay.specs.Remembered.{left_points}
use Rattle.kin_overlay.proofs.SharedLaws.{found-none, found-one}
use Rattle.kin_overlay.proofs.list.find.Goals as goal

pub returns-in-Some : goal.returns-in-Some
returns-in-Some c =
    let rs = c.args.records.now in
    let w = c.args.ends in
    let between : c.split_at-2.result.1.now ≡ drop w.front (take (length rs - w.back) rs) = c.split_at-2.ensures.back ∙ ap (drop w.front) c.split_at.ensures.front in
    (found-one w rs c.in-Some.record.now c.requires.within (subst (λ (l : List Record). Contains l c.in-Some.record.now) between c.in-Some.ensures.0), c.in-Some.ensures.1)

pub returns-in-None : goal.returns-in-None
returns-in-None c =
    let rs = c.args.records.now in
    let w = c.args.ends in
    let between : c.split_at-2.result.1.now ≡ drop w.front (take (length rs - w.back) rs) = c.split_at-2.ensures.back ∙ ap (drop w.front) c.split_at.ensures.front in
    found-none w rs c.args.left c.requires.within c.requires.outside (ap (λ (l : List Record). is_in c.args.left (left_points l)) (sym between) ∙ c.in-None.ensures)
