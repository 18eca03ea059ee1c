use Rattle.std.proofs.Common.{◌≡◌, ◌⊎◌, inl, inr, refl, sym, ap, ap₂, ◌∙◌, subst, List, ◌++◌, ℕ, ◌-◌, ◌<◌, take, drop, Option}
use Rattle.std.specs.Prelude.{unwrap_or}
use Rattle.kin_algebra.specs.declared.sign.Sign.{Sign}
use Rattle.kin_overlay.specs.declared.end.End.{End}
use Rattle.kin_overlay.specs.declared.record.Record.{Record}
use Rattle.kin_overlay.specs.Reading.{AreOpened, IsReadWhole, IsReadUntil, IsReadAgain, right_of}
use Rattle.kin_overlay.specs.Walks.{right_above, chain_read}
use Rattle.kin_overlay.proofs.AgainLaws.{again-whole, again-until}
use Rattle.kin_overlay.proofs.reading.read_again.Goals as goal

or_else : {P Q R : Type 0} → P ⊎ Q → (P → R) → (Q → R) → R
or_else (inl p) f g = f p
or_else (inr q) f g = g q

pub returns : goal.returns
returns c = λ m k is once.
    let n = c.args.list.now in
    let back = c.args.same.back in
    let left = c.in-Some.left in
    let right = right_of n left in
    let o = c.in_ok-opening.opening in
    let old_right = right_of m k.old_end in
    let opened : AreOpened m n old_right right o.start o.from o.cell c.open_at.new.given.items = c.in_ok-opening.ensures.opened m back k is once in
    let part = c.split_at-2.result.1.now in
    let behind = c.split_at.result.1.now in
    let before_is = c.split_at.ensures.front ∙ ap₂ (λ (i : ℕ) (l : List Record). take (i - back) l) c.len.ensures c.records.ensures.value in
    let part_is = c.split_at-2.ensures.back ∙ ap (λ (l : List Record). drop o.from l) before_is in
    let behind_is = c.split_at.ensures.back ∙ ap₂ (λ (i : ℕ) (l : List Record). drop (i - back) l) c.len.ensures c.records.ensures.value in
    let end = c.unwrap_or-right.result in
    let same : right_above end ≡ right = ap right_above (c.unwrap_or-right.ensures ∙ ap (λ (x : Option End). unwrap_or x left) c.right.ensures) in
    let same_end : 0 < back → old_right ≡ right = λ some. let e = k.right some in ap (λ (x : Option End). right_above (unwrap_or x k.old_end)) e.1 ∙ sym (ap (λ (x : Option End). right_above (unwrap_or x left)) e.2) in
    or_else c.in_ok-end.ensures
    (again-whole m n c.args.same.front back c.args.old.now k is once old_right right o.start o.from c.in_ok-opening.ensures.within o.cell c.in_ok-cell.cell c.open_at.new.given.items c.walk.new.chain.items c.close.new.given.items c.in_ok-end.end opened part behind part_is behind_is
    c.in_ok-cell.ensures.given c.in_ok-cell.ensures.after end same)
    (again-until m n c.args.same.front back c.args.old.now k is once old_right right o.start o.from c.in_ok-opening.ensures.within o.cell c.in_ok-cell.cell c.open_at.new.given.items c.walk.new.chain.items c.close.new.given.items c.in_ok-end.end opened part behind part_is behind_is
    c.in_ok-cell.ensures.given c.in_ok-cell.ensures.after same_end)
