use Rattle.std.proofs.Common.{◌≡◌, sym, ap, ◌∙◌, ◌++◌, List, ℕ}
use Rattle.kin_motion.specs.Cells.{above_of, changes_of}
use Rattle.kin_overlay.specs.Walks.{last_item, shared_by}
use Rattle.kin_overlay.proofs.WalkLaws.{given-more}
use Rattle.kin_overlay.proofs.walk.Cell.give_each.Goals as goal

pub returns : goal.returns
returns c =
    let cell = c.args.self.now in
    let x = above_of cell.left cell.a cell.b in
    let y = above_of cell.right cell.a cell.b in
    let z = shared_by cell in
    let start = c.args.chain.now.items in
    let one = c.give.new.chain.items in
    let two = c.give-2.new.chain.items in
    let first : one ≡ start ++ changes_of (last_item start) x = c.in_ok-give.ensures ∙ ap (λ (l : List ℕ). start ++ changes_of (last_item start) l) c.upper.ensures in
    let second : two ≡ start ++ changes_of (last_item start) (x ++ y) = c.in_ok-give-2.ensures ∙ ap (λ (l : List ℕ). one ++ changes_of (last_item one) l) c.upper-2.ensures ∙ sym (given-more start one x y first) in
    c.in_ok-give-3.ensures ∙ ap (λ (l : List ℕ). two ++ changes_of (last_item two) l) c.shared.ensures ∙ sym (given-more start two (x ++ y) z second)
