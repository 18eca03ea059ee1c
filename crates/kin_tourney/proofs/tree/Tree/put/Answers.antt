use Rattle.std.proofs.Common.{sym, ap, ◌∙◌, subst, arith, get_or, set, true, false}
use Rattle.std.proofs.lemmas.List.{get_or_read}
use Rattle.kin_tourney.specs.Standings.{Standings}
use Rattle.kin_tourney.proofs.Raising.{IsMarking, marked_before, marked_now}
use Rattle.kin_tourney.proofs.Trees.{tree_filled}
use Rattle.kin_tourney.proofs.tree.Tree.put.Goals.{then-not-index, else-not-index}
use Rattle.kin_tourney.proofs.tree.Tree.put.Goals as goal

pub returns : goal.returns
returns g c =
    let t = c.args.self.now in
    let was = get_or_read t.marked c.args.slot c.index.result.now (omega (arith, c.requires.slot, c.requires.tree.marked_room)) (c.index.ensures ∙ ap (λ (x : Standings g.row.K-Item.Denot). get_or x.marked c.args.slot c.index.result.now) c.self.view_is) false in
    let marking : IsMarking c.args.slot t c.if-not-index.self = elim c.if-not-index.branch [
      | then-not-index w ↦
          subst (λ (x : Standings g.row.K-Item.Denot). IsMarking c.args.slot t x) (sym (w.self-is ∙ ap (λ (x : Standings g.row.K-Item.Denot). record x { marked = set x.marked c.args.slot true }) w.self-then-not-index.view_is))
          (marked_now c.args.slot t c.index.result.now was w.doubt_above.new.self w.if-not-index.true w.doubt_above.ensures.tree w.doubt_above.ensures.same w.doubt_above.ensures.marked)
      | else-not-index w ↦ subst (λ (x : Standings g.row.K-Item.Denot). IsMarking c.args.slot t x) (sym w.self-is) (marked_before c.args.slot t c.index.result.now was c.requires.tree w.if-not-index.false)
    ] in
    let seen = subst (λ (x : Standings g.row.K-Item.Denot). IsMarking c.args.slot t x) (sym c.self-2.view_is) marking in
    record {
      tree = tree_filled _ seen.tree c.args.slot c.args.item;
      same = ap (λ (x : Standings g.row.K-Item.Denot). record x { items = set x.items c.args.slot c.args.item }) seen.same;
      spread = seen.spread;
      again = seen.again;
    }
