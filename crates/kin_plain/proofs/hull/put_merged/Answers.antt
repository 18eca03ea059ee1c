use Rattle.std.proofs.Common.{ap, subst, ◌∙◌, ◌++◌, map, List, ℕ}
use Rattle.std.specs.List.{All}
use Rattle.std.proofs.lemmas.List.Elements.{All-same}
use Rattle.std.proofs.lemmas.Result.{on_ok_weaker}
use Rattle.kin_motion.specs.Merges.{Breakpoint, forms_of_merge}
use Rattle.kin_motion.specs.Numbers.{IsIn}
use Rattle.kin_motion.specs.Scene.{placed_at}
use Rattle.kin_plain.specs.Halves.{AreEndsLive}
use Rattle.kin_plain.proofs.hull.put_merged.Goals as goal

pub put_merge-requires-clause-a_live : goal.put_merge-requires-clause-a_live
put_merge-requires-clause-a_live g c = subst (λ (l : List ℕ). All (λ (i : ℕ). IsIn i l) c.args.a.now) c.requires.same c.requires.a_live

pub put_merge-requires-clause-b_live : goal.put_merge-requires-clause-b_live
put_merge-requires-clause-b_live g c = subst (λ (l : List ℕ). All (λ (i : ℕ). IsIn i l) c.args.b.now) c.requires.same c.requires.b_live

pub put_merge-requires-clause-list_live : goal.put_merge-requires-clause-list_live
put_merge-requires-clause-list_live g c =
    subst (λ (l : List ℕ). All (AreEndsLive l) c.deref.result.now) c.requires.same (All-same (AreEndsLive (g.V.Signs.scene c.args.view.now).live) c.deref.result.now c.in_ok-list.list.items
    c.deref.ensures.value c.in_ok-list.ensures.live)

pub returns : goal.returns
returns g c =
    on_ok_weaker c.put_merge.result
    (λ put.
    put ∙ ap (λ (l : List Breakpoint). c.args.facts.now.items ++ map (placed_at (g.O.Signs.scene c.args.now.now) c.args.part)
    (forms_of_merge (g.O.Signs.scene c.args.now.now) c.args.a.now c.args.b.now l)) (c.deref.ensures.value ∙ c.in_ok-list.ensures.value))
    c.put_merge.ensures
