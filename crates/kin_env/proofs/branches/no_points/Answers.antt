use Rattle.std.proofs.Common.{◌≡◌, sym, ap, ◌∙◌, subst, arith, [], ◌∷◌, ◌++◌, ◌+◌, length, rules}
use Rattle.std.proofs.lemmas.List.{length-append}
use Rattle.kin_env.specs.Walks.{AreBlank}
use Rattle.kin_env.proofs.Vacancy.{blank_none, blank_more}
use Rattle.kin_env.proofs.branches.no_points.Goals as goal

pub loop-made-init : goal.loop-made-init
loop-made-init c = let none = c.in_ok-nodes.ensures.items in record { blank = subst AreBlank (sym none) blank_none; room = ap length none }

pub loop-made-preserved : goal.loop-made-preserved
loop-made-preserved c =
    let i = c.loop-made.invariant in
    let e = c.new.ensures in
    let grown : c.push.new.self.items ≡ c.loop-made.nodes.items ++ c.new.result ∷ [] = search rules in
    record {
      blank = subst AreBlank (sym grown) (blank_more c.loop-made.nodes.items c.new.result e.merge e.passed e.edits e.failed i.blank);
      room = ap length grown ∙ length-append c.loop-made.nodes.items (c.new.result ∷ []) ∙ ap (λ n. n + 1) i.room;
    }

pub returns : goal.returns
returns c =
    let i = c.loop-made.invariant in
    record { room = i.room ∙ omega (arith, c.loop-made.auto.made-end, c.loop-made-test.false); blank = i.blank }
