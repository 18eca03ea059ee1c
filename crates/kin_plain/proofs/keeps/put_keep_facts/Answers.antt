use Rattle.std.proofs.lemmas.Result.{on_ok_weaker}
use Rattle.kin_plain.proofs.Kept.{extreme_kept}
use Rattle.kin_plain.proofs.keeps.put_keep_facts.Goals as goal

pub returns-in-Extreme : goal.returns-in-Extreme
returns-in-Extreme g c =
    on_ok_weaker c.put_extreme_facts.result (λ put. extreme_kept c.args.size (g.O.Signs.scene c.args.now.now) c.args.keep.now c.in-Extreme.dx c.in-Extreme.dy c.args.facts.now.items
    c.put_extreme_facts.new.facts.items c.in-Extreme.is c.requires.keep put)
    c.put_extreme_facts.ensures
