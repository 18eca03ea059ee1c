use Rattle.kin_overlay.proofs.SketchLaws.{drawn-one}
use Rattle.kin_overlay.proofs.sketch.draw.Goals as goal

pub returns-clause-drawn : goal.returns-clause-drawn
returns-clause-drawn c = λ w fit. drawn-one w c.args.draft c.args.chain.now c.split_at.result.1.now c.args.out.now.items c.push.new.self.items c.requires.two c.requires.at c.in-Ok.ensures.items c.split_at.ensures.back fit
