use Rattle.std.proofs.Common.{refl}
use Rattle.std.proofs.lemmas.Result.{IfOk-weaker}
use Rattle.kin_algebra.proofs.Places.{get_within}
use Rattle.kin_links.proofs.links.Links.push_front.Goals as goal

pub link_in-requires : goal.link_in-requires
link_in-requires g c = let l = get_within c.args.self.now c.args.list.0 c.requires in (c.args.list.0, 0, l.0, l.1, refl)

pub returns-clause-ok : goal.returns-clause-ok
returns-clause-ok g c = let l = get_within c.args.self.now c.args.list.0 c.requires in IfOk-weaker c.link_in.result _ _ (λ n h. h c.args.list.0 0 l.0 l.1 refl) c.link_in.ensures.ok
