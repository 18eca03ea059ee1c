use Rattle.std.proofs.Common.{ap, suc, add-one, subst, sym, ℕ}
use Rattle.std.proofs.lemmas.Result.{IfOk-weaker}
use Rattle.kin_links.specs.Family.{HasLinked}
use Rattle.kin_links.specs.Pointers.{behind}
use Rattle.kin_links.proofs.links.Links.link_after.Goals as goal

pub link_in-requires : goal.link_in-requires
link_in-requires g c = let s = c.requires in (s.list, suc s.place, s.items, s.listed, ap behind s.at)

pub returns-clause-ok : goal.returns-clause-ok
returns-clause-ok g c =
    IfOk-weaker c.link_in.result _ _
    (λ n h s. subst (λ (p : ℕ). HasLinked c.args.self.now c.link_in.new.self s.list p n.0 c.args.item) (sym (add-one s.place)) (h s.list (suc s.place) s.items s.listed (ap behind s.at)))
    c.link_in.ensures.ok
