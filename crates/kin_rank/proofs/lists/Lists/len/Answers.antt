use Rattle.std.proofs.Common.{◌∙◌}
use Rattle.kin_rank.proofs.Sameness.{same_length}
use Rattle.kin_rank.proofs.lists.Lists.len.Goals as goal

pub returns-clause-g : goal.returns-clause-g
returns-clause-g c = let b = c.args.self.now in let l = c.requires.listed in c.len.ensures ∙ b.f.items.ok.0 ∙ same_length b.f.items.items b.g.items.items b.f.places.items b.g.places.items
    l.f_placed l.g_placed l.same_g

pub returns-clause-t : goal.returns-clause-t
returns-clause-t c = let b = c.args.self.now in let l = c.requires.listed in c.len.ensures ∙ b.f.items.ok.0 ∙ same_length b.f.items.items b.t.items.items b.f.places.items b.t.places.items
    l.f_placed l.t_placed l.same_t
