use Rattle.std.proofs.Common.{sym, subst, List, ℕ}
use Rattle.kin_pointers.specs.Pointing.{AreMutual, lists_of}
use Rattle.kin_pointers.proofs.Held.{seen_numbered}
use Rattle.kin_pointers.proofs.Mutual.{numbered}
use Rattle.kin_pointers.proofs.pointers.Pointers.add_number.Goals as goal

pub invariant_of-self-2 : goal.invariant_of-self-2
invariant_of-self-2 c = subst (λ (lists : List (List ℕ)). AreMutual c.self.inside.held.items lists) (sym c.in_ok-add_empty.ensures.ok) (numbered c.self.inside.held.items (lists_of c.self.inside.lists.items) c.self.invariant)

pub returns-clause-ok : goal.returns-clause-ok
returns-clause-ok c = seen_numbered c.self.inside.held.items c.self.inside.lists.items c.add_empty.new.lists.items c.args.self.now c.self.view_is c.in_ok-add_empty.ensures.ok
