use Rattle.std.proofs.Common.{sym, subst, List, Option}
use Rattle.kin_pointers.specs.declared.pointers.Pointer.{Pointer}
use Rattle.kin_pointers.specs.Pointing.{AreMutual, lists_of}
use Rattle.kin_pointers.proofs.Mutual.{added}
use Rattle.kin_pointers.proofs.pointers.Pointers.add_slot.Goals as goal

pub invariant_of-self-2 : goal.invariant_of-self-2
invariant_of-self-2 c = subst (λ (held : List (Option Pointer)). AreMutual held (lists_of c.self.inside.lists.items)) (sym c.in_ok-add_none.ensures.ok) (added c.self.inside.held.items (lists_of c.self.inside.lists.items) c.self.invariant)
