use Rattle.std.proofs.Common.{sym, subst, ◌<◌, ℕ}
use Rattle.kin_rank.proofs.Sameness.{found_too}
use Rattle.kin_rank.proofs.lists.Lists.from_slices.Goals as goal

pub from_slice-requires-2-clause-within : goal.from_slice-requires-2-clause-within
from_slice-requires-2-clause-within c = λ p x h.
    let q = found_too c.args.g.now c.args.f.now (λ y. sym (c.requires.same_g y)) p x h in
    subst (λ (n : ℕ). x < n) (sym c.room_for-room.ensures.value) (c.requires.within q.0 x q.1)

pub from_slice-requires-3-clause-within : goal.from_slice-requires-3-clause-within
from_slice-requires-3-clause-within c = λ p x h.
    let q = found_too c.args.t.now c.args.f.now (λ y. sym (c.requires.same_t y)) p x h in
    subst (λ (n : ℕ). x < n) (sym c.room_for-room.ensures.value) (c.requires.within q.0 x q.1)
