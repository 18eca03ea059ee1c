-- The order of canonical entries.
use Rattle.std.proofs.Common.{ℕ, ◌<◌, List, length, get_or}
use Rattle.std.specs.List.{All}
use Rattle.std.proofs.lemmas.List.Elements.{All-get_or}
use Rattle.kin_num.specs.declared.instant.Moment.{Moment}
use Rattle.kin_num.specs.Canonical.{IsCanonical}
use Rattle.kin_num.specs.Order.{IsEarlier}
use Rattle.kin_num.proofs.MomentOrder.{not_earlier_itself, earlier_trans, not_earlier_trans}
use Rattle.kin_queue.specs.Heap.{MayStandAbove}

abbrev pub AtInstant : ℕ × Moment → Type 0
AtInstant e = IsCanonical e.1.at

pub canonical_at : (es : List (ℕ × Moment)) (i : ℕ) (d : ℕ × Moment) → All (λ e. IsCanonical e.1.at) es → i < length es → AtInstant (get_or es i d)
canonical_at es i d all inside = All-get_or AtInstant es i d inside all

pub above_trans : (a b c : ℕ × Moment) → AtInstant a → AtInstant b → AtInstant c → MayStandAbove a b → MayStandAbove b c → MayStandAbove a c
above_trans a b c fa fb fc = not_earlier_trans a.1 b.1 c.1 fa.form fb.form fc.form

pub above_itself : (a : ℕ × Moment) → MayStandAbove a a
above_itself a = not_earlier_itself a.1

-- what is earlier may stand above
pub earlier_above : (a b : ℕ × Moment) → AtInstant a → AtInstant b → IsEarlier a.1 b.1 → MayStandAbove a b
earlier_above a b fa fb h k = not_earlier_itself a.1 (earlier_trans a.1 b.1 a.1 fa.form fb.form fa.form h k)
