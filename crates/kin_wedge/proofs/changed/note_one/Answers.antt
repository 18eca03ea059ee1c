use Rattle.std.proofs.Common.{refl}
use Rattle.std.proofs.lemmas.Result.{on_ok_weaker}
use Rattle.kin_wedge.proofs.Noting.{still_noted, last_noted, noted_or_last}
use Rattle.kin_wedge.proofs.changed.note_one.Goals as goal

pub returns-then-is_changed-clause-keeps : goal.returns-then-is_changed-clause-keeps
returns-then-is_changed-clause-keeps c = on_ok_weaker c.push.result (λ e. λ s h. still_noted c.args.changed.now.items c.push.new.items.items c.args.touch.now.slot s e h) c.push.ensures

pub returns-then-is_changed-clause-added : goal.returns-then-is_changed-clause-added
returns-then-is_changed-clause-added c = on_ok_weaker c.push.result (λ e. λ n. last_noted c.args.changed.now.items c.push.new.items.items c.args.touch.now.slot e) c.push.ensures

pub returns-then-is_changed-clause-only : goal.returns-then-is_changed-clause-only
returns-then-is_changed-clause-only c = on_ok_weaker c.push.result (λ e. λ s h. noted_or_last c.args.changed.now.items c.push.new.items.items c.args.touch.now.slot s _ e (c.if-is_changed.ensures.0 refl) h) c.push.ensures
