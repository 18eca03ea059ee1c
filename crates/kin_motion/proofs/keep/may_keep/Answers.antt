use Rattle.std.proofs.Common.{sym, ap, ◌∙◌, ◌+◌, take, drop}
use Rattle.std.proofs.lemmas.Grind.{take_at_read}
use Rattle.std.proofs.lemmas.List.{take-append-drop}
use Rattle.kin_motion.specs.Keeps.{may_keep}
use Rattle.kin_motion.proofs.KeepLaws.{not_all_kept}
use Rattle.kin_motion.proofs.keep.may_keep.Goals as goal

pub returns-then-not-may_keep_more : goal.returns-then-not-may_keep_more
returns-then-not-may_keep_more c =
    let keeps = c.args.keeps.now in
    let next = c.loop-place.place + 1 in
    not_all_kept (take next keeps) (drop next keeps) keeps c.may_keep_more.result (take-append-drop next keeps)
    (c.may_keep_more.ensures ∙ sym (ap may_keep (take_at_read keeps c.loop-place.place _ c.loop-place-test.true).1)) c.if-not-may_keep_more.true
