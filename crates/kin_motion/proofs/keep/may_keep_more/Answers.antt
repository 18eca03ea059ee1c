use Rattle.std.proofs.Common.{ap, ◌∙◌, sym}
use Rattle.kin_motion.specs.Keeps.{limit, count_of}
use Rattle.kin_motion.proofs.KeepLaws.{may_keep_by_count, may_not_keep}
use Rattle.kin_motion.proofs.keep.may_keep_more.Goals as goal

pub returns-then-have_need : goal.returns-then-have_need
returns-then-have_need c =
    may_keep_by_count c.args.keeps.now c.args.keep.now c.count_of.result c.limit.result c.requires (sym c.have_need.ensures ∙ c.if-have_need.true)
    (c.count_of.ensures ∙ ap (λ g. count_of g c.args.keeps.now) c.group-own.ensures.value) (c.limit.ensures ∙ ap limit c.group-own.ensures.value)

pub returns-else-have_need : goal.returns-else-have_need
returns-else-have_need c = c.if-have_need.false ∙ may_not_keep c.args.keeps.now c.args.keep.now c.requires (sym c.have_need.ensures ∙ c.if-have_need.false)
