-- What holds of the motions, plans, keeps and moment of every whole world: the laws of failures apply to it.
use Rattle.kin_world.proofs.Vocabulary.{rules, ◌∙◌, subst, slice_get-get_or, IsNextBlock, IsWhole, World, world_plans}
use Rattle.kin_motion.specs.Journal.{setting_of}
use Rattle.kin_fail.proofs.FailureRoots as cert
use Rattle.kin_legs.specs.Planned.{ArePlannable}
use Rattle.kin_legs.proofs.FollowedLaws.{all_ahead}
use Rattle.kin_legs.proofs.JoinedLaws.{planned_length}
use Rattle.kin_legs.proofs.PlanExistence.{planned_journals_exist}
use Rattle.kin_legs.proofs.ShownLaws.{alike_blocks, motions_show_alike}
use Rattle.kin_world.specs.Laws.{BlocksAreAtRoots, JournalsExist, WholeWorldsAreProper}

pub proper : WholeWorldsAreProper
proper w whole = search (rules, slice_get-get_or)

pub blocks_are_at_roots : BlocksAreAtRoots
blocks_are_at_roots w b f whole next none there =
    let alike = motions_show_alike (world_plans w) w.size w.keeps w.moment b.moment whole.followed.paths whole.canonical next.canonical none in
    let now = alike_blocks _ _ w.moment b whole.canonical alike next in
    cert.blocks_are_at_roots w.motions w.size w.keeps w.moment b f whole.slow (proper w whole).small whole.canonical
    (subst (λ ms. IsNextBlock (setting_of ms w.size w.keeps) w.moment b) (all_ahead whole.followed w.moment whole.canonical whole.ahead).force now) there

pub plannable : (w : World) → IsWhole w → ArePlannable (world_plans w) w.size w.keeps
plannable w whole = record { paths = whole.followed.paths; slots = planned_length w.motions w.legs ∙ whole.room; small = (proper w whole).small }

pub journals_exist : JournalsExist
journals_exist w last whole canonical from = planned_journals_exist (world_plans w) w.size w.keeps w.moment last (plannable w whole) whole.canonical canonical from
