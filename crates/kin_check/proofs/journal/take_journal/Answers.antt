use Rattle.std.proofs.Common.{◌<◌, sym, subst, true, false, Bool}
use Rattle.kin_num.specs.Grains.{moments_left}
use Rattle.kin_num.specs.declared.instant.Moment.{Moment}
use Rattle.kin_num.proofs.Grains.{moments_run_out}
use Rattle.kin_motion.specs.Turning.{just_at}
use Rattle.kin_script.specs.PrintedJournal.{block_lines}
use Rattle.kin_script.specs.Text.{IsPassedText}
use Rattle.kin_check.specs.Blocks.{IsNextBlockBy}
use Rattle.kin_check.specs.Matches.{IsMatch, IsMatchOf}
use Rattle.kin_check.proofs.Journals.{IsPassing, all_taken, block_differs, block_taken, off_taken, sets_out}
use Rattle.kin_check.proofs.journal.take_journal.Goals as goal

pub returns-then-not-journal : goal.returns-then-not-journal
returns-then-not-journal g c = off_taken c.args.state.now c.args.asked c.args.claim.now (sym c.if-not-journal.ensures)

pub next_block-requires : goal.next_block-requires
next_block-requires g c = record { sound = c.requires.sound; from = c.loop-block.invariant.canonical; last = c.requires.canonical; in_time = c.loop-block.invariant.in_time }

pub loop-block-init : goal.loop-block-init
loop-block-init g c =
    subst (λ (m : Moment). IsPassing c.args.state.now c.args.asked c.args.claim.now m c.args.claim.now) (sym c.moment-from.ensures)
    (sets_out c.args.state.now c.args.asked c.args.claim.now c.requires.sound.canonical c.requires.later)

pub returns-then-not-branch : goal.returns-then-not-branch
returns-then-not-branch g c =
    let s = c.args.state.now in
    let b = c.in-Some.block in
    let next = subst (IsNextBlockBy s c.loop-block.from (just_at c.args.asked)) c.in-Some.is c.in_ok-block.ensures in
    let differs = subst (λ (is : Bool). IsMatch (block_lines b) is c.loop-block.claim c.take_block.new.claim) c.if-not-branch.true c.in_ok-take_block.ensures in
    subst (λ (on : Bool). IsMatchOf (IsPassedText on s c.args.asked) false c.args.claim.now c.take_block.new.claim) c.if-not-journal.ensures
    (block_differs s c.args.asked c.requires.canonical c.loop-block.invariant b next differs)

pub loop-block-smaller : goal.loop-block-smaller
loop-block-smaller g c =
    let s = c.args.state.now in
    let b = c.in-Some.block in
    let next = subst (IsNextBlockBy s c.loop-block.from (just_at c.args.asked)) c.in-Some.is c.in_ok-block.ensures in
    subst (λ (m : Moment). moments_left m < moments_left c.loop-block.from) (sym c.moment-from-in-Some.ensures)
    (moments_run_out c.loop-block.from b.moment c.loop-block.invariant.canonical next.0.canonical next.0.later)

pub loop-block-preserved : goal.loop-block-preserved
loop-block-preserved g c =
    let s = c.args.state.now in
    let b = c.in-Some.block in
    let next = subst (IsNextBlockBy s c.loop-block.from (just_at c.args.asked)) c.in-Some.is c.in_ok-block.ensures in
    let same = subst (λ (is : Bool). IsMatch (block_lines b) is c.loop-block.claim c.take_block.new.claim) c.if-not-branch.false c.in_ok-take_block.ensures in
    subst (λ (m : Moment). IsPassing s c.args.asked c.args.claim.now m c.take_block.new.claim) (sym c.moment-from-in-Some.ensures)
    (block_taken s c.args.asked c.requires.canonical c.loop-block.invariant b next c.take_block.new.claim same)

pub returns : goal.returns
returns g c =
    let s = c.args.state.now in
    let none = subst (IsNextBlockBy s c.loop-block.from (just_at c.args.asked)) c.in_default.is c.in_ok-block.ensures in
    subst (λ (on : Bool). IsMatchOf (IsPassedText on s c.args.asked) true c.args.claim.now c.loop-block.claim) c.if-not-journal.ensures
    (all_taken s c.args.asked c.requires.canonical c.loop-block.invariant none)
