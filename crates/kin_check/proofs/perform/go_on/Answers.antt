use Rattle.std.proofs.Common.{◌∙◌, ◌++◌, ap, sym, subst, Bool, List, ℕ}
use Rattle.std.specs.Prelude.{unwrap_or}
use Rattle.kin_num.specs.declared.instant.Moment.{Moment}
use Rattle.kin_legs.specs.Nexts.{comes_at}
use Rattle.kin_script.specs.Text.{next_lines}
use Rattle.kin_status.proofs.Determined.{next_canonical}
use Rattle.kin_check.specs.Coming.{comes, moment_after}
use Rattle.kin_check.specs.Sound.{IsSound}
use Rattle.kin_check.proofs.Performing.{gone_on, sound_at}
use Rattle.kin_check.proofs.perform.go_on.Goals as goal

pub returns-clause-performs : goal.returns-clause-performs
returns-clause-performs g c =
    let s = c.args.state.now in
    let n = comes c.in_ok-next.next in
    let lines = c.deref.ensures.value ∙ c.in_ok-put.ensures ∙ ap (λ (w : List ℕ). w ++ next_lines c.journal.result n) c.new-out.ensures.items ∙ ap (λ (b : Bool). next_lines b n) c.journal.ensures in
    let moved = c.go.ensures ∙ ap (λ (m : Moment). record s { moment = m }) (c.moment-2.ensures ∙ ap (moment_after n) c.moment.ensures) in
    gone_on s n c.take.result c.deref.result.now c.args.claim.now c.take.new.self c.go.new.self c.requires.canonical c.in_ok-next.ensures lines moved c.take.ensures

pub returns-clause-sound : goal.returns-clause-sound
returns-clause-sound g c =
    let s = c.args.state.now in
    let n = comes c.in_ok-next.next in
    let moved = c.go.ensures ∙ ap (λ (m : Moment). record s { moment = m }) (c.moment-2.ensures ∙ ap (moment_after n) c.moment.ensures) in
    subst IsSound (sym moved) (sound_at s (unwrap_or (comes_at n) s.moment) c.requires (next_canonical s n c.requires.canonical c.in_ok-next.ensures))
