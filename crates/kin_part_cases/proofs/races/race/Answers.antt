use Rattle.std.proofs.Common.{◌≡◌, sym, ◌∙◌, ap, subst, ℕ, ◌^◌, List, set, replicate}
use Rattle.std.specs.Prelude.{Option, Some, None}
use Rattle.kin_motion.specs.Course.{Course, live_of}
use Rattle.kin_motion.specs.Numbers.{IsIn}
use Rattle.kin_motion.specs.Tournaments.{item_in}
use Rattle.kin_tourney.specs.declared.along.Along.{Along}
use Rattle.kin_tourney.specs.Tournament.{Tournament}
use Rattle.kin_part_cases.proofs.RaceSlots.{both_live}
use Rattle.kin_part_cases.proofs.races.race.Goals as goal

pub first_seen-requires-clause-live : goal.first_seen-requires-clause-live
first_seen-requires-clause-live g c =
    let slots : c.set-4.new.self.slots ≡ set (set (replicate (2 ^ 1) None) 0 (Some 0)) 1 (Some 1) =
    ap (λ (t : Tournament Along ℕ). t.slots) c.set-4.ensures ∙ ap (λ (t : Tournament Along ℕ). set t.slots 1 (Some 1)) c.set-3.ensures
    ∙ ap (λ (l : List (Option ℕ)). set (set l 0 (Some 0)) 1 (Some 1)) c.in_ok-tourney.ensures.slots in
    let motions = c.set-2.ensures.value ∙ ap (λ (l : List (Option Course)). set l 1 (Some c.new-3.result)) c.set.ensures.value in
    λ i a e. subst (λ (ms : List (Option Course)). IsIn a (live_of ms)) (sym motions)
    (both_live c.in_ok-motions.motions c.new-2.result c.new-3.result c.in_ok-motions.ensures.room i a (sym (ap (λ (l : List (Option ℕ)). item_in l i) slots) ∙ e))
