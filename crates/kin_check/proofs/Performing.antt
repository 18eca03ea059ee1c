-- What comes of one command, and whether a claim begins with what it prints.
use Rattle.std.proofs.Common.{◌≡◌, refl, sym, ap, ◌∙◌, subst, Bool, true, false, List, [], ◌++◌, ℕ, Ok, Err}
use Rattle.std.specs.Prelude.{Result, unwrap_or}
use Rattle.kin_num.specs.declared.instant.Moment.{Moment}
use Rattle.kin_num.specs.declared.instant.Shape.{Shape}
use Rattle.kin_num.specs.Canonical.{IsCanonical}
use Rattle.kin_num.specs.Order.{IsEarlier}
use Rattle.kin_num.specs.Quadratic.{Quadratic}
use Rattle.kin_motion.specs.Turning.{just_at}
use Rattle.kin_legs.specs.Nexts.{IsNext, Next, comes_at}
use Rattle.kin_script.specs.declared.command.Command.{Command}
use Rattle.kin_script.specs.Deeds.{Deed, asks, goes_on, goes_to}
use Rattle.kin_script.specs.Questions.{IsAnswerable, IsReplyLine}
use Rattle.kin_script.specs.Replay.{IsNamedRoot}
use Rattle.kin_script.specs.States.{State, state_view}
use Rattle.kin_script.specs.Text.{IsPassedText, next_lines}
use Rattle.kin_script.proofs.Questions.{answerable_allowed, one_reply_line}
use Rattle.kin_status.proofs.Determined.{goes_allowed}
use Rattle.kin_status.proofs.NamedRoots.{one_named_root}
use Rattle.kin_status.proofs.Passing.{one_next}
use Rattle.kin_check.specs.declared.halt.Halt.{Halt}
use Rattle.kin_check.specs.declared.halt.Halt.TheVariants.{NoMemory, Refused}
use Rattle.kin_check.specs.Matches.{IsMatch, IsMatchOf}
use Rattle.kin_check.specs.Performed.{Changes, IsSilent, Performs}
use Rattle.kin_check.specs.Sound.{IsSound}

-- ---- time goes to a moment
pub sound_at : (s : State) (m : Moment) → IsSound s → IsCanonical m.at → IsSound (record s { moment = m })
sound_at s m sound canonical = record { size_low = sound.size_low; size_high = sound.size_high; keepable = sound.keepable; plannable = sound.plannable; canonical = canonical }

module _ (s : State) (upper : Bool) (p : Quadratic) (asked : Shape) (named : IsNamedRoot upper p asked) (later : ¬ (IsEarlier (just_at asked) s.moment)) where
  pub gone_to : (agrees : Bool) (before left : List ℕ) (t : State) → t ≡ record s { moment = just_at asked } → IsMatchOf (IsPassedText s.journal s asked) agrees before left
      → Performs s (goes_to upper p) (Ok agrees) before left t
  gone_to true before left t is (text, passed, e) = (text, record { allowed = goes_allowed s upper p asked named later; prints = (asked, named, passed); leads = (asked, named, is) }, e)
  gone_to false before left t is differs = (
    goes_allowed s upper p asked named later,
    λ text rest prints. differs text rest (subst (λ (w : Shape). IsPassedText s.journal s w text) (one_named_root upper p prints.0 asked prints.1 named) prints.2),
  )

-- ---- time goes on
pub gone_on : (s : State) (n : Next) (agrees : Bool) (text before left : List ℕ) (t : State) → IsCanonical s.moment.at → IsNext (state_view s) n → text ≡ next_lines s.journal n
    → t ≡ record s { moment = unwrap_or (comes_at n) s.moment } → IsMatch text agrees before left → Performs s goes_on (Ok agrees) before left t
gone_on s n true text before left t canonical is lines moved e = (text, record { allowed = λ r h. h; prints = (n, is, lines); leads = (n, is, moved) }, e)
gone_on s n false text before left t canonical is lines moved differs = (
  λ r h. h,
  λ other rest prints e. differs rest (e ∙ ap (λ (w : List ℕ). w ++ rest) (one_next s other text canonical prints (n, is, lines))),
)

-- ---- a question is answered
pub answered : (s : State) (q : Command) (agrees : Bool) (text before left : List ℕ) → IsCanonical s.moment.at → IsAnswerable s q → IsReplyLine s q text → IsMatch text agrees before left
    → Performs s (asks q) (Ok agrees) before left s
answered s q true text before left canonical has line e = (text, record { allowed = answerable_allowed s q has; prints = line; leads = refl }, e)
answered s q false text before left canonical has line differs = (
  answerable_allowed s q has,
  λ other rest prints e. differs rest (e ∙ ap (λ (w : List ℕ). w ++ rest) (one_reply_line s canonical q other text prints line)),
)

-- ---- a change prints nothing
pub silently : (s : State) (d : Deed) (done : Result (Unit {0}) Halt) (result : Result Bool Halt) (before : List ℕ) (t : State) → Changes s d done t → IsSilent done result
    → Performs s d result before before t
silently s d (Ok x) result before t step is = subst (λ (r : Result Bool Halt). Performs s d r before before t) (sym is) ([], step, refl)
silently s d (Err (Refused r)) result before t refused is = subst (λ (x : Result Bool Halt). Performs s d x before before t) (sym is) (refused, refl)
silently s d (Err NoMemory) result before t none is = subst (λ (x : Result Bool Halt). Performs s d x before before t) (sym is) tt
