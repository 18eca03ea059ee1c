-- One turn of the loop that passes the failures up to an instant: the blocks up to now, with their lines and their counts.
use Rattle.std.proofs.Common.{◌≡◌, ℕ, Bool, true, false, List, [], ◌∷◌, ◌++◌, refl, sym, ap, ◌∙◌, subst, append_assoc, append-nil, length, Option, Some, None}
use Rattle.kin_run.proofs.Vocabulary.{IsCanonical, IsEarlier, Moment, Shape, Block, IsJournal, IsNextBlock, State, just_at, state_setting}
use Rattle.kin_run.proofs.Vocabulary.{IsPassedText, IsFrontOfEach, printed_if, AppendsFront, PutsFront, HasArrived, HasMoved, HasPassed, HasStepped, IsWhole, World, failure_count, BreaksOff, state_of, HasTallied, counted_on, Gains, GainsSome, Printer, printer, Tally, Fault, NoMemory}
use Rattle.kin_run.proofs.Arriving.{arrived_now, block_from_start, goes_further, gone_moment, is_here, journal_from_start}
use Rattle.kin_status.proofs.Gathering.{gains_nothing, gains_put, some_then, some_lost, some_flushed, some_is, front_through, front_after}
use Rattle.kin_status.proofs.Passing.{ArePassed, behind_block, cut_on_the_way, is_text, lines_behind, lines_if, not_back}
use Rattle.kin_status.proofs.Tallying.{none_tallied, one_tallied, tallied_then, tallied_is}

-- the blocks up to now
abbrev AreUpTo : State → Shape → Moment → List Block → Type 0
AreUpTo s w now bs = ArePassed (state_setting s) s.moment now (just_at w) bs

-- the printed lines are those of these blocks
abbrev AreLines : Bool → State → Shape → Moment → List ℕ → Type 0
AreLines journal s w now lines = (bs : List Block) × AreUpTo s w now bs × (lines ≡ lines_if journal bs)

-- a whole world has gone on to now, and what was passed was printed and counted
pub record IsOnTheWay (journal : Bool) (start : World) (w : Shape) (now : World) (p q : Printer) (old new : Option Tally) : Type 0 where
  pub set_out : IsWhole start
  pub arrived : HasArrived now.moment start now
  pub printed : GainsSome (AreLines journal (state_of journal start) w now.moment) p q
  pub counted : HasTallied (AreUpTo (state_of journal start) w now.moment) old new
  pub later : ¬ (IsEarlier (just_at w) now.moment)

no_lines : (journal : Bool) → [] ≡ lines_if journal []
no_lines false = refl
no_lines true = refl

none_passed : (s : State) (w : Shape) → AreUpTo s w s.moment []
none_passed s w = record { forth = λ more j. j; back = λ all j. (all, j, refl) }

pub sets_out : (journal : Bool) (start : World) (w : Shape) (p : Printer) (t : Option Tally) → IsWhole start → ¬ (IsEarlier (just_at w) start.moment) → IsOnTheWay journal start w start p p t t
sets_out journal start w p t whole later = record {
  set_out = whole;
  arrived = is_here start whole;
  printed = record { text = []; gained = gains_nothing p; is = ([], none_passed (state_of journal start) w, no_lines journal) };
  counted = none_tallied _ t (none_passed (state_of journal start) w);
  later = later;
}

-- a step that lists nothing has passed a block where it tells how many failures that held, and else has moved
pub told_some : (limit : Moment) (old new : World) (count : Option ℕ) (failures : ℕ) → count ≡ Some failures → (block : Option Block) × HasStepped limit block old new × (count ≡ failure_count block)
    → (block : Block) × HasPassed limit block old new × (failures ≡ length block.failures)
told_some limit old new count failures some (None, h, e) = let both : Some failures ≡ None = sym some ∙ e in absurd cc
told_some limit old new count failures some (Some block, h, e) = let both : Some failures ≡ Some (length block.failures) = sym some ∙ e in (block, h, cc)

pub told_none : (limit : Moment) (old new : World) (count : Option ℕ) → count ≡ None → (block : Option Block) × HasStepped limit block old new × (count ≡ failure_count block) → HasMoved limit old new
told_none limit old new count none (None, h, e) = h
told_none limit old new count none (Some block, h, e) = let both : None ≡ Some (length block.failures) = sym none ∙ e in absurd cc

module _ {journal : Bool} {start : World} {w : Shape} {now : World} {p q : Printer} {old middle : Option Tally} (on : IsOnTheWay journal start w now p q old middle) (canonical : IsCanonical w) where
  abbrev S : State
  S = state_of journal start

  cut : (m : Moment) (lines : List ℕ) → AreLines journal S w m lines → IsFrontOfEach (IsPassedText journal S w) lines
  cut m lines a = subst (IsFrontOfEach (IsPassedText journal S w)) (sym a.2) (cut_on_the_way journal S m w a.0 a.1)

  -- where memory ran out between two blocks
  pub breaks_here : BreaksOff (IsFrontOfEach (IsPassedText journal S w)) NoMemory p q
  breaks_here = some_is on.printed (IsFrontOfEach (IsPassedText journal S w)) (cut now.moment)

  module _ {new : World} {block : Block} (h : HasPassed (just_at w) block now new) where
    up_to_block : (bs : List Block) → AreUpTo S w now.moment bs → AreUpTo S w block.moment (bs ++ block ∷ [])
    up_to_block bs is =
        let next : IsNextBlock (state_setting S) now.moment block = block_from_start on.set_out on.arrived block h.next in
        record {
          forth = λ more j. subst (IsJournal (state_setting S) start.moment (just_at w)) (sym (append_assoc bs (block ∷ []) more)) (is.forth (block ∷ more) (next, h.within, j));
          back = λ all j.
              let x = is.back all j in
              let y = behind_block (state_setting S) now.moment (just_at w) block on.arrived.whole.canonical canonical next h.within x.0 x.1 in
              (y.0, y.1, x.2 ∙ ap (λ (more : List Block). bs ++ more) y.2 ∙ sym (append_assoc bs (block ∷ []) y.0));
        }

    lines_more : (lines : List ℕ) → AreLines journal S w now.moment lines → AreLines journal S w block.moment (lines ++ printed_if journal block)
    lines_more lines a = (a.0 ++ block ∷ [], up_to_block a.0 a.1, ap (λ (ls : List ℕ). ls ++ printed_if journal block) a.2 ∙ sym (lines_behind journal a.0 block))

    -- where memory ran out within the lines of a block
    pub breaks_within : (r : List ℕ) → PutsFront q.gathered r (printed_if journal block) → BreaksOff (IsFrontOfEach (IsPassedText journal S w)) NoMemory p (printer q.held r)
    breaks_within r f = some_then on.printed (IsFrontOfEach (IsPassedText journal S w)) (gains_put q.held q.gathered r f.front f.put)
        (λ lines a text is. front_through (lines ++ f.front) (lines ++ printed_if journal block) text (front_after lines f.front (printed_if journal block) (record { more = f.rest; joined = f.cut }))
        (cut block.moment (lines ++ printed_if journal block) (lines_more lines a) text is))

    -- where a write fails behind a block
    pub faults_behind : (r : List ℕ) (f : Printer) → r ≡ q.gathered ++ printed_if journal block → AppendsFront q.held f.held r → BreaksOff (IsFrontOfEach (IsPassedText journal S w)) Fault p f
    faults_behind r f e front =
        some_lost on.printed (IsFrontOfEach (IsPassedText journal S w)) f (printed_if journal block) (subst (AppendsFront q.held f.held) e front) (λ lines a. cut block.moment (lines ++ printed_if journal block) (lines_more lines a))

    at_block : new.moment ≡ block.moment
    at_block = gone_moment h.gone

    arrives_at_block : HasArrived block.moment start new
    arrives_at_block = goes_further on.set_out on.arrived (not_back now.moment block.moment on.arrived.whole.canonical h.next.canonical h.next.later) h.gone

    pub goes_on : (r : List ℕ) {f : Printer} → r ≡ q.gathered ++ printed_if journal block → Gains (printer q.held r) f [] → (failures : ℕ) {last : Option Tally} → failures ≡ length block.failures → last ≡ counted_on failures middle
        → IsOnTheWay journal start w new p f old last
    goes_on r e flushed failures {last} same counts = record {
      set_out = on.set_out;
      arrived = arrived_now arrives_at_block;
      printed = some_flushed (some_then on.printed (AreLines journal S w new.moment) (gains_put q.held q.gathered r (printed_if journal block) e)
          (λ lines a. rw at_block (lines_more lines a))) flushed;
      counted = tallied_then on.counted (one_tallied (λ bs. bs ≡ block ∷ []) block failures middle last same refl counts) (λ bs cs is more. rw (at_block, more) (up_to_block bs is));
      later = rw at_block h.within;
    }

  -- where the journal is off nothing is printed
  pub goes_on_quietly : journal ≡ false → {new : World} {block : Block} → HasPassed (just_at w) block now new → (failures : ℕ) {last : Option Tally} → failures ≡ length block.failures → last ≡ counted_on failures middle
      → IsOnTheWay journal start w new p q old last
  goes_on_quietly off {new} {block} h failures same counts =
      goes_on h q.gathered (sym (append-nil q.gathered) ∙ ap (λ (b : Bool). q.gathered ++ printed_if b block) (sym off)) (gains_nothing q) failures same counts

  -- at the instant
  module _ {new : World} (h : HasMoved (just_at w) now new) where
    all_passed : (bs : List Block) → AreUpTo S w now.moment bs → IsJournal (state_setting S) start.moment (just_at w) bs
    all_passed bs is =
        let rest : IsJournal (state_setting S) now.moment (just_at w) [] = journal_from_start on.set_out on.arrived (just_at w) [] canonical on.later h.nothing in
        subst (λ (cs : List Block). IsJournal (state_setting S) start.moment (just_at w) cs) (append-nil bs) (is.forth [] rest)

    pub arrives : GainsSome (IsPassedText journal S w) p q
    arrives = some_is on.printed (IsPassedText journal S w) (λ lines a. subst (IsPassedText journal S w) (sym a.2) (is_text journal S w a.0 (all_passed a.0 a.1)))

    pub arrives_there : HasArrived (just_at w) start new
    arrives_there = goes_further on.set_out on.arrived on.later h.gone

    pub counted_all : HasTallied (IsJournal (state_setting S) start.moment (just_at w)) old middle
    counted_all = tallied_is on.counted all_passed
