-- What came of one command, and of several.
use Rattle.std.specs.Prelude.{◌≡◌, ℕ, Bool, List, ◌++◌, Result, Ok, Err}
use Rattle.kin_num.specs.declared.instant.Shape.{Shape}
use Rattle.kin_num.specs.Quadratic.{Quadratic}
use Rattle.kin_script.specs.declared.command.Command.{Command}
use Rattle.kin_script.specs.Deeds.{Deed}
use Rattle.kin_script.specs.Questions.{IsAnswerable, IsRefusedQuestion, IsReplyLine}
use Rattle.kin_script.specs.Replay.{IsRefused, IsAllowed, IsNamedRoot}
use Rattle.kin_script.specs.Alike.{IsAlike}
use Rattle.kin_script.specs.States.{State}
use Rattle.kin_script.specs.Text.{Step, Text, Ending, Prints}
use Rattle.kin_print.specs.declared.reply.Reply.{Reply}
use Rattle.kin_print.specs.Replies.{reply_line}
use Rattle.kin_status.specs.declared.stop.Halt.{Halt}
use Rattle.kin_status.specs.declared.stop.Halt.TheVariants.{Refused, Broken}
use Rattle.kin_status.specs.declared.stop.Stop.{Stop}
use Rattle.kin_status.specs.declared.stop.Stop.TheVariants.{Fault, NoMemory}
use Rattle.kin_status.specs.Written.{Printer, IsFront, GainsSome, LosesSome}

-- a prefix of each such text
abbrev pub IsFrontOfEach : (List ℕ → Type 0) → List ℕ → Type 0
IsFrontOfEach IsText front = (text : List ℕ) → IsText text → IsFront front text

-- a line was appended to what was there; or memory ran out, and a prefix of each such line was appended
abbrev pub PutsLine : {E : Type 0} → (List ℕ → Type 0) → Result (Unit {0}) E → List ℕ → List ℕ → Type 0
PutsLine IsLine (Ok x) before now = (text : List ℕ) × (now ≡ before ++ text) × IsLine text
PutsLine IsLine (Err e) before now = (front : List ℕ) × (now ≡ before ++ front) × IsFrontOfEach IsLine front

-- a reply that makes the line of a question; or the question is refused; or memory ran out
abbrev pub IsReply : State → Command → Result Reply Halt → Type 0
IsReply s q (Ok reply) = IsAnswerable s q × IsReplyLine s q (reply_line reply)
IsReply s q (Err (Refused r)) = IsRefusedQuestion s q r
IsReply s q (Err (Broken NoMemory)) = IsAnswerable s q
IsReply s q (Err (Broken Fault)) = ⊥

-- the line of a question was appended to what was there; or the question is refused, and nothing was appended; or memory ran out at a prefix of its line
abbrev pub Replies : {E : Type 0} → State → Command → Result E Halt → List ℕ → List ℕ → Type 0
Replies s q (Ok x) before now = IsAnswerable s q × ((text : List ℕ) × (now ≡ before ++ text) × IsReplyLine s q text)
Replies s q (Err (Refused r)) before now = IsRefusedQuestion s q r × (now ≡ before)
Replies s q (Err (Broken NoMemory)) before now = IsAnswerable s q × ((front : List ℕ) × (now ≡ before ++ front) × IsFrontOfEach (IsReplyLine s q) front)
Replies s q (Err (Broken Fault)) before now = ⊥

-- a run was broken off after such a text: at want of memory all of it is written or gathered, and at a fault only a prefix may have been written
abbrev pub BreaksOff : (List ℕ → Type 0) → Stop → Printer → Printer → Type 0
BreaksOff IsText NoMemory p q = GainsSome IsText p q
BreaksOff IsText Fault p q = LosesSome IsText p q

-- such a text was appended to all bytes so far; or the run was broken off at a prefix of each such text
abbrev pub Puts : {E : Type 0} → (List ℕ → Type 0) → Result E Stop → Printer → Printer → Type 0
Puts IsText (Ok x) p q = GainsSome IsText p q
Puts IsText (Err stop) p q = BreaksOff (IsFrontOfEach IsText) stop p q

-- it was done and its text appended to all bytes so far, and the state is the one that it leads to, but for legs that are over; or it is refused and nothing is
-- changed; or it is not refused and the run was broken off at a prefix of its text
abbrev pub Performs : {E : Type 0} → State → Deed → Result E Halt → Printer → Printer → State → Type 0
Performs s d (Ok x) p q t = GainsSome (λ text. (u : State) × Step s d text u × IsAlike u t) p q
Performs s d (Err (Refused r)) p q t = IsRefused s d r × (q ≡ p) × (t ≡ s)
Performs s d (Err (Broken stop)) p q t = IsAllowed s d × BreaksOff (IsFrontOfEach (Prints s d)) stop p q

-- whichever root of whichever quadratic names the instant
abbrev pub HoweverNamed : Shape → (Bool → Quadratic → Type 0) → Type 0
HoweverNamed asked P = (upper : Bool) (p : Quadratic) → IsNamedRoot upper p asked → P upper p

-- where the command was refused
abbrev pub OnRefused : {E : Type 0} → Result E Halt → Type 0 → Type 0
OnRefused (Ok x) P = Unit {0}
OnRefused (Err (Refused r)) P = P
OnRefused (Err (Broken stop)) P = Unit {0}

-- a prefix of whatever the commands print
abbrev pub IsCutOfText : State → List (ℕ × Command) → List ℕ → Type 0
IsCutOfText s cs front = (text : List ℕ) (ending : Ending) → Text s cs text ending → IsFront front text

-- the text of the commands was appended to all bytes so far, with its ending; or the run was broken off at a prefix of it
abbrev pub PutsAll : State → List (ℕ × Command) → Result Ending Stop → Printer → Printer → Type 0
PutsAll s cs (Ok ending) p q = GainsSome (λ text. Text s cs text ending) p q
PutsAll s cs (Err stop) p q = BreaksOff (IsCutOfText s cs) stop p q
