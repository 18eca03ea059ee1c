-- What came of one command.
use Rattle.std.specs.Prelude.{◌≡◌, ℕ, Bool, true, false, List, [], Result, Ok, Err}
use Rattle.kin_script.specs.declared.command.Command.{Command}
use Rattle.kin_script.specs.Deeds.{Deed}
use Rattle.kin_script.specs.Questions.{IsAnswerable, IsRefusedQuestion, IsReplyLine}
use Rattle.kin_script.specs.Replay.{IsAllowed, IsRefused}
use Rattle.kin_script.specs.States.{State}
use Rattle.kin_script.specs.Text.{Prints, Step}
use Rattle.kin_print.specs.declared.reply.Reply.{Reply}
use Rattle.kin_print.specs.Replies.{reply_line}
use Rattle.kin_check.specs.declared.halt.Halt.{Halt}
use Rattle.kin_check.specs.declared.halt.Halt.TheVariants.{NoMemory, Refused}
use Rattle.kin_check.specs.Matches.{IsMatchOf}

-- it was done, and prints nothing; or it is refused
abbrev pub Changes : State → Deed → Result (Unit {0}) Halt → State → Type 0
Changes s d (Ok x) t = Step s d [] t
Changes s d (Err (Refused r)) t = IsRefused s d r
Changes s d (Err NoMemory) t = Unit {0}

-- done is true, and a halt stays one
abbrev pub IsSilent : Result (Unit {0}) Halt → Result Bool Halt → Type 0
IsSilent (Ok x) result = result ≡ Ok true
IsSilent (Err halt) result = result ≡ Err halt

-- a reply that makes the line of a question; or the question is refused
abbrev pub IsReply : State → Command → Result Reply Halt → Type 0
IsReply s q (Ok reply) = IsAnswerable s q × IsReplyLine s q (reply_line reply)
IsReply s q (Err (Refused r)) = IsRefusedQuestion s q r
IsReply s q (Err NoMemory) = Unit {0}

-- it was done, and what is left begins with what it prints, which was taken away; or it isn't refused, and what is left begins otherwise; or it is refused, and
-- nothing was taken away
abbrev pub Performs : State → Deed → Result Bool Halt → List ℕ → List ℕ → State → Type 0
Performs s d (Ok true) before left t = IsMatchOf (λ text. Step s d text t) true before left
Performs s d (Ok false) before left t = IsAllowed s d × IsMatchOf (Prints s d) false before left
Performs s d (Err (Refused r)) before left t = IsRefused s d r × (left ≡ before)
Performs s d (Err NoMemory) before left t = Unit {0}
