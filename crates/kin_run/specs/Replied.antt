-- What comes of a question to a world.
use Rattle.std.specs.Prelude.{Bool, Result}
use Rattle.kin_script.specs.declared.command.Command.{Command}
use Rattle.kin_print.specs.declared.reply.Reply.{Reply}
use Rattle.kin_status.specs.declared.stop.Halt.{Halt}
use Rattle.kin_status.specs.Performed.{IsReply}
use Rattle.kin_world.specs.Worlds.{World}
use Rattle.kin_run.specs.States.{state_of}

-- what came of a question, before anything is appended: whether the journal is on doesn't matter
pub record RepliesTo (w : World) (q : Command) (result : Result Reply Halt) : Type 0 where
  pub reply : (journal : Bool) → IsReply (state_of journal w) q result
