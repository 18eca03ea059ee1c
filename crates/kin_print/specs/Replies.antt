-- The lines of replies.
use Rattle.std.specs.Prelude.{ℕ, List}
use Rattle.kin_script.specs.Printed.{list_line}
use Rattle.kin_script.specs.PrintedJournal.{count_line, one_line, pair_line, pairs_lines}
use Rattle.kin_print.specs.declared.reply.Reply.{Reply}
use Rattle.kin_print.specs.declared.reply.Reply.TheVariants as reply

-- the line of a reply, or the lines
abbrev pub reply_line : Reply → List ℕ
reply_line (reply.List numbers) = list_line numbers.items
reply_line (reply.One one) = one_line one
reply_line (reply.Pair pair) = pair_line pair
reply_line (reply.Pairs pairs) = pairs_lines pairs.items
reply_line (reply.Count n) = count_line n
