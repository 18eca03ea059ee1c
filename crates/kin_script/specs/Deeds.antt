-- What a command is: it changes the points, it moves time, or it asks.
use Rattle.std.specs.Prelude.{ℕ, Bool, true}
use Rattle.kin_num.specs.Quadratic.{Quadratic}
use Rattle.kin_num.specs.Instants.{line}
use Rattle.kin_script.specs.declared.command.Command.{Command}
use Rattle.kin_script.specs.declared.command.Command.TheVariants.{Insert, Remove, Replace, Turn, Leg, AtRatio, AtRoot, Next}
use Rattle.kin_script.specs.Changes.{PointChange, enters, leaves, restarts, turns, schedules}

-- a number is changed; time goes to the root that is named, the greater one or the lesser; it goes to what comes next; or a question is asked
pub data Deed : Type 0 where
  changes : ℕ → PointChange → Deed
  goes_to : Bool → Quadratic → Deed
  goes_on : Deed
  asks : Command → Deed

-- what a command does; n/d is the only root of d*t - n, and every command that isn't named here is a question
abbrev pub deed_of : Command → Deed
deed_of (Insert number motion) = changes number (enters motion)
deed_of (Remove number) = changes number leaves
deed_of (Replace number motion) = changes number (restarts motion)
deed_of (Turn number u v) = changes number (turns u v)
deed_of (Leg number at u v) = changes number (schedules at u v)
deed_of (AtRatio n d) = goes_to true (line n d)
deed_of (AtRoot a b c upper) = goes_to upper (record { a = a; b = b; c = c })
deed_of Next = goes_on
deed_of question = asks question
