-- What comes next, as the definition has it.
use Rattle.std.specs.Prelude.{unwrap_or}
use Rattle.kin_num.specs.declared.instant.Moment.{Moment}
use Rattle.kin_legs.specs.Nexts as next
use Rattle.kin_check.specs.declared.next.Next.{Next}
use Rattle.kin_check.specs.declared.next.Next.TheVariants.{Failures, Leg, Nothing}

abbrev pub comes : Next → next.Next
comes (Failures b) = next.block b
comes (Leg m) = next.leg m
comes Nothing = next.nothing

-- its moment, or now where nothing comes
abbrev pub moment_after : next.Next → Moment → Moment
moment_after n now = unwrap_or (next.comes_at n) now
