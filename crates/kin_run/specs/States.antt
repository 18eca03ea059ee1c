-- What a world means to the replay of a script.
use Rattle.std.specs.Prelude.{Bool}
use Rattle.kin_script.specs.States.{State}
use Rattle.kin_world.specs.Worlds.{World, world_plans}

-- what there is between two commands, as a world has it
abbrev pub state_of : Bool → World → State
state_of journal w = record { size = w.size; keeps = w.keeps; journal = journal; plans = world_plans w; moment = w.moment }
