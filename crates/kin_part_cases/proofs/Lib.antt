pub mod LinkStates
pub mod RaceSlots
