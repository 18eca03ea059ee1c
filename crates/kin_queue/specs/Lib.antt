pub mod Agenda
pub mod Cost
pub mod Cells
pub mod Tickets
pub mod Heap
pub mod Hole
