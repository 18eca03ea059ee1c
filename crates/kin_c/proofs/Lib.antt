mod Values
mod SlotValues
mod Reporting
mod OneMoments
