-- A list of different numbers below n is no longer than n.
pub use Rattle.kin_sorted.proofs.PigeonLaws.{few_below}
