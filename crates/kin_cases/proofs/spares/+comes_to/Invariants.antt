use Rattle.kin_cases.proofs.spares.+comes_to.Given as goal

abbrev pub decreases-comes_to : goal.decreases-comes_to
decreases-comes_to l = l.halvings
