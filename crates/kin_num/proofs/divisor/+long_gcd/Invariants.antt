use Rattle.kin_num.proofs.divisor.+long_gcd.Given as goal

abbrev pub decreases-long_gcd : goal.decreases-long_gcd
decreases-long_gcd l = l.y
