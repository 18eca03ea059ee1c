use Rattle.kin_num.proofs.divisor.+short_gcd.Given as goal

abbrev pub decreases-short_gcd : goal.decreases-short_gcd
decreases-short_gcd l = l.y
