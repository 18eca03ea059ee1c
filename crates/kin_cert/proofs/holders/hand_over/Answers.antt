use Rattle.std.proofs.lemmas.Cmp.{nat_eq_equiv, lists_equiv}
use Rattle.indexmap.proofs.CallerLemmas.{updates-with_value_at}
use Rattle.kin_cert.proofs.holders.hand_over.Goals as goal

pub returns : goal.returns
returns c = λ q. (updates-with_value_at c.args.index.now c.args.spot.position c.args.holder (lists_equiv nat_eq_equiv) c.in-Some.ensures.unique c.args.bucket.now c.args.spot.holder c.requires.at).0 q
