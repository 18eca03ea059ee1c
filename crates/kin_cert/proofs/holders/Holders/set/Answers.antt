use Rattle.std.proofs.lemmas.Result.{on_err_weaker}
use Rattle.kin_cert.proofs.Seats.{same-holders}
use Rattle.kin_cert.proofs.holders.Holders.set.Goals as goal

pub returns-in-Bucket-clause-err : goal.returns-in-Bucket-clause-err
returns-in-Bucket-clause-err c = on_err_weaker c.set_bucket.result (λ same. same-holders c.args.self.now c.set_bucket.new.self c.set_bucket.ensures.seats same) c.set_bucket.ensures.err
