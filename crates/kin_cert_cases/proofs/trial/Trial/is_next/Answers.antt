use Rattle.kin_cert_cases.proofs.trial.Trial.is_next.Goals as goal

pub failing-requires : goal.failing-requires
failing-requires g c = λ l there. (c.requires.listed l there).0
