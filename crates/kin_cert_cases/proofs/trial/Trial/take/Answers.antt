use Rattle.kin_cert_cases.proofs.trial.Trial.take.Goals as goal

pub failing-requires : goal.failing-requires
failing-requires g c = λ l there. (c.requires.listed l there).0

pub take_failing-requires-clause-none_waits : goal.take_failing-requires-clause-none_waits
take_failing-requires-clause-none_waits g c = λ l there. (c.requires.listed l there).0
