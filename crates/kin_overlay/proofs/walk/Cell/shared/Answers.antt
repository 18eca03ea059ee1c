use Rattle.kin_overlay.proofs.walk.Cell.shared.Goals as goal

pub returns-then-self : goal.returns-then-self
returns-then-self c = rw (c.in-Zero-Zero.is-0, c.in-Zero-Zero.is-1, c.if-self.true)
