use Rattle.client_cert.proofs.ballots.Ballots.note.Goals as goal

pub returns-in-Ok : goal.returns-in-Ok
returns-in-Ok c = rw (← c.self.view_is) (record { added = record { at = λ s. c.in-Ok.ensures.updates.0 s } })
