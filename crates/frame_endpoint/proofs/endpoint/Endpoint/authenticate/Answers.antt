use Rattle.frame_endpoint.proofs.endpoint.Endpoint.authenticate.Goals as goal

pub returns-clause-authentic : goal.returns-clause-authentic
returns-clause-authentic c = rw (← c.self.view_is) c.authenticate_body.ensures.authentic
