use Rattle.frame_endpoint.proofs.endpoint.Endpoint.send_to_others.Goals as goal

pub returns-clause-is_outgoing : goal.returns-clause-is_outgoing
returns-clause-is_outgoing c = rw (← c.self.view_is) (c.seal_for_others.ensures.is_outgoing c.self.inside.publics)
