use Rattle.client_command.proofs.serving.serve_client.Goals as goal

-- the client has the number of its keys, and its history is empty in each configuration that gives it these
pub returns-in-Ok : goal.returns-in-Ok
returns-in-Ok g c k above begins system given = rw (← begins.me_is) (c.in-Ok.ensures system above (begins.fits system given))

pub returns-in-Err : goal.returns-in-Err
returns-in-Err g c k above begins system given = rw (← begins.me_is) (c.in-Err.ensures system above (begins.fits system given))
