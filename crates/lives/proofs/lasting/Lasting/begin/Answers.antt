use Rattle.lives.proofs.lasting.Lasting.begin.Goals as goal

pub returns-in-Ok-clause-lasts : goal.returns-in-Ok-clause-lasts
returns-in-Ok-clause-lasts g c clean =
    let made = c.in-Ok.ensures.stands clean in
    (made.0, record { machine = c.requires.new; log = made.1; given = c.new.ensures.items })
