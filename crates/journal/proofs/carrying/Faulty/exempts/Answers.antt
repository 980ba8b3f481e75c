use Rattle.std.proofs.Common.{ap, sym, ◌∙◌}
use Rattle.wire.specs.Headers.{header_data}
use Rattle.journal.specs.Carrying.{is_faulty}
use Rattle.journal.proofs.Carriers.{header_exempt, none_exempt}
use Rattle.journal.proofs.carrying.Faulty.exempts.Goals as goal

pub returns-in-Ok : goal.returns-in-Ok
returns-in-Ok g c =
    c.names.ensures
    ∙ (ap (is_faulty g.N.Naming.config) c.number.ensures
    ∙ sym (header_exempt g.N.Naming.config c.args.bytes.now (header_data c.in-Ok.header) c.in-Ok.ensures.found))

pub returns-in-Err : goal.returns-in-Err
returns-in-Err g c = sym (none_exempt g.N.Naming.config c.args.bytes.now (λ f spells. absurd (cc (c.in-Err.ensures.only f spells))))
