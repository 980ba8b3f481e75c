use Rattle.std.proofs.Common.{◌∙◌, ap, sym, arith, Some}
use Rattle.std.specs.Prelude.{slice_get}
use Rattle.terms.specs.Parties.{party_number}
use Rattle.signing.specs.Publics.{derived_publics}
use Rattle.signing.proofs.Publics.{none_beyond, one_within}
use Rattle.signing.proofs.dealt.Dealt.public.Goals as goal

pub returns-in-Client : goal.returns-in-Client
returns-in-Client c =
    let few = c.args.self.now.few in
    let number = ap party_number c.in-Client.is in
    sym (none_beyond c.args.self.now.seed c.args.self.now.faults (party_number c.args.signer) (omega (arith, few, number)))

pub returns-then-replica-self : goal.returns-then-replica-self
returns-then-replica-self c =
    let known = c.args.self.now in
    let number = ap party_number c.in-Replica.is in
    let within = c.if-replica-self.true in
    ap Some c.key.ensures
    ∙ sym (one_within known.seed known.faults c.in-Replica.replica.0 (omega (arith, within)))
    ∙ ap (slice_get (derived_publics known.seed known.faults)) (sym number)

pub returns-else-replica-self : goal.returns-else-replica-self
returns-else-replica-self c =
    let known = c.args.self.now in
    let number = ap party_number c.in-Replica.is in
    let beyond = c.if-replica-self.false in
    sym (none_beyond known.seed known.faults (party_number c.args.signer) (omega (arith, beyond, number)))
