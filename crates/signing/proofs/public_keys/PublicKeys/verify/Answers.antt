use Rattle.terms.specs.Parties.{party_number}
use Rattle.signing.proofs.Publics.{no_key}
use Rattle.signing.proofs.public_keys.PublicKeys.verify.Goals as goal

pub returns-in-None : goal.returns-in-None
returns-in-None c = record {
  verified = (
    λ same. absurd cc,
    λ verifies. absurd
        (no_key c.args.self.now (party_number c.args.signer) c.args.text.now c.args.signature.now c.in-None.ensures.key verifies),
  );
}
