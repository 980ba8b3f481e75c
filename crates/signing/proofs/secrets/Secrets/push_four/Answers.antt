use Rattle.std.proofs.Common.{◌≡◌, ◌++◌, ◌+◌, ◌-◌, [], get_or, arith, refl}
use Rattle.std.proofs.lemmas.Slice.{pushed}
use Rattle.signing.specs.Lamport.{bit_of, public_hash, secret}
use Rattle.signing.specs.Signatures.{signed_bit}
use Rattle.signing.proofs.Fours.{at_four}
use Rattle.signing.proofs.Joining.{append-joined_none, joined_push_two}
use Rattle.signing.proofs.secrets.Secrets.push_four.Goals as goal

pub loop-i-init : goal.loop-i-init
loop-i-init c = append-joined_none _ _

pub loop-i-preserved : goal.loop-i-preserved
loop-i-preserved c =
    let seed = c.args.self.now in
    let leaf = c.args.leaf in
    let hash = c.args.hash.now in
    let i = c.loop-i.i in
    let one = pushed _ c.loop-i.invariant c.in_ok-extend_from_slice.was c.extend_from_slice.ensures.items in
    let two = pushed _ one c.in_ok-extend_from_slice-2.was c.extend_from_slice-in-loop-i.ensures.items in
    let secrets = rw (c.own.ensures, c.own-2.ensures, c.own-3.ensures, c.own-4.ensures) at c.secrets-secrets.ensures in
    let hashes = rw (c.other.ensures, c.other-2.ensures, c.other-3.ensures, c.other-4.ensures) at c.public_hashes-hashes.ensures in
    let first : get_or c.secrets-secrets.result i [] ≡ secret seed leaf (c.args.first + i) (bit_of hash (c.args.first + i)) =
    rw secrets (at_four (λ bit. secret seed leaf bit (bit_of hash bit)) c.args.first [] i (omega arith)) in
    let second : get_or c.public_hashes-hashes.result i [] ≡ public_hash seed leaf (c.args.first + i) (1 - bit_of hash (c.args.first + i)) =
    rw hashes (at_four (λ bit. public_hash seed leaf bit (1 - bit_of hash bit)) c.args.first [] i (omega arith)) in
    let both : get_or c.secrets-secrets.result i [] ++ get_or c.public_hashes-hashes.result i [] ≡ signed_bit seed leaf hash (c.args.first + i) = rw (first, second) refl in
    joined_push_two _ i (λ k. signed_bit seed leaf hash (c.args.first + k)) _ _ _ two both
