use Rattle.std.proofs.Common.{◌≡◌, ◌∙◌}
use Rattle.std.proofs.lemmas.Slice.{pushed}
use Rattle.signing.specs.Lamport.{leaf_digest}
use Rattle.signing.specs.Signatures.{signature_of}
use Rattle.signing.proofs.Signed.{signature_of-appended, signature_of-verifies}
use Rattle.signing.proofs.tree.KeyTree.sign_with.Goals as goal

pub from_vec-requires : goal.from_vec-requires
from_vec-requires c =
    let first = pushed _ c.in_ok-bytes.ensures.items c.in_ok-push.was c.push.ensures.items in
    let third = c.in_ok-push_path.ensures (leaf_digest c.self.inside.secrets) c.self.invariant in
    let made : c.push_path.new.bytes.items ≡ signature_of c.self.inside.secrets c.args.leaf c.args.text.now =
    signature_of-appended _ _ _ _ _ _ _ c.digest-hash.ensures first c.in_ok-push_signed.ensures third in
    rw made (signature_of-verifies c.self.inside.secrets c.args.text.now c.args.leaf c.requires).formed

pub returns-clause-value : goal.returns-clause-value
returns-clause-value c =
    let first = pushed _ c.in_ok-bytes.ensures.items c.in_ok-push.was c.push.ensures.items in
    let third = c.in_ok-push_path.ensures (leaf_digest c.self.inside.secrets) c.self.invariant in
    let made : c.push_path.new.bytes.items ≡ signature_of c.self.inside.secrets c.args.leaf c.args.text.now =
    signature_of-appended _ _ _ _ _ _ _ c.digest-hash.ensures first c.in_ok-push_signed.ensures third in
    rw (← c.self.view_is) (c.from_vec.ensures ∙ made)

pub returns-clause-verifies : goal.returns-clause-verifies
returns-clause-verifies c =
    rw (returns-clause-value c) (signature_of-verifies c.args.self.now c.args.text.now c.args.leaf c.requires)
