use Rattle.std.proofs.Common.{◌∙◌, [], arith, ap, get_or}
use Rattle.std.proofs.lemmas.List.{append_assoc, append-nil}
use Rattle.sha2.specs.Sha256.{sha256}
use Rattle.signing.specs.Signatures.{shown_secret}
use Rattle.signing.proofs.Fours.{at_four}
use Rattle.signing.proofs.Joining.{joined-none, joined_more}
use Rattle.signing.proofs.signature.add_pairs.Goals as goal

pub loop-i-init : goal.loop-i-init
loop-i-init c = λ m held. rw (joined-none, append-nil) held

pub loop-i-preserved : goal.loop-i-preserved
loop-i-preserved c = λ m held. rw (joined_more, ← append_assoc) (c.add_pair.ensures _ (c.loop-i.invariant m held))

pub add_pair-requires-clause-own : goal.add_pair-requires-clause-own
add_pair-requires-clause-own c =
    ap (λ hashes. get_or hashes c.loop-i.i []) c.hashes_of_shown-own.ensures
    ∙ at_four (λ bit. sha256 (shown_secret c.args.signature.now bit)) c.args.first [] c.loop-i.i (omega arith)
