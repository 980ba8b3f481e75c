use Rattle.std.proofs.Common.{◌++◌, ap, length}
use Rattle.std.proofs.lemmas.List.{drop-replicate}
use Rattle.authenticator.proofs.mac.padded.Goals as goal

pub returns : goal.returns
returns c =
    rw c.copy_from_slice.ensures.after (ap (λ rest. c.args.key.now ++ rest) (drop-replicate (length c.args.key.now) 64 0))
