use Rattle.std.proofs.Common.{◌≡◌, Some, arith, refl}
use Rattle.std.specs.Prelude.{slice_get}
use Rattle.std.proofs.lemmas.Option.{slice_get_within}
use Rattle.sha2.specs.Sha256.{sha256}
use Rattle.authenticator.proofs.Fours.{of_four, of_lanes}
use Rattle.signing.proofs.hashing.digest_each.Goals as goal

pub returns : goal.returns
returns c = of_lanes (λ text. sha256 text.now) c.args.texts c.finish_each.result (omega arith) (λ lane text here.
    of_four (λ lane. slice_get c.args.texts lane ≡ Some text → slice_get c.finish_each.result lane ≡ Some (sha256 text.now))
    (λ at. c.finish_each.ensures 0 _ text _ refl at c.new-start.ensures)
    (λ at. c.finish_each.ensures 1 _ text _ refl at c.new-start.ensures)
    (λ at. c.finish_each.ensures 2 _ text _ refl at c.new-start.ensures)
    (λ at. c.finish_each.ensures 3 _ text _ refl at c.new-start.ensures)
    lane (omega (arith, slice_get_within c.args.texts lane text here)) here)
