use Rattle.std.proofs.Common.{◌≡◌, Some, arith, refl}
use Rattle.std.specs.Prelude.{slice_get}
use Rattle.std.proofs.lemmas.Grind.{common_steps}
use Rattle.std.proofs.lemmas.Option.{slice_get_within}
use Rattle.authenticator.specs.Mac.{hmac_of}
use Rattle.authenticator.proofs.Fours.{are_short, hash_over, of_four, of_lanes}
use Rattle.authenticator.proofs.mac.Key.mac_each.Goals as goal

pub finish_each-requires-2 : goal.finish_each-requires-2
finish_each-requires-2 c =
    are_short 32 _ _ _ _ (omega arith) (grind (arith, common_steps)) (grind (arith, common_steps)) (grind (arith, common_steps)) (grind (arith, common_steps))

pub returns : goal.returns
returns c = λ key made. of_lanes (λ text. hmac_of key text.now) c.args.texts c.finish_each-2.result (omega arith) (λ lane text here.
    of_four (λ lane. slice_get c.args.texts lane ≡ Some text → slice_get c.finish_each-2.result lane ≡ Some (hmac_of key text.now))
    (λ at. hash_over key text.now 0 _ _ (c.finish_each.ensures 0 _ text _ refl at made.inner) (c.finish_each-2.ensures 0 _ _ _ refl refl made.outer))
    (λ at. hash_over key text.now 1 _ _ (c.finish_each.ensures 1 _ text _ refl at made.inner) (c.finish_each-2.ensures 1 _ _ _ refl refl made.outer))
    (λ at. hash_over key text.now 2 _ _ (c.finish_each.ensures 2 _ text _ refl at made.inner) (c.finish_each-2.ensures 2 _ _ _ refl refl made.outer))
    (λ at. hash_over key text.now 3 _ _ (c.finish_each.ensures 3 _ text _ refl at made.inner) (c.finish_each-2.ensures 3 _ _ _ refl refl made.outer))
    lane (omega (arith, slice_get_within c.args.texts lane text here)) here)
