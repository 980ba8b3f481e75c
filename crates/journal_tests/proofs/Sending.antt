-- The frames that the tests' parties send.
use Rattle.std.proofs.Common.{◌≡◌, ℕ, ◌+◌, ◌*◌, List, [], ◌∷◌, sym, ap, subst}
use Rattle.std.specs.List.{range_with_len}
use Rattle.terms.specs.declared.order.Mode.TheVariants as modes
use Rattle.wire_format.specs.Messages.{BodyData, request as Request}
use Rattle.wire_format.specs.Spelling.{SpellsFrame}
use Rattle.authenticator.specs.Sealing.{sealed_for}
use Rattle.protocol.specs.System.Configuration.{Configuration, members}
use Rattle.protocol.proofs.Words.Outgoing.{sealed_is_outgoing}
use Rattle.journal_tests.specs.Calls.{first_op, AsksFirst}

-- the frame that is sealed for four replicas is the client's request
pub asks_first : (c : Configuration) (k : ℕ) (bytes : List ℕ) → c.faults ≡ 1
    → SpellsFrame bytes (sealed_for (members c (256 + k)).keys (record { sender = 256 + k; message = Request 1 modes.Ordered first_op }) (0 ∷ 1 ∷ 2 ∷ 3 ∷ [])) → AsksFirst c k bytes
asks_first c k bytes one spells =
    let four : range_with_len 0 (3 * c.faults + 1) ≡ 0 ∷ 1 ∷ 2 ∷ 3 ∷ [] = ap (λ (f : ℕ). range_with_len 0 (3 * f + 1)) one in
    let body : BodyData = record { sender = 256 + k; message = Request 1 modes.Ordered first_op } in
    sealed_is_outgoing c body (range_with_len 0 (3 * c.faults + 1)) bytes (subst (λ (ps : List ℕ). SpellsFrame bytes (sealed_for (members c (256 + k)).keys body ps)) (sym four) spells)
