-- One request makes a batch.
use Rattle.std.proofs.Common.{◌≡◌, ℕ, List, [], ◌∷◌, length, refl, arith, Result, Ok, Err}
use Rattle.std.specs.Prelude.{IfOk}
use Rattle.wire_format.specs.declared.messages.Batch.{Batch}
use Rattle.wire_format.specs.Spelling.{IsBatch, IsCarried, is_ordered_request, pieces_spelling}

one : (text frame : List ℕ) → IsCarried is_ordered_request frame → text ≡ pieces_spelling (frame ∷ []) → IsBatch 1 text
one text frame is whole =
    let n : length (frame ∷ []) ≡ 1 = refl in
    record { requests = frame ∷ []; whole = whole; enough = omega (arith, n); few = omega (arith, n); each = (is, tt) }

pub batch_of_one : {E : Type 0} (r : Result Batch E) (frame : List ℕ) → IsCarried is_ordered_request frame → IfOk r (λ b. b.text.items ≡ pieces_spelling (frame ∷ [])) → IfOk r (λ b. IsBatch 1 b.text.items)
batch_of_one (Ok batch) frame is text = one batch.text.items frame is text
batch_of_one (Err fault) frame is text = text
