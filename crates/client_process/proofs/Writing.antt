-- A text that is written piece by piece, and what of it is left.
use Rattle.std.proofs.Common.{◌≡◌, ℕ, List, [], ◌++◌, length, take, drop, ◌-◌, Option, refl, ap, ◌∙◌, append_assoc, append-nil, take-append-drop}
use Rattle.std.proofs.lemmas.List.{take_rest}
use Rattle.std.proofs.KnownBytes.{Appends-nil, Appends-trans, Appends-kept}
use Rattle.std.specs.Io.KnownBytes.{Appends, Keeps}
use Rattle.client_process.specs.Texts.{FrontIsWritten}

-- A piece of what is left is written. after: what is left then.
pub one_piece : (old mid new : Option (List ℕ)) (bytes left after : List ℕ) (count : ℕ)
    → after ≡ take (length left - count) (drop count left) → FrontIsWritten old mid bytes left
    → Appends mid new (take count left) → FrontIsWritten old new bytes after
one_piece old mid new bytes left after count is so_far wrote = record {
  front = so_far.front ++ take count left;
  split =
      append_assoc so_far.front (take count left) after
      ∙ ap (λ l. so_far.front ++ (take count left ++ l)) (is ∙ take_rest left count)
      ∙ ap (λ l. so_far.front ++ l) (take-append-drop count left) ∙ so_far.split;
  wrote = Appends-trans old mid new so_far.front (take count left) so_far.wrote wrote;
}

-- nothing is written
pub no_piece : (old mid new : Option (List ℕ)) (bytes left after : List ℕ) → after ≡ left
    → FrontIsWritten old mid bytes left → Keeps mid new → FrontIsWritten old new bytes after
no_piece old mid new bytes left after is so_far kept = record {
  front = so_far.front;
  split = ap (λ l. so_far.front ++ l) is ∙ so_far.split;
  wrote = Appends-kept old mid new so_far.front so_far.wrote kept;
}

-- all is written, and none is left
pub none_left : (old new : Option (List ℕ)) (bytes left : List ℕ) → left ≡ [] → Appends old new bytes
    → FrontIsWritten old new bytes left
none_left old new bytes left none wrote = record {
  front = bytes;
  split = ap (λ l. bytes ++ l) none ∙ append-nil bytes;
  wrote = wrote;
}

-- nothing is written, and all is left
pub all_left : (old : Option (List ℕ)) (bytes : List ℕ) → FrontIsWritten old old bytes bytes
all_left old bytes = record { front = []; split = refl; wrote = Appends-nil old }
