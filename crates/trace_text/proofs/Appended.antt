-- The bytes after the old ones, whether memory ran out or not.
use Rattle.std.proofs.Common.{◌≡◌, ℕ, List, [], ◌++◌, Result, Ok, Err, OnOk, OnErr, append-nil, sym, ◌∙◌}
use Rattle.tuple_text.specs.Written.{WritesText}

pub appended : {V E : Type 0} (r : Result V E) (old text new : List ℕ) → OnOk r (new ≡ old ++ text) → OnErr r (new ≡ old) → WritesText r old text new
appended (Ok v) old text new ok err = ok
appended (Err e) old text new ok err = ([], err ∙ sym (append-nil old))
