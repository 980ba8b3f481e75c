-- A function of the program yields the value that a reader of the definitions reads.
use Rattle.std.specs.Prelude.{◌≡◌, Option, Some, None}

abbrev pub Yields : {X Y : Type 0} → (X → Y) → Option X → Option Y → Type 0
Yields view (Some x) read = read ≡ Some (view x)
Yields view None read = read ≡ None
