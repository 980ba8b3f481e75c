-- What a folder tells of its files, and what it does.
use Rattle.std.specs.Prelude.{◌≡◌, ℕ, Bool, true, List, [], ◌∷◌, ◌++◌, Contains, map, Option, Some, IfSome, ◌↔◌}

-- the name of a file, and its text
abbrev pub File : Type 0
File = List ℕ × List ℕ

-- A file of this name is among these.
abbrev pub HasFile : List File → List ℕ → Type 0
HasFile files name = Contains (map (λ file. file.0) files) name

-- If the files are known, the answer says whether one has this name.
abbrev pub TellsFile : Option (List File) → List ℕ → Bool → Type 0
TellsFile known name answer = IfSome known (λ files. (answer ≡ true) ↔ HasFile files name)

-- If the files are known, these are put behind them.
abbrev pub Puts : Option (List File) → Option (List File) → List File → Type 0
Puts old new put = IfSome old (λ files. new ≡ Some (files ++ put))

abbrev pub PutsFile : Option (List File) → Option (List File) → List ℕ → List ℕ → Type 0
PutsFile old new name text = Puts old new ((name, text) ∷ [])
