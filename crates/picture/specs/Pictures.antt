-- The files of pictures.
use Rattle.std.specs.Prelude.{◌≡◌, ℕ, List, ◌++◌, codes, IsUtf8}

abbrev pub picture_head : List ℕ
picture_head = codes "<?xml version=\"1.0\" encoding=\"UTF-8\"?>\n<svg xmlns=\"http://www.w3.org/2000/svg\""

-- The new bytes are the old ones, followed by an XML declaration and an element `svg`, in UTF-8.
abbrev pub AppendsPicture : List ℕ → List ℕ → Type 0
AppendsPicture old new =
    (body : List ℕ) × IsUtf8 body × (new ≡ old ++ (picture_head ++ (body ++ codes "</svg>\n")))
