-- The texts of tuples and templates. Each plain value has one text; between the items of a list stand blanks.
use Rattle.std.specs.Prelude.{◌≡◌, ℕ, ◌+◌, ◌/◌, ◌%◌, ◌<◌, ◌==◌, nat_lt, Bool, true, false, if◌then◌else◌, List, [], ◌∷◌}
use Rattle.std.specs.Prelude.{◌++◌, length, codes}
use Rattle.std.specs.List.{flat_map}
use Rattle.std.specs.Fmt.{signed_decimal}
use Rattle.tuple_tree.specs.Items.{TreeItem, leaf, inner, Items, none, item}
use Rattle.tuple_tree.specs.Values.{Datum, number, text, bytes, truth, wide, Slot, actual, any, formal, TupleTree}
use Rattle.tuple_tree.specs.Values.{TemplateTree}
use Rattle.tuple_tree.specs.declared.atoms.Kind.{Kind}
use Rattle.tuple_tree.specs.declared.atoms.Kind.TheVariants as kinds

-- A blank is the byte 20.
abbrev pub AreBlanks : List ℕ → Type 0
AreBlanks [] = Unit {0}
AreBlanks (b ∷ bs) = (b ≡ 32) × AreBlanks bs

-- one or more blanks
abbrev pub IsGap : List ℕ → Type 0
IsGap bs = (0 < length bs) × AreBlanks bs

-- a lower case hexadecimal digit
abbrev pub hex_digit : ℕ → ℕ
hex_digit n = if nat_lt n 10 then 48 + n else 87 + n

-- the two lower case hexadecimal digits of a byte
abbrev pub hex_pair : ℕ → List ℕ
hex_pair b = hex_digit (b / 16) ∷ hex_digit (b % 16) ∷ []

-- Quotes, backslashes, line feeds and each other character below 20 are escaped, and nothing else is.
abbrev pub escaped : ℕ → List ℕ
escaped b =
    if b == 34 then 92 ∷ 34 ∷ []
    else (if b == 92 then 92 ∷ 92 ∷ []
    else (if b == 10 then 92 ∷ 110 ∷ []
    else (if nat_lt b 32 then 92 ∷ 120 ∷ hex_pair b else b ∷ [])))

-- a text in quotes
abbrev pub quoted_text : List ℕ → List ℕ
quoted_text s = 34 ∷ flat_map escaped s ++ 34 ∷ []

-- the word for a truth value
abbrev pub truth_text : Bool → List ℕ
truth_text true = codes "true"
truth_text false = codes "false"

-- the text of a plain value: a byte string stands after x, a wide number after w
abbrev pub datum_text : Datum → List ℕ
datum_text (number n) = signed_decimal n
datum_text (text s) = quoted_text s
datum_text (bytes s) = 120 ∷ flat_map hex_pair s
datum_text (truth b) = truth_text b
datum_text (wide n) = 119 ∷ signed_decimal n

-- the text of the formal of a kind: a question mark and a word
abbrev pub formal_text : Kind → List ℕ
formal_text kinds.Number = codes "?int"
formal_text kinds.Text = codes "?text"
formal_text kinds.Bytes = codes "?bytes"
formal_text kinds.Truth = codes "?bool"
formal_text kinds.Tuple = codes "?tuple"
formal_text kinds.Wide = codes "?wide"

-- the text of a field that is no template: an asterisk stands for any value
abbrev pub slot_text : Slot → List ℕ
slot_text (actual x) = datum_text x
slot_text any = codes "*"
slot_text (formal k) = formal_text k

-- A list stands in parentheses, one or more blanks between its items, any number at the parentheses.
module _ {L : Type 0} (leaf_text : L → List ℕ) where
  abbrev mutual
    pub ItemText : TreeItem L → List ℕ → Type 0
    ItemText (leaf x) bs = bs ≡ leaf_text x
    ItemText (inner xs) bs = (body : List ℕ) × (bs ≡ 40 ∷ body ++ 41 ∷ []) × ItemsText xs body

    -- the text between the parentheses
    pub ItemsText : Items L → List ℕ → Type 0
    ItemsText none bs = AreBlanks bs
    ItemsText (item x xs) bs =
        (lead front rest : List ℕ) × (bs ≡ lead ++ (front ++ rest)) × AreBlanks lead × ItemText x front
        × MoreText xs rest

    -- what follows an item
    pub MoreText : Items L → List ℕ → Type 0
    MoreText none bs = AreBlanks bs
    MoreText (item x xs) bs =
        (gap front rest : List ℕ) × (bs ≡ gap ++ (front ++ rest)) × IsGap gap × ItemText x front
        × MoreText xs rest

  -- the text of a whole list, with its parentheses
  abbrev pub WholeText : Items L → List ℕ → Type 0
  WholeText xs bs = ItemText (inner xs) bs

-- The text is one of the tuple.
abbrev pub TupleText : TupleTree → List ℕ → Type 0
TupleText t bs = WholeText datum_text t bs

-- The text is one of the template.
abbrev pub TemplateText : TemplateTree → List ℕ → Type 0
TemplateText p bs = WholeText slot_text p bs
