-- Readers of the grammar at the front of bytes. They give a value and the bytes left, or the reason to stop and the
-- bytes from the one that stopped them.
use Rattle.std.specs.Prelude.{◌≡◌, ℕ, zero, suc, ◌+◌, ◌-◌, ◌*◌, ◌/◌, ◌==◌, nat_le, ℤ, pos, negsuc, Bool, true, false}
use Rattle.std.specs.Prelude.{◌&&◌, ◌||◌, if◌then◌else◌, List, [], ◌∷◌, codes, Result, Ok, Err, Option, None, Some}
use Rattle.std.specs.Prelude.{option_map}
use Rattle.tuple_tree.specs.Items.{TreeItem, leaf, inner, Items, none, with_last, whole_length}
use Rattle.tuple_tree.specs.Values.{Datum, number, text, bytes, truth, wide, Slot, actual, any, formal, TupleTree}
use Rattle.tuple_tree.specs.Values.{TemplateTree, datum_length, slot_length}
use Rattle.tuple_tree.specs.declared.atoms.Kind.{Kind}
use Rattle.tuple_tree.specs.declared.atoms.Kind.TheVariants as kinds
use Rattle.tuple_codec.specs.Operations.{Operation, out, rdp, inp, cas, rd_all, in_all, upgrade}
use Rattle.tuple_text.specs.declared.verbs.Verb.{Verb}
use Rattle.tuple_text.specs.declared.verbs.Verb.TheVariants.{Rd, In}
use Rattle.tuple_text.specs.declared.reader.Stop.{Stop}
use Rattle.tuple_text.specs.declared.reader.Stop.TheVariants.{BadByte, TooDeep, TooManyFields, TooLong, NoMemory}
use Rattle.tuple_text.specs.declared.faults.LineFault.{LineFault}
use Rattle.tuple_text.specs.declared.faults.LineFault.TheVariants as faults
pub use Rattle.tuple_text.specs.Read.{Read, got, stop, Reading}
use Rattle.tuple_text.specs.Literals.{text_literal, bytes_literal}

-- The next reader goes on with the bytes that are left.
infixl 10 ◌>>=◌
abbrev pub ◌>>=◌ : {V W : Type 0} → Read V → (V → Reading W) → Read W
(got v bs) >>= f = f v bs
(stop s bs) >>= f = stop s bs

abbrev pub nothing : {V : Type 0} → Reading V
nothing bs = stop BadByte bs

-- f if the first byte is c, g if it is another one
abbrev pub look : {V : Type 0} → ℕ → Reading V → Reading V → Reading V
look c f g [] = stop BadByte []
look c f g (b ∷ bs) = if b == c then f (b ∷ bs) else g (b ∷ bs)

-- Passes blanks. Gives whether an item may begin there: if one might before, or if a blank was passed.
abbrev pub blanks : Bool → Reading Bool
blanks free [] = got free []
blanks free (b ∷ bs) = if b == 32 then blanks true bs else got free (b ∷ bs)

-- passes these bytes
abbrev pub word : List ℕ → Reading Bool
word [] bs = got true bs
word (c ∷ cs) [] = stop BadByte []
word (c ∷ cs) (b ∷ bs) = if b == c then word cs bs else stop BadByte (b ∷ bs)

-- passes these bytes, which stand for v
abbrev pub named : {V : Type 0} → List ℕ → V → Reading V
named cs v bs = word cs bs >>= λ _ rest. got v rest

abbrev pub gap : Reading Bool
gap bs = blanks false bs >>= λ free rest. if free then got true rest else stop BadByte rest

abbrev pub finish : Reading Bool
finish [] = got true []
finish (b ∷ bs) = stop BadByte (b ∷ bs)

-- the digits after those of n, up to the limit
abbrev pub digits : ℕ → ℕ → Reading ℕ
digits limit n [] = got n []
digits limit n (b ∷ bs) =
    if nat_le 48 b && nat_le b 57
    then (if nat_le n ((limit - (b - 48)) / 10) then digits limit (n * 10 + (b - 48)) bs else stop BadByte (b ∷ bs))
    else got n (b ∷ bs)

-- a number from 1 to the limit
unfoldable pub positive : ℕ → Reading ℕ
positive limit [] = stop BadByte []
positive limit (b ∷ bs) = if nat_le 49 b && nat_le b 57 then digits limit (b - 48) bs else stop BadByte (b ∷ bs)

-- the greatest number, and the greatest wide one
abbrev pub MOST : ℕ
MOST = 9223372036854775807

abbrev pub MOST_WIDE : ℕ
MOST_WIDE = 170141183460469231731687303715884105727

-- a number up to the greatest, and down to one more below 0
unfoldable pub signed : ℕ → Reading ℤ
signed most [] = stop BadByte []
signed most (b ∷ bs) =
    if b == 45 then (positive (most + 1) bs >>= λ n rest. got (negsuc (n - 1)) rest)
    else (if b == 48 then got (pos 0) bs else (positive most (b ∷ bs) >>= λ n rest. got (pos n) rest))

unfoldable pub numeral : Reading Datum
numeral bs = signed MOST bs >>= λ n rest. got (number n) rest

unfoldable pub wide_numeral : Reading Datum
wide_numeral bs = word (codes "w") bs >>= λ _ rest. signed MOST_WIDE rest >>= λ n after. got (wide n) after

unfoldable pub quoted : Reading Datum
quoted bs = text_literal bs >>= λ s rest. got (text s) rest

unfoldable pub byte_string : Reading Datum
byte_string bs = bytes_literal bs >>= λ s rest. got (bytes s) rest

abbrev pub truth_or_number : Reading Datum
truth_or_number = look 116 (named (codes "true") (truth true)) (look 102 (named (codes "false") (truth false)) numeral)

-- a value that is no tuple
unfoldable pub datum : Reading Datum
datum bs = look 34 quoted (look 120 byte_string (look 119 wide_numeral truth_or_number)) bs

-- the rest of a kind that begins with b, and of one that begins with t
abbrev pub behind_b : Reading Kind
behind_b = look 121 (named (codes "ytes") kinds.Bytes) (named (codes "ool") kinds.Truth)

abbrev pub behind_t : Reading Kind
behind_t = look 101 (named (codes "ext") kinds.Text) (named (codes "uple") kinds.Tuple)

-- the same kinds with that letter in front
unfoldable pub kind_b : Reading Kind
kind_b bs = word (codes "b") bs >>= λ _ rest. behind_b rest

unfoldable pub kind_t : Reading Kind
kind_t bs = word (codes "t") bs >>= λ _ rest. behind_t rest

unfoldable pub kind : Reading Kind
kind bs =
    look 105 (named (codes "int") kinds.Number)
    (look 98 kind_b (look 116 kind_t (look 119 (named (codes "wide") kinds.Wide) nothing))) bs

unfoldable pub formal_slot : Reading Slot
formal_slot bs = word (codes "?") bs >>= λ _ rest. kind rest >>= λ k after. got (formal k) after

unfoldable pub actual_slot : Reading Slot
actual_slot bs = datum bs >>= λ x rest. got (actual x) rest

-- a field that is no template
unfoldable pub slot : Reading Slot
slot bs = look 42 (named (codes "*") any) (look 63 formal_slot actual_slot) bs

abbrev pub slot_item : Reading (TreeItem Slot)
slot_item bs = slot bs >>= λ x rest. got (leaf x) rest

-- whether some value that is no tuple begins so
abbrev pub begins_datum : ℕ → Bool
begins_datum b =
    b == 34 || (b == 120 || (b == 119 || (b == 116 || (b == 102 || (b == 45 || (nat_le 48 b && nat_le b 57))))))

abbrev pub begins_slot : ℕ → Bool
begins_slot b = b == 42 || (b == 63 || begins_datum b)

-- No further item has room: the reason to refuse the byte.
unfoldable pub full : {V : Type 0} → (ℕ → Stop) → Reading V
full why [] = stop BadByte []
full why (b ∷ bs) = stop (why b) (b ∷ bs)

-- after the blanks: whether an item follows, or the list is closed; the parenthesis is left
unfoldable pub follows : Bool → Reading Bool
follows free [] = stop BadByte []
follows free (b ∷ bs) =
    if b == 41 then got false (b ∷ bs)
    else if free then got true (b ∷ bs)
    else stop BadByte (b ∷ bs)

unfoldable pub turn : Bool → Reading Bool
turn free bs = blanks free bs >>= follows

-- whether an item follows n others; the list has room for 32
unfoldable pub further : (ℕ → Stop) → ℕ → Bool → Reading Bool
further why n free bs = turn free bs >>= λ on rest. if on && (n == 32) then full why rest else got on rest

-- Adds items to t up to the closing parenthesis, with room for so many more.
module _ {T X : Type 0} (why : ℕ → Stop) (add : T → X → T) (one : Reading X) where
  abbrev pub items : ℕ → Bool → T → Reading T
  items zero free t bs = turn free bs >>= λ on rest. if on then full why rest else got t rest
  items (suc room) free t bs =
      turn free bs >>= λ on rest. if on then (one rest >>= λ x after. items room false (add t x) after) else got t rest

-- why an item has no room, with so many levels below
abbrev pub deeper : ℕ → Stop
deeper zero = TooDeep
deeper (suc levels) = TooManyFields

abbrev pub no_room : (ℕ → Bool) → ℕ → ℕ → Stop
no_room begins levels b = if b == 40 then deeper levels else (if begins b then TooManyFields else BadByte)

-- whether a list begins there
abbrev pub opens : List ℕ → Bool
opens [] = false
opens (b ∷ bs) = b == 40

-- A list is kept if its encoding has at most 1,024 bytes. A longer one is only judged.
module _ {L : Type 0} (length_of : L → ℕ) where
  abbrev pub kept : Items L → Option (Items L)
  kept t = if nat_le (whole_length length_of t) 1024 then Some t else None

  -- a list and an item at its end, either of which may be too long
  abbrev pub kept_with : Option (Items L) → Option (TreeItem L) → Option (Items L)
  kept_with None x = None
  kept_with (Some t) None = None
  kept_with (Some t) (Some x) = kept (with_last t x)

  module _ (begins : ℕ → Bool) (leaf_at : Reading L) where
    abbrev pub leaf_item : Reading (Option (TreeItem L))
    leaf_item bs = leaf_at bs >>= λ x rest. got (Some (leaf x)) rest

    -- a list, given the reader of its items and the reason for a full list
    abbrev pub list : (ℕ → Stop) → Reading (Option (TreeItem L)) → Reading (Option (Items L))
    list why one bs =
        word (codes "(") bs >>= λ _ rest. items why kept_with one 32 true (Some none) rest
        >>= λ t at. word (codes ")") at >>= λ _ after. got t after

    -- an item with so many levels below it
    unfoldable pub item_at : ℕ → Reading (Option (TreeItem L))
    item_at zero bs = look 40 (λ u. stop TooDeep u) leaf_item bs
    item_at (suc levels) bs =
        look 40 (λ u. list (no_room begins levels) (item_at levels) u >>= λ t rest. got (option_map inner t) rest)
        leaf_item bs

    unfoldable pub items_at : ℕ → Reading (Option (Items L))
    items_at levels bs = items (no_room begins levels) kept_with (item_at levels) 32 true (Some none) bs

    -- An outermost list that is too long is refused at its closing parenthesis.
    abbrev pub fitting : Option (Items L) → ℕ → Reading (Items L)
    fitting None b bs = stop TooLong (b ∷ bs)
    fitting (Some t) b bs = got t bs

    unfoldable pub close : Option (Items L) → Reading (Items L)
    close t [] = stop BadByte []
    close t (b ∷ bs) = if b == 41 then fitting t b bs else stop BadByte (b ∷ bs)

    unfoldable pub whole : Reading (Items L)
    whole bs = word (codes "(") bs >>= λ _ rest. items_at 7 rest >>= λ t at. close t at

abbrev pub tuple : Reading TupleTree
tuple = whole datum_length begins_datum datum

abbrev pub template : Reading TemplateTree
template = whole slot_length begins_slot slot

unfoldable pub argument : {V : Type 0} → Reading V → Reading V
argument one bs = gap bs >>= λ _ rest. one rest

unfoldable pub ending : Reading Bool
ending bs = blanks true bs >>= λ _ rest. finish rest

-- the last argument, and blanks alone up to the end
abbrev pub last : {V : Type 0} → Reading V → Reading V
last one bs = one bs >>= λ v after. ending after >>= λ _ rest. got v rest

unfoldable pub ended : Operation → Reading Operation
ended o bs = ending bs >>= λ _ rest. got o rest

unfoldable pub out_line : Reading Operation
out_line bs = word (codes "out") bs >>= λ _ behind. argument tuple behind >>= λ t rest. ended (out t) rest

unfoldable pub cas_line : Reading Operation
cas_line bs =
    word (codes "cas") bs >>= λ _ behind. argument template behind
    >>= λ p middle. argument tuple middle >>= λ t rest. ended (cas p t) rest

-- no argument
unfoldable pub upgrade_line : Reading Operation
upgrade_line bs = word (codes "upgrade") bs >>= λ _ rest. ended upgrade rest

-- the letters of a verb, which begin the names of its operations
abbrev pub letters : Verb → List ℕ
letters Rd = codes "rd"
letters In = codes "in"

-- the operation of the verb on the oldest match, and that on the oldest n
abbrev pub one_of : Verb → TemplateTree → Operation
one_of Rd p = rdp p
one_of In p = inp p

abbrev pub all_of : Verb → ℕ → TemplateTree → Operation
all_of Rd n p = rd_all n p
all_of In n p = in_all n p

-- the rest of the line after the letters of the verb
unfoldable pub one_line : Verb → Reading Operation
one_line verb bs =
    word (codes "p") bs >>= λ _ behind. argument template behind >>= λ p rest. ended (one_of verb p) rest

unfoldable pub all_line : Verb → Reading Operation
all_line verb bs =
    word (codes "All") bs >>= λ _ behind. argument (positive 64) behind
    >>= λ n middle. argument template middle >>= λ p rest. ended (all_of verb n p) rest

unfoldable pub verb_line : Verb → Reading Operation
verb_line verb bs = word (letters verb) bs >>= λ _ rest. look 112 (one_line verb) (all_line verb) rest

unfoldable pub operation : Reading Operation
operation bs =
    look 111 out_line
    (look 114 (verb_line Rd) (look 105 (verb_line In) (look 99 cas_line (look 117 upgrade_line nothing)))) bs

unfoldable pub line : Reading Operation
line bs = blanks true bs >>= λ _ rest. operation rest

-- a template, with blanks at both ends
unfoldable pub lone_template : Reading TemplateTree
lone_template bs = blanks true bs >>= λ _ rest. template rest >>= λ p after. ending after >>= λ _ last. got p last

-- The method reads as the definition does, unless memory ran out. Its reader has these bytes left.
abbrev pub ReadingStops : {V : Type 0} → Stop → Read V → List ℕ → Type 0
ReadingStops NoMemory read rest = Unit {0}
ReadingStops s read rest = read ≡ stop s rest

abbrev pub ReadingReturns : {X V : Type 0} → (X → V) → Result X Stop → Read V → List ℕ → Type 0
ReadingReturns view (Ok x) read rest = read ≡ got (view x) rest
ReadingReturns view (Err s) read rest = ReadingStops s read rest

abbrev pub fault_at : ℕ → Stop → LineFault
fault_at n BadByte = faults.BadByte n
fault_at n TooDeep = faults.TooDeep
fault_at n TooManyFields = faults.TooManyFields
fault_at n TooLong = faults.TooLong
fault_at n NoMemory = faults.NoMemory
