-- The text of a party's file is that of a table.
use Rattle.std.proofs.Common.{◌≡◌, ℕ, ℤ, zero, suc, pos, ◌+◌, ◌*◌, ◌<◌, ◌≤◌, ◌^◌, max, Bool, true, false, List, [], ◌∷◌, ◌++◌, length, Option, Some, None, arith, refl, ap, sym, ◌∙◌, subst, append_assoc, append-nil}
use Rattle.std.specs.Prelude.{All, codes, flat_map}
use Rattle.std.specs.Fmt.{decimal}
use Rattle.hex.specs.Hex.{IsBytes, encode_lower}
use Rattle.toml.specs.Data.{Data, Items, Members, array, integer, item, member, no_items, no_members, string, items_depth, items_have_valid_dates, items_are_sorted, members_depth, members_have_valid_dates, members_are_sorted}
use Rattle.toml.specs.Parse.{parse_document}
use Rattle.toml.specs.Tables.{Expression, key_value}
use Rattle.toml.specs.Text.{IsDocumentText, IsItemsText, IsLinesText, IsLineText, IsValueText, expressions, is_section, section}
use Rattle.toml.proofs.ReadBack.{parse_document-printed}
use Rattle.toml_writer.specs.Text.{string_text, key_text as bare_text}
use Rattle.party_keys.specs.PartyData.{IsKey, PartyData}
use Rattle.party_keys.specs.Text.{file_text, key_text, keys_lines, number_line, seed_line}
use Rattle.party_keys.proofs.Digits.{all_digits, in_quotes}

-- ---- the table

abbrev pub key_items : List (List ℕ) → Items
key_items [] = no_items
key_items (key ∷ keys) = item (string (encode_lower key)) (key_items keys)

abbrev pub seed_member : Option (List ℕ) → Members → Members
seed_member None others = others
seed_member (Some seed) others = member (codes "signing_seed") (string (encode_lower seed)) others

abbrev pub table_of : PartyData → Members
table_of k =
    member (codes "checkpoint") (integer (pos k.period))
    (member (codes "clients") (integer (pos k.clients))
    (member (codes "f") (integer (pos k.faults))
    (member (codes "from") (array (key_items k.from))
    (member (codes "party") (integer (pos k.party))
    (member (codes "public") (array (key_items k.publics))
    (seed_member k.seed
    (member (codes "to") (array (key_items k.to)) no_members)))))))

-- ---- values

abbrev pub AllBytes : List (List ℕ) → Type 0
AllBytes [] = Unit {0}
AllBytes (key ∷ keys) = IsBytes key × AllBytes keys

pub all_bytes : (keys : List (List ℕ)) → All IsKey keys → AllBytes keys
all_bytes [] h = tt
all_bytes (key ∷ keys) h = ((h 0 [] (omega arith)).bytes, all_bytes keys (λ k d p. h (suc k) d (omega (arith, p))))

quoted : (key : List ℕ) → IsBytes key → string_text (encode_lower key) ≡ 34 ∷ (encode_lower key ++ 34 ∷ [])
quoted key h = in_quotes (encode_lower key) (all_digits key h)

one_item : (key rest : List ℕ) → IsBytes key → key_text key ++ rest ≡ codes "\n    " ++ (string_text (encode_lower key) ++ (codes "," ++ rest))
one_item key rest h =
    ap (λ t. codes "\n    \"" ++ t) (append_assoc (encode_lower key) (codes "\",") rest)
    ∙ sym (ap (λ t. codes "\n    \"" ++ t) (append_assoc (encode_lower key) (34 ∷ []) (44 ∷ rest)))
    ∙ sym (ap (λ t. codes "\n    " ++ (t ++ (codes "," ++ rest))) (quoted key h))

items_text : (is_first : Bool) (keys : List (List ℕ)) → AllBytes keys → IsItemsText true true is_first (key_items keys) (flat_map key_text keys ++ codes "\n]")
items_text is_first [] h = refl
items_text is_first (key ∷ keys) h = (
  string_text (encode_lower key),
  flat_map key_text keys ++ codes "\n]",
  append_assoc (key_text key) (flat_map key_text keys) (codes "\n]") ∙ one_item key (flat_map key_text keys ++ codes "\n]") h.0,
  refl,
  items_text false keys h.1,
)

abbrev array_text : List (List ℕ) → List ℕ
array_text keys = codes "[" ++ (flat_map key_text keys ++ codes "\n]")

pub array_value : (keys : List (List ℕ)) → 2 ≤ length keys → AllBytes keys → IsValueText true (array (key_items keys)) (array_text keys)
array_value [] few h = absurd (omega arith)
array_value (key ∷ []) few h = absurd (omega arith)
array_value (key ∷ next ∷ keys) few h = (flat_map key_text (key ∷ next ∷ keys) ++ codes "\n]", refl, items_text true (key ∷ next ∷ keys) h)

-- ---- lines

abbrev line_of : List ℕ → List ℕ → List ℕ
line_of name this = name ++ (codes " = " ++ (this ++ 10 ∷ []))

pub one_line : (started : Bool) (name this rest : List ℕ) (d : Data) (es : List Expression) → bare_text name ≡ name → IsValueText true d this → IsLinesText true true es rest
    → IsLinesText true started ((([], name), key_value d) ∷ es) (line_of name this ++ rest)
one_line started name this rest d es bare value more = (line_of name this, rest, refl, (this, ap (λ k. k ++ (codes " = " ++ (this ++ 10 ∷ []))) (sym bare), value), more)

pub number_is : (name : List ℕ) (n : ℕ) → number_line name n ≡ line_of name (decimal n)
unfolding number_line
number_is name n = refl

pub keys_are : (name : List ℕ) (keys : List (List ℕ)) → keys_lines name keys ≡ line_of name (array_text keys)
unfolding keys_lines
keys_are name keys = ap (λ t. name ++ (codes " = [" ++ t)) (sym (append_assoc (flat_map key_text keys) (codes "\n]") (10 ∷ [])))

pub seed_is : (seed : List ℕ) → IsBytes seed → seed_line (Some seed) ≡ line_of (codes "signing_seed") (string_text (encode_lower seed))
unfolding seed_line
seed_is seed h =
    ap (λ t. codes "signing_seed = \"" ++ t) (sym (append_assoc (encode_lower seed) (34 ∷ []) (10 ∷ [])))
    ∙ sym (ap (λ t. codes "signing_seed = " ++ (t ++ 10 ∷ [])) (quoted seed h))

pub no_seed : seed_line None ≡ []
unfolding seed_line
no_seed = refl

-- ---- the document

plain_array : (keys : List (List ℕ)) → is_section (array (key_items keys)) ≡ false
plain_array [] = refl
plain_array (key ∷ keys) = refl

no_lines : (name : List ℕ) (keys : List (List ℕ)) → section ([], name) (array (key_items keys)) ≡ []
no_lines name [] = refl
no_lines name (key ∷ keys) = refl

abbrev line_for : List ℕ → Data → Expression
line_for name d = (([], name), key_value d)

abbrev seed_lines : Option (List ℕ) → List Expression → List Expression
seed_lines None others = others
seed_lines (Some seed) others = line_for (codes "signing_seed") (string (encode_lower seed)) ∷ others

abbrev lines_of : PartyData → List Expression
lines_of k =
    line_for (codes "checkpoint") (integer (pos k.period)) ∷ line_for (codes "clients") (integer (pos k.clients))
    ∷ line_for (codes "f") (integer (pos k.faults)) ∷ line_for (codes "from") (array (key_items k.from))
    ∷ line_for (codes "party") (integer (pos k.party)) ∷ line_for (codes "public") (array (key_items k.publics))
    ∷ seed_lines k.seed (line_for (codes "to") (array (key_items k.to)) ∷ [])

expressions_are : (party faults clients period : ℕ) (from to publics : List (List ℕ)) (seed : Option (List ℕ)) → (k : PartyData)
    → k ≡ record { party = party; faults = faults; clients = clients; period = period; from = from; to = to; publics = publics; seed = seed }
    → expressions (table_of k) ≡ lines_of k
expressions_are party faults clients period from to publics None k e =
    rw (e, plain_array from, plain_array to, plain_array publics, no_lines (codes "from") from, no_lines (codes "public") publics, no_lines (codes "to") to) refl
expressions_are party faults clients period from to publics (Some seed) k e =
    rw (e, plain_array from, plain_array to, plain_array publics, no_lines (codes "from") from, no_lines (codes "public") publics, no_lines (codes "to") to) refl

-- the table's members are in order and not deep
flat_items : (keys : List (List ℕ)) → items_depth (key_items keys) ≡ 0
flat_items [] = refl
flat_items (key ∷ keys) = rw (flat_items keys) refl

dated_items : (keys : List (List ℕ)) → items_have_valid_dates (key_items keys) ≡ true
dated_items [] = refl
dated_items (key ∷ keys) = dated_items keys

sorted_items : (keys : List (List ℕ)) → items_are_sorted (key_items keys) ≡ true
sorted_items [] = refl
sorted_items (key ∷ keys) = sorted_items keys

abbrev pub SeedBytes : Option (List ℕ) → Type 0
SeedBytes None = Unit {0}
SeedBytes (Some seed) = IsBytes seed

-- names stand as they are
bare_checkpoint : bare_text (codes "checkpoint") ≡ codes "checkpoint"
unfolding bare_text
bare_checkpoint = refl

bare_clients : bare_text (codes "clients") ≡ codes "clients"
unfolding bare_text
bare_clients = refl

bare_f : bare_text (codes "f") ≡ codes "f"
unfolding bare_text
bare_f = refl

bare_from : bare_text (codes "from") ≡ codes "from"
unfolding bare_text
bare_from = refl

bare_party : bare_text (codes "party") ≡ codes "party"
unfolding bare_text
bare_party = refl

bare_public : bare_text (codes "public") ≡ codes "public"
unfolding bare_text
bare_public = refl

bare_seed : bare_text (codes "signing_seed") ≡ codes "signing_seed"
unfolding bare_text
bare_seed = refl

bare_to : bare_text (codes "to") ≡ codes "to"
unfolding bare_text
bare_to = refl

module _ (party faults clients period : ℕ) (from to publics : List (List ℕ)) where
  abbrev pub data_with : Option (List ℕ) → PartyData
  data_with seed = record { party = party; faults = faults; clients = clients; period = period; from = from; to = to; publics = publics; seed = seed }

  deep : (seed : Option (List ℕ)) → members_depth (table_of (data_with seed)) ≡ 1
  deep None = rw (flat_items from, flat_items to, flat_items publics) refl
  deep (Some seed) = rw (flat_items from, flat_items to, flat_items publics) refl

  dated : (seed : Option (List ℕ)) → members_have_valid_dates (table_of (data_with seed)) ≡ true
  dated None = rw (dated_items from, dated_items to, dated_items publics) refl
  dated (Some seed) = rw (dated_items from, dated_items to, dated_items publics) refl

  sorted : (seed : Option (List ℕ)) → members_are_sorted (table_of (data_with seed)) ≡ true
  sorted None = rw (sorted_items from, sorted_items to, sorted_items publics) refl
  sorted (Some seed) = rw (sorted_items from, sorted_items to, sorted_items publics) refl

  -- ---- its lines

  number_row : (started : Bool) (name rest : List ℕ) (n : ℕ) (es : List Expression) → bare_text name ≡ name → n < 1000 → IsLinesText true true es rest
      → IsLinesText true started (line_for name (integer (pos n)) ∷ es) (number_line name n ++ rest)
  number_row started name rest n es bare small more =
      subst (λ line. IsLinesText true started (line_for name (integer (pos n)) ∷ es) (line ++ rest)) (sym (number_is name n))
      (one_line started name (decimal n) rest (integer (pos n)) es bare (refl, omega (arith, small)) more)

  keys_row : (name rest : List ℕ) (keys : List (List ℕ)) (es : List Expression) → bare_text name ≡ name → 2 ≤ length keys → AllBytes keys → IsLinesText true true es rest
      → IsLinesText true true (line_for name (array (key_items keys)) ∷ es) (keys_lines name keys ++ rest)
  keys_row name rest keys es bare few bytes more =
      subst (λ line. IsLinesText true true (line_for name (array (key_items keys)) ∷ es) (line ++ rest)) (sym (keys_are name keys))
      (one_line true name (array_text keys) rest (array (key_items keys)) es bare (array_value keys few bytes) more)

  seed_row : (seed : Option (List ℕ)) (rest : List ℕ) (es : List Expression) → SeedBytes seed → IsLinesText true true es rest
      → IsLinesText true true (seed_lines seed es) (seed_line seed ++ rest)
  seed_row None rest es bytes more = subst (λ line. IsLinesText true true es (line ++ rest)) (sym no_seed) more
  seed_row (Some seed) rest es bytes more =
      subst (λ line. IsLinesText true true (seed_lines (Some seed) es) (line ++ rest)) (sym (seed_is seed bytes))
      (one_line true (codes "signing_seed") (string_text (encode_lower seed)) rest (string (encode_lower seed)) es bare_seed refl more)

  -- all lines, in order
  document : (seed : Option (List ℕ)) → party < 1000 → faults < 1000 → clients < 1000 → period < 1000 → 2 ≤ length from → 2 ≤ length to → 2 ≤ length publics
      → AllBytes from → AllBytes to → AllBytes publics → SeedBytes seed → IsLinesText true false (lines_of (data_with seed)) (file_text (data_with seed))
  document seed a b d e f t p from_bytes to_bytes public_bytes seed_bytes =
      let text_7 = keys_lines (codes "to") to in
      let lines_7 = line_for (codes "to") (array (key_items to)) ∷ [] in
      let text_6 = seed_line seed ++ text_7 in
      let lines_6 = seed_lines seed lines_7 in
      let text_5 = keys_lines (codes "public") publics ++ text_6 in
      let lines_5 = line_for (codes "public") (array (key_items publics)) ∷ lines_6 in
      let text_4 = number_line (codes "party") party ++ text_5 in
      let lines_4 = line_for (codes "party") (integer (pos party)) ∷ lines_5 in
      let text_3 = keys_lines (codes "from") from ++ text_4 in
      let lines_3 = line_for (codes "from") (array (key_items from)) ∷ lines_4 in
      let text_2 = number_line (codes "f") faults ++ text_3 in
      let lines_2 = line_for (codes "f") (integer (pos faults)) ∷ lines_3 in
      let text_1 = number_line (codes "clients") clients ++ text_2 in
      let lines_1 = line_for (codes "clients") (integer (pos clients)) ∷ lines_2 in
      number_row false (codes "checkpoint") text_1 period lines_1 bare_checkpoint e
      (number_row true (codes "clients") text_2 clients lines_2 bare_clients d
      (number_row true (codes "f") text_3 faults lines_3 bare_f b
      (keys_row (codes "from") text_4 from lines_4 bare_from f from_bytes
      (number_row true (codes "party") text_5 party lines_5 bare_party a
      (keys_row (codes "public") text_6 publics lines_6 bare_public p public_bytes
      (seed_row seed text_7 lines_7 seed_bytes
      (subst (IsLinesText true true lines_7) (append-nil text_7) (keys_row (codes "to") [] to [] bare_to t to_bytes refl))))))))

  pub reads_back : (seed : Option (List ℕ)) → party < 1000 → faults < 1000 → clients < 1000 → period < 1000 → 2 ≤ length from → 2 ≤ length to → 2 ≤ length publics
      → AllBytes from → AllBytes to → AllBytes publics → SeedBytes seed → parse_document (file_text (data_with seed)) ≡ Some (table_of (data_with seed))
  reads_back seed a b d e f t p from_bytes to_bytes public_bytes seed_bytes =
      let text = file_text (data_with seed) in
      parse_document-printed true (table_of (data_with seed)) text
      (subst (λ es. IsLinesText true false es text) (sym (expressions_are party faults clients period from to publics seed (data_with seed) refl))
      (document seed a b d e f t p from_bytes to_bytes public_bytes seed_bytes))
      (omega (arith, deep seed)) (dated seed) (sorted seed)
