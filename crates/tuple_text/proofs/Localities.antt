-- Each reading of the grammar is local.
use Rattle.std.proofs.Common.{◌≡◌, ℕ, zero, suc, ◌-◌, ◌+◌, ◌*◌, ◌/◌, Bool, true, false, cond, ◌&&◌, List, [], ◌∷◌}
use Rattle.std.proofs.Common.{codes, pos, negsuc, Option, None, Some, option_map, refl, if◌then◌else◌}
use Rattle.std.specs.Prelude.{◌==◌, nat_le}
use Rattle.tuple_tree.specs.Items.{TreeItem, leaf, inner, Items, none}
use Rattle.tuple_tree.specs.Values.{number, text, bytes, truth, wide, actual, any, formal, datum_length, slot_length}
use Rattle.tuple_tree.specs.declared.atoms.Kind.{Kind}
use Rattle.tuple_tree.specs.declared.atoms.Kind.TheVariants as kinds
use Rattle.tuple_codec.specs.Operations.{Operation, out, cas, upgrade}
use Rattle.tuple_text.specs.declared.verbs.Verb.{Verb}
use Rattle.tuple_text.specs.declared.verbs.Verb.TheVariants.{Rd, In}
use Rattle.tuple_text.specs.Reading.{got, stop, Reading, ◌>>=◌, nothing, look, blanks, word, named, gap, finish, digits}
use Rattle.tuple_text.specs.Reading.{positive, MOST, MOST_WIDE, signed, numeral, wide_numeral, quoted, byte_string}
use Rattle.tuple_text.specs.Reading.{truth_or_number, datum, kind_b, kind_t, kind, formal_slot, actual_slot, slot}
use Rattle.tuple_text.specs.Reading.{begins_datum, begins_slot, full, follows, turn, items, no_room, kept_with}
use Rattle.tuple_text.specs.Reading.{leaf_item, list, item_at, items_at, close, whole, tuple, template, argument}
use Rattle.tuple_text.specs.Reading.{ending, ended, out_line, cas_line, upgrade_line, letters, one_of, all_of, one_line}
use Rattle.tuple_text.specs.Reading.{all_line, verb_line, operation, line}
use Rattle.tuple_text.specs.declared.reader.Stop.{Stop}
use Rattle.tuple_text.specs.Literals.{text_literal, bytes_literal}
use Rattle.tuple_text.proofs.LiteralTexts.{text_local}
use Rattle.tuple_text.proofs.LiteralBytes.{bytes_local}
use Rattle.tuple_text.specs.declared.reader.Stop.TheVariants.{BadByte, TooDeep, TooLong}
use Rattle.tuple_text.proofs.Local.{LocalAs, IsLocal, local_got, local_stop, local_then, local_if, local_look}
use Rattle.tuple_text.proofs.Local.{local_empty, local_test, passing, local_passing, local_choice}

pub blanks_local : (free : Bool) → IsLocal (blanks free)
blanks_local free [] = local_empty (blanks free) refl
blanks_local free (b ∷ bs) = local_test (b == 32) (blanks free) (blanks true) (λ u. got free u) b (λ u. refl) bs (blanks_local true bs) (local_got free)

pub word_local : (cs : List ℕ) → IsLocal (word cs)
word_local [] bs = local_got true bs
word_local (c ∷ cs) [] = local_empty (word (c ∷ cs)) refl
word_local (c ∷ cs) (b ∷ bs) = local_test (b == c) (word (c ∷ cs)) (word cs) (λ u. stop BadByte u) b (λ u. refl) bs (word_local cs bs) (local_stop BadByte)

pub named_local : {V : Type 0} → (cs : List ℕ) (v : V) → IsLocal (named cs v)
named_local cs v = local_then (word cs) (λ _ rest. got v rest) (word_local cs) (λ _. local_got v)

nothing_local : {V : Type 0} → IsLocal {V = V} nothing
nothing_local = local_stop BadByte

pub gap_local : IsLocal gap
gap_local = local_then (blanks false) (λ free rest. if free then got true rest else stop BadByte rest) (blanks_local false) (λ free. local_if free (λ u. got true u) (λ u. stop BadByte u) (local_got true) (local_stop BadByte))

pub finish_local : IsLocal finish
finish_local [] = local_empty finish refl
finish_local (b ∷ bs) = local_look finish (λ u. stop BadByte u) b (λ u. refl) (local_stop BadByte) bs

digit_local : (s t : Bool) (r f : Reading ℕ) (n b : ℕ) → ((u : List ℕ) → r (b ∷ u) ≡ cond s (cond t (f u) (stop BadByte (b ∷ u))) (got n (b ∷ u))) → (bs : List ℕ) → LocalAs f bs (f bs) → LocalAs r (b ∷ bs) (r (b ∷ bs))
digit_local true t r f n b e bs m = local_test t r f (λ u. stop BadByte u) b e bs m (local_stop BadByte)
digit_local false t r f n b e bs m = local_look r (λ u. got n u) b e (local_got n) bs

pub digits_local : (limit n : ℕ) → IsLocal (digits limit n)
digits_local limit n [] = local_empty (digits limit n) refl
digits_local limit n (b ∷ bs) =
    digit_local (nat_le 48 b && nat_le b 57) (nat_le n ((limit - (b - 48)) / 10)) (digits limit n) (digits limit (n * 10 + (b - 48))) n b (λ u. refl) bs (digits_local limit (n * 10 + (b - 48)) bs)

pub positive_local : (limit : ℕ) → IsLocal (positive limit)
unfolding positive
positive_local limit [] = local_empty (positive limit) refl
positive_local limit (b ∷ bs) =
    local_test (nat_le 49 b && nat_le b 57) (positive limit) (digits limit (b - 48)) (λ u. stop BadByte u) b (λ u. refl) bs (digits_local limit (b - 48) bs) (local_stop BadByte)

pub signed_local : (most : ℕ) → IsLocal (signed most)
unfolding signed
signed_local most [] = local_empty (signed most) refl
signed_local most (b ∷ bs) =
    local_test (b == 45) (signed most) (λ u. positive (most + 1) u >>= λ n rest. got (negsuc (n - 1)) rest) (λ u. cond (b == 48) (passing (λ t. got (pos 0) t) u) (positive most u >>= λ n rest. got (pos n) rest)) b (λ u. refl) bs
    (local_then (positive (most + 1)) (λ n rest. got (negsuc (n - 1)) rest) (positive_local (most + 1)) (λ n. local_got (negsuc (n - 1))) bs)
    (local_if (b == 48) (passing (λ t. got (pos 0) t)) (λ u. positive most u >>= λ n rest. got (pos n) rest) (local_passing (λ t. got (pos 0) t) (local_got (pos 0)))
    (local_then (positive most) (λ n rest. got (pos n) rest) (positive_local most) (λ n. local_got (pos n))))

numeral_local : IsLocal numeral
unfolding numeral
numeral_local = local_then (signed MOST) (λ n rest. got (number n) rest) (signed_local MOST) (λ n. local_got (number n))

wide_local : IsLocal wide_numeral
unfolding wide_numeral
wide_local =
    local_then (word (codes "w")) (λ _ rest. signed MOST_WIDE rest >>= λ n after. got (wide n) after) (word_local (codes "w"))
    (λ _. local_then (signed MOST_WIDE) (λ n after. got (wide n) after) (signed_local MOST_WIDE) (λ n. local_got (wide n)))

quoted_local : IsLocal quoted
unfolding quoted
quoted_local = local_then text_literal (λ s rest. got (text s) rest) text_local (λ s. local_got (text s))

byte_string_local : IsLocal byte_string
unfolding byte_string
byte_string_local = local_then bytes_literal (λ s rest. got (bytes s) rest) bytes_local (λ s. local_got (bytes s))

pub datum_local : IsLocal datum
unfolding datum
datum_local =
    local_choice 34 quoted (look 120 byte_string (look 119 wide_numeral truth_or_number)) quoted_local
    (local_choice 120 byte_string (look 119 wide_numeral truth_or_number) byte_string_local
    (local_choice 119 wide_numeral truth_or_number wide_local
    (local_choice 116 (named (codes "true") (truth true)) (look 102 (named (codes "false") (truth false)) numeral) (named_local (codes "true") (truth true))
    (local_choice 102 (named (codes "false") (truth false)) numeral (named_local (codes "false") (truth false)) numeral_local))))

kind_b_local : IsLocal kind_b
unfolding kind_b
kind_b_local =
    local_then (word (codes "b")) (λ _ rest. look 121 (named (codes "ytes") kinds.Bytes) (named (codes "ool") kinds.Truth) rest) (word_local (codes "b"))
    (λ _. local_choice 121 (named (codes "ytes") kinds.Bytes) (named (codes "ool") kinds.Truth) (named_local (codes "ytes") kinds.Bytes) (named_local (codes "ool") kinds.Truth))

kind_t_local : IsLocal kind_t
unfolding kind_t
kind_t_local =
    local_then (word (codes "t")) (λ _ rest. look 101 (named (codes "ext") kinds.Text) (named (codes "uple") kinds.Tuple) rest) (word_local (codes "t"))
    (λ _. local_choice 101 (named (codes "ext") kinds.Text) (named (codes "uple") kinds.Tuple) (named_local (codes "ext") kinds.Text) (named_local (codes "uple") kinds.Tuple))

abbrev kind_w : Reading Kind
kind_w = look 119 (named (codes "wide") kinds.Wide) nothing

kind_local : IsLocal kind
unfolding kind
kind_local =
    local_choice 105 (named (codes "int") kinds.Number) (look 98 kind_b (look 116 kind_t kind_w)) (named_local (codes "int") kinds.Number)
    (local_choice 98 kind_b (look 116 kind_t kind_w) kind_b_local
    (local_choice 116 kind_t kind_w kind_t_local (local_choice 119 (named (codes "wide") kinds.Wide) nothing (named_local (codes "wide") kinds.Wide) nothing_local)))

formal_local : IsLocal formal_slot
unfolding formal_slot
formal_local =
    local_then (word (codes "?")) (λ _ rest. kind rest >>= λ k after. got (formal k) after) (word_local (codes "?"))
    (λ _. local_then kind (λ k after. got (formal k) after) kind_local (λ k. local_got (formal k)))

actual_local : IsLocal actual_slot
unfolding actual_slot
actual_local = local_then datum (λ x rest. got (actual x) rest) datum_local (λ x. local_got (actual x))

pub slot_local : IsLocal slot
unfolding slot
slot_local = local_choice 42 (named (codes "*") any) (look 63 formal_slot actual_slot) (named_local (codes "*") any) (local_choice 63 formal_slot actual_slot formal_local actual_local)

pub full_local : {V : Type 0} → (why : ℕ → Stop) → IsLocal (full {V = V} why)
unfolding full
full_local {V} why [] = local_empty (full {V = V} why) refl
full_local {V} why (b ∷ bs) = local_look (full {V = V} why) (λ u. stop (why b) u) b (λ u. refl) (local_stop (why b)) bs

pub follows_local : (free : Bool) → IsLocal (follows free)
unfolding follows
follows_local free [] = local_empty (follows free) refl
follows_local free (b ∷ bs) =
    local_look (follows free) (λ u. cond (b == 41) (got false u) (cond free (got true u) (stop BadByte u))) b (λ u. refl)
    (local_if (b == 41) (λ u. got false u) (λ u. cond free (got true u) (stop BadByte u)) (local_got false)
    (local_if free (λ u. got true u) (λ u. stop BadByte u) (local_got true) (local_stop BadByte))) bs

pub turn_local : (free : Bool) → IsLocal (turn free)
unfolding turn
turn_local free = local_then (blanks free) follows (blanks_local free) follows_local

module _ {T X : Type 0} (why : ℕ → Stop) (add : T → X → T) (one : Reading X) (one_local : IsLocal one) where
  pub items_local : (room : ℕ) (free : Bool) (t : T) → IsLocal (items why add one room free t)
  items_local zero free t =
      local_then (turn free) (λ on rest. if on then full why rest else got t rest) (turn_local free) (λ on. local_if on (full why) (λ u. got t u) (full_local why) (local_got t))
  items_local (suc room) free t =
      local_then (turn free) (λ on rest. if on then (one rest >>= λ x after. items why add one room false (add t x) after) else got t rest) (turn_local free)
      (λ on. local_if on (λ u. one u >>= λ x after. items why add one room false (add t x) after) (λ u. got t u)
      (local_then one (λ x after. items why add one room false (add t x) after) one_local (λ x. items_local room false (add t x)))
      (local_got t))

module _ {L : Type 0} (length_of : L → ℕ) (begins : ℕ → Bool) (leaf_at : Reading L) (leaf_local : IsLocal leaf_at) where
  leaf_item_local : IsLocal (leaf_item length_of begins leaf_at)
  leaf_item_local = local_then leaf_at (λ x rest. got (Some (leaf x)) rest) leaf_local (λ x. local_got (Some (leaf x)))

  list_local : (why : ℕ → Stop) (one : Reading (Option (TreeItem L))) → IsLocal one → IsLocal (list length_of begins leaf_at why one)
  list_local why one l =
      local_then (word (codes "(")) (λ _ rest. items why (kept_with length_of) one 32 true (Some none) rest >>= λ t at. word (codes ")") at >>= λ _ after. got t after) (word_local (codes "("))
      (λ _. local_then (items why (kept_with length_of) one 32 true (Some none)) (λ t at. word (codes ")") at >>= λ _ after. got t after) (items_local why (kept_with length_of) one l 32 true (Some none))
      (λ t. named_local (codes ")") t))

  item_local : (levels : ℕ) → IsLocal (item_at length_of begins leaf_at levels)
  unfolding item_at
  item_local zero = local_choice 40 (λ u. stop TooDeep u) (leaf_item length_of begins leaf_at) (local_stop TooDeep) leaf_item_local
  item_local (suc levels) =
      local_choice 40 (λ u. list length_of begins leaf_at (no_room begins levels) (item_at length_of begins leaf_at levels) u >>= λ t rest. got (option_map inner t) rest) (leaf_item length_of begins leaf_at)
      (local_then (list length_of begins leaf_at (no_room begins levels) (item_at length_of begins leaf_at levels)) (λ t rest. got (option_map inner t) rest) (list_local (no_room begins levels) (item_at length_of begins leaf_at levels) (item_local levels)) (λ t. local_got (option_map inner t)))
      leaf_item_local

  close_local : (t : Option (Items L)) → IsLocal (close length_of begins leaf_at t)
  unfolding close
  close_local t [] = local_empty (close length_of begins leaf_at t) refl
  close_local None (b ∷ bs) =
      local_look (close length_of begins leaf_at None) (λ u. cond (b == 41) (stop TooLong u) (stop BadByte u)) b (λ u. refl) (local_if (b == 41) (λ u. stop TooLong u) (λ u. stop BadByte u) (local_stop TooLong) (local_stop BadByte)) bs
  close_local (Some t) (b ∷ bs) = local_test (b == 41) (close length_of begins leaf_at (Some t)) (λ u. got t u) (λ u. stop BadByte u) b (λ u. refl) bs (local_got t bs) (local_stop BadByte)

  pub whole_local : IsLocal (whole length_of begins leaf_at)
  unfolding whole items_at
  whole_local =
      local_then (word (codes "(")) (λ _ rest. items_at length_of begins leaf_at 7 rest >>= λ t at. close length_of begins leaf_at t at) (word_local (codes "("))
      (λ _. local_then (items_at length_of begins leaf_at 7) (λ t at. close length_of begins leaf_at t at) (items_local (no_room begins 7) (kept_with length_of) (item_at length_of begins leaf_at 7) (item_local 7) 32 true (Some none)) close_local)

pub argument_local : {V : Type 0} → (one : Reading V) → IsLocal one → IsLocal (argument one)
unfolding argument
argument_local one l = local_then gap (λ _ rest. one rest) gap_local (λ _. l)

pub ending_local : IsLocal ending
unfolding ending
ending_local = local_then (blanks true) (λ _ rest. finish rest) (blanks_local true) (λ _. finish_local)

ended_local : (o : Operation) → IsLocal (ended o)
unfolding ended
ended_local o = local_then ending (λ _ rest. got o rest) ending_local (λ _. local_got o)

tuple_argument_local : IsLocal (argument tuple)
tuple_argument_local = argument_local tuple (whole_local datum_length begins_datum datum datum_local)

pub template_local : IsLocal template
template_local = whole_local slot_length begins_slot slot slot_local

template_argument_local : IsLocal (argument template)
template_argument_local = argument_local template template_local

out_local : IsLocal out_line
unfolding out_line
out_local =
    local_then (word (codes "out")) (λ _ behind. argument tuple behind >>= λ t rest. ended (out t) rest) (word_local (codes "out"))
    (λ _. local_then (argument tuple) (λ t rest. ended (out t) rest) tuple_argument_local (λ t. ended_local (out t)))

cas_local : IsLocal cas_line
unfolding cas_line
cas_local =
    local_then (word (codes "cas")) (λ _ behind. argument template behind >>= λ p middle. argument tuple middle >>= λ t rest. ended (cas p t) rest) (word_local (codes "cas"))
    (λ _. local_then (argument template) (λ p middle. argument tuple middle >>= λ t rest. ended (cas p t) rest) template_argument_local
    (λ p. local_then (argument tuple) (λ t rest. ended (cas p t) rest) tuple_argument_local (λ t. ended_local (cas p t))))

upgrade_local : IsLocal upgrade_line
unfolding upgrade_line
upgrade_local = local_then (word (codes "upgrade")) (λ _ rest. ended upgrade rest) (word_local (codes "upgrade")) (λ _. ended_local upgrade)

one_local : (verb : Verb) → IsLocal (one_line verb)
unfolding one_line
one_local verb =
    local_then (word (codes "p")) (λ _ behind. argument template behind >>= λ p rest. ended (one_of verb p) rest) (word_local (codes "p"))
    (λ _. local_then (argument template) (λ p rest. ended (one_of verb p) rest) template_argument_local (λ p. ended_local (one_of verb p)))

all_local : (verb : Verb) → IsLocal (all_line verb)
unfolding all_line
all_local verb =
    local_then (word (codes "All")) (λ _ behind. argument (positive 64) behind >>= λ n middle. argument template middle >>= λ p rest. ended (all_of verb n p) rest) (word_local (codes "All"))
    (λ _. local_then (argument (positive 64)) (λ n middle. argument template middle >>= λ p rest. ended (all_of verb n p) rest) (argument_local (positive 64) (positive_local 64))
    (λ n. local_then (argument template) (λ p rest. ended (all_of verb n p) rest) template_argument_local (λ p. ended_local (all_of verb n p))))

verb_local : (verb : Verb) → IsLocal (verb_line verb)
unfolding verb_line
verb_local verb =
    local_then (word (letters verb)) (λ _ rest. look 112 (one_line verb) (all_line verb) rest) (word_local (letters verb))
    (λ _. local_choice 112 (one_line verb) (all_line verb) (one_local verb) (all_local verb))

operation_local : IsLocal operation
unfolding operation
operation_local =
    local_choice 111 out_line (look 114 (verb_line Rd) (look 105 (verb_line In) (look 99 cas_line (look 117 upgrade_line nothing)))) out_local
    (local_choice 114 (verb_line Rd) (look 105 (verb_line In) (look 99 cas_line (look 117 upgrade_line nothing))) (verb_local Rd)
    (local_choice 105 (verb_line In) (look 99 cas_line (look 117 upgrade_line nothing)) (verb_local In)
    (local_choice 99 cas_line (look 117 upgrade_line nothing) cas_local (local_choice 117 upgrade_line nothing upgrade_local nothing_local))))

pub line_local : IsLocal line
unfolding line
line_local = local_then (blanks true) (λ _ rest. operation rest) (blanks_local true) (λ _. operation_local)
