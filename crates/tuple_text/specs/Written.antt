-- The text that the program writes: one blank between items and none at the parentheses.
use Rattle.std.specs.Prelude.{◌≡◌, ℕ, ◌<◌, ◌≤◌, ◌==◌, nat_lt, Bool, ◌||◌, List, [], ◌∷◌, ◌++◌, length, take, codes}
use Rattle.std.specs.Prelude.{Result, Ok, Err}
use Rattle.std.specs.List.{flat_map}
use Rattle.std.specs.Fmt.{decimal}
use Rattle.tuple_tree.specs.Items.{TreeItem, leaf, inner, Items, none, item}
use Rattle.tuple_tree.specs.Values.{TupleTree, TemplateTree}
use Rattle.tuple_codec.specs.Operations.{Operation, out, rdp, inp, cas, rd_all, in_all, upgrade, Outcome, done, found}
use Rattle.tuple_codec.specs.Operations.{absent, swapped, all, full, refused}
use Rattle.tuple_codec.specs.OperationView.{outcome_of}
use Rattle.tuple_codec.specs.declared.operations.Answer.{Answer}
use Rattle.tuple_text.specs.Texts.{datum_text, slot_text, truth_text, escaped}

module _ {L : Type 0} (leaf_text : L → List ℕ) where
  -- a leaf's text, or a nested list in parentheses
  abbrev mutual
    pub item_written : TreeItem L → List ℕ
    item_written (leaf x) = leaf_text x
    item_written (inner xs) = 40 ∷ items_written xs ++ 41 ∷ []

    -- the text between the parentheses
    pub items_written : Items L → List ℕ
    items_written none = []
    items_written (item x xs) = item_written x ++ more_written xs

    -- a blank before each item
    pub more_written : Items L → List ℕ
    more_written none = []
    more_written (item x xs) = 32 ∷ item_written x ++ more_written xs

  -- the text of a whole list, with its parentheses
  abbrev pub whole_written : Items L → List ℕ
  whole_written xs = item_written (inner xs)

-- the text of a tuple
abbrev pub tuple_written : TupleTree → List ℕ
tuple_written t = whole_written datum_text t

abbrev pub template_written : TemplateTree → List ℕ
template_written p = whole_written slot_text p

-- a blank before each tuple
abbrev pub tuples_written : List TupleTree → List ℕ
tuples_written [] = []
tuples_written (t ∷ ts) = 32 ∷ tuple_written t ++ tuples_written ts

-- the count of the tuples, and then the tuples
abbrev pub counted_written : List TupleTree → List ℕ
counted_written ts = decimal (length ts) ++ tuples_written ts

-- Of several tuples their count is written first.
abbrev pub outcome_text : Outcome → List ℕ
outcome_text done = codes "done"
outcome_text (found t) = codes "found " ++ tuple_written t
outcome_text absent = codes "absent"
outcome_text (swapped b) = codes "swapped " ++ truth_text b
outcome_text (all ts) = codes "all " ++ decimal (length ts) ++ tuples_written ts
outcome_text full = codes "full"
outcome_text refused = codes "refused"

-- An operation's name, and a blank before each argument.
abbrev pub operation_written : Operation → List ℕ
operation_written (out t) = codes "out " ++ tuple_written t
operation_written (rdp p) = codes "rdp " ++ template_written p
operation_written (inp p) = codes "inp " ++ template_written p
operation_written (cas p t) = codes "cas " ++ template_written p ++ 32 ∷ tuple_written t
operation_written (rd_all n p) = codes "rdAll " ++ decimal n ++ 32 ∷ template_written p
operation_written (in_all n p) = codes "inAll " ++ decimal n ++ 32 ∷ template_written p
operation_written upgrade = codes "upgrade"

-- the text of a Rust answer
abbrev pub answer_text : {A : Type 0} → Answer A → List ℕ
answer_text answer = outcome_text (outcome_of answer)

-- The text follows the old bytes. After an error some other bytes may.
abbrev pub WritesText : {V E : Type 0} → Result V E → List ℕ → List ℕ → List ℕ → Type 0
WritesText (Ok v) old text new = new ≡ old ++ text
WritesText (Err e) old text new = (more : List ℕ) × (new ≡ old ++ more)

-- whether a byte of a text doesn't stand for itself
abbrev pub is_escaped : ℕ → Bool
is_escaped b = nat_lt b 32 || (b == 34 || b == 92)

-- So many bytes of a text, one at least, follow the old ones as a literal has them. After an error some bytes may.
abbrev pub PutsSome : {E : Type 0} → Result ℕ E → List ℕ → List ℕ → List ℕ → Type 0
PutsSome (Ok n) text old new = (0 < n) × (n ≤ length text) × (new ≡ old ++ flat_map escaped (take n text))
PutsSome (Err e) text old new = (more : List ℕ) × (new ≡ old ++ more)
