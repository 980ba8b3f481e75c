-- Reading whole lines keeps to the grammar.
use Rattle.std.proofs.Common.{◌≡◌, ℕ, true, ◌+◌, ◌<◌, ◌≤◌, List, [], ◌∷◌, ◌++◌, length, take, codes, refl, ap, sym}
use Rattle.std.proofs.Common.{subst, ◌∙◌, append_assoc, append-nil, arith, inl, inr}
use Rattle.std.specs.Prelude.{slice_index}
use Rattle.std.specs.Fmt.{decimal}
use Rattle.tuple_tree.specs.Items.{Items, none, levels_of, whole_length}
use Rattle.tuple_tree.specs.Limits.{IsWithin}
use Rattle.tuple_tree.specs.Values.{datum_length, slot_length, IsDatum, IsSlot, TupleTree, TemplateTree}
use Rattle.tuple_codec.specs.Operations.{Operation, out, rdp, inp, cas, rd_all, in_all, upgrade, IsOperation}
use Rattle.tuple_text.specs.Texts.{AreBlanks, WholeText, datum_text, slot_text}
use Rattle.tuple_text.specs.Lines.{EachLeaf, LineText, operation_name, arguments, ArgumentsText}
use Rattle.tuple_text.specs.Faults.{KeepsCount, KeepsLevels, KeepsBoth, EndsTooLong, ArgumentsClosed, argument_lengths}
use Rattle.tuple_text.specs.Reading.{◌>>=◌, nothing, look, blanks, positive, datum, slot, begins_datum, begins_slot}
use Rattle.tuple_text.specs.Reading.{tuple, template, argument, ended, out_line, cas_line, upgrade_line, letters}
use Rattle.tuple_text.specs.Reading.{one_of, all_of, one_line, all_line, verb_line, operation, line}
use Rattle.tuple_text.specs.declared.verbs.Verb.{Verb}
use Rattle.tuple_text.specs.declared.verbs.Verb.TheVariants.{Rd, In}
use Rattle.tuple_text.proofs.Right.{Limits, both, levels, no_limits, RightTo, Never, then_to, look_right, nothing_right}
use Rattle.tuple_text.proofs.Blanks.{ArePassed, BeginsBlanks, blanks_right}
use Rattle.tuple_text.proofs.Numbers.{IsPositive, positive_right}
use Rattle.tuple_text.proofs.Levels.{OneIs, Fits, Overflows, each_weaker, each_leaf, each_levels, each_counted}
use Rattle.tuple_text.proofs.Levels.{are_items}
use Rattle.tuple_text.proofs.Leaves.{datum_right, datum_starts, some_datum, slot_right, slot_starts, some_slot}
use Rattle.tuple_text.proofs.Plain.{whole_seen}
use Rattle.tuple_text.proofs.Lists.{IsList, IsKept, IsLong, some_list}
use Rattle.tuple_text.proofs.Nested.{whole_right}
use Rattle.tuple_text.proofs.Arguments.{Begins, Then, LongThen, some_then, argument_then, IsDone, done_right, named_to}

abbrev pub KeepsTree : {L : Type 0} → Limits → Items L → Type 0
KeepsTree both t = (levels_of t ≤ 8) × KeepsCount t
KeepsTree levels t = levels_of t ≤ 8
KeepsTree no_limits t = Unit {0}

-- The properties of a list that was read.
module _ {L : Type 0} (leaf_text : L → List ℕ) (IsLeaf : L → Type 0) (length_of : L → ℕ) where
  abbrev pub TreeIs : Limits → Items L → List ℕ → Type 0
  TreeIs c t w = IsList leaf_text (OneIs IsLeaf 7) c t w

  abbrev pub KeptTree : Items L → List ℕ → Type 0
  KeptTree t w = IsKept leaf_text (OneIs IsLeaf 7) (Fits length_of) t w

  abbrev pub LongTree : List ℕ → Type 0
  LongTree w = IsLong leaf_text (OneIs IsLeaf 7) (Overflows length_of) w

  abbrev pub Argument : Items L → List ℕ → Type 0
  Argument t w = WholeText leaf_text t w × EachLeaf IsLeaf t

  pub tree_weaker : (c : Limits) (t : Items L) (w : List ℕ) → KeptTree t w → TreeIs c t w
  tree_weaker both t w h = h.0
  tree_weaker levels t w h = record { text = h.0.text; each = each_weaker IsLeaf 7 levels t h.0.each; count = tt }
  tree_weaker no_limits t w h = record { text = h.0.text; each = each_weaker IsLeaf 7 no_limits t h.0.each; count = tt }

  pub some_tree : (c : Limits) → (t : Items L) × (w : List ℕ) × TreeIs c t w
  some_tree c = (none, 40 ∷ 41 ∷ [], some_list leaf_text (OneIs IsLeaf 7) c)

  pub tree_argument : (c : Limits) (t : Items L) (w : List ℕ) → TreeIs c t w → Argument t w
  tree_argument c t w h = (h.text, each_leaf IsLeaf 7 c t h.each)

  pub tree_keeps : (c : Limits) (t : Items L) (w : List ℕ) → TreeIs c t w → KeepsTree c t
  tree_keeps both t w h = (omega (arith, each_levels IsLeaf 7 t (each_weaker IsLeaf 7 levels t h.each)), (h.count, each_counted IsLeaf 7 t h.each))
  tree_keeps levels t w h = omega (arith, each_levels IsLeaf 7 t h.each)
  tree_keeps no_limits t w h = tt

  pub tree_within : (t : Items L) (w : List ℕ) → KeptTree t w → IsWithin IsLeaf length_of t
  tree_within t w h = record {
    fields = h.0.count;
    levels = (tree_keeps both t w h.0).0;
    length = h.1;
    each = are_items IsLeaf t (tree_argument both t w h.0).1 (each_counted IsLeaf 7 t h.0.each);
  }

abbrev pub TupleIs : Limits → TupleTree → List ℕ → Type 0
TupleIs = TreeIs datum_text IsDatum datum_length

abbrev pub KeptTuple : TupleTree → List ℕ → Type 0
KeptTuple = KeptTree datum_text IsDatum datum_length

abbrev pub LongTuple : List ℕ → Type 0
LongTuple = LongTree datum_text IsDatum datum_length

abbrev pub TemplateIs : Limits → TemplateTree → List ℕ → Type 0
TemplateIs = TreeIs slot_text IsSlot slot_length

abbrev pub KeptTemplate : TemplateTree → List ℕ → Type 0
KeptTemplate = KeptTree slot_text IsSlot slot_length

abbrev pub LongTemplate : List ℕ → Type 0
LongTemplate = LongTree slot_text IsSlot slot_length

tuple_right : (bs : List ℕ) → RightTo KeptTuple (Begins TupleIs) LongTuple bs (tuple bs)
tuple_right bs = subst (RightTo KeptTuple (Begins TupleIs) LongTuple bs) (sym (whole_seen datum_length begins_datum datum bs)) (whole_right datum_text IsDatum begins_datum datum datum_right datum_starts some_datum datum_length bs)

template_right : (bs : List ℕ) → RightTo KeptTemplate (Begins TemplateIs) LongTemplate bs (template bs)
template_right bs = subst (RightTo KeptTemplate (Begins TemplateIs) LongTemplate bs) (sym (whole_seen slot_length begins_slot slot bs)) (whole_right slot_text IsSlot begins_slot slot slot_right slot_starts some_slot slot_length bs)

abbrev pub Keeps : Limits → Operation → Type 0
Keeps both o = KeepsBoth o
Keeps levels o = KeepsLevels o
Keeps no_limits o = Unit {0}

-- the operation's name and arguments
abbrev Named : Operation → List ℕ → Type 0
Named o w = (rest : List ℕ) × (w ≡ operation_name o ++ rest) × ArgumentsText (arguments o) rest

abbrev Good : Operation → List ℕ → Type 0
Good o w = Named o w × IsOperation o

abbrev Limited : Limits → Operation → List ℕ → Type 0
Limited c o w = Named o w × Keeps c o

abbrev TooLongBehind : List ℕ → Type 0
TooLongBehind w =
    (o : Operation) × (k : ℕ) × (rest : List ℕ) × (w ≡ operation_name o ++ rest) × ArgumentsClosed (take (k + 1) (arguments o)) rest × (k < length (arguments o)) × (1024 < slice_index (argument_lengths o) k)

argued : (space l front r w : List ℕ) → w ≡ front ++ r → front ≡ space ++ l → w ≡ space ++ (l ++ r)
argued space l front r w e f = e ∙ ap (λ t. t ++ r) f ∙ append_assoc space l r

last_argued : (space l w : List ℕ) → w ≡ space ++ l → w ≡ space ++ (l ++ [])
last_argued space l w e = e ∙ ap (λ t. space ++ t) (sym (append-nil l))

-- The text of one argument, and of two, from the properties of the arguments read.
one_text : {V : Type 0} → (P : V → List ℕ → Type 0) (A : V → List ℕ → Type 0) (k : V → Operation) → ((v : V) (w : List ℕ) → P v w → A v w) → (o : Operation) (w : List ℕ) → (h : Then P (λ v. IsDone (k v)) o w) → ArgumentsText (A h.0 ∷ []) w
one_text P A k f o w h = let a = h.4 in (a.0, a.1, h.2, argued a.0 a.1 h.1 h.2 w h.3 a.2, a.3, f h.0 a.1 a.4, h.5.1)

two_text : {V W : Type 0} → (P : V → List ℕ → Type 0) (A : V → List ℕ → Type 0) (Q : W → List ℕ → Type 0) (B : W → List ℕ → Type 0) (k : V → W → Operation) → ((v : V) (w : List ℕ) → P v w → A v w) → ((v : W) (w : List ℕ) → Q v w → B v w)
    → (o : Operation) (w : List ℕ) → (h : Then P (λ v. Then Q (λ x. IsDone (k v x))) o w) → ArgumentsText (A h.0 ∷ B h.5.0 ∷ []) w
two_text P A Q B k f g o w h = let a = h.4 in (a.0, a.1, h.2, argued a.0 a.1 h.1 h.2 w h.3 a.2, a.3, f h.0 a.1 a.4, one_text Q B (k h.0) g o h.2 h.5)

tuple_text : (c : Limits) (t : TupleTree) (w : List ℕ) → TupleIs c t w → Argument datum_text IsDatum datum_length t w
tuple_text = tree_argument datum_text IsDatum datum_length

template_text : (c : Limits) (p : TemplateTree) (w : List ℕ) → TemplateIs c p w → Argument slot_text IsSlot slot_length p w
template_text = tree_argument slot_text IsSlot slot_length

tuple_keeps : (c : Limits) (t : TupleTree) (w : List ℕ) → TupleIs c t w → KeepsTree c t
tuple_keeps = tree_keeps datum_text IsDatum datum_length

template_keeps : (c : Limits) (p : TemplateTree) (w : List ℕ) → TemplateIs c p w → KeepsTree c p
template_keeps = tree_keeps slot_text IsSlot slot_length

-- out
abbrev OutIs : (TupleTree → List ℕ → Type 0) → Operation → List ℕ → Type 0
OutIs P = Then P (λ t. IsDone (out t))

keeps_out : (c : Limits) (t : TupleTree) → KeepsTree c t → Keeps c (out t)
keeps_out both t h = h
keeps_out levels t h = h
keeps_out no_limits t h = tt

out_limited : (c : Limits) (o : Operation) (w : List ℕ) → OutIs (TupleIs c) o w → Limited c o (codes "out" ++ w)
out_limited c o w h =
    let l : Limited c (out h.0) (codes "out" ++ w) = ((w, refl, one_text (TupleIs c) (Argument datum_text IsDatum datum_length) out (tuple_text c) o w h), keeps_out c h.0 (tuple_keeps c h.0 h.4.1 h.4.4)) in
    subst (λ x. Limited c x (codes "out" ++ w)) (sym h.5.0) l

out_good : (o : Operation) (w : List ℕ) → OutIs KeptTuple o w → Good o (codes "out" ++ w)
out_good o w h =
    let l : Good (out h.0) (codes "out" ++ w) = (
      (w, refl, one_text KeptTuple (Argument datum_text IsDatum datum_length) out (λ t w k. tuple_text both t w k.0) o w h),
      tree_within datum_text IsDatum datum_length h.0 h.4.1 h.4.4,
    ) in
    subst (λ x. Good x (codes "out" ++ w)) (sym h.5.0) l

out_long : (w : List ℕ) → LongThen KeptTuple LongTuple (λ t. Never) w → TooLongBehind (codes "out" ++ w)
out_long w (inl h) =
    let l = h.4 in
    (out l.0, 0, w, refl, (h.0, h.1, [], last_argued h.0 h.1 w h.2, h.3, tuple_text both l.0 h.1 l.1, refl), omega arith, l.2)
out_long w (inr h) = absurd h.5

some_out : (c : Limits) → (o : Operation) × (w : List ℕ) × OutIs (TupleIs c) o w
some_out c =
    some_then KeptTuple TupleIs LongTuple (some_tree datum_text IsDatum datum_length) (tree_weaker datum_text IsDatum datum_length) (λ t. IsDone (out t)) (λ t c. IsDone (out t)) (λ t. Never) c (λ t. (out t, [], (refl, tt)))

tuple_last : (k : TupleTree → Operation) (bs : List ℕ) → RightTo (Then KeptTuple (λ t. IsDone (k t))) (Begins (λ c. Then (TupleIs c) (λ t. IsDone (k t)))) (LongThen KeptTuple LongTuple (λ t. Never)) bs (argument tuple bs >>= λ t rest. ended (k t) rest)
tuple_last k bs =
    argument_then KeptTuple TupleIs LongTuple (some_tree datum_text IsDatum datum_length) (tree_weaker datum_text IsDatum datum_length) (λ t. IsDone (k t)) (λ t c. IsDone (k t)) (λ t. Never)
    tuple (λ t rest. ended (k t) rest) bs (λ t c. (k t, [], (refl, tt))) tuple_right (λ t rest. done_right (k t) rest)

template_last : (k : TemplateTree → Operation) (bs : List ℕ) → RightTo (Then KeptTemplate (λ p. IsDone (k p))) (Begins (λ c. Then (TemplateIs c) (λ p. IsDone (k p)))) (LongThen KeptTemplate LongTemplate (λ p. Never)) bs (argument template bs >>= λ p rest. ended (k p) rest)
template_last k bs =
    argument_then KeptTemplate TemplateIs LongTemplate (some_tree slot_text IsSlot slot_length) (tree_weaker slot_text IsSlot slot_length) (λ p. IsDone (k p)) (λ p c. IsDone (k p)) (λ p. Never)
    template (λ p rest. ended (k p) rest) bs (λ p c. (k p, [], (refl, tt))) template_right (λ p rest. done_right (k p) rest)

out_right : (bs : List ℕ) → RightTo Good (Begins Limited) TooLongBehind bs (out_line bs)
unfolding out_line
out_right bs =
    named_to Good Limited TooLongBehind [] (codes "out") (OutIs KeptTuple) (λ c. OutIs (TupleIs c)) (LongThen KeptTuple LongTuple (λ t. Never)) out_good out_limited out_long some_out
    (λ behind. argument tuple behind >>= λ t rest. ended (out t) rest) (tuple_last out) bs

-- after the letters of a verb: a template
abbrev TakesIs : (TemplateTree → Operation) → (TemplateTree → List ℕ → Type 0) → Operation → List ℕ → Type 0
TakesIs k P = Then P (λ p. IsDone (k p))

some_takes : (k : TemplateTree → Operation) (c : Limits) → (o : Operation) × (w : List ℕ) × TakesIs k (TemplateIs c) o w
some_takes k c =
    some_then KeptTemplate TemplateIs LongTemplate (some_tree slot_text IsSlot slot_length) (tree_weaker slot_text IsSlot slot_length) (λ p. IsDone (k p)) (λ p c. IsDone (k p)) (λ p. Never) c (λ p. (k p, [], (refl, tt)))

takes_text : (c : Limits) (k : TemplateTree → Operation) (o : Operation) (w : List ℕ) → (h : TakesIs k (TemplateIs c) o w) → ArgumentsText (Argument slot_text IsSlot slot_length h.0 ∷ []) w
takes_text c k o w h = one_text (TemplateIs c) (Argument slot_text IsSlot slot_length) k (template_text c) o w h

kept_text : (k : TemplateTree → Operation) (o : Operation) (w : List ℕ) → (h : TakesIs k KeptTemplate o w) → ArgumentsText (Argument slot_text IsSlot slot_length h.0 ∷ []) w
kept_text k o w h = one_text KeptTemplate (Argument slot_text IsSlot slot_length) k (λ p w k. template_text both p w k.0) o w h

one_named : (verb : Verb) (p : TemplateTree) (w : List ℕ) → ArgumentsText (Argument slot_text IsSlot slot_length p ∷ []) w → Named (one_of verb p) (letters verb ++ (codes "p" ++ w))
one_named Rd p w a = (w, refl, a)
one_named In p w a = (w, refl, a)

keeps_one : (c : Limits) (verb : Verb) (p : TemplateTree) → KeepsTree c p → Keeps c (one_of verb p)
keeps_one both Rd p h = h
keeps_one both In p h = h
keeps_one levels Rd p h = h
keeps_one levels In p h = h
keeps_one no_limits verb p h = tt

one_within : (verb : Verb) (p : TemplateTree) → IsWithin IsSlot slot_length p → IsOperation (one_of verb p)
one_within Rd p h = h
one_within In p h = h

one_closed : (verb : Verb) (p : TemplateTree) (w : List ℕ) → ArgumentsClosed (Argument slot_text IsSlot slot_length p ∷ []) w → 1024 < whole_length slot_length p → TooLongBehind (letters verb ++ (codes "p" ++ w))
one_closed Rd p w a l = (rdp p, 0, w, refl, a, omega arith, l)
one_closed In p w a l = (inp p, 0, w, refl, a, omega arith, l)

one_limited : (verb : Verb) (c : Limits) (o : Operation) (w : List ℕ) → TakesIs (one_of verb) (TemplateIs c) o w → Limited c o (letters verb ++ (codes "p" ++ w))
one_limited verb c o w h =
    let l : Limited c (one_of verb h.0) (letters verb ++ (codes "p" ++ w)) = (one_named verb h.0 w (takes_text c (one_of verb) o w h), keeps_one c verb h.0 (template_keeps c h.0 h.4.1 h.4.4)) in
    subst (λ x. Limited c x (letters verb ++ (codes "p" ++ w))) (sym h.5.0) l

one_good : (verb : Verb) (o : Operation) (w : List ℕ) → TakesIs (one_of verb) KeptTemplate o w → Good o (letters verb ++ (codes "p" ++ w))
one_good verb o w h =
    let l : Good (one_of verb h.0) (letters verb ++ (codes "p" ++ w)) = (one_named verb h.0 w (kept_text (one_of verb) o w h), one_within verb h.0 (tree_within slot_text IsSlot slot_length h.0 h.4.1 h.4.4)) in
    subst (λ x. Good x (letters verb ++ (codes "p" ++ w))) (sym h.5.0) l

one_long : (verb : Verb) (w : List ℕ) → LongThen KeptTemplate LongTemplate (λ p. Never) w → TooLongBehind (letters verb ++ (codes "p" ++ w))
one_long verb w (inl h) =
    let l = h.4 in
    one_closed verb l.0 w (h.0, h.1, [], last_argued h.0 h.1 w h.2, h.3, template_text both l.0 h.1 l.1, refl) l.2
one_long verb w (inr h) = absurd h.5

one_right : (verb : Verb) (bs : List ℕ) → RightTo (λ o w. Good o (letters verb ++ w)) (λ c w. Begins Limited c (letters verb ++ w)) (λ w. TooLongBehind (letters verb ++ w)) bs (one_line verb bs)
unfolding one_line
one_right verb bs =
    named_to Good Limited TooLongBehind (letters verb) (codes "p") (TakesIs (one_of verb) KeptTemplate) (λ c. TakesIs (one_of verb) (TemplateIs c)) (LongThen KeptTemplate LongTemplate (λ p. Never)) (one_good verb) (one_limited verb) (one_long verb) (some_takes (one_of verb))
    (λ behind. argument template behind >>= λ p rest. ended (one_of verb p) rest) (template_last (one_of verb)) bs

-- after the letters of a verb: a count and a template
abbrev AllIs : Verb → (TemplateTree → List ℕ → Type 0) → Operation → List ℕ → Type 0
AllIs verb P = Then (IsPositive 64) (λ n. Then P (λ p. IsDone (all_of verb n p)))

abbrev LongAll : List ℕ → Type 0
LongAll = LongThen (IsPositive 64) Never (λ n. LongThen KeptTemplate LongTemplate (λ p. Never))

some_count : (c : Limits) → (n : ℕ) × (w : List ℕ) × IsPositive 64 n w
some_count c = (1, decimal 1, (refl, omega arith, omega arith))

some_all : (verb : Verb) (c : Limits) → (o : Operation) × (w : List ℕ) × AllIs verb (TemplateIs c) o w
some_all verb c =
    some_then (IsPositive 64) (λ c. IsPositive 64) Never some_count (λ c n w h. h) (λ n. Then KeptTemplate (λ p. IsDone (all_of verb n p))) (λ n c. Then (TemplateIs c) (λ p. IsDone (all_of verb n p))) (λ n. LongThen KeptTemplate LongTemplate (λ p. Never)) c
    (λ n. some_takes (all_of verb n) c)

all_named : (verb : Verb) (n : ℕ) (p : TemplateTree) (w : List ℕ) → ArgumentsText (IsPositive 64 n ∷ Argument slot_text IsSlot slot_length p ∷ []) w → Named (all_of verb n p) (letters verb ++ (codes "All" ++ w))
all_named Rd n p w a = (w, refl, a)
all_named In n p w a = (w, refl, a)

keeps_all : (c : Limits) (verb : Verb) (n : ℕ) (p : TemplateTree) → KeepsTree c p → Keeps c (all_of verb n p)
keeps_all both Rd n p h = h
keeps_all both In n p h = h
keeps_all levels Rd n p h = h
keeps_all levels In n p h = h
keeps_all no_limits verb n p h = tt

all_within : (verb : Verb) (n : ℕ) (p : TemplateTree) → 1 ≤ n → n ≤ 64 → IsWithin IsSlot slot_length p → IsOperation (all_of verb n p)
all_within Rd n p low high h = (low, high, h)
all_within In n p low high h = (low, high, h)

all_closed : (verb : Verb) (n : ℕ) (p : TemplateTree) (w : List ℕ) → ArgumentsClosed (IsPositive 64 n ∷ Argument slot_text IsSlot slot_length p ∷ []) w → 1024 < whole_length slot_length p → TooLongBehind (letters verb ++ (codes "All" ++ w))
all_closed Rd n p w a l = (rd_all n p, 1, w, refl, a, omega arith, l)
all_closed In n p w a l = (in_all n p, 1, w, refl, a, omega arith, l)

all_limited : (verb : Verb) (c : Limits) (o : Operation) (w : List ℕ) → AllIs verb (TemplateIs c) o w → Limited c o (letters verb ++ (codes "All" ++ w))
all_limited verb c o w h =
    let m = h.5 in
    let l : Limited c (all_of verb h.0 m.0) (letters verb ++ (codes "All" ++ w)) = (
      all_named verb h.0 m.0 w (two_text (IsPositive 64) (IsPositive 64) (TemplateIs c) (Argument slot_text IsSlot slot_length) (all_of verb) (λ n w k. k) (template_text c) o w h),
      keeps_all c verb h.0 m.0 (template_keeps c m.0 m.4.1 m.4.4),
    ) in
    subst (λ x. Limited c x (letters verb ++ (codes "All" ++ w))) (sym m.5.0) l

all_good : (verb : Verb) (o : Operation) (w : List ℕ) → AllIs verb KeptTemplate o w → Good o (letters verb ++ (codes "All" ++ w))
all_good verb o w h =
    let m = h.5 in
    let n = h.4.4 in
    let l : Good (all_of verb h.0 m.0) (letters verb ++ (codes "All" ++ w)) = (
      all_named verb h.0 m.0 w (two_text (IsPositive 64) (IsPositive 64) KeptTemplate (Argument slot_text IsSlot slot_length) (all_of verb) (λ n w k. k) (λ p w k. template_text both p w k.0) o w h),
      all_within verb h.0 m.0 n.1 n.2 (tree_within slot_text IsSlot slot_length m.0 m.4.1 m.4.4),
    ) in
    subst (λ x. Good x (letters verb ++ (codes "All" ++ w))) (sym m.5.0) l

all_long : (verb : Verb) (w : List ℕ) → LongAll w → TooLongBehind (letters verb ++ (codes "All" ++ w))
all_long verb w (inl h) = absurd h.4
all_long verb w (inr h) = elim h.5 [
  | inl m ↦
      let a = h.4 in
      let l = m.4 in
      all_closed verb h.0 l.0 w (a.0, a.1, h.2, argued a.0 a.1 h.1 h.2 w h.3 a.2, a.3, a.4, (m.0, m.1, [], last_argued m.0 m.1 h.2 m.2, m.3, template_text both l.0 m.1 l.1, refl)) l.2
  | inr m ↦ absurd m.5
]

all_right : (verb : Verb) (bs : List ℕ) → RightTo (λ o w. Good o (letters verb ++ w)) (λ c w. Begins Limited c (letters verb ++ w)) (λ w. TooLongBehind (letters verb ++ w)) bs (all_line verb bs)
unfolding all_line
all_right verb bs =
    named_to Good Limited TooLongBehind (letters verb) (codes "All") (AllIs verb KeptTemplate) (λ c. AllIs verb (TemplateIs c)) LongAll (all_good verb) (all_limited verb) (all_long verb) (some_all verb)
    (λ behind. argument (positive 64) behind >>= λ n middle. argument template middle >>= λ p rest. ended (all_of verb n p) rest)
    (λ behind. argument_then (IsPositive 64) (λ c. IsPositive 64) Never some_count (λ c n w h. h) (λ n. Then KeptTemplate (λ p. IsDone (all_of verb n p))) (λ n c. Then (TemplateIs c) (λ p. IsDone (all_of verb n p))) (λ n. LongThen KeptTemplate LongTemplate (λ p. Never))
    (positive 64) (λ n middle. argument template middle >>= λ p rest. ended (all_of verb n p) rest) behind (λ n c. some_takes (all_of verb n) c) (λ rest. positive_right 64 rest (omega arith) (omega arith)) (λ n rest. template_last (all_of verb n) rest)) bs

-- cas: a template and a tuple
abbrev CasIs : (TemplateTree → List ℕ → Type 0) → (TupleTree → List ℕ → Type 0) → Operation → List ℕ → Type 0
CasIs P Q = Then P (λ p. Then Q (λ t. IsDone (cas p t)))

abbrev LongCas : List ℕ → Type 0
LongCas = LongThen KeptTemplate LongTemplate (λ p. LongThen KeptTuple LongTuple (λ t. Never))

some_last : (k : TupleTree → Operation) (c : Limits) → (o : Operation) × (w : List ℕ) × Then (TupleIs c) (λ t. IsDone (k t)) o w
some_last k c =
    some_then KeptTuple TupleIs LongTuple (some_tree datum_text IsDatum datum_length) (tree_weaker datum_text IsDatum datum_length) (λ t. IsDone (k t)) (λ t c. IsDone (k t)) (λ t. Never) c (λ t. (k t, [], (refl, tt)))

some_cas : (c : Limits) → (o : Operation) × (w : List ℕ) × CasIs (TemplateIs c) (TupleIs c) o w
some_cas c =
    some_then KeptTemplate TemplateIs LongTemplate (some_tree slot_text IsSlot slot_length) (tree_weaker slot_text IsSlot slot_length) (λ p. Then KeptTuple (λ t. IsDone (cas p t))) (λ p c. Then (TupleIs c) (λ t. IsDone (cas p t))) (λ p. LongThen KeptTuple LongTuple (λ t. Never)) c
    (λ p. some_last (cas p) c)

keeps_cas : (c : Limits) (p : TemplateTree) (t : TupleTree) → KeepsTree c p → KeepsTree c t → Keeps c (cas p t)
keeps_cas both p t h k = ((h.0, k.0), (h.1, k.1))
keeps_cas levels p t h k = (h, k)
keeps_cas no_limits p t h k = tt

cas_limited : (c : Limits) (o : Operation) (w : List ℕ) → CasIs (TemplateIs c) (TupleIs c) o w → Limited c o (codes "cas" ++ w)
cas_limited c o w h =
    let m = h.5 in
    let l : Limited c (cas h.0 m.0) (codes "cas" ++ w) = (
      (w, refl, two_text (TemplateIs c) (Argument slot_text IsSlot slot_length) (TupleIs c) (Argument datum_text IsDatum datum_length) cas (template_text c) (tuple_text c) o w h),
      keeps_cas c h.0 m.0 (template_keeps c h.0 h.4.1 h.4.4) (tuple_keeps c m.0 m.4.1 m.4.4),
    ) in
    subst (λ x. Limited c x (codes "cas" ++ w)) (sym m.5.0) l

cas_good : (o : Operation) (w : List ℕ) → CasIs KeptTemplate KeptTuple o w → Good o (codes "cas" ++ w)
cas_good o w h =
    let m = h.5 in
    let l : Good (cas h.0 m.0) (codes "cas" ++ w) = (
      (w, refl, two_text KeptTemplate (Argument slot_text IsSlot slot_length) KeptTuple (Argument datum_text IsDatum datum_length) cas (λ p w k. template_text both p w k.0) (λ t w k. tuple_text both t w k.0) o w h),
      (tree_within slot_text IsSlot slot_length h.0 h.4.1 h.4.4, tree_within datum_text IsDatum datum_length m.0 m.4.1 m.4.4),
    ) in
    subst (λ x. Good x (codes "cas" ++ w)) (sym m.5.0) l

cas_long : (w : List ℕ) → LongCas w → TooLongBehind (codes "cas" ++ w)
cas_long w (inl h) =
    let l = h.4 in
    (cas l.0 none, 0, w, refl, (h.0, h.1, [], last_argued h.0 h.1 w h.2, h.3, template_text both l.0 h.1 l.1, refl), omega arith, l.2)
cas_long w (inr h) = elim h.5 [
  | inl m ↦
      let a = h.4 in
      let l = m.4 in (
        cas h.0 l.0,
        1,
        w,
        refl,
        (a.0, a.1, h.2, argued a.0 a.1 h.1 h.2 w h.3 a.2, a.3, template_text both h.0 a.1 a.4.0, (m.0, m.1, [], last_argued m.0 m.1 h.2 m.2, m.3, tuple_text both l.0 m.1 l.1, refl)),
        omega arith,
        l.2,
      )
  | inr m ↦ absurd m.5
]

cas_right : (bs : List ℕ) → RightTo Good (Begins Limited) TooLongBehind bs (cas_line bs)
unfolding cas_line
cas_right bs =
    named_to Good Limited TooLongBehind [] (codes "cas") (CasIs KeptTemplate KeptTuple) (λ c. CasIs (TemplateIs c) (TupleIs c)) LongCas cas_good cas_limited cas_long some_cas
    (λ behind. argument template behind >>= λ p middle. argument tuple middle >>= λ t rest. ended (cas p t) rest)
    (λ behind. argument_then KeptTemplate TemplateIs LongTemplate (some_tree slot_text IsSlot slot_length) (tree_weaker slot_text IsSlot slot_length) (λ p. Then KeptTuple (λ t. IsDone (cas p t))) (λ p c. Then (TupleIs c) (λ t. IsDone (cas p t)))
    (λ p. LongThen KeptTuple LongTuple (λ t. Never)) template (λ p middle. argument tuple middle >>= λ t rest. ended (cas p t) rest) behind (λ p c. some_last (cas p) c) template_right (λ p rest. tuple_last (cas p) rest)) bs

-- upgrade: no argument
keeps_upgrade : (c : Limits) → Keeps c upgrade
keeps_upgrade both = (tt, tt)
keeps_upgrade levels = tt
keeps_upgrade no_limits = tt

upgrade_limited : (c : Limits) (o : Operation) (w : List ℕ) → IsDone upgrade o w → Limited c o (codes "upgrade" ++ w)
upgrade_limited c o w h =
    let l : Limited c upgrade (codes "upgrade" ++ w) = ((w, refl, h.1), keeps_upgrade c) in
    subst (λ x. Limited c x (codes "upgrade" ++ w)) (sym h.0) l

upgrade_good : (o : Operation) (w : List ℕ) → IsDone upgrade o w → Good o (codes "upgrade" ++ w)
upgrade_good o w h =
    let l : Good upgrade (codes "upgrade" ++ w) = ((w, refl, h.1), tt) in
    subst (λ x. Good x (codes "upgrade" ++ w)) (sym h.0) l

upgrade_right : (bs : List ℕ) → RightTo Good (Begins Limited) TooLongBehind bs (upgrade_line bs)
unfolding upgrade_line
upgrade_right bs =
    named_to Good Limited TooLongBehind [] (codes "upgrade") (IsDone upgrade) (λ c. IsDone upgrade) Never upgrade_good upgrade_limited (λ w d. absurd d) (λ c. (upgrade, [], (refl, tt)))
    (λ behind. ended upgrade behind) (λ rest. done_right upgrade rest) bs

-- the operations
some_verb : (verb : Verb) (c : Limits) → (o : Operation) × (w : List ℕ) × Limited c o (letters verb ++ w)
some_verb verb c = let s = some_takes (one_of verb) c in (s.0, codes "p" ++ s.1, one_limited verb c s.0 s.1 s.2)

-- By cases: only with the letters of one verb do both forms of Begins compute to the same.
behind_verb : (verb : Verb) (rest : List ℕ) → RightTo (λ o w. Good o (letters verb ++ w)) (Begins (λ c o w. Limited c o (letters verb ++ w))) (λ w. TooLongBehind (letters verb ++ w)) rest (look 112 (one_line verb) (all_line verb) rest)
behind_verb Rd = look_right (λ o w. Good o (codes "rd" ++ w)) (λ c w. Begins Limited c (codes "rd" ++ w)) (λ w. TooLongBehind (codes "rd" ++ w)) 112 (one_line Rd) (all_line Rd) (some_verb Rd both) (one_right Rd) (all_right Rd)
behind_verb In = look_right (λ o w. Good o (codes "in" ++ w)) (λ c w. Begins Limited c (codes "in" ++ w)) (λ w. TooLongBehind (codes "in" ++ w)) 112 (one_line In) (all_line In) (some_verb In both) (one_right In) (all_right In)

verb_right : (verb : Verb) (bs : List ℕ) → RightTo Good (Begins Limited) TooLongBehind bs (verb_line verb bs)
unfolding verb_line
verb_right verb bs =
    named_to Good Limited TooLongBehind [] (letters verb) (λ o w. Good o (letters verb ++ w)) (λ c o w. Limited c o (letters verb ++ w)) (λ w. TooLongBehind (letters verb ++ w)) (λ o w h. h) (λ c o w h. h) (λ w d. d) (some_verb verb)
    (λ rest. look 112 (one_line verb) (all_line verb) rest) (behind_verb verb) bs

some_line : (c : Limits) → (o : Operation) × (w : List ℕ) × Limited c o w
some_line c = let s = some_out c in (s.0, codes "out" ++ s.1, out_limited c s.0 s.1 s.2)

operation_right : (bs : List ℕ) → RightTo Good (Begins Limited) TooLongBehind bs (operation bs)
unfolding operation
operation_right bs =
    look_right Good (Begins Limited) TooLongBehind 111 out_line (look 114 (verb_line Rd) (look 105 (verb_line In) (look 99 cas_line (look 117 upgrade_line nothing)))) (some_line both) out_right
    (look_right Good (Begins Limited) TooLongBehind 114 (verb_line Rd) (look 105 (verb_line In) (look 99 cas_line (look 117 upgrade_line nothing))) (some_line both) (verb_right Rd)
    (look_right Good (Begins Limited) TooLongBehind 105 (verb_line In) (look 99 cas_line (look 117 upgrade_line nothing)) (some_line both) (verb_right In)
    (look_right Good (Begins Limited) TooLongBehind 99 cas_line (look 117 upgrade_line nothing) (some_line both) cas_right
    (look_right Good (Begins Limited) TooLongBehind 117 upgrade_line nothing (some_line both) upgrade_right (nothing_right Good (Begins Limited) TooLongBehind (some_line both)))))) bs

-- the line of an operation, and one that keeps the limits c
abbrev pub GoodLine : Operation → List ℕ → Type 0
GoodLine o w = LineText o w × IsOperation o

abbrev pub LimitedLine : Limits → Operation → List ℕ → Type 0
LimitedLine c o w = LineText o w × Keeps c o

lined : (o : Operation) (lead w : List ℕ) → AreBlanks lead → Named o w → LineText o (lead ++ w)
lined o lead w b h = (lead, h.0, ap (λ s. lead ++ s) h.1, b, h.2)

long_line : (lead w : List ℕ) → AreBlanks lead → TooLongBehind w → EndsTooLong (lead ++ w)
long_line lead w b h = record { o = h.0; k = h.1; lead = lead; rest = h.2; whole = ap (λ s. lead ++ s) h.3; blanks = b; closed = h.4; last = h.5; long = h.6 }

pub line_right : (bs : List ℕ) → RightTo GoodLine (Begins LimitedLine) EndsTooLong bs (line bs)
unfolding line
line_right bs =
    then_to (ArePassed true) BeginsBlanks Never (λ _. Good) (λ _. Begins Limited) (λ _. TooLongBehind) GoodLine (Begins LimitedLine) EndsTooLong bs (blanks true bs) (λ _ rest. operation rest)
    (λ c w h. let s = some_line c in (s.0, s.1, (lined s.0 w s.1 h s.2.0, s.2.1)))
    (λ w d. absurd d)
    (λ _ front h o w k. (lined o front w h.0 k.0, k.1))
    (λ _ front h c w k. (k.0, k.1, (subst (LineText k.0) (sym (append_assoc front w k.1)) (lined k.0 front (w ++ k.1) h.0 k.2.0), k.2.1)))
    (λ _ front h w d. long_line front w h.0 d)
    (blanks_right true bs) (λ _ rest. operation_right rest)
