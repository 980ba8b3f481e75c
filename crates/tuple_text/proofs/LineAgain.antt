-- Reading the line of an operation again.
use Rattle.std.proofs.Common.{◌≡◌, ℕ, zero, suc, ◌+◌, ◌<◌, ◌≤◌, nat_le, Bool, true, false, cond, List, [], ◌∷◌, ◌++◌}
use Rattle.std.proofs.Common.{length, take, Some, None, refl, ap, sym, subst, ◌∙◌, append_assoc, append-nil, arith, ◌⊎◌}
use Rattle.std.proofs.Common.{inl, inr, length-append}
use Rattle.std.specs.Prelude.{slice_index}
use Rattle.std.proofs.lemmas.Bool.{leb-true, leb-false, ne_eqb}
use Rattle.tuple_tree.specs.Items.{Items, levels_of, whole_length}
use Rattle.tuple_tree.specs.Limits.{IsWithin}
use Rattle.tuple_tree.specs.Values.{datum_length, slot_length, IsDatum, IsSlot, TupleTree, TemplateTree}
use Rattle.tuple_codec.specs.Operations.{Operation, out, rdp, inp, cas, rd_all, in_all, upgrade, IsOperation}
use Rattle.tuple_text.specs.Texts.{AreBlanks, IsGap, WholeText, datum_text, slot_text}
use Rattle.tuple_text.specs.Lines.{EachLeaf, LineText, TupleArgument, TemplateArgument, CountArgument, ArgumentsText}
use Rattle.tuple_text.specs.Lines.{arguments, operation_name}
use Rattle.tuple_text.specs.Faults.{KeepsCount, KeepsLevels, KeepsCounts, EndsTooLong, ArgumentsClosed}
use Rattle.tuple_text.specs.Faults.{argument_lengths}
use Rattle.tuple_text.specs.Reading.{Read, got, stop, Reading, ◌>>=◌, positive, kept, no_room, datum, slot}
use Rattle.tuple_text.specs.Reading.{begins_datum, begins_slot, close, tuple, template, argument, ended, out_line}
use Rattle.tuple_text.specs.Reading.{cas_line, upgrade_line, one_line, all_line, verb_line, operation, line}
use Rattle.tuple_text.specs.declared.reader.Stop.{Stop}
use Rattle.tuple_text.specs.declared.reader.Stop.TheVariants.{BadByte, TooDeep, TooManyFields, TooLong, NoMemory}
use Rattle.tuple_text.proofs.Blanks.{NoBlank, blanks_again, gap_again, ending_again}
use Rattle.tuple_text.proofs.Numbers.{NoDigit, is_digit, positive_again, head_of}
use Rattle.tuple_text.proofs.Levels.{Exceed, are_counted}
use Rattle.tuple_text.proofs.Leaves.{EndsItem, datum_head, datum_again, slot_head, slot_again}
use Rattle.tuple_text.proofs.Plain.{plain_item, plain_whole, whole_seen}
use Rattle.tuple_text.proofs.Again.{AgainAs, again_got, then_again, then_into, step_again, list_into, list_again}
use Rattle.tuple_text.proofs.Again.{item_head, item_again}

-- the limits that a tree passes
abbrev pub TreeExceeds : {L : Type 0} → (L → ℕ) → Items L → Stop → Type 0
TreeExceeds length_of t BadByte = ⊥
TreeExceeds length_of t TooDeep = 8 < levels_of t
TreeExceeds length_of t TooManyFields = KeepsCount t → ⊥
TreeExceeds length_of t TooLong = 1024 < whole_length length_of t
TreeExceeds length_of t NoMemory = ⊥

-- a reading that stops with more than u left
abbrev pub StopsBefore : {V : Type 0} → List ℕ → Read V → Type 0
StopsBefore u (got v rest) = ⊥
StopsBefore u (stop s rest) = length u < length rest

stops_then : {V W : Type 0} → (u : List ℕ) (x : Read V) (f : V → Reading W) → StopsBefore u x → StopsBefore u (x >>= f)
stops_then u (got v rest) f h = absurd h
stops_then u (stop s rest) f h = h

module _ {L : Type 0} (leaf_text : L → List ℕ) (IsLeaf : L → Type 0) (begins : ℕ → Bool) (leaf_at : Reading L)
    (leaf_head : (x : L) → IsLeaf x → (b : ℕ) × (t : List ℕ) × (leaf_text x ≡ b ∷ t) × (begins b ≡ true))
    (leaf_again : (x : L) (u : List ℕ) → IsLeaf x → EndsItem u → leaf_at (leaf_text x ++ u) ≡ got x u)
    (no_blank : begins 32 ≡ false) (no_open : begins 40 ≡ false) (no_close : begins 41 ≡ false) (length_of : L → ℕ) where
  exceeds : (t : Items L) (s : Stop) → Exceed 7 32 t s → TreeExceeds length_of t s
  exceeds t BadByte h = h
  exceeds t TooDeep h = omega (arith, h)
  exceeds t TooManyFields h = λ k. h k.0 k.1
  exceeds t TooLong h = absurd h
  exceeds t NoMemory h = h

  close_again : (t : Items L) (u : List ℕ) (r : Bool) → nat_le (whole_length length_of t) 1024 ≡ r → AgainAs (TreeExceeds length_of t) t u (close length_of begins leaf_at (cond r (Some t) None) (41 ∷ u))
  unfolding close
  close_again t u true e = (refl, refl)
  close_again t u false e = (leb-false _ _ e, omega arith)

  close_stops : (t : Items L) (u : List ℕ) (r : Bool) → nat_le (whole_length length_of t) 1024 ≡ r → 1024 < whole_length length_of t → StopsBefore u (close length_of begins leaf_at (cond r (Some t) None) (41 ∷ u))
  unfolding close
  close_stops t u true e h = absurd (let g : whole_length length_of t ≤ 1024 = leb-true _ _ e in omega (arith, g, h))
  close_stops t u false e h = omega arith

  pub whole_again : (t : Items L) (w u : List ℕ) → EachLeaf IsLeaf t → WholeText leaf_text t w → AgainAs (TreeExceeds length_of t) t u (plain_whole length_of begins leaf_at (w ++ u))
  whole_again t w u p h =
      list_again leaf_text IsLeaf 7 (no_room begins 7) (plain_item begins leaf_at 7) (item_head leaf_text IsLeaf begins leaf_at leaf_head leaf_again no_blank no_open no_close 7) (item_again leaf_text IsLeaf begins leaf_at leaf_head leaf_again no_blank no_open no_close 7)
      (TreeExceeds length_of t) t t w u (λ t at. close length_of begins leaf_at (kept length_of t) at) (exceeds t) p h (close_again t u (nat_le (whole_length length_of t) 1024) refl)

  -- If a list has too many bytes, reading stops at the latest at its closing parenthesis.
  pub whole_stops : (t : Items L) (w u : List ℕ) → EachLeaf IsLeaf t → WholeText leaf_text t w → 1024 < whole_length length_of t → StopsBefore u (plain_whole length_of begins leaf_at (w ++ u))
  whole_stops t w u p h l =
      list_into leaf_text IsLeaf 7 (no_room begins 7) (plain_item begins leaf_at 7) (item_head leaf_text IsLeaf begins leaf_at leaf_head leaf_again no_blank no_open no_close 7) (item_again leaf_text IsLeaf begins leaf_at leaf_head leaf_again no_blank no_open no_close 7)
      (StopsBefore u) t w u (λ t at. close length_of begins leaf_at (kept length_of t) at) (λ s rest e m. omega (arith, m)) p h (close_stops t u (nat_le (whole_length length_of t) 1024) refl l)

-- A gap and an argument, whatever follows.
gap_first : {V : Type 0} → (one : Reading V) (space front u : List ℕ) → IsGap space → NoBlank (front ++ u) → argument one (space ++ (front ++ u)) ≡ one (front ++ u)
unfolding argument
gap_first one space front u g h = ap (λ y. y >>= λ _ rest. one rest) (gap_again space (front ++ u) g h)

no_blank : (front body u : List ℕ) → front ≡ 40 ∷ body → NoBlank (front ++ u)
no_blank front body u e = subst NoBlank (sym (ap (λ t. t ++ u) e)) refl

tuple_first : (t : TupleTree) (space front u : List ℕ) → IsGap space → TupleArgument t front → argument tuple (space ++ (front ++ u)) ≡ plain_whole datum_length begins_datum datum (front ++ u)
tuple_first t space front u g h = gap_first tuple space front u g (no_blank front (h.0.0 ++ 41 ∷ []) u h.0.1) ∙ whole_seen datum_length begins_datum datum (front ++ u)

template_first : (p : TemplateTree) (space front u : List ℕ) → IsGap space → TemplateArgument p front → argument template (space ++ (front ++ u)) ≡ plain_whole slot_length begins_slot slot (front ++ u)
template_first p space front u g h = gap_first template space front u g (no_blank front (h.0.0 ++ 41 ∷ []) u h.0.1) ∙ whole_seen slot_length begins_slot slot (front ++ u)

tuple_again : (t : TupleTree) (space front u : List ℕ) → IsGap space → TupleArgument t front → AgainAs (TreeExceeds datum_length t) t u (argument tuple (space ++ (front ++ u)))
tuple_again t space front u g h =
    subst (AgainAs (TreeExceeds datum_length t) t u) (sym (tuple_first t space front u g h))
    (whole_again datum_text IsDatum begins_datum datum datum_head datum_again refl refl refl datum_length t front u h.1 h.0)

template_again : (p : TemplateTree) (space front u : List ℕ) → IsGap space → TemplateArgument p front → AgainAs (TreeExceeds slot_length p) p u (argument template (space ++ (front ++ u)))
template_again p space front u g h =
    subst (AgainAs (TreeExceeds slot_length p) p u) (sym (template_first p space front u g h))
    (whole_again slot_text IsSlot begins_slot slot slot_head slot_again refl refl refl slot_length p front u h.1 h.0)

tuple_stops : (t : TupleTree) (space front u : List ℕ) → IsGap space → TupleArgument t front → 1024 < whole_length datum_length t → StopsBefore u (argument tuple (space ++ (front ++ u)))
tuple_stops t space front u g h l =
    subst (StopsBefore u) (sym (tuple_first t space front u g h))
    (whole_stops datum_text IsDatum begins_datum datum datum_head datum_again refl refl refl datum_length t front u h.1 h.0 l)

template_stops : (p : TemplateTree) (space front u : List ℕ) → IsGap space → TemplateArgument p front → 1024 < whole_length slot_length p → StopsBefore u (argument template (space ++ (front ++ u)))
template_stops p space front u g h l =
    subst (StopsBefore u) (sym (template_first p space front u g h))
    (whole_stops slot_text IsSlot begins_slot slot slot_head slot_again refl refl refl slot_length p front u h.1 h.0 l)

gap_no_digit : (space front : List ℕ) → IsGap space → NoDigit (space ++ front)
gap_no_digit [] front h = absurd (let p : 0 < 0 = h.0 in omega arith)
gap_no_digit (b ∷ space) front h = ap is_digit h.1.0

count_again : (n : ℕ) (space front u : List ℕ) → IsGap space → CountArgument n front → NoDigit u → argument (positive 64) (space ++ (front ++ u)) ≡ got n u
count_again n space front u g h d =
    let k = head_of n (omega (arith, h.1, h.2)) h.1 in
    let e : front ≡ k.0 ∷ k.1 = h.0 ∙ k.2 in
    gap_first (positive 64) space front u g (subst NoBlank (sym (ap (λ t. t ++ u) e)) (ne_eqb k.0 32 (λ q. let r = k.3 in omega (arith, r, q))))
    ∙ ap (λ t. positive 64 (t ++ u)) h.0 ∙ positive_again 64 n u h.1 h.2 (omega arith) d

-- the limits that an operation's arguments pass
abbrev pub Exceeds : Operation → Stop → Type 0
Exceeds (out t) s = TreeExceeds datum_length t s
Exceeds (rdp p) s = TreeExceeds slot_length p s
Exceeds (inp p) s = TreeExceeds slot_length p s
Exceeds (cas p t) s = TreeExceeds slot_length p s ⊎ TreeExceeds datum_length t s
Exceeds (rd_all n p) s = TreeExceeds slot_length p s
Exceeds (in_all n p) s = TreeExceeds slot_length p s
Exceeds upgrade s = ⊥

either : {A B : Type 0} → (A → ⊥) → (B → ⊥) → A ⊎ B → ⊥
either f g (inl a) = f a
either f g (inr b) = g b

pub never_bad : (o : Operation) → Exceeds o BadByte → ⊥
never_bad (out t) h = h
never_bad (rdp p) h = h
never_bad (inp p) h = h
never_bad (cas p t) h = either (λ e. e) (λ e. e) h
never_bad (rd_all n p) h = h
never_bad (in_all n p) h = h
never_bad upgrade h = h

pub keeps_counts : (o : Operation) → KeepsCounts o → Exceeds o TooManyFields → ⊥
keeps_counts (out t) k h = h k
keeps_counts (rdp p) k h = h k
keeps_counts (inp p) k h = h k
keeps_counts (cas p t) k h = either (λ e. e k.0) (λ e. e k.1) h
keeps_counts (rd_all n p) k h = h k
keeps_counts (in_all n p) k h = h k
keeps_counts upgrade k h = h

deep_no : {L : Type 0} → (t : Items L) → levels_of t ≤ 8 → 8 < levels_of t → ⊥
deep_no t k h = omega (arith, k, h)

pub keeps_levels : (o : Operation) → KeepsLevels o → Exceeds o TooDeep → ⊥
keeps_levels (out t) k h = deep_no t k h
keeps_levels (rdp p) k h = deep_no p k h
keeps_levels (inp p) k h = deep_no p k h
keeps_levels (cas p t) k h = either (deep_no p k.0) (deep_no t k.1) h
keeps_levels (rd_all n p) k h = deep_no p k h
keeps_levels (in_all n p) k h = deep_no p k h
keeps_levels upgrade k h = h

within_tree : {L : Type 0} → (IsLeaf : L → Type 0) (length_of : L → ℕ) (t : Items L) (s : Stop) → IsWithin IsLeaf length_of t → TreeExceeds length_of t s → ⊥
within_tree IsLeaf length_of t BadByte w h = h
within_tree IsLeaf length_of t TooDeep w h = deep_no t w.levels h
within_tree IsLeaf length_of t TooManyFields w h = h (w.fields, are_counted IsLeaf t w.each)
within_tree IsLeaf length_of t TooLong w h = let l = w.length in omega (arith, l, h)
within_tree IsLeaf length_of t NoMemory w h = h

pub within_exceeds : (o : Operation) (s : Stop) → IsOperation o → Exceeds o s → ⊥
within_exceeds (out t) s w h = within_tree IsDatum datum_length t s w h
within_exceeds (rdp p) s w h = within_tree IsSlot slot_length p s w h
within_exceeds (inp p) s w h = within_tree IsSlot slot_length p s w h
within_exceeds (cas p t) s w h = either (within_tree IsSlot slot_length p s w.0) (within_tree IsDatum datum_length t s w.1) h
within_exceeds (rd_all n p) s w h = within_tree IsSlot slot_length p s w.2 h
within_exceeds (in_all n p) s w h = within_tree IsSlot slot_length p s w.2 h
within_exceeds upgrade s w h = h

-- the reader after a name
abbrev out_rest : Reading Operation
out_rest bs = argument tuple bs >>= λ t rest. ended (out t) rest

abbrev takes_rest : (TemplateTree → Operation) → Reading Operation
takes_rest k bs = argument template bs >>= λ p rest. ended (k p) rest

abbrev cas_rest : Reading Operation
cas_rest bs = argument template bs >>= λ p middle. argument tuple middle >>= λ t rest. ended (cas p t) rest

abbrev all_rest : (ℕ → TemplateTree → Operation) → Reading Operation
all_rest k bs = argument (positive 64) bs >>= λ n middle. argument template middle >>= λ p rest. ended (k n p) rest

abbrev rest_of : Operation → Reading Operation
rest_of (out t) = out_rest
rest_of (rdp p) = takes_rest rdp
rest_of (inp p) = takes_rest inp
rest_of (cas p t) = cas_rest
rest_of (rd_all n p) = all_rest rd_all
rest_of (in_all n p) = all_rest in_all
rest_of upgrade = ended upgrade

named_front : (o : Operation) (behind : List ℕ) → operation (operation_name o ++ behind) ≡ rest_of o behind
unfolding operation out_line verb_line one_line all_line cas_line upgrade_line
named_front (out t) behind = refl
named_front (rdp p) behind = refl
named_front (inp p) behind = refl
named_front (cas p t) behind = refl
named_front (rd_all n p) behind = refl
named_front (in_all n p) behind = refl
named_front upgrade behind = refl

no_blank_name : (o : Operation) (behind : List ℕ) → NoBlank (operation_name o ++ behind)
no_blank_name (out t) behind = refl
no_blank_name (rdp p) behind = refl
no_blank_name (inp p) behind = refl
no_blank_name (cas p t) behind = refl
no_blank_name (rd_all n p) behind = refl
no_blank_name (in_all n p) behind = refl
no_blank_name upgrade behind = refl

line_front : (o : Operation) (lead behind : List ℕ) → AreBlanks lead → line (lead ++ (operation_name o ++ behind)) ≡ rest_of o behind
unfolding line
line_front o lead behind h = ap (λ y. y >>= λ _ rest. operation rest) (blanks_again true lead (operation_name o ++ behind) h (no_blank_name o behind)) ∙ named_front o behind

ended_again : (o : Operation) (w : List ℕ) → AreBlanks w → ended o w ≡ got o []
unfolding ended
ended_again o w h = ap (λ y. y >>= λ _ rest. got o rest) (ending_again w h)

out_again : (t : TupleTree) (E : Stop → Type 0) (k : TupleTree → Operation) (w : List ℕ) → ((s : Stop) → TreeExceeds datum_length t s → E s) → ArgumentsText (TupleArgument t ∷ []) w → AgainAs E (k t) [] (argument tuple w >>= λ t rest. ended (k t) rest)
out_again t E k w f a =
    subst (λ s. AgainAs E (k t) [] (argument tuple s >>= λ t rest. ended (k t) rest)) (sym a.3)
    (then_again (TreeExceeds datum_length t) E t a.2 (k t) [] (argument tuple (a.0 ++ (a.1 ++ a.2))) (λ t rest. ended (k t) rest) f (omega arith)
    (tuple_again t a.0 a.1 a.2 a.4 a.5) (again_got E (k t) [] (ended (k t) a.2) (ended_again (k t) a.2 a.6)))

takes_again : (p : TemplateTree) (k : TemplateTree → Operation) (w : List ℕ) → ArgumentsText (TemplateArgument p ∷ []) w → AgainAs (TreeExceeds slot_length p) (k p) [] (takes_rest k w)
takes_again p k w a =
    subst (λ s. AgainAs (TreeExceeds slot_length p) (k p) [] (takes_rest k s)) (sym a.3)
    (then_again (TreeExceeds slot_length p) (TreeExceeds slot_length p) p a.2 (k p) [] (argument template (a.0 ++ (a.1 ++ a.2))) (λ p rest. ended (k p) rest) (λ s e. e) (omega arith)
    (template_again p a.0 a.1 a.2 a.4 a.5) (again_got (TreeExceeds slot_length p) (k p) [] (ended (k p) a.2) (ended_again (k p) a.2 a.6)))

cas_again : (p : TemplateTree) (t : TupleTree) (w : List ℕ) → ArgumentsText (TemplateArgument p ∷ TupleArgument t ∷ []) w → AgainAs (Exceeds (cas p t)) (cas p t) [] (cas_rest w)
cas_again p t w a =
    subst (λ s. AgainAs (Exceeds (cas p t)) (cas p t) [] (cas_rest s)) (sym a.3)
    (then_again (TreeExceeds slot_length p) (Exceeds (cas p t)) p a.2 (cas p t) [] (argument template (a.0 ++ (a.1 ++ a.2))) (λ p middle. argument tuple middle >>= λ t rest. ended (cas p t) rest) (λ s e. inl e) (omega arith)
    (template_again p a.0 a.1 a.2 a.4 a.5) (out_again t (Exceeds (cas p t)) (cas p) a.2 (λ s e. inr e) a.6))

all_again : (n : ℕ) (p : TemplateTree) (k : ℕ → TemplateTree → Operation) (w : List ℕ) → ArgumentsText (CountArgument n ∷ TemplateArgument p ∷ []) w → AgainAs (TreeExceeds slot_length p) (k n p) [] (all_rest k w)
all_again n p k w a =
    let b = a.6 in
    let d : NoDigit a.2 = subst NoDigit (sym b.3) (gap_no_digit b.0 (b.1 ++ b.2) b.4) in
    subst (λ s. AgainAs (TreeExceeds slot_length p) (k n p) [] (all_rest k s)) (sym a.3)
    (step_again (TreeExceeds slot_length p) n a.2 (k n p) [] (argument (positive 64) (a.0 ++ (a.1 ++ a.2))) (λ n middle. argument template middle >>= λ p rest. ended (k n p) rest)
    (count_again n a.0 a.1 a.2 a.4 a.5 d) (takes_again p (k n) a.2 b))

rest_again : (o : Operation) (w : List ℕ) → ArgumentsText (arguments o) w → AgainAs (Exceeds o) o [] (rest_of o w)
rest_again (out t) w a = out_again t (TreeExceeds datum_length t) out w (λ s e. e) a
rest_again (rdp p) w a = takes_again p rdp w a
rest_again (inp p) w a = takes_again p inp w a
rest_again (cas p t) w a = cas_again p t w a
rest_again (rd_all n p) w a = all_again n p rd_all w a
rest_again (in_all n p) w a = all_again n p in_all w a
rest_again upgrade w a = again_got (Exceeds upgrade) upgrade [] (ended upgrade w) (ended_again upgrade w a)

pub line_again : (o : Operation) (bs : List ℕ) → LineText o bs → AgainAs (Exceeds o) o [] (line bs)
line_again o bs h = subst (AgainAs (Exceeds o) o []) (sym (ap line h.2 ∙ line_front o h.0 h.1 h.3)) (rest_again o h.1 h.4)

-- After the last argument is closed, u is left.
closed_one : (space front last rest u : List ℕ) → rest ≡ space ++ (front ++ last) → last ≡ [] → rest ++ u ≡ space ++ (front ++ u)
closed_one space front last rest u e f =
    ap (λ s. s ++ u) (e ∙ ap (λ s. space ++ (front ++ s)) f ∙ ap (λ s. space ++ s) (append-nil front)) ∙ append_assoc space front u

closed_first : (space front middle rest u : List ℕ) → rest ≡ space ++ (front ++ middle) → rest ++ u ≡ space ++ (front ++ (middle ++ u))
closed_first space front middle rest u e = ap (λ s. s ++ u) e ∙ append_assoc space (front ++ middle) u ∙ ap (λ s. space ++ s) (append_assoc front middle u)

tuple_closes : (t : TupleTree) (k : TupleTree → Operation) (w u : List ℕ) → ArgumentsClosed (TupleArgument t ∷ []) w → 1024 < whole_length datum_length t → StopsBefore u (argument tuple (w ++ u) >>= λ t rest. ended (k t) rest)
tuple_closes t k w u a l =
    subst (λ s. StopsBefore u (argument tuple s >>= λ t rest. ended (k t) rest)) (sym (closed_one a.0 a.1 a.2 w u a.3 a.6))
    (stops_then u (argument tuple (a.0 ++ (a.1 ++ u))) (λ t rest. ended (k t) rest) (tuple_stops t a.0 a.1 u a.4 a.5 l))

template_closes : {W : Type 0} → (p : TemplateTree) (f : TemplateTree → Reading W) (w u : List ℕ) → ArgumentsClosed (TemplateArgument p ∷ []) w → 1024 < whole_length slot_length p → StopsBefore u (argument template (w ++ u) >>= f)
template_closes p f w u a l =
    subst (λ s. StopsBefore u (argument template s >>= f)) (sym (closed_one a.0 a.1 a.2 w u a.3 a.6))
    (stops_then u (argument template (a.0 ++ (a.1 ++ u))) f (template_stops p a.0 a.1 u a.4 a.5 l))

cas_closes : (p : TemplateTree) (t : TupleTree) (w u : List ℕ) → ArgumentsClosed (TemplateArgument p ∷ TupleArgument t ∷ []) w → 1024 < whole_length datum_length t → StopsBefore u (cas_rest (w ++ u))
cas_closes p t w u a l =
    subst (λ s. StopsBefore u (cas_rest s)) (sym (closed_first a.0 a.1 a.2 w u a.3))
    (then_into (StopsBefore u) (TreeExceeds slot_length p) p (a.2 ++ u) (argument template (a.0 ++ (a.1 ++ (a.2 ++ u)))) (λ p middle. argument tuple middle >>= λ t rest. ended (cas p t) rest)
    (λ s rest e m. omega (arith, m, length-append a.2 u)) (template_again p a.0 a.1 (a.2 ++ u) a.4 a.5) (tuple_closes t (cas p) a.2 u a.6 l))

closed_no_digit : (p : TemplateTree) (w u : List ℕ) → ArgumentsClosed (TemplateArgument p ∷ []) w → NoDigit (w ++ u)
closed_no_digit p w u a = subst NoDigit (sym (closed_one a.0 a.1 a.2 w u a.3 a.6)) (gap_no_digit a.0 (a.1 ++ u) a.4)

all_closes : (n : ℕ) (p : TemplateTree) (k : ℕ → TemplateTree → Operation) (w u : List ℕ) → ArgumentsClosed (CountArgument n ∷ TemplateArgument p ∷ []) w → 1024 < whole_length slot_length p → StopsBefore u (all_rest k (w ++ u))
all_closes n p k w u a l =
    subst (λ s. StopsBefore u (all_rest k s)) (sym (closed_first a.0 a.1 a.2 w u a.3))
    (subst (λ y. StopsBefore u (y >>= λ n middle. argument template middle >>= λ p rest. ended (k n p) rest)) (sym (count_again n a.0 a.1 (a.2 ++ u) a.4 a.5 (closed_no_digit p a.2 u a.6)))
    (template_closes p (λ p rest. ended (k n p) rest) a.2 u a.6 l))

rest_stops : (o : Operation) (k : ℕ) (w u : List ℕ) → k < length (arguments o) → ArgumentsClosed (take (k + 1) (arguments o)) w → 1024 < slice_index (argument_lengths o) k → StopsBefore u (rest_of o (w ++ u))
rest_stops (out t) zero w u n h l = tuple_closes t out w u h l
rest_stops (out t) (suc k) w u n h l = absurd (omega (arith, n))
rest_stops (rdp p) zero w u n h l = template_closes p (λ p rest. ended (rdp p) rest) w u h l
rest_stops (rdp p) (suc k) w u n h l = absurd (omega (arith, n))
rest_stops (inp p) zero w u n h l = template_closes p (λ p rest. ended (inp p) rest) w u h l
rest_stops (inp p) (suc k) w u n h l = absurd (omega (arith, n))
rest_stops (cas p t) zero w u n h l = template_closes p (λ p middle. argument tuple middle >>= λ t rest. ended (cas p t) rest) w u h l
rest_stops (cas p t) (suc zero) w u n h l = cas_closes p t w u h l
rest_stops (cas p t) (suc (suc k)) w u n h l = absurd (omega (arith, n))
rest_stops (rd_all m p) zero w u n h l = absurd (omega (arith, l))
rest_stops (rd_all m p) (suc zero) w u n h l = all_closes m p rd_all w u h l
rest_stops (rd_all m p) (suc (suc k)) w u n h l = absurd (omega (arith, n))
rest_stops (in_all m p) zero w u n h l = absurd (omega (arith, l))
rest_stops (in_all m p) (suc zero) w u n h l = all_closes m p in_all w u h l
rest_stops (in_all m p) (suc (suc k)) w u n h l = absurd (omega (arith, n))
rest_stops upgrade k w u n h l = absurd (omega (arith, n))

pub too_long_stops : (bs u : List ℕ) → EndsTooLong bs → StopsBefore u (line (bs ++ u))
too_long_stops bs u h =
    let e : bs ++ u ≡ h.lead ++ (operation_name h.o ++ (h.rest ++ u)) = ap (λ s. s ++ u) h.whole ∙ append_assoc h.lead (operation_name h.o ++ h.rest) u ∙ ap (λ s. h.lead ++ s) (append_assoc (operation_name h.o) h.rest u) in
    subst (StopsBefore u) (sym (ap line e ∙ line_front h.o h.lead (h.rest ++ u) h.blanks)) (rest_stops h.o h.k h.rest u h.last h.closed h.long)
