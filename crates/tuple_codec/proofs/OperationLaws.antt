-- Operations and outcomes at the front of bytes.
use Rattle.std.proofs.Common.{◌≡◌, ℕ, suc, ◌≤◌, false, ◌&&◌, cond, List, [], ◌∷◌, ◌++◌, length, Some, None, ap, sym}
use Rattle.std.proofs.Common.{refl, ◌∙◌, arith, append_assoc, append-nil, length-append}
use Rattle.std.proofs.lemmas.Bool.{leb-true, le-leb, and_parts, and_from, ltb-false, le-ltb}
use lib.Dec.{leb, ltb}
use Rattle.tuple_tree.specs.Values.{TupleTree, TemplateTree, IsTuple, IsTemplate}
use Rattle.tuple_codec.specs.Operations.{Operation, out, rdp, inp, cas, rd_all, in_all, upgrade, IsCounted, IsOperation}
use Rattle.tuple_codec.specs.Operations.{AreTuples, Outcome, done, found, absent, swapped, all, full, refused}
use Rattle.tuple_codec.specs.Operations.{IsOutcome}
use Rattle.tuple_tree.specs.Reading.{◌>>=◌, read_as, unknown, more, byte_at, flag_at, tuple_at, template_at}
use Rattle.tuple_codec.specs.Reading.{cas_at, counted_template_at, operation_rows, operation_behind, operation_at}
use Rattle.tuple_codec.specs.Reading.{with_last_tuple, tuples_at, outcome_rows, outcome_behind, outcome_at}
use Rattle.tuple_tree.specs.Spelling.{flag, tuple_spelling, template_spelling}
use Rattle.tuple_codec.specs.Spelling.{counted_spelling, operation_spelling, tuples_spelling, outcome_spelling}
use Rattle.tuple_tree.proofs.Readers.{Found, FoundBehind, bind_some, parts, guard_holds, guard_fails, moved, byte_found}
use Rattle.tuple_tree.proofs.Readers.{as_found, as_again, tag_found, behind_found, RowsFound, ◌⨾◌, found_by_table}
use Rattle.tuple_tree.proofs.Readers.{unknown_found, Grows, more_found}
use Rattle.tuple_tree.proofs.Numbers.{flag_found, flag_again}
use Rattle.tuple_codec.proofs.Grammar.{Reads, tuple_reads, template_reads}

cas_found : FoundBehind 0x24 IsOperation operation_spelling cas_at
unfolding cas_at
cas_found bs rest v h e =
    let k = bind_some (template_at bs) (λ p. read_as (cas p.0) tuple_at p.1) (v, rest) e in
    let a = template_reads.found bs k.0.1 k.0.0 h k.1 in
    let m = bind_some (tuple_at k.0.1) (λ t. Some (cas k.0.0 t.0, t.1)) (v, rest) k.2 in
    let b = tuple_reads.found k.0.1 m.0.1 m.0.0 a.0.bytes m.1 in
    let p = parts m.2 in
    moved IsOperation operation_spelling (0x24 ∷ bs)
    (record { whole = ap (λ xs. 0x24 ∷ xs) (a.0.whole ∙ ap (λ xs. template_spelling k.0.0 ++ xs) b.0.whole ∙ sym (append_assoc (template_spelling k.0.0) (tuple_spelling m.0.0) m.0.1)); bytes = b.0.bytes }, (a.1, b.1)) p.0 p.1

cas_again : (p : TemplateTree) (t : TupleTree) (rest : List ℕ) → IsTemplate p → IsTuple t → cas_at ((template_spelling p ++ tuple_spelling t) ++ rest) ≡ Some (cas p t, rest)
unfolding cas_at
cas_again p t rest h k =
    ap (λ bs. template_at bs >>= λ p. read_as (cas p.0) tuple_at p.1) (append_assoc (template_spelling p) (tuple_spelling t) rest)
    ∙ ap (λ o. o >>= λ p. read_as (cas p.0) tuple_at p.1) (template_reads.again p (tuple_spelling t ++ rest) h)
    ∙ as_again (cas p) tuple_at _ rest t (tuple_reads.again t rest k)

counted_found : Found (λ x. IsCounted x.0 x.1) counted_spelling counted_template_at
unfolding counted_template_at
counted_found bs rest v h e =
    let k = bind_some (byte_at bs) (λ n. cond (leb 1 n.0 && leb n.0 64) (read_as (λ p. (n.0, p)) template_at n.1) None) (v, rest) e in
    let a = byte_found bs k.0.1 k.0.0 h k.1 in
    let g = guard_holds (leb 1 k.0.0 && leb k.0.0 64) (read_as (λ p. (k.0.0, p)) template_at k.0.1) (v, rest) k.2 in
    let l = and_parts (leb 1 k.0.0) (leb k.0.0 64) g.0 in
    let m = bind_some (template_at k.0.1) (λ t. Some ((k.0.0, t.0), t.1)) (v, rest) g.1 in
    let b = template_reads.found k.0.1 m.0.1 m.0.0 a.0.bytes m.1 in
    let p = parts m.2 in
    moved (λ x. IsCounted x.0 x.1) counted_spelling bs
    (record { whole = a.0.whole ∙ ap (λ xs. k.0.0 ∷ xs) b.0.whole; bytes = b.0.bytes }, (leb-true _ _ l.0, leb-true _ _ l.1, b.1)) p.0 p.1

counted_again : (n : ℕ) (p : TemplateTree) (rest : List ℕ) → IsCounted n p → counted_template_at (counted_spelling (n, p) ++ rest) ≡ Some ((n, p), rest)
unfolding counted_template_at
counted_again n p rest h =
    ap (λ b. cond b (read_as (λ t. (n, t)) template_at (template_spelling p ++ rest)) None) (and_from _ _ (le-leb _ _ h.0) (le-leb _ _ h.1)) ∙ as_again (λ t. (n, t)) template_at _ rest p (template_reads.again p rest h.2)

operation_rows_found : RowsFound IsOperation operation_spelling operation_rows
operation_rows_found =
    as_found IsTuple IsOperation tuple_spelling operation_spelling 0x21 out tuple_at tuple_reads.found (λ t p. (refl, p))
    ⨾ as_found IsTemplate IsOperation template_spelling operation_spelling 0x22 rdp template_at template_reads.found (λ t p. (refl, p))
    ⨾ as_found IsTemplate IsOperation template_spelling operation_spelling 0x23 inp template_at template_reads.found (λ t p. (refl, p))
    ⨾ cas_found
    ⨾ as_found (λ x. IsCounted x.0 x.1) IsOperation counted_spelling operation_spelling 0x25 (λ x. rd_all x.0 x.1) counted_template_at counted_found (λ x p. (refl, p))
    ⨾ as_found (λ x. IsCounted x.0 x.1) IsOperation counted_spelling operation_spelling 0x26 (λ x. in_all x.0 x.1) counted_template_at counted_found (λ x p. (refl, p))
    ⨾ tag_found IsOperation operation_spelling 0x27 upgrade refl tt
    ⨾ tt

behind : (tag : ℕ) → FoundBehind tag IsOperation operation_spelling (operation_behind tag)
unfolding operation_behind
behind = found_by_table IsOperation operation_spelling operation_rows unknown operation_rows_found (unknown_found IsOperation operation_spelling)

operation_found : Found IsOperation operation_spelling operation_at
unfolding operation_at
operation_found = behind_found IsOperation operation_spelling operation_behind behind

operation_again : (o : Operation) (rest : List ℕ) → IsOperation o → operation_at (operation_spelling o ++ rest) ≡ Some (o, rest)
unfolding operation_at operation_behind
operation_again (out t) rest h = as_again out tuple_at _ rest t (tuple_reads.again t rest h)
operation_again (rdp p) rest h = as_again rdp template_at _ rest p (template_reads.again p rest h)
operation_again (inp p) rest h = as_again inp template_at _ rest p (template_reads.again p rest h)
operation_again (cas p t) rest h = cas_again p t rest h.0 h.1
operation_again (rd_all n p) rest h = as_again (λ x. rd_all x.0 x.1) counted_template_at _ rest (n, p) (counted_again n p rest h)
operation_again (in_all n p) rest h = as_again (λ x. in_all x.0 x.1) counted_template_at _ rest (n, p) (counted_again n p rest h)
operation_again upgrade rest h = refl

pub operation_reads : Reads IsOperation operation_spelling operation_at
operation_reads = record { found = operation_found; again = operation_again }

-- At most 64 tuples, each within the limits.
abbrev IsAnswer : List TupleTree → Type 0
IsAnswer ts = (length ts ≤ 64) × AreTuples ts

abbrev answer_spelling : List TupleTree → List ℕ
answer_spelling ts = length ts ∷ tuples_spelling ts

tuples_spelling_last : (ts : List TupleTree) (t : TupleTree) → tuples_spelling (with_last_tuple ts t) ≡ tuples_spelling ts ++ tuple_spelling t
tuples_spelling_last [] t = append-nil (tuple_spelling t)
tuples_spelling_last (u ∷ ts) t = ap (λ xs. tuple_spelling u ++ xs) (tuples_spelling_last ts t) ∙ sym (append_assoc (tuple_spelling u) (tuples_spelling ts) (tuple_spelling t))

are_tuples_last : (ts : List TupleTree) (t : TupleTree) → AreTuples ts → IsTuple t → AreTuples (with_last_tuple ts t)
are_tuples_last [] t h p = (p, tt)
are_tuples_last (u ∷ ts) t h p = (h.0, are_tuples_last ts t h.1 p)

tuples_grow : Grows IsTuple tuple_spelling with_last_tuple AreTuples tuples_spelling (λ ts. length ts)
tuples_grow = record { spelled = tuples_spelling_last; counted = λ ts t. omega (arith, length-append ts (t ∷ [])); valid = are_tuples_last }

tuples_found : Found IsAnswer answer_spelling tuples_at
unfolding tuples_at
tuples_found bs rest ts h e =
    let k = bind_some (byte_at bs) (λ n. cond (ltb 64 n.0) None (more tuple_at with_last_tuple n.0 [] n.1)) (ts, rest) e in
    let a = byte_found bs k.0.1 k.0.0 h k.1 in
    let g = guard_fails (ltb 64 k.0.0) (more tuple_at with_last_tuple k.0.0 [] k.0.1) (ts, rest) k.2 in
    let r = more_found IsTuple tuple_spelling with_last_tuple AreTuples tuples_spelling (λ ts. length ts) tuple_at tuples_grow tuple_reads.found k.0.0 [] ts k.0.1 rest a.0.bytes tt g.1 in
    let l : k.0.0 ≤ 64 = ltb-false _ _ g.0 in
    let n : k.0.0 ≡ length ts = omega (arith, r.number) in (
      record { whole = a.0.whole ∙ ap (λ xs. k.0.0 ∷ xs) r.whole ∙ ap (λ m. m ∷ tuples_spelling ts ++ rest) n; bytes = r.bytes },
      (omega arith, r.valid),
    )

more_again : (ts before : List TupleTree) (rest : List ℕ) → AreTuples ts → more tuple_at with_last_tuple (length ts) before (tuples_spelling ts ++ rest) ≡ Some (before ++ ts, rest)
more_again [] before rest h = ap (λ ts. Some (ts, rest)) (sym (append-nil before))
more_again (t ∷ ts) before rest h =
    ap (λ bs. more tuple_at with_last_tuple (suc (length ts)) before bs) (append_assoc (tuple_spelling t) (tuples_spelling ts) rest)
    ∙ ap (λ o. o >>= λ x. more tuple_at with_last_tuple (length ts) (with_last_tuple before x.0) x.1) (tuple_reads.again t (tuples_spelling ts ++ rest) h.0)
    ∙ more_again ts (with_last_tuple before t) rest h.1 ∙ ap (λ ts. Some (ts, rest)) (append_assoc before (t ∷ []) ts)

tuples_again : (ts : List TupleTree) (rest : List ℕ) → length ts ≤ 64 → AreTuples ts → tuples_at (answer_spelling ts ++ rest) ≡ Some (ts, rest)
unfolding tuples_at
tuples_again ts rest p h = let l : ltb 64 (length ts) ≡ false = le-ltb 64 (length ts) p in rw l (more_again ts [] rest h)

outcome_rows_found : RowsFound IsOutcome outcome_spelling outcome_rows
outcome_rows_found =
    tag_found IsOutcome outcome_spelling 0x31 done refl tt
    ⨾ as_found IsTuple IsOutcome tuple_spelling outcome_spelling 0x32 found tuple_at tuple_reads.found (λ t p. (refl, p))
    ⨾ tag_found IsOutcome outcome_spelling 0x33 absent refl tt
    ⨾ as_found (λ b. Unit {0}) IsOutcome (λ b. flag b ∷ []) outcome_spelling 0x34 swapped flag_at flag_found (λ b p. (refl, tt))
    ⨾ as_found IsAnswer IsOutcome answer_spelling outcome_spelling 0x35 all tuples_at tuples_found (λ ts p. (refl, p))
    ⨾ tag_found IsOutcome outcome_spelling 0x36 full refl tt
    ⨾ tag_found IsOutcome outcome_spelling 0x37 refused refl tt
    ⨾ tt

outcome_tag : (tag : ℕ) → FoundBehind tag IsOutcome outcome_spelling (outcome_behind tag)
unfolding outcome_behind
outcome_tag = found_by_table IsOutcome outcome_spelling outcome_rows unknown outcome_rows_found (unknown_found IsOutcome outcome_spelling)

outcome_found : Found IsOutcome outcome_spelling outcome_at
unfolding outcome_at
outcome_found = behind_found IsOutcome outcome_spelling outcome_behind outcome_tag

outcome_again : (r : Outcome) (rest : List ℕ) → IsOutcome r → outcome_at (outcome_spelling r ++ rest) ≡ Some (r, rest)
unfolding outcome_at outcome_behind
outcome_again done rest h = refl
outcome_again (found t) rest h = as_again found tuple_at _ rest t (tuple_reads.again t rest h)
outcome_again absent rest h = refl
outcome_again (swapped b) rest h = as_again swapped flag_at _ rest b (flag_again b rest)
outcome_again (all ts) rest h = as_again all tuples_at _ rest ts (tuples_again ts rest h.0 h.1)
outcome_again full rest h = refl
outcome_again refused rest h = refl

pub outcome_reads : Reads IsOutcome outcome_spelling outcome_at
outcome_reads = record { found = outcome_found; again = outcome_again }
