-- The result of reading the line says which faults it has.
use Rattle.std.proofs.Common.{◌≡◌, ℕ, zero, suc, ◌+◌, ◌-◌, ◌<◌, ◌≤◌, ◌==◌, min, Bool, true, false, cond, List, [], ◌∷◌}
use Rattle.std.proofs.Common.{◌++◌, length, take, drop, codes, refl, ap, sym, subst, ◌∙◌, append_assoc, append-nil}
use Rattle.std.proofs.Common.{arith, ◌⊎◌, inl, inr, length-append}
use Rattle.std.proofs.lemmas.List.{take_at, length-take, length-drop, take-append-drop}
use Rattle.std.proofs.lemmas.Bool.{cases_lt}
use Rattle.tuple_tree.specs.Items.{Items, levels_of}
use Rattle.tuple_tree.specs.Limits.{IsWithin}
use Rattle.tuple_tree.specs.Values.{IsDatum, IsSlot, datum_length, slot_length, TupleTree, TemplateTree}
use Rattle.tuple_codec.specs.Operations.{Operation, out, rdp, inp, cas, rd_all, in_all, upgrade, IsOperation}
use Rattle.tuple_text.specs.declared.verbs.Verb.{Verb}
use Rattle.tuple_text.specs.declared.verbs.Verb.TheVariants.{Rd, In}
use Rattle.tuple_text.specs.Texts.{AreBlanks}
use Rattle.tuple_text.specs.Lines.{LineText, IsLine, IsSkipped, IsComment, operation_name}
use Rattle.tuple_text.specs.Faults.{AnyOperation, KeepsCount, KeepsBoth, EndsTooLong, PassesNoLimit, StopsAt, IsBadAt}
use Rattle.tuple_text.specs.Faults.{Faults}
use Rattle.tuple_text.specs.Faults.{LineBegins as BeginsLine}
use Rattle.tuple_text.specs.Reading.{Read, got, stop, Reading, ◌>>=◌, nothing, look, blanks, word, finish, ending}
use Rattle.tuple_text.specs.Reading.{ended, positive, argument, tuple, template, out_line, cas_line, upgrade_line}
use Rattle.tuple_text.specs.Reading.{letters, one_of, all_of, one_line, all_line, verb_line, operation, line, fault_at}
use Rattle.tuple_text.specs.Reading.{ReadingStops}
use Rattle.tuple_text.specs.declared.reader.Stop.{Stop}
use Rattle.tuple_text.specs.declared.reader.Stop.TheVariants.{BadByte, TooDeep, TooManyFields, TooLong, NoMemory}
use Rattle.tuple_text.specs.declared.faults.LineFault.TheVariants as faults
use Rattle.tuple_text.proofs.Local.{LocalAs, SameHead, left}
use Rattle.tuple_text.proofs.Localities.{line_local}
use Rattle.tuple_text.proofs.Right.{Limits, both, levels, no_limits, RightAs, RightTo, StuckAt}
use Rattle.tuple_text.proofs.Blanks.{ArePassed, BeginsBlanks, blanks_right, blanks_again, freed}
use Rattle.tuple_text.proofs.Levels.{are_counted}
use Rattle.tuple_text.proofs.Arguments.{Begins}
use Rattle.tuple_text.proofs.LineRight.{GoodLine, LimitedLine, line_right, Keeps}
use Rattle.tuple_text.proofs.Again.{AgainAs}
use Rattle.tuple_text.proofs.LineAgain.{Exceeds, line_again, never_bad, keeps_counts, keeps_levels, within_exceeds}
use Rattle.tuple_text.proofs.LineAgain.{StopsBefore, too_long_stops}

pub take_take : (k m : ℕ) (bs : List ℕ) → k ≤ m → take k (take m bs) ≡ take k bs
take_take zero m bs h = refl
take_take (suc k) zero bs h = absurd (omega arith)
take_take (suc k) (suc m) [] h = refl
take_take (suc k) (suc m) (b ∷ bs) h = ap (λ t. b ∷ t) (take_take k m bs (omega arith))

pub take_all : (m : ℕ) (bs : List ℕ) → length bs ≤ m → take m bs ≡ bs
take_all zero [] h = refl
take_all zero (b ∷ bs) h = absurd (omega arith)
take_all (suc m) [] h = refl
take_all (suc m) (b ∷ bs) h = ap (λ t. b ∷ t) (take_all m bs (omega arith))

-- the bytes that a line may have
abbrev pub front : List ℕ → List ℕ
front bs = take 65536 bs

-- n bytes are passed, and rest is left of those that a line may have
pub record At (bs : List ℕ) (n : ℕ) (rest : List ℕ) : Type 0 where
  pub whole : front bs ≡ take n bs ++ rest
  pub total : n + length rest ≡ length (front bs)
  pub within : n ≤ length bs
  pub limit : n ≤ 65536

at_from : (bs passed rest : List ℕ) → front bs ≡ passed ++ rest → (passed ≡ take (length passed) bs) × At bs (length passed) rest
at_from bs passed rest e =
    let t : length passed + length rest ≡ length (front bs) = omega (arith, ap length e, length-append passed rest) in
    let n : length passed ≤ 65536 = omega (arith, length-take 65536 bs) in
    let m : length passed ≤ length bs = omega (arith, length-take 65536 bs) in
    let p : passed ≡ take (length passed) bs = sym (take_at passed rest (length passed) refl) ∙ ap (take (length passed)) (sym e) ∙ take_take (length passed) 65536 bs n in
    (p, record { whole = e ∙ ap (λ s. s ++ rest) p; total = t; within = m; limit = n })

one_more : (bs : List ℕ) (n b : ℕ) (t : List ℕ) → At bs n (b ∷ t) → take (n + 1) bs ≡ take n bs ++ b ∷ []
one_more bs n b t h =
    let l : n + 1 ≤ 65536 = omega (arith, h.total, length-take 65536 bs) in
    let k : length (take n bs ++ b ∷ []) ≡ n + 1 = omega (arith, length-append (take n bs) (b ∷ []), length-take n bs, h.within) in
    sym (take_take (n + 1) 65536 bs l) ∙ ap (take (n + 1)) (h.whole ∙ sym (append_assoc (take n bs) (b ∷ []) t)) ∙ take_at (take n bs ++ b ∷ []) t (n + 1) k

begins_line : (c : Limits) (w : List ℕ) → Begins LimitedLine c w → BeginsLine (Keeps c) w
begins_line c w h = (h.1, h.0, h.2.0, h.2.1)

not_before : (bs : List ℕ) (n k : ℕ) (x : Read Operation) → At bs n (left x) → k ≤ n → StopsBefore (drop k (front bs)) x → ⊥
not_before bs n k (got o rest) h p s = s
not_before bs n k (stop t rest) h p s = omega (arith, h.total, length-drop k (front bs))

pub short_to : (bs : List ℕ) (n : ℕ) (x : Read Operation) → line (front bs) ≡ x → At bs n (left x) → (k : ℕ) → k ≤ n → EndsTooLong (take k bs) → ⊥
short_to bs n x e h k p l =
    let w : take k bs ++ drop k (front bs) ≡ front bs = ap (λ s. s ++ drop k (front bs)) (sym (take_take k 65536 bs (omega (arith, h.limit)))) ∙ take-append-drop k (front bs) in
    not_before bs n k x h p (subst (StopsBefore (drop k (front bs))) (ap line w ∙ e) (too_long_stops (take k bs) (drop k (front bs)) l))

pub passes : (bs : List ℕ) (n : ℕ) (x : Read Operation) → line (front bs) ≡ x → At bs n (left x) → Begins LimitedLine both (take n bs) → PassesNoLimit bs n
passes bs n x e h b = record { within = h.within; limit = h.limit; begins = begins_line both (take n bs) b; short = short_to bs n x e h }

-- If reading stops before b, each line that continues with b passes the limit.
exceeds : (o : Operation) (s : Stop) (w : List ℕ) (b : ℕ) (t u : List ℕ) → ((v : List ℕ) → SameHead (b ∷ t) v → line (w ++ v) ≡ stop s v) → LineText o ((w ++ b ∷ []) ++ u) → Exceeds o s
exceeds o s w b t u a h =
    let e : line ((w ++ b ∷ []) ++ u) ≡ stop s (b ∷ u) = ap line (append_assoc w (b ∷ []) u) ∙ a (b ∷ u) refl in
    let g = subst (AgainAs (Exceeds o) o []) e (line_again o ((w ++ b ∷ []) ++ u) h) in
    g.0

-- Reading stops at the first n bytes, and also in each text that begins with them and the byte after them.
pub record Halted (bs : List ℕ) (s : Stop) (n : ℕ) (rest : List ℕ) : Type 0 where
  pub read : line (front bs) ≡ stop s rest
  pub place : At bs n rest
  pub alike : (v : List ℕ) → SameHead rest v → line (take n bs ++ v) ≡ stop s v
  pub stuck : StuckAt (Begins LimitedLine) EndsTooLong s (front bs) rest
  pub same : stuck.passed ≡ take n bs

halts : (bs : List ℕ) (s : Stop) (rest : List ℕ) → line (front bs) ≡ stop s rest → LocalAs line (front bs) (stop s rest) → StuckAt (Begins LimitedLine) EndsTooLong s (front bs) rest → (n : ℕ) × (n ≡ length (front bs) - length rest) × Halted bs s n rest
halts bs s rest e l k =
    let a = at_from bs l.passed rest l.whole in
    let b = at_from bs k.passed rest k.whole in
    let n : length k.passed ≡ length l.passed = omega (arith, a.1.total, b.1.total) in (
      length l.passed,
      omega (arith, a.1.total),
      record {
        read = e;
        place = a.1;
        alike = λ v h. ap (λ w. line (w ++ v)) (sym a.0) ∙ l.alike v h;
        stuck = k;
        same = b.0 ∙ ap (λ m. take m bs) n;
      },
    )

module _ (bs : List ℕ) where
  halted_begins : (s : Stop) (n : ℕ) (rest : List ℕ) → Halted bs s n rest → Begins LimitedLine both (take n bs)
  halted_begins s n rest h = subst (Begins LimitedLine both) h.same h.stuck.begins

  halted_passes : (s : Stop) (n : ℕ) (rest : List ℕ) → Halted bs s n rest → PassesNoLimit bs n
  halted_passes s n rest h = passes bs n (stop s rest) h.read h.place (halted_begins s n rest h)

  next_exceeds : (s : Stop) (n b : ℕ) (t : List ℕ) → Halted bs s n (b ∷ t) → (u : List ℕ) (o : Operation) → LineText o (take (n + 1) bs ++ u) → Exceeds o s
  next_exceeds s n b t h u o l = exceeds o s (take n bs) b t u h.alike (subst (λ w. LineText o (w ++ u)) (one_more bs n b t h.place) l)

  bad_next : (n : ℕ) (rest : List ℕ) → Halted bs BadByte n rest → n < length bs → n < 65536 → BeginsLine AnyOperation (take (n + 1) bs) → ⊥
  bad_next n [] h p q b = omega (arith, h.place.total, length-take 65536 bs)
  bad_next n (c ∷ t) h p q b = never_bad b.1 (next_exceeds BadByte n c t h b.0 b.1 b.2)

  bad_end : (n : ℕ) (rest : List ℕ) → Halted bs BadByte n rest → n ≡ length bs → (o : Operation) → LineText o bs → ⊥
  bad_end n rest h p o l =
      let whole : front bs ≡ bs = take_all 65536 bs (omega (arith, h.place.limit)) in
      let e : line bs ≡ stop BadByte rest = ap line (sym whole) ∙ h.read in
      let g = subst (AgainAs (Exceeds o) o []) e (line_again o bs l) in
      never_bad o g.0

  pub bad_at : (n : ℕ) (rest : List ℕ) → Halted bs BadByte n rest → IsBadAt bs n
  bad_at n rest h = record { passes = halted_passes BadByte n rest h; longest = bad_next n rest h; unfinished = bad_end n rest h }

  stops_at : (s : Stop) (n b : ℕ) (t : List ℕ) → Halted bs s n (b ∷ t) → StopsAt bs n
  stops_at s n b t h = record {
    passes = halted_passes s n (b ∷ t) h;
    there = omega (arith, h.place.total, length-take 65536 bs);
    limit = omega (arith, h.place.total, length-take 65536 bs);
  }

  next_begins : (c : Limits) (s : Stop) (n b : ℕ) (t rest : List ℕ) → rest ≡ b ∷ t → (h : Halted bs s n rest) → Begins LimitedLine c (h.stuck.passed ++ b ∷ []) → BeginsLine (Keeps c) (take (n + 1) bs)
  next_begins c s n b t rest e h k =
      let p = subst (At bs n) e h.place in
      begins_line c (take (n + 1) bs) (subst (Begins LimitedLine c) (ap (λ w. w ++ b ∷ []) h.same ∙ sym (one_more bs n b t p)) k)

  pub many_at : (n : ℕ) (rest : List ℕ) → Halted bs TooManyFields n rest → Faults faults.TooManyFields bs
  many_at n rest h =
      let d = h.stuck.decides in
      let k = subst (Halted bs TooManyFields n) d.2 h in
      (n, stops_at TooManyFields n d.0 d.1 k, next_begins levels TooManyFields n d.0 d.1 rest d.2 h d.3, λ b. keeps_counts b.1 b.3 (next_exceeds TooManyFields n d.0 d.1 k b.0 b.1 b.2))

  pub deep_at : (n : ℕ) (rest : List ℕ) → Halted bs TooDeep n rest → Faults faults.TooDeep bs
  deep_at n rest h =
      let d = h.stuck.decides in
      let k = subst (Halted bs TooDeep n) d.2 h in
      (n, stops_at TooDeep n d.0 d.1 k, next_begins no_limits TooDeep n d.0 d.1 rest d.2 h d.3, λ b. keeps_levels b.1 b.3 (next_exceeds TooDeep n d.0 d.1 k b.0 b.1 b.2))

  pub long_at : (n : ℕ) (rest : List ℕ) → Halted bs TooLong n rest → Faults faults.TooLong bs
  long_at n rest h =
      let d = h.stuck.decides in
      let k = subst (Halted bs TooLong n) d.2 h in
      (n, stops_at TooLong n d.0 d.1 k, next_begins both TooLong n d.0 d.1 rest d.2 h d.3, subst EndsTooLong (ap (λ w. w ++ d.0 ∷ []) h.same ∙ sym (one_more bs n d.0 d.1 k.place)) d.4)

  halted_faults : (s : Stop) (n : ℕ) (rest : List ℕ) → Halted bs s n rest → Faults (fault_at n s) bs
  halted_faults BadByte n rest h = bad_at n rest h
  halted_faults TooDeep n rest h = deep_at n rest h
  halted_faults TooManyFields n rest h = many_at n rest h
  halted_faults TooLong n rest h = long_at n rest h
  halted_faults NoMemory n rest h = tt

  pub stopped_faults : (s : Stop) (rest : List ℕ) → line (front bs) ≡ stop s rest → Faults (fault_at (length (front bs) - length rest) s) bs
  stopped_faults s rest e =
      let h = halts bs s rest e (subst (LocalAs line (front bs)) e (line_local (front bs))) (subst (RightTo GoodLine (Begins LimitedLine) EndsTooLong (front bs)) e (line_right (front bs))) in
      subst (λ n. Faults (fault_at n s) bs) h.1 (halted_faults s h.0 rest h.2)

-- No bytes are left after an operation.
abbrev AtEnd : {V : Type 0} → Read V → Type 0
AtEnd (got v rest) = rest ≡ []
AtEnd (stop s rest) = Unit {0}

then_end : {V W : Type 0} → (x : Read V) (f : V → Reading W) → ((v : V) (rest : List ℕ) → AtEnd (f v rest)) → AtEnd (x >>= f)
then_end (got v rest) f h = h v rest
then_end (stop s rest) f h = tt

map_end : {V W : Type 0} → (x : Read V) (g : V → W) → AtEnd x → AtEnd (x >>= λ v rest. got (g v) rest)
map_end (got v rest) g h = h
map_end (stop s rest) g h = tt

if_end : {V : Type 0} → (b : Bool) (x y : Read V) → AtEnd x → AtEnd y → AtEnd (cond b x y)
if_end true x y h k = h
if_end false x y h k = k

finish_end : (bs : List ℕ) → AtEnd (finish bs)
finish_end [] = refl
finish_end (b ∷ bs) = tt

ending_end : (bs : List ℕ) → AtEnd (ending bs)
unfolding ending
ending_end bs = then_end (blanks true bs) (λ _ rest. finish rest) (λ _ rest. finish_end rest)

ended_end : (o : Operation) (bs : List ℕ) → AtEnd (ended o bs)
unfolding ended
ended_end o bs = map_end (ending bs) (λ _. o) (ending_end bs)

tuple_end : (k : TupleTree → Operation) (bs : List ℕ) → AtEnd (argument tuple bs >>= λ t rest. ended (k t) rest)
tuple_end k bs = then_end (argument tuple bs) (λ t rest. ended (k t) rest) (λ t rest. ended_end (k t) rest)

template_end : (k : TemplateTree → Operation) (bs : List ℕ) → AtEnd (argument template bs >>= λ p rest. ended (k p) rest)
template_end k bs = then_end (argument template bs) (λ p rest. ended (k p) rest) (λ p rest. ended_end (k p) rest)

out_end : (bs : List ℕ) → AtEnd (out_line bs)
unfolding out_line
out_end bs = then_end (word (codes "out") bs) (λ _ behind. argument tuple behind >>= λ t rest. ended (out t) rest) (λ _ behind. tuple_end out behind)

cas_end : (bs : List ℕ) → AtEnd (cas_line bs)
unfolding cas_line
cas_end bs =
    then_end (word (codes "cas") bs) (λ _ behind. argument template behind >>= λ p middle. argument tuple middle >>= λ t rest. ended (cas p t) rest)
    (λ _ behind. then_end (argument template behind) (λ p middle. argument tuple middle >>= λ t rest. ended (cas p t) rest) (λ p middle. tuple_end (cas p) middle))

upgrade_end : (bs : List ℕ) → AtEnd (upgrade_line bs)
unfolding upgrade_line
upgrade_end bs = then_end (word (codes "upgrade") bs) (λ _ rest. ended upgrade rest) (λ _ rest. ended_end upgrade rest)

one_end : (verb : Verb) (bs : List ℕ) → AtEnd (one_line verb bs)
unfolding one_line
one_end verb bs = then_end (word (codes "p") bs) (λ _ behind. argument template behind >>= λ p rest. ended (one_of verb p) rest) (λ _ behind. template_end (one_of verb) behind)

all_end : (verb : Verb) (bs : List ℕ) → AtEnd (all_line verb bs)
unfolding all_line
all_end verb bs =
    then_end (word (codes "All") bs) (λ _ behind. argument (positive 64) behind >>= λ n middle. argument template middle >>= λ p rest. ended (all_of verb n p) rest)
    (λ _ behind. then_end (argument (positive 64) behind) (λ n middle. argument template middle >>= λ p rest. ended (all_of verb n p) rest) (λ n middle. template_end (all_of verb n) middle))

look_end : {V : Type 0} → (c : ℕ) (f g : Reading V) → ((bs : List ℕ) → AtEnd (f bs)) → ((bs : List ℕ) → AtEnd (g bs)) → (bs : List ℕ) → AtEnd (look c f g bs)
look_end c f g h k [] = tt
look_end c f g h k (b ∷ bs) = if_end (b == c) (f (b ∷ bs)) (g (b ∷ bs)) (h (b ∷ bs)) (k (b ∷ bs))

verb_end : (verb : Verb) (bs : List ℕ) → AtEnd (verb_line verb bs)
unfolding verb_line
verb_end verb bs =
    then_end (word (letters verb) bs) (λ _ rest. look 112 (one_line verb) (all_line verb) rest)
    (λ _ rest. look_end 112 (one_line verb) (all_line verb) (one_end verb) (all_end verb) rest)

operation_end : (bs : List ℕ) → AtEnd (operation bs)
unfolding operation
operation_end bs =
    look_end 111 out_line (look 114 (verb_line Rd) (look 105 (verb_line In) (look 99 cas_line (look 117 upgrade_line nothing)))) out_end
    (look_end 114 (verb_line Rd) (look 105 (verb_line In) (look 99 cas_line (look 117 upgrade_line nothing))) (verb_end Rd)
    (look_end 105 (verb_line In) (look 99 cas_line (look 117 upgrade_line nothing)) (verb_end In)
    (look_end 99 cas_line (look 117 upgrade_line nothing) cas_end (look_end 117 upgrade_line nothing upgrade_end (λ bs. tt))))) bs

line_end : (bs : List ℕ) → AtEnd (line bs)
unfolding line
line_end bs = then_end (blanks true bs) (λ _ rest. operation rest) (λ _ rest. operation_end rest)

-- A line that is read as an operation is that operation's line.
read_whole : (bs : List ℕ) (o : Operation) (rest : List ℕ) → line bs ≡ got o rest → GoodLine o bs
read_whole bs o rest e =
    let f = subst (RightTo GoodLine (Begins LimitedLine) EndsTooLong bs) e (line_right bs) in
    let n = subst AtEnd e (line_end bs) in
    subst (GoodLine o) (sym (f.whole ∙ ap (λ t. f.passed ++ t) n ∙ append-nil f.passed)) f.is

pub read_is_line : (bs : List ℕ) (o : Operation) (rest : List ℕ) → length bs ≤ 65536 → line (front bs) ≡ got o rest → IsLine o bs
read_is_line bs o rest p e =
    let w = read_whole bs o rest (ap line (sym (take_all 65536 bs p)) ∙ e) in
    record { text = w.0; within = w.1; size = omega arith }

keeps_tree : {L : Type 0} → (IsLeaf : L → Type 0) (length_of : L → ℕ) (t : Items L) → IsWithin IsLeaf length_of t → (levels_of t ≤ 8) × KeepsCount t
keeps_tree IsLeaf length_of t w = (w.levels, (w.fields, are_counted IsLeaf t w.each))

keeps_both : (o : Operation) → IsOperation o → KeepsBoth o
keeps_both (out t) w = keeps_tree IsDatum datum_length t w
keeps_both (rdp p) w = keeps_tree IsSlot slot_length p w
keeps_both (inp p) w = keeps_tree IsSlot slot_length p w
keeps_both (cas p t) w = let k = keeps_tree IsSlot slot_length p w.0 in let l = keeps_tree IsDatum datum_length t w.1 in ((k.0, l.0), (k.1, l.1))
keeps_both (rd_all n p) w = keeps_tree IsSlot slot_length p w.2
keeps_both (in_all n p) w = keeps_tree IsSlot slot_length p w.2
keeps_both upgrade w = (tt, tt)

-- A longer line is bad at its byte 65,536 at the latest.
pub too_big : (bs : List ℕ) (o : Operation) (rest : List ℕ) → 65536 < length bs → line (front bs) ≡ got o rest → IsBadAt bs 65536
too_big bs o rest p e =
    let w = read_whole (front bs) o rest e in
    let n = subst AtEnd e (line_end (front bs)) in
    let l : length (front bs) ≡ 65536 = omega (arith, length-take 65536 bs) in
    let place : At bs 65536 rest = record { whole = sym (append-nil (front bs)) ∙ ap (λ t. front bs ++ t) (sym n); total = omega (arith, ap length n); within = omega arith; limit = omega arith } in
    record {
      passes = passes bs 65536 (got o rest) e place (o, [], (subst (LineText o) (sym (append-nil (front bs))) w.0, keeps_both o w.1));
      longest = λ a b c. omega arith;
      unfinished = λ a b c. omega arith;
    }

-- The line of an operation is read so.
again_is : (o : Operation) (x : Read Operation) → IsOperation o → AgainAs (Exceeds o) o [] x → x ≡ got o []
again_is o (got p rest) w h = ap (λ q. got q rest) h.0 ∙ ap (got o) h.1
again_is o (stop s rest) w h = absurd (within_exceeds o s w h.0)

pub line_is_read : (bs : List ℕ) (o : Operation) → IsLine o bs → line (front bs) ≡ got o []
line_is_read bs o h = ap line (take_all 65536 bs (let size = h.size in omega arith)) ∙ again_is o (line bs) h.within (line_again o bs h.text)

pub line_reads_only : (bs : List ℕ) (o p : Operation) (rest : List ℕ) → IsLine o bs → line (front bs) ≡ got p rest → p ≡ o
line_reads_only bs o p rest h e = let g : got p rest ≡ got o [] = sym e ∙ line_is_read bs o h in cc

pub line_no_stop : (bs : List ℕ) (o : Operation) (s : Stop) (rest : List ℕ) → IsLine o bs → line (front bs) ≡ stop s rest → ⊥
line_no_stop bs o s rest h e = let g : stop s rest ≡ got o [] = sym e ∙ line_is_read bs o h in cc

-- No line of an operation is skipped.
name_head : (o : Operation) → (b : ℕ) × (t : List ℕ) × (operation_name o ≡ b ∷ t) × (97 ≤ b)
name_head (out t) = (111, codes "ut", refl, omega arith)
name_head (rdp p) = (114, codes "dp", refl, omega arith)
name_head (inp p) = (105, codes "np", refl, omega arith)
name_head (cas p t) = (99, codes "as", refl, omega arith)
name_head (rd_all n p) = (114, codes "dAll", refl, omega arith)
name_head (in_all n p) = (105, codes "nAll", refl, omega arith)
name_head upgrade = (117, codes "pgrade", refl, omega arith)

no_blanks : (lead : List ℕ) (b : ℕ) (t : List ℕ) → 97 ≤ b → AreBlanks (lead ++ b ∷ t) → ⊥
no_blanks [] b t h k = omega (arith, k.0)
no_blanks (c ∷ lead) b t h k = no_blanks lead b t h k.1

no_comment : (lead : List ℕ) (b : ℕ) (t : List ℕ) → AreBlanks lead → 97 ≤ b → IsComment (lead ++ b ∷ t) → ⊥
no_comment [] b t p h k = omega (arith, k)
no_comment (c ∷ lead) b t p h k = omega (arith, k, p.0)

skipped_no : (lead rest bs : List ℕ) (o : Operation) → bs ≡ lead ++ (operation_name o ++ rest) → AreBlanks lead → IsSkipped bs → ⊥
skipped_no lead rest bs o e p (inl k) =
    let n = name_head o in no_blanks lead n.0 (n.1 ++ rest) n.3 (subst AreBlanks (e ∙ ap (λ s. lead ++ (s ++ rest)) n.2) k)
skipped_no lead rest bs o e p (inr k) =
    let n = name_head o in no_comment lead n.0 (n.1 ++ rest) p n.3 (subst IsComment (e ∙ ap (λ s. lead ++ (s ++ rest)) n.2) k)

pub line_not_skipped : (bs : List ℕ) (o : Operation) → LineText o bs → IsSkipped bs → ⊥
line_not_skipped bs o h k = skipped_no h.0 h.1 bs o h.2 h.3 k

no_length : (bs : List ℕ) → length bs ≡ 0 → bs ≡ []
no_length [] h = refl
no_length (b ∷ bs) h = absurd (omega arith)

-- If nothing is left after blanks are passed, the line is of blanks alone.
pub blanks_left : (bs : List ℕ) (v : Bool) (rest : List ℕ) → blanks true bs ≡ got v rest → length rest ≡ 0 → AreBlanks bs
blanks_left bs v rest e h =
    let f = subst (RightAs (ArePassed true) BeginsBlanks bs) e (blanks_right true bs) in
    let n : rest ≡ [] = no_length rest h in
    subst AreBlanks (sym (f.whole ∙ ap (λ t. f.passed ++ t) n ∙ append-nil f.passed)) f.is.0

pub left_nothing : (bs : List ℕ) (v : Bool) (rest : List ℕ) → blanks true bs ≡ got v rest → AreBlanks bs → length rest ≡ 0
left_nothing bs v rest e h =
    let g : got v rest ≡ got (freed true bs) [] = sym e ∙ ap (blanks true) (sym (append-nil bs)) ∙ blanks_again true bs [] h tt in
    let r : rest ≡ [] = cc in
    ap length r

-- What the program's reading says.
min_is : (m a b : ℕ) → m ≡ min a b → (m ≡ a) ⊎ (m ≡ b)
min_is m a b e = elim (cases_lt a b) [ inl h ↦ inl (omega arith) | inr h ↦ inr (omega arith) ]

shorter_to : (bs : List ℕ) (m n : ℕ) → (m ≡ length bs) ⊎ (m ≡ n) → m ≤ length bs → m ≤ n → take m bs ≡ take n bs
shorter_to bs m n (inl e) p q = take_all m bs (omega arith) ∙ sym (take_all n bs (omega arith))
shorter_to bs m n (inr e) p q = ap (λ k. take k bs) e

pub front_to : (bs : List ℕ) (m n : ℕ) → m ≡ min (length bs) n → take m bs ≡ take n bs
front_to bs m n e = shorter_to bs m n (min_is m (length bs) n e) (omega arith) (omega arith)

pub front_is : (bs : List ℕ) (m : ℕ) → m ≡ min (length bs) 65536 → take m bs ≡ front bs
front_is bs m e = front_to bs m 65536 e

pub stops_faults : (bs : List ℕ) (s : Stop) (at rest : List ℕ) → at ≡ front bs → ReadingStops s (line at) rest → Faults (fault_at (length at - length rest) s) bs
stops_faults bs NoMemory at rest e h = tt
stops_faults bs BadByte at rest e h = subst (λ t. Faults (fault_at (length t - length rest) BadByte) bs) (sym e) (stopped_faults bs BadByte rest (ap line (sym e) ∙ h))
stops_faults bs TooDeep at rest e h = subst (λ t. Faults (fault_at (length t - length rest) TooDeep) bs) (sym e) (stopped_faults bs TooDeep rest (ap line (sym e) ∙ h))
stops_faults bs TooManyFields at rest e h = subst (λ t. Faults (fault_at (length t - length rest) TooManyFields) bs) (sym e) (stopped_faults bs TooManyFields rest (ap line (sym e) ∙ h))
stops_faults bs TooLong at rest e h = subst (λ t. Faults (fault_at (length t - length rest) TooLong) bs) (sym e) (stopped_faults bs TooLong rest (ap line (sym e) ∙ h))

pub stops_memory : (bs : List ℕ) (s : Stop) (at rest : List ℕ) (n : ℕ) (o : Operation) → at ≡ front bs → ReadingStops s (line at) rest → IsLine o bs → fault_at n s ≡ faults.NoMemory
stops_memory bs NoMemory at rest n o e h l = refl
stops_memory bs BadByte at rest n o e h l = absurd (line_no_stop bs o BadByte rest l (ap line (sym e) ∙ h))
stops_memory bs TooDeep at rest n o e h l = absurd (line_no_stop bs o TooDeep rest l (ap line (sym e) ∙ h))
stops_memory bs TooManyFields at rest n o e h l = absurd (line_no_stop bs o TooManyFields rest l (ap line (sym e) ∙ h))
stops_memory bs TooLong at rest n o e h l = absurd (line_no_stop bs o TooLong rest l (ap line (sym e) ∙ h))
