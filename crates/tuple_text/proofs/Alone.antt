-- Reading a template that stands alone: as the argument of an rdp.
use Rattle.std.proofs.Common.{◌≡◌, ℕ, zero, suc, ◌+◌, ◌-◌, ◌<◌, ◌≤◌, ◌==◌, min, Bool, true, false, cond, List, [], ◌∷◌}
use Rattle.std.proofs.Common.{◌++◌, length, take, codes, refl, ap, sym, subst, ◌∙◌, arith, length-append}
use Rattle.tuple_tree.specs.Values.{TemplateTree}
use Rattle.tuple_codec.specs.Operations.{rdp}
use Rattle.tuple_text.specs.Lines.{IsLine}
use Rattle.tuple_text.specs.Faults.{Faults, IsBadAt, behind}
use Rattle.tuple_text.specs.Reading.{Read, got, stop, ◌>>=◌, blanks, template, argument, ending, ended, one_line}
use Rattle.tuple_text.specs.Reading.{verb_line, operation, line, lone_template, fault_at, ReadingStops}
use Rattle.tuple_text.specs.declared.reader.Stop.{Stop}
use Rattle.tuple_text.specs.declared.reader.Stop.TheVariants.{BadByte, TooDeep, TooManyFields, TooLong, NoMemory}
use Rattle.tuple_text.specs.declared.faults.LineFault.TheVariants as faults
use Rattle.tuple_text.proofs.Local.{LocalAs, IsLocal, left, local_got, local_then}
use Rattle.tuple_text.proofs.Localities.{blanks_local, ending_local, template_local}
use Rattle.tuple_text.proofs.Judging.{front, front_to, read_is_line, too_big, line_reads_only, line_no_stop}
use Rattle.tuple_text.proofs.Judging.{stopped_faults}

-- the line with this text as its argument
abbrev pub as_line : List ℕ → List ℕ
as_line bs = codes "rdp " ++ bs

freed_case : (b : ℕ) (bs : List ℕ) (s : Bool) → (rest : List ℕ) × (blanks true bs ≡ got true rest) → (rest : List ℕ) × (cond s (blanks true bs) (got true (b ∷ bs)) ≡ got true rest)
freed_case b bs true h = h
freed_case b bs false h = (b ∷ bs, refl)

freed_always : (bs : List ℕ) → (rest : List ℕ) × (blanks true bs ≡ got true rest)
freed_always [] = ([], refl)
freed_always (b ∷ bs) = freed_case b bs (b == 32) (freed_always bs)

last_seen : (p : TemplateTree) (x : Read Bool) → (x >>= λ _ rest. got (rdp p) rest) ≡ ((x >>= λ _ rest. got p rest) >>= λ p rest. got (rdp p) rest)
last_seen p (got v rest) = refl
last_seen p (stop s rest) = refl

template_seen : (x : Read TemplateTree) → (x >>= λ p rest. ended (rdp p) rest) ≡ ((x >>= λ p rest. ending rest >>= λ _ last. got p last) >>= λ p rest. got (rdp p) rest)
unfolding ended
template_seen (got p rest) = last_seen p (ending rest)
template_seen (stop s rest) = refl

gap_seen : (bs rest : List ℕ) → blanks true bs ≡ got true rest → argument template (32 ∷ bs) ≡ template rest
unfolding argument
gap_seen bs rest e = ap (λ y. (y >>= λ free rest. cond free (got true rest) (stop BadByte rest)) >>= λ _ rest. template rest) e

front_seen : (bs : List ℕ) → line (as_line bs) ≡ (argument template (32 ∷ bs) >>= λ p rest. ended (rdp p) rest)
unfolding line operation verb_line one_line
front_seen bs = refl

pub line_seen : (bs : List ℕ) → line (as_line bs) ≡ (lone_template bs >>= λ p rest. got (rdp p) rest)
unfolding lone_template
line_seen bs =
    let f = freed_always bs in
    front_seen bs ∙ ap (λ y. y >>= λ p rest. ended (rdp p) rest) (gap_seen bs f.0 f.1) ∙ template_seen (template f.0)
    ∙ sym (ap (λ y. (y >>= λ _ rest. template rest >>= λ p after. ending after >>= λ _ last. got p last) >>= λ p rest. got (rdp p) rest) f.1)

lone_local : IsLocal lone_template
unfolding lone_template
lone_local =
    local_then (blanks true) (λ _ rest. template rest >>= λ p after. ending after >>= λ _ last. got p last) (blanks_local true)
    (λ _. local_then template (λ p after. ending after >>= λ _ last. got p last) template_local (λ p. local_then ending (λ _ last. got p last) ending_local (λ _. local_got p)))

-- no more is left than there was
not_longer : (bs : List ℕ) (x : Read TemplateTree) → LocalAs lone_template bs x → length (left x) ≤ length bs
not_longer bs x l = omega (arith, ap length l.whole, length-append l.passed (left x))

stop_left : (bs : List ℕ) (s : Stop) (rest : List ℕ) → lone_template bs ≡ stop s rest → length rest ≤ length bs
stop_left bs s rest e = not_longer bs (stop s rest) (subst (LocalAs lone_template bs) e (lone_local bs))

-- the bytes of a text that a line may have
abbrev pub text_front : List ℕ → List ℕ
text_front bs = take 65532 bs

take_behind : (m n : ℕ) (cs bs : List ℕ) → m ≡ length cs + n → take m (cs ++ bs) ≡ cs ++ take n bs
take_behind m n [] bs e = ap (λ k. take k bs) (let p : m ≡ n = omega (arith, e) in p)
take_behind zero n (c ∷ cs) bs e = absurd (omega (arith, e))
take_behind (suc m) n (c ∷ cs) bs e = ap (λ t. c ∷ t) (take_behind m n cs bs (omega (arith, e)))

line_front : (bs : List ℕ) → front (as_line bs) ≡ as_line (text_front bs)
line_front bs = take_behind 65536 65532 (codes "rdp ") bs (omega arith)

pub text_front_is : (bs : List ℕ) (m : ℕ) → m ≡ min (length bs) 65532 → take m bs ≡ text_front bs
text_front_is bs m e = front_to bs m 65532 e

read_line_of : (bs : List ℕ) (p : TemplateTree) (rest : List ℕ) → lone_template (text_front bs) ≡ got p rest → line (front (as_line bs)) ≡ got (rdp p) rest
read_line_of bs p rest e = ap line (line_front bs) ∙ line_seen (text_front bs) ∙ ap (λ y. y >>= λ p rest. got (rdp p) rest) e

stop_line_of : (bs : List ℕ) (s : Stop) (rest : List ℕ) → lone_template (text_front bs) ≡ stop s rest → line (front (as_line bs)) ≡ stop s rest
stop_line_of bs s rest e = ap line (line_front bs) ∙ line_seen (text_front bs) ∙ ap (λ y. y >>= λ p rest. got (rdp p) rest) e

-- A text that the program reads as a template is the argument of that template's rdp line.
pub text_is_line : (bs : List ℕ) (p : TemplateTree) (rest : List ℕ) → length bs ≤ 65532 → lone_template (text_front bs) ≡ got p rest → IsLine (rdp p) (as_line bs)
text_is_line bs p rest l e = read_is_line (as_line bs) (rdp p) rest (omega (arith, l)) (read_line_of bs p rest e)

pub text_too_big : (bs : List ℕ) (p : TemplateTree) (rest : List ℕ) → 65532 < length bs → lone_template (text_front bs) ≡ got p rest → IsBadAt (as_line bs) 65536
text_too_big bs p rest l e = too_big (as_line bs) (rdp p) rest (omega (arith, l)) (read_line_of bs p rest e)

pub text_reads_only : (bs : List ℕ) (p q : TemplateTree) (rest : List ℕ) → IsLine (rdp p) (as_line bs) → lone_template (text_front bs) ≡ got q rest → q ≡ p
text_reads_only bs p q rest h e = let f : rdp q ≡ rdp p = line_reads_only (as_line bs) (rdp p) (rdp q) rest h (read_line_of bs q rest e) in cc

fault_behind : (s : Stop) (n m : ℕ) → m ≡ 4 + n → fault_at m s ≡ behind 4 (fault_at n s)
fault_behind BadByte n m e = ap faults.BadByte e
fault_behind TooDeep n m e = refl
fault_behind TooManyFields n m e = refl
fault_behind TooLong n m e = refl
fault_behind NoMemory n m e = refl

four_behind : (at bs : List ℕ) (n : ℕ) → at ≡ as_line bs → n ≤ length bs → length at - n ≡ 4 + (length bs - n)
four_behind at bs n e l = omega (arith, ap length e, l)

text_stopped : (bs : List ℕ) (s : Stop) (rest : List ℕ) → lone_template (text_front bs) ≡ stop s rest → Faults (behind 4 (fault_at (length (text_front bs) - length rest) s)) (as_line bs)
text_stopped bs s rest e =
    let l = stop_left (text_front bs) s rest e in
    let m = four_behind (front (as_line bs)) (text_front bs) (length rest) (line_front bs) l in
    subst (λ f. Faults f (as_line bs)) (fault_behind s (length (text_front bs) - length rest) (length (front (as_line bs)) - length rest) m) (stopped_faults (as_line bs) s rest (stop_line_of bs s rest e))

pub text_faults : (bs : List ℕ) (s : Stop) (at rest : List ℕ) → at ≡ text_front bs → ReadingStops s (lone_template at) rest → Faults (behind 4 (fault_at (length at - length rest) s)) (as_line bs)
text_faults bs NoMemory at rest e h = tt
text_faults bs BadByte at rest e h = subst (λ t. Faults (behind 4 (fault_at (length t - length rest) BadByte)) (as_line bs)) (sym e) (text_stopped bs BadByte rest (ap lone_template (sym e) ∙ h))
text_faults bs TooDeep at rest e h = subst (λ t. Faults (behind 4 (fault_at (length t - length rest) TooDeep)) (as_line bs)) (sym e) (text_stopped bs TooDeep rest (ap lone_template (sym e) ∙ h))
text_faults bs TooManyFields at rest e h = subst (λ t. Faults (behind 4 (fault_at (length t - length rest) TooManyFields)) (as_line bs)) (sym e) (text_stopped bs TooManyFields rest (ap lone_template (sym e) ∙ h))
text_faults bs TooLong at rest e h = subst (λ t. Faults (behind 4 (fault_at (length t - length rest) TooLong)) (as_line bs)) (sym e) (text_stopped bs TooLong rest (ap lone_template (sym e) ∙ h))

text_no_stop : (bs : List ℕ) (p : TemplateTree) (s : Stop) (rest : List ℕ) → IsLine (rdp p) (as_line bs) → lone_template (text_front bs) ≡ stop s rest → ⊥
text_no_stop bs p s rest h e = line_no_stop (as_line bs) (rdp p) s rest h (stop_line_of bs s rest e)

pub text_memory : (bs : List ℕ) (s : Stop) (at rest : List ℕ) (n : ℕ) (p : TemplateTree) → at ≡ text_front bs → ReadingStops s (lone_template at) rest → IsLine (rdp p) (as_line bs) → fault_at n s ≡ faults.NoMemory
text_memory bs NoMemory at rest n p e h l = refl
text_memory bs BadByte at rest n p e h l = absurd (text_no_stop bs p BadByte rest l (ap lone_template (sym e) ∙ h))
text_memory bs TooDeep at rest n p e h l = absurd (text_no_stop bs p TooDeep rest l (ap lone_template (sym e) ∙ h))
text_memory bs TooManyFields at rest n p e h l = absurd (text_no_stop bs p TooManyFields rest l (ap lone_template (sym e) ∙ h))
text_memory bs TooLong at rest n p e h l = absurd (text_no_stop bs p TooLong rest l (ap lone_template (sym e) ∙ h))
