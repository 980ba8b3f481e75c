-- Bytes that stand for themselves in a text literal are read all at once.
use Rattle.std.proofs.Common.{◌≡◌, ℕ, zero, suc, ◌+◌, ◌-◌, ◌≤◌, ◌<◌, ◌==◌, Bool, true, false, not, ◌&&◌, ◌||◌}
use Rattle.std.proofs.Common.{if◌then◌else◌, List, [], ◌∷◌, ◌++◌, length, take, drop, get_or, get_or-take, refl, ap}
use Rattle.std.proofs.Common.{sym, subst, ◌∙◌, append_assoc, append-nil, arith}
use Rattle.std.proofs.lemmas.List.{take_all}
use Rattle.tuple_tree.specs.Values.{text}
use Rattle.tuple_text.specs.Literals.{is_between, is_plain, led, step, stepped, text_from, PassesPlain, text_literal}
use Rattle.tuple_text.specs.Reading.{got, stop, ◌>>=◌, quoted, datum}
use Rattle.tuple_text.specs.declared.reader.Stop.TheVariants.{BadByte}
use Rattle.tuple_text.specs.declared.literals.Expected.TheVariants.{Character, Escape}
use Rattle.tuple_text.specs.declared.literals.Step.TheVariants.{Ends, Passes, Adds}

adds_by : (quote slash between : Bool) (b : ℕ) → (between && not (quote || slash)) ≡ true
    → (if quote then Ends else (if slash then Passes Escape else (if between then Adds b Character else led b))) ≡ Adds b Character
adds_by false false true b h = refl
adds_by quote slash false b h = absurd (cc)
adds_by true slash true b h = absurd (cc)
adds_by false true true b h = absurd (cc)

plain_step : (b : ℕ) → is_plain b ≡ true → step Character b ≡ Adds b Character
plain_step b h = adds_by (b == 34) (b == 92) (is_between 32 127 b) b h

read_plain : (bs s : List ℕ) (n : ℕ) → n ≤ length bs → ((k : ℕ) → k < n → is_plain (get_or bs k 0) ≡ true)
    → text_from Character (s ++ take n bs) (drop n bs) ≡ text_from Character s bs
read_plain bs s zero h p = ap (λ t. text_from Character t bs) (append-nil s)
read_plain [] s (suc n) h p = absurd (omega arith)
read_plain (b ∷ bs) s (suc n) h p =
    ap (λ t. text_from Character t (drop n bs)) (sym (append_assoc s (b ∷ []) (take n bs)))
    ∙ read_plain bs (s ++ b ∷ []) n (omega arith) (λ k q. p (suc k) (omega arith))
    ∙ ap (λ x. stepped x s (stop BadByte (b ∷ bs)) (got s bs) (λ f t. text_from f t bs)) (sym (plain_step b (p 0 (omega arith))))

pub passes_plain : (bs : List ℕ) (n : ℕ) → n ≤ length bs → ((k : ℕ) → k < n → is_plain (get_or bs k 0) ≡ true) → PassesPlain (take n bs) bs (drop n bs)
passes_plain bs n h p = read_plain bs [] n h p

pub first_of : (bs : List ℕ) (b n : ℕ) → 1 ≤ length bs → get_or bs 0 0 ≡ b → n ≡ length bs - 1 → bs ≡ b ∷ take n (drop 1 bs)
first_of [] b n h e k = absurd (omega arith)
first_of (x ∷ xs) b n h e k = ap (λ y. y ∷ xs) e ∙ ap (λ ys. b ∷ ys) (sym (take_all n xs (omega (arith, k))))

-- a text literal of such bytes alone
pub plain_whole : (bs front behind rest plain : List ℕ) (n : ℕ) → bs ≡ 34 ∷ front → behind ≡ 34 ∷ rest → n ≤ length front → ((k : ℕ) → k < n → is_plain (get_or front k 0) ≡ true)
    → plain ≡ take n front → behind ≡ drop n front → datum bs ≡ got (text plain) rest
unfolding datum quoted text_literal
plain_whole bs front behind rest plain n e f h p k l =
    let read : text_from Character [] front ≡ got plain rest = sym (passes_plain front n h p) ∙ ap (text_from Character (take n front)) (sym l ∙ f) ∙ ap (λ s. got s rest) (sym k) in
    ap datum e ∙ ap (λ x. x >>= λ s u. got (text s) u) read

-- what holds of the first n bytes, and of the m behind them
pub further : (P : ℕ → Bool) (xs : List ℕ) (n m : ℕ) → ((k : ℕ) → k < n → P (get_or xs k 0) ≡ true)
    → ((k : ℕ) → k < m → P (get_or (drop n xs) k 0) ≡ true) → (k : ℕ) → k < n + m → P (get_or xs k 0) ≡ true
further P xs zero m p q k h = q k (omega arith)
further P [] (suc n) m p q k h = p 0 (omega arith)
further P (x ∷ xs) (suc n) m p q zero h = p 0 (omega arith)
further P (x ∷ xs) (suc n) m p q (suc k) h = further P xs n m (λ j l. p (suc j) (omega arith)) q k (omega arith)

pub in_front : (P : ℕ → Bool) (xs ys : List ℕ) (n m : ℕ) → ys ≡ take n xs → m ≤ n → ((k : ℕ) → k < m → P (get_or ys k 0) ≡ true)
    → (k : ℕ) → k < m → P (get_or xs k 0) ≡ true
in_front P xs ys n m e l p k h = subst (λ b. P b ≡ true) (ap (λ zs. get_or zs k 0) e ∙ get_or-take n xs k 0 (omega (arith, l, h))) (p k h)
