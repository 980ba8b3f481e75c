-- Reading blanks, words and gaps.
use Rattle.std.proofs.Common.{◌≡◌, ℕ, ◌<◌, ◌==◌, Bool, true, false, cond, List, [], ◌∷◌, ◌++◌, length, refl, ap, sym}
use Rattle.std.proofs.Common.{subst, ◌∙◌, append-nil, arith, ◌⊎◌, inl, inr, if◌then◌else◌}
use Rattle.std.proofs.lemmas.Bool.{eqb-true}
use Rattle.tuple_text.specs.Texts.{AreBlanks, IsGap}
use Rattle.tuple_text.specs.Reading.{Read, got, stop, ◌>>=◌, blanks, word, gap, finish, ending}
use Rattle.tuple_text.specs.declared.reader.Stop.TheVariants.{BadByte}
use Rattle.tuple_text.proofs.Right.{Limits, RightAs, Never, right_on, then_right, nothing_passed}

-- an item may begin after these blanks: free says so, or there is a blank
abbrev pub Frees : Bool → List ℕ → Type 0
Frees free w = (free ≡ true) ⊎ (0 < length w)

abbrev pub ArePassed : Bool → Bool → List ℕ → Type 0
ArePassed free v w = AreBlanks w × (v ≡ true → Frees free w)

abbrev pub BeginsBlanks : Limits → List ℕ → Type 0
BeginsBlanks c w = AreBlanks w

frees_more : (free v : Bool) (w : List ℕ) → ArePassed true v w → ArePassed free v (32 ∷ w)
frees_more free v w h = ((refl, h.0), λ _. inr (omega arith))

blanks_case : (free : Bool) (b : ℕ) (bs : List ℕ) (s : Bool) → (b == 32) ≡ s → RightAs (ArePassed true) BeginsBlanks bs (blanks true bs)
    → RightAs (ArePassed free) BeginsBlanks (b ∷ bs) (cond s (blanks true bs) (got free (b ∷ bs)))
blanks_case free b bs true e h =
    subst (λ c. RightAs (ArePassed free) BeginsBlanks (c ∷ bs) (blanks true bs)) (sym (eqb-true b 32 e))
    (right_on (ArePassed true) BeginsBlanks (ArePassed free) BeginsBlanks (32 ∷ []) bs (blanks true bs) (frees_more free) (λ c w k. (refl, k)) h)
blanks_case free b bs false e h = record { passed = []; whole = refl; is = (tt, λ p. inl p) }

pub blanks_right : (free : Bool) (bs : List ℕ) → RightAs (ArePassed free) BeginsBlanks bs (blanks free bs)
blanks_right free [] = record { passed = []; whole = refl; is = (tt, λ p. inl p) }
blanks_right free (b ∷ bs) = blanks_case free b bs (b == 32) refl (blanks_right true bs)

abbrev pub IsWord : List ℕ → Bool → List ℕ → Type 0
IsWord cs v w = w ≡ cs

abbrev pub BeginsWord : List ℕ → Limits → List ℕ → Type 0
BeginsWord cs c w = (u : List ℕ) × (w ++ u ≡ cs)

word_case : (d : ℕ) (cs : List ℕ) (b : ℕ) (bs : List ℕ) (s : Bool) → (b == d) ≡ s → RightAs (IsWord cs) (BeginsWord cs) bs (word cs bs)
    → RightAs (IsWord (d ∷ cs)) (BeginsWord (d ∷ cs)) (b ∷ bs) (cond s (word cs bs) (stop BadByte (b ∷ bs)))
word_case d cs b bs true e h =
    subst (λ c. RightAs (IsWord (d ∷ cs)) (BeginsWord (d ∷ cs)) (c ∷ bs) (word cs bs)) (sym (eqb-true b d e))
    (right_on (IsWord cs) (BeginsWord cs) (IsWord (d ∷ cs)) (BeginsWord (d ∷ cs)) (d ∷ []) bs (word cs bs) (λ v w k. ap (λ t. d ∷ t) k) (λ c w k. (k.0, ap (λ t. d ∷ t) k.1)) h)
word_case d cs b bs false e h = nothing_passed (BeginsWord (d ∷ cs)) Never (b ∷ bs) (d ∷ cs, refl)

pub word_right : (cs bs : List ℕ) → RightAs (IsWord cs) (BeginsWord cs) bs (word cs bs)
word_right [] bs = record { passed = []; whole = refl; is = refl }
word_right (d ∷ cs) [] = nothing_passed (BeginsWord (d ∷ cs)) Never [] (d ∷ cs, refl)
word_right (d ∷ cs) (b ∷ bs) = word_case d cs b bs (b == d) refl (word_right cs bs)

pub blanks_append : (v w : List ℕ) → AreBlanks v → AreBlanks w → AreBlanks (v ++ w)
blanks_append [] w p q = q
blanks_append (b ∷ v) w p q = (p.0, blanks_append v w p.1 q)

abbrev pub Gap : Bool → List ℕ → Type 0
Gap v w = IsGap w

-- Each text of blanks alone begins a gap.
abbrev pub BeginsGap : Limits → List ℕ → Type 0
BeginsGap c w = AreBlanks w

pub gap_passed : (w : List ℕ) → AreBlanks w → Frees false w → IsGap w
gap_passed w h (inl e) = absurd (let g : ⊥ = cc in g)
gap_passed w h (inr p) = (p, h)

gap_end : (v : Bool) (w rest : List ℕ) → ArePassed false v w → RightAs Gap BeginsGap (w ++ rest) (if v then got true rest else stop BadByte rest)
gap_end true w rest h = record { passed = w; whole = refl; is = gap_passed w h.0 (h.1 refl) }
gap_end false w rest h = record { passed = w; whole = refl; begins = h.0; decides = tt }

gap_as : (bs : List ℕ) (x : Read Bool) → RightAs (ArePassed false) BeginsBlanks bs x → RightAs Gap BeginsGap bs (x >>= λ free rest. if free then got true rest else stop BadByte rest)
gap_as bs (got v rest) h = subst (λ t. RightAs Gap BeginsGap t (if v then got true rest else stop BadByte rest)) (sym h.whole) (gap_end v h.passed rest h.is)
gap_as bs (stop s rest) h = right_on Gap BeginsBlanks Gap BeginsGap [] bs (stop s rest) (λ v w k. k) (λ c w k. k) h

pub gap_right : (bs : List ℕ) → RightAs Gap BeginsGap bs (gap bs)
gap_right bs = gap_as bs (blanks false bs) (blanks_right false bs)

abbrev pub Ending : Bool → List ℕ → Type 0
Ending v w = AreBlanks w

finish_right : (bs : List ℕ) → RightAs (λ v w. w ≡ []) (λ c w. w ≡ []) bs (finish bs)
finish_right [] = record { passed = []; whole = refl; is = refl }
finish_right (b ∷ bs) = nothing_passed (λ c w. w ≡ []) Never (b ∷ bs) refl

pub ending_right : (bs : List ℕ) → RightAs Ending BeginsBlanks bs (ending bs)
unfolding ending
ending_right bs =
    then_right (ArePassed true) BeginsBlanks (λ _ v w. w ≡ []) (λ _ c w. w ≡ []) Ending BeginsBlanks bs (blanks true bs) (λ _ rest. finish rest)
    (λ c w h. h)
    (λ _ front h v w e. subst AreBlanks (sym (ap (λ t. front ++ t) e ∙ append-nil front)) h.0)
    (λ _ front h c w e. subst AreBlanks (sym (ap (λ t. front ++ t) e ∙ append-nil front)) h.0)
    (blanks_right true bs) (λ _ rest. finish_right rest)

-- Again: blanks, and something that isn't one.
abbrev pub NoBlank : List ℕ → Type 0
NoBlank [] = Unit {0}
NoBlank (b ∷ bs) = (b == 32) ≡ false

-- whether an item may begin after these blanks
abbrev pub freed : Bool → List ℕ → Bool
freed free [] = free
freed free (b ∷ bs) = true

blanks_stop : (free : Bool) (u : List ℕ) → NoBlank u → blanks free u ≡ got free u
blanks_stop free [] h = refl
blanks_stop free (b ∷ u) h = ap (λ s. cond s (blanks true u) (got free (b ∷ u))) h

freed_true : (w : List ℕ) → freed true w ≡ true
freed_true [] = refl
freed_true (b ∷ w) = refl

pub blanks_again : (free : Bool) (w u : List ℕ) → AreBlanks w → NoBlank u → blanks free (w ++ u) ≡ got (freed free w) u
blanks_again free [] u h k = blanks_stop free u k
blanks_again free (b ∷ w) u h k =
    let e : (b == 32) ≡ true = ap (λ c. c == 32) h.0 in
    ap (λ s. cond s (blanks true (w ++ u)) (got free (b ∷ w ++ u))) e ∙ blanks_again true w u h.1 k ∙ ap (λ v. got v u) (freed_true w)

pub gap_again : (w u : List ℕ) → IsGap w → NoBlank u → gap (w ++ u) ≡ got true u
gap_again [] u h k = absurd (let p : 0 < 0 = h.0 in omega arith)
gap_again (b ∷ w) u h k = ap (λ y. y >>= λ free rest. if free then got true rest else stop BadByte rest) (blanks_again false (b ∷ w) u h.1 k)

pub ending_again : (w : List ℕ) → AreBlanks w → ending w ≡ got true []
unfolding ending
ending_again w h =
    ap (λ t. blanks true t >>= λ _ rest. finish rest) (sym (append-nil w)) ∙ ap (λ y. y >>= λ _ rest. finish rest) (blanks_again true w [] h tt)
