-- Reading the arguments of a line, one after the other.
use Rattle.std.proofs.Common.{◌≡◌, ℕ, List, [], ◌∷◌, ◌++◌, refl, ap, sym, subst, ◌∙◌, append_assoc, append-nil, arith}
use Rattle.std.proofs.Common.{◌⊎◌, inl, inr}
use Rattle.tuple_codec.specs.Operations.{Operation}
use Rattle.tuple_text.specs.Texts.{AreBlanks, IsGap}
use Rattle.tuple_text.specs.Reading.{got, Reading, ◌>>=◌, word, gap, argument, ending, ended}
use Rattle.tuple_text.proofs.Right.{Limits, RightTo, RightAs, Never, then_to, then_right}
use Rattle.tuple_text.proofs.Blanks.{Gap, BeginsGap, gap_right, blanks_append, IsWord, BeginsWord, word_right, Ending}
use Rattle.tuple_text.proofs.Blanks.{BeginsBlanks, ending_right}
use Rattle.tuple_text.proofs.Numbers.{ends_there}

abbrev pub Begins : {V : Type 0} → (Limits → V → List ℕ → Type 0) → Limits → List ℕ → Type 0
Begins {V} P c w = (v : V) × (u : List ℕ) × P c v (w ++ u)

-- a gap, and then a text with the property P
abbrev pub Behind : (List ℕ → Type 0) → List ℕ → Type 0
Behind P w = (space front : List ℕ) × (w ≡ space ++ front) × IsGap space × P front

-- a gap and an argument, and the rest of the line
abbrev pub Then : {V : Type 0} → (V → List ℕ → Type 0) → (V → Operation → List ℕ → Type 0) → Operation → List ℕ → Type 0
Then {V} F G o w = (v : V) × (front rest : List ℕ) × (w ≡ front ++ rest) × Behind (F v) front × G v o rest

-- The argument is too long, or a later one is.
abbrev pub LongThen : {V : Type 0} → (V → List ℕ → Type 0) → (List ℕ → Type 0) → (V → List ℕ → Type 0) → List ℕ → Type 0
LongThen {V} F D E w = Behind D w ⊎ ((v : V) × (front rest : List ℕ) × (w ≡ front ++ rest) × Behind (F v) front × E v rest)

-- A gap and an argument: F holds of the argument that is read, P c of a text within the limits c, D of one that is
-- too long.
module _ {V : Type 0} (F : V → List ℕ → Type 0) (P : Limits → V → List ℕ → Type 0) (D : List ℕ → Type 0) (some : (c : Limits) → (v : V) × (w : List ℕ) × P c v w) (weaker : (c : Limits) (v : V) (w : List ℕ) → F v w → P c v w) where
  longer_gap : (w : List ℕ) → AreBlanks w → IsGap (w ++ 32 ∷ [])
  longer_gap [] h = (omega arith, (refl, tt))
  longer_gap (b ∷ w) h = (omega arith, (h.0, blanks_append w (32 ∷ []) h.1 (refl, tt)))

  begins_behind : (c : Limits) (w : List ℕ) → BeginsGap c w → Begins (λ c v. Behind (P c v)) c w
  begins_behind c w h =
      let s = some c in
      (s.0, 32 ∷ s.1, (w ++ 32 ∷ [], s.1, sym (append_assoc w (32 ∷ []) s.1), longer_gap w h, s.2))

  pub argument_right : (one : Reading V) (bs : List ℕ) → ((rest : List ℕ) → RightTo F (Begins P) D rest (one rest)) → RightTo (λ v. Behind (F v)) (Begins (λ c v. Behind (P c v))) (Behind D) bs (argument one bs)
  unfolding argument
  argument_right one bs h =
      then_to Gap BeginsGap Never (λ _. F) (λ _. Begins P) (λ _. D) (λ v. Behind (F v)) (Begins (λ c v. Behind (P c v))) (Behind D) bs (gap bs) (λ _ rest. one rest)
      begins_behind (λ w d. absurd d)
      (λ _ space g v w k. (space, w, refl, g, k))
      (λ _ space g c w k. (k.0, k.1, (space, w ++ k.1, append_assoc space w k.1, g, k.2)))
      (λ _ space g w d. (space, w, refl, g, d))
      (gap_right bs) (λ _ rest. h rest)

  -- An argument, and the rest of the line.
  module _ (G : V → Operation → List ℕ → Type 0) (T : V → Limits → Operation → List ℕ → Type 0) (E : V → List ℕ → Type 0) where
    behind_weaker : (c : Limits) (v : V) (w : List ℕ) → Behind (F v) w → Behind (P c v) w
    behind_weaker c v w h = (h.0, h.1, h.2, h.3, weaker c v h.1 h.4)

    pub some_then : (c : Limits) → ((v : V) → (o : Operation) × (w : List ℕ) × T v c o w) → (o : Operation) × (w : List ℕ) × Then (P c) (λ v. T v c) o w
    some_then c tail = let s = some c in let t = tail s.0 in (t.0, (32 ∷ s.1) ++ t.1, (s.0, 32 ∷ s.1, t.1, refl, (32 ∷ [], s.1, refl, (omega arith, (refl, tt)), s.2), t.2))

    pub argument_then : (one : Reading V) (tail : V → Reading Operation) (bs : List ℕ) → ((v : V) (c : Limits) → (o : Operation) × (w : List ℕ) × T v c o w)
        → ((rest : List ℕ) → RightTo F (Begins P) D rest (one rest)) → ((v : V) (rest : List ℕ) → RightTo (G v) (Begins (T v)) (E v) rest (tail v rest))
        → RightTo (Then F G) (Begins (λ c. Then (P c) (λ v. T v c))) (LongThen F D E) bs (argument one bs >>= tail)
    argument_then one tail bs rest_of h t =
        then_to (λ v. Behind (F v)) (Begins (λ c v. Behind (P c v))) (Behind D) G (λ v. Begins (T v)) E (Then F G) (Begins (λ c. Then (P c) (λ v. T v c))) (LongThen F D E) bs (argument one bs) tail
        (λ c w k. let e = rest_of k.0 c in (e.0, k.1 ++ e.1, (k.0, w ++ k.1, e.1, sym (append_assoc w k.1 e.1), k.2, e.2)))
        (λ w d. inl d)
        (λ v front k o w m. (v, front, w, refl, k, m))
        (λ v front k c w m. (m.0, m.1, (v, front, w ++ m.1, append_assoc front w m.1, behind_weaker c v front k, m.2)))
        (λ v front k w d. inr (v, front, w, refl, k, d))
        (argument_right one bs h) t

-- The rest after the last argument: blanks.
abbrev pub IsDone : Operation → Operation → List ℕ → Type 0
IsDone o p w = (p ≡ o) × AreBlanks w

pub done_right : (o : Operation) (bs : List ℕ) → RightAs (IsDone o) (Begins (λ c. IsDone o)) bs (ended o bs)
unfolding ended
done_right o bs =
    then_right Ending BeginsBlanks (λ _ p w. (p ≡ o) × (w ≡ [])) (λ _ c w. ⊥) (IsDone o) (Begins (λ c. IsDone o)) bs (ending bs) (λ _ last. got o last)
    (λ c w h. (o, [], (refl, subst AreBlanks (sym (append-nil w)) h)))
    (λ _ front h p w e. ends_there (IsDone o) o p front w e.0 e.1 (refl, h))
    (λ _ front h c w e. absurd e)
    (ending_right bs) (λ _ rest. record { passed = []; whole = refl; is = (refl, refl) })

-- A word, and the rest of the line. pre are the bytes passed before the word; G, M and N speak of whole lines.
module _ (G : Operation → List ℕ → Type 0) (M : Limits → Operation → List ℕ → Type 0) (N : List ℕ → Type 0) (pre cs : List ℕ) (F : Operation → List ℕ → Type 0) (P : Limits → Operation → List ℕ → Type 0) (D : List ℕ → Type 0)
    (good : (o : Operation) (w : List ℕ) → F o w → G o (pre ++ (cs ++ w))) (limited : (c : Limits) (o : Operation) (w : List ℕ) → P c o w → M c o (pre ++ (cs ++ w))) (long : (w : List ℕ) → D w → N (pre ++ (cs ++ w)))
    (some : (c : Limits) → (o : Operation) × (w : List ℕ) × P c o w) where
  word_begins : (c : Limits) (w : List ℕ) → BeginsWord cs c w → Begins M c (pre ++ w)
  word_begins c w h =
      let s = some c in
      (s.0, h.0 ++ s.1, subst (M c s.0) (ap (λ t. pre ++ (t ++ s.1)) (sym h.1) ∙ ap (λ t. pre ++ t) (append_assoc w h.0 s.1) ∙ sym (append_assoc pre w (h.0 ++ s.1))) (limited c s.0 s.1 s.2))

  behind_begins : (front : List ℕ) → front ≡ cs → (c : Limits) (w : List ℕ) → Begins P c w → Begins M c (pre ++ (front ++ w))
  behind_begins front e c w h =
      (h.0, h.1, subst (M c h.0) (ap (λ t. pre ++ (t ++ (w ++ h.1))) (sym e) ∙ ap (λ t. pre ++ t) (sym (append_assoc front w h.1)) ∙ sym (append_assoc pre (front ++ w) h.1)) (limited c h.0 (w ++ h.1) h.2))

  pub named_to : (tail : Reading Operation) → ((rest : List ℕ) → RightTo F (Begins P) D rest (tail rest)) → (bs : List ℕ)
      → RightTo (λ o w. G o (pre ++ w)) (λ c w. Begins M c (pre ++ w)) (λ w. N (pre ++ w)) bs (word cs bs >>= λ _ rest. tail rest)
  named_to tail h bs =
      then_to (IsWord cs) (BeginsWord cs) Never (λ _. F) (λ _. Begins P) (λ _. D) (λ o w. G o (pre ++ w)) (λ c w. Begins M c (pre ++ w)) (λ w. N (pre ++ w)) bs (word cs bs) (λ _ rest. tail rest)
      word_begins (λ w d. absurd d)
      (λ _ front e o w k. subst (λ t. G o (pre ++ (t ++ w))) (sym e) (good o w k))
      (λ _ front e. behind_begins front e)
      (λ _ front e w d. subst (λ t. N (pre ++ (t ++ w))) (sym e) (long w d))
      (word_right cs bs) (λ _ rest. h rest)
