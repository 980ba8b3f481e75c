-- A reader keeps to the grammar: the bytes of each value that it gives are a text of the value. If it stops, the
-- bytes that it passed begin a text.
use Rattle.std.proofs.Common.{◌≡◌, ℕ, ◌==◌, Bool, true, false, cond, List, [], ◌∷◌, ◌++◌, refl, ap, sym, subst, ◌∙◌}
use Rattle.std.proofs.Common.{append_assoc}
use Rattle.std.proofs.lemmas.Bool.{eqb-true}
use Rattle.tuple_text.specs.Reading.{Read, got, stop, Reading, ◌>>=◌, look, nothing}
use Rattle.tuple_text.specs.declared.reader.Stop.{Stop}
use Rattle.tuple_text.specs.declared.reader.Stop.TheVariants.{BadByte, TooDeep, TooManyFields, TooLong, NoMemory}

-- the limits that a text keeps
pub data Limits : Type 0 where
  both : Limits
  levels : Limits
  no_limits : Limits

-- The byte that stops a reader decides: B c w means that w begins a text within the limits c, D w that w ends with
-- the parenthesis that closes one that is too long.
abbrev pub DecidesAt : (Limits → List ℕ → Type 0) → (List ℕ → Type 0) → Stop → List ℕ → List ℕ → Type 0
DecidesAt B D BadByte w rest = Unit {0}
DecidesAt B D TooDeep w rest = (b : ℕ) × (t : List ℕ) × (rest ≡ b ∷ t) × B no_limits (w ++ b ∷ [])
DecidesAt B D TooManyFields w rest = (b : ℕ) × (t : List ℕ) × (rest ≡ b ∷ t) × B levels (w ++ b ∷ [])
DecidesAt B D TooLong w rest = (b : ℕ) × (t : List ℕ) × (rest ≡ b ∷ t) × B both (w ++ b ∷ []) × D (w ++ b ∷ [])
DecidesAt B D NoMemory w rest = ⊥

pub record StuckAt (B : Limits → List ℕ → Type 0) (D : List ℕ → Type 0) (s : Stop) (bs rest : List ℕ) : Type 0 where
  pub passed : List ℕ
  pub whole : bs ≡ passed ++ rest
  pub begins : B both passed
  pub decides : DecidesAt B D s passed rest

pub record Found {V : Type 0} (F : V → List ℕ → Type 0) (v : V) (bs rest : List ℕ) : Type 0 where
  pub passed : List ℕ
  pub whole : bs ≡ passed ++ rest
  pub is : F v passed

abbrev pub RightTo : {V : Type 0} → (V → List ℕ → Type 0) → (Limits → List ℕ → Type 0) → (List ℕ → Type 0) → List ℕ → Read V → Type 0
RightTo F B D bs (got v rest) = Found F v bs rest
RightTo F B D bs (stop s rest) = StuckAt B D s bs rest

-- Most readings never stop for a length.
abbrev pub Never : List ℕ → Type 0
Never w = ⊥

abbrev pub Stuck : (Limits → List ℕ → Type 0) → Stop → List ℕ → List ℕ → Type 0
Stuck B s bs rest = StuckAt B Never s bs rest

abbrev pub RightAs : {V : Type 0} → (V → List ℕ → Type 0) → (Limits → List ℕ → Type 0) → List ℕ → Read V → Type 0
RightAs F B bs x = RightTo F B Never bs x

decides_on : (B C : Limits → List ℕ → Type 0) (D E : List ℕ → Type 0) (front : List ℕ) → ((c : Limits) (w : List ℕ) → B c w → C c (front ++ w)) → ((w : List ℕ) → D w → E (front ++ w))
    → (s : Stop) (w rest : List ℕ) → DecidesAt B D s w rest → DecidesAt C E s (front ++ w) rest
decides_on B C D E front k l BadByte w rest d = tt
decides_on B C D E front k l TooDeep w rest d = (d.0, d.1, d.2, subst (C no_limits) (sym (append_assoc front w (d.0 ∷ []))) (k no_limits _ d.3))
decides_on B C D E front k l TooManyFields w rest d = (d.0, d.1, d.2, subst (C levels) (sym (append_assoc front w (d.0 ∷ []))) (k levels _ d.3))
decides_on B C D E front k l TooLong w rest d =
    (d.0, d.1, d.2, subst (C both) (sym (append_assoc front w (d.0 ∷ []))) (k both _ d.3), subst E (sym (append_assoc front w (d.0 ∷ []))) (l _ d.4))
decides_on B C D E front k l NoMemory w rest d = d

-- the same with a front before the bytes
stuck_on : (B C : Limits → List ℕ → Type 0) (D E : List ℕ → Type 0) (s : Stop) (front bs rest : List ℕ) → ((c : Limits) (w : List ℕ) → B c w → C c (front ++ w)) → ((w : List ℕ) → D w → E (front ++ w))
    → StuckAt B D s bs rest → StuckAt C E s (front ++ bs) rest
stuck_on B C D E s front bs rest k l h = record {
  passed = front ++ h.passed;
  whole = ap (λ t. front ++ t) h.whole ∙ sym (append_assoc front h.passed rest);
  begins = k both h.passed h.begins;
  decides = decides_on B C D E front k l s h.passed rest h.decides;
}

pub right_to : {W : Type 0} → (NextFound : W → List ℕ → Type 0) (NextBegins : Limits → List ℕ → Type 0) (NextEnds : List ℕ → Type 0) (F : W → List ℕ → Type 0) (B : Limits → List ℕ → Type 0) (D : List ℕ → Type 0) (front bs : List ℕ) (y : Read W)
    → ((w : W) (t : List ℕ) → NextFound w t → F w (front ++ t)) → ((c : Limits) (t : List ℕ) → NextBegins c t → B c (front ++ t)) → ((t : List ℕ) → NextEnds t → D (front ++ t)) → RightTo NextFound NextBegins NextEnds bs y → RightTo F B D (front ++ bs) y
right_to NextFound NextBegins NextEnds F B D front bs (got v rest) f k l h = record { passed = front ++ h.passed; whole = ap (λ t. front ++ t) h.whole ∙ sym (append_assoc front h.passed rest); is = f v h.passed h.is }
right_to NextFound NextBegins NextEnds F B D front bs (stop s rest) f k l h = stuck_on NextBegins B NextEnds D s front bs rest k l h

pub right_on : {W : Type 0} → (NextFound : W → List ℕ → Type 0) (NextBegins : Limits → List ℕ → Type 0) (F : W → List ℕ → Type 0) (B : Limits → List ℕ → Type 0) (front bs : List ℕ) (y : Read W)
    → ((w : W) (t : List ℕ) → NextFound w t → F w (front ++ t)) → ((c : Limits) (t : List ℕ) → NextBegins c t → B c (front ++ t)) → RightAs NextFound NextBegins bs y → RightAs F B (front ++ bs) y
right_on NextFound NextBegins F B front bs y f k h = right_to NextFound NextBegins Never F B Never front bs y f k (λ t d. d) h

-- First r, and then f v for the value v that r gives.
pub then_to : {V W : Type 0} → (FirstFound : V → List ℕ → Type 0) (FirstBegins : Limits → List ℕ → Type 0) (FirstEnds : List ℕ → Type 0) (NextFound : V → W → List ℕ → Type 0) (NextBegins : V → Limits → List ℕ → Type 0) (NextEnds : V → List ℕ → Type 0) (F : W → List ℕ → Type 0) (B : Limits → List ℕ → Type 0) (D : List ℕ → Type 0)
    → (bs : List ℕ) (x : Read V) (f : V → Reading W)
    → ((c : Limits) (t : List ℕ) → FirstBegins c t → B c t)
    → ((t : List ℕ) → FirstEnds t → D t)
    → ((v : V) (front : List ℕ) → FirstFound v front → (w : W) (t : List ℕ) → NextFound v w t → F w (front ++ t))
    → ((v : V) (front : List ℕ) → FirstFound v front → (c : Limits) (t : List ℕ) → NextBegins v c t → B c (front ++ t))
    → ((v : V) (front : List ℕ) → FirstFound v front → (t : List ℕ) → NextEnds v t → D (front ++ t))
    → RightTo FirstFound FirstBegins FirstEnds bs x → ((v : V) (rest : List ℕ) → RightTo (NextFound v) (NextBegins v) (NextEnds v) rest (f v rest)) → RightTo F B D bs (x >>= f)
then_to FirstFound FirstBegins FirstEnds NextFound NextBegins NextEnds F B D bs (stop s rest) f begins_first ends_first found_next begins_next ends_next h r = stuck_on FirstBegins B FirstEnds D s [] bs rest begins_first ends_first h
then_to FirstFound FirstBegins FirstEnds NextFound NextBegins NextEnds F B D bs (got v rest) f begins_first ends_first found_next begins_next ends_next h r =
    subst (λ t. RightTo F B D t (f v rest)) (sym h.whole) (right_to (NextFound v) (NextBegins v) (NextEnds v) F B D h.passed rest (f v rest) (found_next v h.passed h.is) (begins_next v h.passed h.is) (ends_next v h.passed h.is) (r v rest))

pub then_right : {V W : Type 0} → (FirstFound : V → List ℕ → Type 0) (FirstBegins : Limits → List ℕ → Type 0) (NextFound : V → W → List ℕ → Type 0) (NextBegins : V → Limits → List ℕ → Type 0) (F : W → List ℕ → Type 0) (B : Limits → List ℕ → Type 0)
    → (bs : List ℕ) (x : Read V) (f : V → Reading W)
    → ((c : Limits) (t : List ℕ) → FirstBegins c t → B c t)
    → ((v : V) (front : List ℕ) → FirstFound v front → (w : W) (t : List ℕ) → NextFound v w t → F w (front ++ t))
    → ((v : V) (front : List ℕ) → FirstFound v front → (c : Limits) (t : List ℕ) → NextBegins v c t → B c (front ++ t))
    → RightAs FirstFound FirstBegins bs x → ((v : V) (rest : List ℕ) → RightAs (NextFound v) (NextBegins v) rest (f v rest)) → RightAs F B bs (x >>= f)
then_right FirstFound FirstBegins NextFound NextBegins F B bs x f begins_first found_next begins_next h r = then_to FirstFound FirstBegins Never NextFound NextBegins (λ v. Never) F B Never bs x f begins_first (λ t d. d) found_next begins_next (λ v front i t d. d) h r

pub nothing_passed : (B : Limits → List ℕ → Type 0) (D : List ℕ → Type 0) (bs : List ℕ) → B both [] → StuckAt B D BadByte bs bs
nothing_passed B D bs b = record { passed = []; whole = refl; begins = b; decides = tt }

-- A reading that looks at the first byte.
look_case : {V : Type 0} → (F : V → List ℕ → Type 0) (B : Limits → List ℕ → Type 0) (D : List ℕ → Type 0) (c : ℕ) (f g : Reading V) (b : ℕ) (bs : List ℕ) (s : Bool) → (b == c) ≡ s
    → ((bs : List ℕ) → RightTo F B D (c ∷ bs) (f (c ∷ bs))) → ((bs : List ℕ) → RightTo F B D bs (g bs)) → RightTo F B D (b ∷ bs) (cond s (f (b ∷ bs)) (g (b ∷ bs)))
look_case F B D c f g b bs true e h k = subst (λ x. RightTo F B D (x ∷ bs) (f (x ∷ bs))) (sym (eqb-true b c e)) (h bs)
look_case F B D c f g b bs false e h k = k (b ∷ bs)

pub look_at : {V : Type 0} → (F : V → List ℕ → Type 0) (B : Limits → List ℕ → Type 0) (D : List ℕ → Type 0) (c : ℕ) (f g : Reading V) → B both [] → ((bs : List ℕ) → RightTo F B D (c ∷ bs) (f (c ∷ bs))) → ((bs : List ℕ) → RightTo F B D bs (g bs))
    → (bs : List ℕ) → RightTo F B D bs (look c f g bs)
look_at F B D c f g b h k [] = nothing_passed B D [] b
look_at F B D c f g b h k (x ∷ bs) = look_case F B D c f g x bs (x == c) refl h k

pub look_right : {V : Type 0} → (F : V → List ℕ → Type 0) (B : Limits → List ℕ → Type 0) (D : List ℕ → Type 0) (c : ℕ) (f g : Reading V) → B both [] → ((bs : List ℕ) → RightTo F B D bs (f bs)) → ((bs : List ℕ) → RightTo F B D bs (g bs))
    → (bs : List ℕ) → RightTo F B D bs (look c f g bs)
look_right F B D c f g b h k bs = look_at F B D c f g b (λ u. h (c ∷ u)) k bs

pub nothing_right : {V : Type 0} → (F : V → List ℕ → Type 0) (B : Limits → List ℕ → Type 0) (D : List ℕ → Type 0) → B both [] → (bs : List ℕ) → RightTo F B D bs (nothing bs)
nothing_right F B D b bs = nothing_passed B D bs b
