-- The refusals of a list of items, clause by clause.
use Rattle.std.proofs.Common.{◌≡◌, ℕ, zero, suc, ◌+◌, ◌≤◌, ◌<◌, inl, inr, List, [], ◌∷◌, ◌++◌, length, slice_get, refl, sym, subst, arith, Some}
use Rattle.tuple_codec.specs.Operations.{Operation, Outcome}
use Rattle.space.specs.Applying.{Contents, no_tuples}
use Rattle.terms.specs.declared.order.Mode.TheVariants as modes
use Rattle.wire_format.specs.Messages.{request as Request}
use Rattle.protocol.specs.System.Configuration.{Configuration, members}
use Rattle.signing.specs.AuthenticBody.{authentic}
use Rattle.protocol.specs.System.Trace.{Entry, Once, Always, Has, frames_in}
use Rattle.protocol.specs.System.Trace.Entry.{Invoke, Got, Accepted}
use Rattle.protocol.specs.Space.Linear.{Item, item_outcome, item_after, LegalFrom, Invokes, Accepts, EntryAsks, NoneTwice, NeverFall}
use Rattle.evidence.specs.RefusedItems.{tuples_left_by, AnswersAsOneSpace, ListsWhatIsAccepted, ListsWhatIsCalled, IsAskedAt, ListsWhatIsAsked, ListsNoneTwice, PlacesInOrder, PlacesBehindCalls, PlacesBeforeAcceptances, LinearIsAllThree}
use Rattle.protocol.proofs.Words.Temporal.{once_weaker}
use Rattle.protocol.proofs.Words.Elements.{has_some, has_weaker}

has_got : (P : Item → Type 0) (i : ℕ) (items : List Item) (x : Item) → slice_get items i ≡ Some x → P x → Has P items
has_got P i [] x get p = absurd cc
has_got P zero (y ∷ items) x get p = let same : y ≡ x = cc in inl (subst P (sym same) p)
has_got P (suc i) (y ∷ items) x get p = inr (has_got P i items x get p)

once_has : (P : List Entry → Entry → Type 0) (Q : Entry → Type 0) → ((past : List Entry) (e : Entry) → P past e → Q e) → (xs : List Entry) → Once P xs → Has Q xs
once_has P Q f [] h = h
once_has P Q f (e ∷ past) (inl h) = inl (f past e h)
once_has P Q f (e ∷ past) (inr h) = inr (once_has P Q f past h)

always_at : (P : List Entry → Entry → Type 0) (later past : List Entry) (e : Entry) → Always P (later ++ e ∷ past) → P past e
always_at P [] past e h = h.0
always_at P (x ∷ later) past e h = always_at P later past e h.1

-- ---- legal

answers : (ts : Contents) (before after : List Item) (item : Item) → LegalFrom ts (before ++ item ∷ after) → item.answer ≡ item_outcome (tuples_left_by ts before) item
answers ts [] after item h = h.0
answers ts (x ∷ before) after item h = answers (item_after ts x) before after item h.1

pub answers_as_one_space : AnswersAsOneSpace
answers_as_one_space before after item h = answers no_tuples before after item h

-- ---- covers

is_call : (client timestamp : ℕ) (op : Operation) (past : List Entry) (e : Entry) → Invokes (256 + client) timestamp op past e → e ≡ Invoke client timestamp op
is_call client timestamp op past (Invoke k t o) h =
    let same : k ≡ client = omega (arith, h.0) in
    let time : t ≡ timestamp = h.1 in
    let does : o ≡ op = h.2 in
    cc
is_call client timestamp op past (Got p bytes) h = absurd h
is_call client timestamp op past _ h = absurd h

accepts_there : (client timestamp : ℕ) (answer : Outcome) (trace : List Entry) → Has (λ e. e ≡ Accepted client timestamp answer) trace → Once (Accepts (256 + client) timestamp answer) trace
accepts_there client timestamp answer [] h = h
accepts_there client timestamp answer (e ∷ past) (inl is) = inl (subst (λ (x : Entry). Accepts (256 + client) timestamp answer past x) (sym is) (refl, refl, refl))
accepts_there client timestamp answer (e ∷ past) (inr h) = inr (accepts_there client timestamp answer past h)

called : (client timestamp : ℕ) (op : Operation) (trace : List Entry) → Once (Invokes (256 + client) timestamp op) trace → Has (λ e. e ≡ Invoke client timestamp op) trace
called client timestamp op trace h = once_has (Invokes (256 + client) timestamp op) (λ e. e ≡ Invoke client timestamp op) (is_call client timestamp op) trace h

pub lists_what_is_accepted : ListsWhatIsAccepted
lists_what_is_accepted c items trace client timestamp answer covers correct has =
    has_weaker (λ (item : Item). (item.client ≡ 256 + client) × (item.timestamp ≡ timestamp) × (item.answer ≡ answer) × Once (Invokes (256 + client) timestamp item.op) trace)
    (λ (item : Item). (item.client ≡ 256 + client) × (item.timestamp ≡ timestamp) × (item.answer ≡ answer) × Has (λ e. e ≡ Invoke client timestamp item.op) trace)
    (λ item h. (h.0, h.1, h.2, called client timestamp item.op trace h.3)) items
    (covers.accepted (256 + client) timestamp answer correct (accepts_there client timestamp answer trace has))

pub lists_what_is_called : ListsWhatIsCalled
lists_what_is_called c items trace item client covers has is correct =
    called client item.timestamp item.op trace (subst (λ (p : ℕ). Once (Invokes p item.timestamp item.op) trace) is (covers.invoked item has correct))

is_asked : (c : Configuration) (item : Item) (past : List Entry) (e : Entry) → EntryAsks c item.client item.timestamp item.op past e → IsAskedAt c item e
is_asked c item past (Got p bytes) h =
    let r = has_some (λ (frame : List ℕ). authentic (members c p) p frame ≡ Some (record { sender = item.client; message = Request item.timestamp modes.Ordered item.op })) (frames_in bytes) h.1 in
    (p, bytes, r.0, refl, h.0, r.1, r.2)
is_asked c item past (Invoke k t o) h = absurd h
is_asked c item past _ h = absurd h

pub lists_what_is_asked : ListsWhatIsAsked
lists_what_is_asked c items trace item covers has faulty =
    once_weaker (λ past e. EntryAsks c item.client item.timestamp item.op past e × (length past ≤ item.position)) (λ past e. IsAskedAt c item e × (length past ≤ item.position))
    (λ past e h. (is_asked c item past e h.0, h.1)) trace (covers.asked item has faulty)

none_twice : (i j : ℕ) (items : List Item) (x y : Item) → NoneTwice items → i < j → slice_get items i ≡ Some x → slice_get items j ≡ Some y → x.client ≡ y.client → x.timestamp ≡ y.timestamp → ⊥
none_twice i j [] x y h less first second same time = absurd cc
none_twice i zero (z ∷ items) x y h less first second same time = absurd (omega arith)
none_twice zero (suc j) (z ∷ items) x y h less first second same time =
    let is : z ≡ x = cc in
    h.0 (has_got (λ u. (u.client ≡ z.client) × (u.timestamp ≡ z.timestamp)) j items y second (subst (λ (v : Item). (y.client ≡ v.client) × (y.timestamp ≡ v.timestamp)) (sym is) (sym same, sym time)))
none_twice (suc i) (suc j) (z ∷ items) x y h less first second same time = let l : i < j = omega arith in none_twice i j items x y h.1 l first second same time

pub lists_none_twice : ListsNoneTwice
lists_none_twice c items trace i j x y covers less first second same time = none_twice i j items x y covers.once less first second same time

-- ---- placed

pub behind : (x : Item) (items : List Item) → NeverFall (x ∷ items) → NeverFall items
behind x [] h = tt
behind x (y ∷ items) h = h.1

pub lowest : (P : Item → Type 0) (n : ℕ) (x : Item) (items : List Item) → ((y : Item) → P y → y.position ≤ n) → NeverFall (x ∷ items) → Has P items → x.position ≤ n
lowest P n x [] f h has = absurd has
lowest P n x (y ∷ items) f h (inl p) = let l = h.0 in let m = f y p in omega arith
lowest P n x (y ∷ items) f h (inr has) = let l = h.0 in let m = lowest P n y items f h.1 has in omega arith

in_order : (i j : ℕ) (items : List Item) (x y : Item) → NeverFall items → i < j → slice_get items i ≡ Some x → slice_get items j ≡ Some y → x.position ≤ y.position
in_order i j [] x y h less first second = absurd cc
in_order i zero (z ∷ items) x y h less first second = absurd (omega arith)
in_order zero (suc j) (z ∷ items) x y h less first second =
    let is : z ≡ x = cc in
    subst (λ (v : Item). v.position ≤ y.position) is
    (lowest (λ u. u ≡ y) y.position z items (λ u same. subst (λ (v : Item). v.position ≤ y.position) (sym same) (omega arith)) h (has_got (λ u. u ≡ y) j items y second refl))
in_order (suc i) (suc j) (z ∷ items) x y h less first second = let l : i < j = omega arith in in_order i j items x y (behind z items h) l first second

pub places_in_order : PlacesInOrder
places_in_order c items trace i j x y placed less first second = in_order i j items x y placed.in_order less first second

pub places_behind_calls : PlacesBehindCalls
places_behind_calls c items trace item client placed has is correct =
    once_weaker (λ past e. Invokes (256 + client) item.timestamp item.op past e × (length past ≤ item.position)) (λ past e. (e ≡ Invoke client item.timestamp item.op) × (length past ≤ item.position))
    (λ past e h. (is_call client item.timestamp item.op past e h.0, h.1)) trace
    (subst (λ (p : ℕ). Once (λ past e. Invokes p item.timestamp item.op past e × (length past ≤ item.position)) trace) is (placed.after item has correct))

pub places_before_acceptances : PlacesBeforeAcceptances
places_before_acceptances c items later past item client answer placed has is correct =
    always_at (λ past e. Accepts item.client item.timestamp answer past e → item.position ≤ length past) later past (Accepted client item.timestamp answer) (placed.before item answer has correct)
    (sym is, refl, refl)

-- ---- linear

pub linear_is_all_three : LinearIsAllThree
linear_is_all_three c items trace linear = (linear.legal, linear.covers, linear.placed)
