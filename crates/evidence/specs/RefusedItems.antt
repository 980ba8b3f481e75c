-- What the definitions of a linear list of items refuse, clause by clause, and two traces that are not linearizable.
use Rattle.std.specs.Prelude.{◌≡◌, ◌≢◌, ℕ, ◌≤◌, ◌<◌, true, false, List, [], ◌∷◌, ◌++◌, length, slice_get, Some}
use Rattle.terms.specs.Parties.{client_party}
use Rattle.tuple_tree.specs.Values.{TupleTree, TemplateTree}
use Rattle.tuple_codec.specs.Operations.{out, rdp, Outcome, done, found, absent}
use Rattle.template_match.specs.Tests.{is_match}
use Rattle.space.specs.Applying.{Contents, no_tuples}
use Rattle.terms.specs.declared.order.Mode.TheVariants as modes
use Rattle.wire_format.specs.Messages.{request as Request}
use Rattle.protocol.specs.System.Configuration.{Configuration, is_correct_replica, is_correct_client, members}
use Rattle.signing.specs.AuthenticBody.{authentic}
use Rattle.protocol.specs.System.Trace.{Entry, Once, Has, frames_in}
use Rattle.protocol.specs.System.Trace.Entry.{Invoke, Got, Accepted}
use Rattle.protocol.specs.Space.Linear.{Item, item_outcome, item_after, Legal, Covers, Placed, IsLinear, Linear}

-- ---- legal

-- the tuples that these items leave, one after another
abbrev pub tuples_left_by : Contents → List Item → Contents
tuples_left_by ts [] = ts
tuples_left_by ts (item ∷ items) = tuples_left_by (item_after ts item) items

-- An item whose answer is not that of the space which the items before it leave.
abbrev pub AnswersAsOneSpace : Type 0
AnswersAsOneSpace =
    (before after : List Item) (item : Item) → Legal (before ++ item ∷ after)
    → item.answer ≡ item_outcome (tuples_left_by no_tuples before) item

-- ---- covers

-- A list without an operation that a correct client accepted, with another answer to it, or with another operation than
-- the client called.
abbrev pub ListsWhatIsAccepted : Type 0
ListsWhatIsAccepted =
    (c : Configuration) (items : List Item) (trace : List Entry) (client timestamp : ℕ) (answer : Outcome)
    → Covers c items trace
    → is_correct_client c (client_party client) ≡ true → Has (λ e. e ≡ Accepted client timestamp answer) trace
    → Has (λ (item : Item). (item.client ≡ client_party client) × (item.timestamp ≡ timestamp) × (item.answer ≡ answer)
    × Has (λ e. e ≡ Invoke client timestamp item.op) trace) items

-- A list with an item of a correct client that it did not call.
abbrev pub ListsWhatIsCalled : Type 0
ListsWhatIsCalled =
    (c : Configuration) (items : List Item) (trace : List Entry) (item : Item) (client : ℕ) → Covers c items trace
    → Has (λ x. x ≡ item) items
    → item.client ≡ client_party client → is_correct_client c item.client ≡ true
    → Has (λ e. e ≡ Invoke client item.timestamp item.op) trace

-- a correct replica got the item's ordered request authentic to itself, alone or carried
abbrev pub IsAskedAt : Configuration → Item → Entry → Type 0
IsAskedAt c item e =
    (p : ℕ) × (bytes frame : List ℕ) × (e ≡ Got p bytes) × (is_correct_replica c p ≡ true)
    × Has (λ x. x ≡ frame) (frames_in bytes)
    × (authentic (members c p) p frame
    ≡ Some (record { sender = item.client; message = Request item.timestamp modes.Ordered item.op }))

-- A list with an item of a faulty client for which no correct replica had been asked by its position.
abbrev pub ListsWhatIsAsked : Type 0
ListsWhatIsAsked =
    (c : Configuration) (items : List Item) (trace : List Entry) (item : Item) → Covers c items trace
    → Has (λ x. x ≡ item) items
    → is_correct_client c item.client ≡ false
    → Once (λ past e. IsAskedAt c item e × (length past ≤ item.position)) trace

-- A list with two items of one client and timestamp.
abbrev pub ListsNoneTwice : Type 0
ListsNoneTwice =
    (c : Configuration) (items : List Item) (trace : List Entry) (i j : ℕ) (x y : Item) → Covers c items trace
    → i < j → slice_get items i ≡ Some x → slice_get items j ≡ Some y → x.client ≡ y.client → x.timestamp ≡ y.timestamp
    → ⊥

-- ---- placed

-- A list with an item at a lower position than one that stands before it.
abbrev pub PlacesInOrder : Type 0
PlacesInOrder =
    (c : Configuration) (items : List Item) (trace : List Entry) (i j : ℕ) (x y : Item) → Placed c items trace
    → i < j → slice_get items i ≡ Some x → slice_get items j ≡ Some y → x.position ≤ y.position

-- A list with an item of a correct client before its call.
abbrev pub PlacesBehindCalls : Type 0
PlacesBehindCalls =
    (c : Configuration) (items : List Item) (trace : List Entry) (item : Item) (client : ℕ) → Placed c items trace
    → Has (λ x. x ≡ item) items
    → item.client ≡ client_party client → is_correct_client c item.client ≡ true
    → Once (λ past e. (e ≡ Invoke client item.timestamp item.op) × (length past ≤ item.position)) trace

-- A list with an item of a correct client after its acceptance.
abbrev pub PlacesBeforeAcceptances : Type 0
PlacesBeforeAcceptances =
    (c : Configuration) (items : List Item) (later past : List Entry) (item : Item) (client : ℕ) (answer : Outcome)
    → Placed c items (later ++ Accepted client item.timestamp answer ∷ past) → Has (λ x. x ≡ item) items
    → item.client ≡ client_party client → is_correct_client c item.client ≡ true → item.position ≤ length past

-- ---- linear

-- A list that is linear, and is not legal, does not cover the trace or is not placed.
abbrev pub LinearIsAllThree : Type 0
LinearIsAllThree =
    (c : Configuration) (items : List Item) (trace : List Entry) → IsLinear c items trace
    → Legal items × Covers c items trace × Placed c items trace

-- A client writes a tuple; then another reads with a template that matches it, and finds nothing.
abbrev pub WritesAreSeen : Type 0
WritesAreSeen =
    (c : Configuration) (writer reader : ℕ) (t : TupleTree) (p : TemplateTree) → writer ≢ reader
    → is_correct_client c (client_party writer) ≡ true → is_correct_client c (client_party reader) ≡ true
    → is_match p t ≡ true
    → Linear c (Accepted reader 1 absent ∷ Invoke reader 1 (rdp p) ∷ Accepted writer 1 done ∷ Invoke writer 1 (out t)
    ∷ []) → ⊥

-- A client reads a tuple that is written only then.
abbrev pub ReadsAreNotEarly : Type 0
ReadsAreNotEarly =
    (c : Configuration) (writer reader : ℕ) (t : TupleTree) (p : TemplateTree) → writer ≢ reader
    → is_correct_client c (client_party writer) ≡ true → is_correct_client c (client_party reader) ≡ true
    → Linear c (Accepted writer 1 done ∷ Invoke writer 1 (out t) ∷ Accepted reader 1 (found t) ∷ Invoke reader 1 (rdp p)
    ∷ []) → ⊥
