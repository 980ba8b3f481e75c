-- The state in place while a transfer goes on.
use Rattle.std.proofs.Common.{◌≡◌, ℕ, List, [], ◌∷◌, map, refl, sym, ap, ap₂, ◌∙◌, subst, Option, Some, None}
use Rattle.std.specs.Prelude.{⊤}
use Rattle.std.specs.List.{range_with_len}
use Rattle.std.specs.Option.{option_map_or}
use Rattle.wire_format.specs.Messages.{BodyData as Body, MessageData as Message, page as Page}
use Rattle.signing.specs.AuthenticBody.{authentic}
use Rattle.protocol.specs.System.Configuration.{Configuration, members}
use Rattle.protocol.specs.System.Trace.{Entry}
use Rattle.protocol.specs.System.Trace.Entry.{Got}
use Rattle.protocol.specs.Replica.State.{State, all_pages, page_text}
use Rattle.protocol.specs.Replica.Transfers.{took, in_place}
use Rattle.protocol.proofs.Words.Options.{some_injective}
use Rattle.protocol.proofs.Words.Transfers as Taken

-- pages that are the same, one by one
map_same : (f g : ℕ → List ℕ) (xs : List ℕ) → ((i : ℕ) → f i ≡ g i) → map f xs ≡ map g xs
map_same f g [] same = refl
map_same f g (x ∷ xs) same = ap₂ (λ (y : List ℕ) (ys : List (List ℕ)). y ∷ ys) (same x) (map_same f g xs same)

pub pages_same : (f g : ℕ → List ℕ) → ((i : ℕ) → f i ≡ g i) → all_pages f ≡ all_pages g
unfolding all_pages
pages_same f g same = map_same f g (range_with_len 0 1024) same

-- a replica takes no page from a message other than a page
abbrev pub IsNoPage : Message → Type 0
IsNoPage message = elim message [ Page k i text ↦ ⊥ | _ ↦ ⊤ ]

pub others_take_none : (c : Configuration) (me k i : ℕ) (past : List Entry) (bytes : List ℕ) (body : Body) → authentic (members c me) me bytes ≡ Some body → IsNoPage body.message → took c me (Some k) (Got me bytes ∷ past) i ≡ took c me None past i
others_take_none c me k i past bytes body h none =
    Taken.others_are_left c me k i past bytes
    (λ sender text receives asked. subst IsNoPage (ap (λ (b : Body). b.message) (some_injective body (record { sender = sender; message = Page k i text }) (sym h ∙ receives))) none)

-- If the replica has taken no page, the state's own page is in place. Otherwise the page that it has taken is in place.
pub own_in_place : (c : Configuration) (me k i : ℕ) (past : List Entry) (st : State) → took c me (Some k) past i ≡ None → in_place c me k past st i ≡ page_text st i
own_in_place c me k i past st none = ap (λ (o : Option (List ℕ)). option_map_or (λ text. text) o (page_text st i)) none

pub taken_in_place : (c : Configuration) (me k i : ℕ) (past : List Entry) (st : State) (text : List ℕ) → took c me (Some k) past i ≡ Some text → in_place c me k past st i ≡ text
taken_in_place c me k i past st text is = ap (λ (o : Option (List ℕ)). option_map_or (λ text. text) o (page_text st i)) is
