-- State transfer, as the replica's own history tells it: the part that it fetched last, and the pages that it took
-- (Castro and Liskov, TOCS 2002, on state transfer).
use Rattle.std.specs.Prelude.{◌≡◌, ◌≢◌, ℕ, ◌+◌, ◌*◌, ◌/◌, ◌%◌, ◌<◌, Bool, true, false, ◌&&◌, List, [], ◌∷◌, nat_le, ◌==◌, if◌then◌else◌, Option, Some, None, is_some, option_and_then, option_map, slice_get, ⊤}
use Rattle.std.specs.Bool.{then_some}
use Rattle.std.specs.Option.{option_map_or}
use Rattle.sha2.specs.Sha256.{sha256}
use Rattle.quorum.specs.Votes.{or_else}
use Rattle.partition_tree.specs.Digests.{digest_of_children, inner_digest}
use Rattle.terms.specs.declared.state.Level.{Level}
use Rattle.terms.specs.declared.state.Level.TheVariants as levels
use Rattle.wire_format.specs.Messages.{BodyData as Body, fetch as Fetch, meta as Meta, page as Page}
use Rattle.wire_format.specs.Words.{said}
use Rattle.signing.specs.AuthenticBody.{authentic}
use Rattle.protocol.specs.System.Configuration.{Configuration, members}
use Rattle.protocol.specs.System.Trace.{Entry, is_output, Once, either, Receives}
use Rattle.protocol.specs.System.Trace.Entry.{Got, Tick, Executed, Installed, Sent}
use Rattle.protocol.specs.Replica.Certificates.{greatest}
use Rattle.protocol.specs.Replica.State.{State, all_pages, page_text}

-- the number of a fetch that the replica sends in this entry, else 0
abbrev pub fetch_sent : Entry → ℕ
fetch_sent (Sent p bytes) = option_map_or (λ body. elim body.message [ Fetch k level index ↦ k | _ ↦ 0 ]) (said bytes) 0
fetch_sent _ = 0

-- the number of the latest state transfer, which is open while it is above the state's number
abbrev pub fetching : List Entry → ℕ
fetching past = greatest fetch_sent past

-- the number and the place that a fetch asks for
abbrev pub place_from : Body → Option (ℕ × (Level × ℕ))
place_from body = elim body.message [ Fetch k level index ↦ Some (k, (level, index)) | _ ↦ None ]

-- the place that the replica fetched last: one fetch is open at a time
abbrev pub asked_last : List Entry → Option (ℕ × (Level × ℕ))
asked_last [] = None
asked_last (Sent p bytes ∷ past) = or_else (option_and_then place_from (said bytes)) (asked_last past)
asked_last (_ ∷ past) = asked_last past

-- ---- the pages that were taken

-- The level is that of pages, the leaves of the partition tree.
abbrev pub is_page_level : Level → Bool
is_page_level levels.Page = true
is_page_level _ = false

-- the last fetch was for page i of the state of number k
abbrev pub is_page_asked : List Entry → ℕ → ℕ → Bool
is_page_asked past k i =
    option_map_or (λ asked. (asked.0 == k) && (is_page_level asked.1.0 && (asked.1.1 == i))) (asked_last past) false

-- the text of page i of the state of number k in a body, if the last fetch was for that page
abbrev pub text_given : List Entry → ℕ → ℕ → Body → Option (List ℕ)
text_given past k i body = elim body.message [
  | Page number index text ↦ then_some ((number == k) && ((index == i) && is_page_asked past k i)) text
  | _ ↦ None
]

-- the text of page i in the bytes that answer the last fetch, if their event goes on for some number
abbrev pub answer : Configuration → ℕ → Option ℕ → List Entry → ℕ → List ℕ → Option (List ℕ)
answer c me None past i bytes = None
answer c me (Some k) past i bytes = option_and_then (text_given past k i) (authentic (members c me) me bytes)

-- the number of a fetch that the bytes spell
abbrev pub number_asked : List ℕ → Option ℕ
number_asked bytes = option_map (λ asked. asked.0) (option_and_then place_from (said bytes))

-- The text that the open transfer took for page i, by the newest answer. A page that answers the last fetch is taken if
-- its event sends the next fetch of that number or installs: a wrong page, or a useless last one, causes neither. next:
-- the number for which the event of the newest entry goes on, if it does. An installation ends the transfer, and so
-- does an execution that reaches its number; a newer number does not.
unfoldable pub took : Configuration → ℕ → Option ℕ → List Entry → ℕ → Option (List ℕ)
took c me next [] i = None
took c me next (Got p bytes ∷ past) i = or_else (answer c me next past i bytes) (took c me None past i)
took c me next (Tick p ∷ past) i = took c me None past i
took c me next (Sent p bytes ∷ past) i = took c me (or_else (number_asked bytes) next) past i
took c me next (Executed r number batch ∷ past) i =
    if nat_le (fetching past) number then None else took c me next past i
took c me next (Installed r number root ∷ past) i = None
took c me next (_ ∷ past) i = took c me next past i

-- Page i if the state of number k is installed over state st: the text that the transfer took, else the state's own.
abbrev pub in_place : Configuration → ℕ → ℕ → List Entry → State → ℕ → List ℕ
in_place c me k past st i = option_map_or (λ text. text) (took c me (Some k) past i) (page_text st i)

-- ---- the part that is asked for next

-- the replica sends a fetch in this entry
abbrev pub is_fetch : Entry → Bool
is_fetch (Sent p bytes) = is_some (option_and_then place_from (said bytes))
is_fetch _ = false

-- the running event has sent no fetch
abbrev pub NoneAsked : List Entry → Type 0
NoneAsked [] = ⊤
NoneAsked (e ∷ past) = either (is_output e) ((is_fetch e ≡ false) × NoneAsked past) ⊤

-- the replica received the digests of the parts below a place, and this digest is theirs
abbrev pub GotBelow : Configuration → ℕ → List Entry → Level → ℕ → List ℕ → List (List ℕ) → Type 0
GotBelow c me past level index digest digests =
    (digest_of_children digests ≡ digest)
    × ((s n : ℕ) × Once (Receives c me (record { sender = s; message = Meta n level index digests })) past)

-- Child i of a part is the first whose wanted digest differs from its digest in the pages in place (here).
pub record IsFirstToDiffer (wanted : List (List ℕ)) (here : ℕ → List ℕ) (i : ℕ) : Type 0 where
  pub before : (k : ℕ) → k < i → slice_get wanted k ≡ Some (here k)
  pub digest : List ℕ
  pub wants : slice_get wanted i ≡ Some digest
  pub differs : digest ≢ here i

-- Inner part j is the first that differs from the pages in place. digests: of all inner parts, received for the root.
pub record DiffersFirst (c : Configuration) (me : ℕ) (past : List Entry) (pages : ℕ → List ℕ) (root : List ℕ)
    (j : ℕ) : Type 0 where
  pub digests : List (List ℕ)
  pub got : GotBelow c me past levels.Root 0 root digests
  pub first : IsFirstToDiffer digests (inner_digest (all_pages pages)) j

-- The part to fetch next. The root comes first, if nothing was fetched of this number or a greater one: so a transfer
-- begins or moves. Then, depth first, comes the first inner part that differs from the pages in place, and then its
-- first page that does.
abbrev pub IsNextPart : Configuration → ℕ → List Entry → (ℕ → List ℕ) → ℕ → List ℕ → Level → ℕ → Type 0
IsNextPart c me past pages k root levels.Root index = fetching past < k
IsNextPart c me past pages k root levels.Inner j = NoneAsked past × DiffersFirst c me past pages root j
IsNextPart c me past pages k root levels.Page i =
    NoneAsked past × (part : DiffersFirst c me past pages root (i / 32)) × (digests : List (List ℕ))
    × GotBelow c me past levels.Inner (i / 32) part.first.digest digests
    × IsFirstToDiffer digests (λ r. sha256 (pages (32 * (i / 32) + r))) (i % 32)
