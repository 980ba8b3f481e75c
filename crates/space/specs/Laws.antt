-- What holds of each state, operation and batch.
use Rattle.std.specs.Prelude.{◌≡◌, ℕ, ◌+◌, ◌^◌, ◌<◌, ◌≤◌, true, List, length, fold, All}
use Rattle.space.specs.declared.births.TheConstants.{PAGES}
use Rattle.tuple_codec.specs.Operations.{Operation, is_read_only, IsOperation, IsOutcome}
use Rattle.space.specs.Applying.{Contents, outcome, tuples_after}
use Rattle.space.specs.Births.{SpaceState, IsState, Asked, state_after, state_after_asked, tuples_of}
use Rattle.space.specs.Pages.{IsStateAt, tuple_page_text, header_text}

-- Each operation leaves a state.
abbrev pub StatesStay : Type 0
StatesStay =
    (s : SpaceState) (client : ℕ) (o : Operation) → IsState s → IsOperation o → IsState (state_after s client o)

-- Each answer of a state is within the limits.
abbrev pub AnswersAreValid : Type 0
AnswersAreValid =
    (s : SpaceState) (client : ℕ) (o : Operation) → IsState s → IsOperation o
    → IsOutcome (outcome (tuples_of s) client o)

-- A read is answered the same whichever client asks, and leaves all as it is.
abbrev pub ReadsKnowNoClient : Type 0
ReadsKnowNoClient =
    (ts : Contents) (client other : ℕ) (o : Operation) → is_read_only o ≡ true
    → (outcome ts client o ≡ outcome ts other o) × (tuples_after ts client o ≡ ts)

-- States are equal if their pages and headers are, and so are the numbers of batches.
abbrev pub PagesDetermineSpace : Type 0
PagesDetermineSpace =
    (s t : SpaceState) (m n : ℕ) → IsStateAt s m → IsStateAt t n → header_text s m ≡ header_text t n
    → ((page : ℕ) → page < PAGES → tuple_page_text s page ≡ tuple_page_text t page) → (m ≡ n) × (s ≡ t)

-- A batch of at most 16 operations leaves a state after one more batch, while the numbers of batches last.
abbrev pub BatchLeavesState : Type 0
BatchLeavesState =
    (s : SpaceState) (number : ℕ) (os : List Asked) → IsStateAt s number
    → length os ≤ 16 → All (λ x. IsOperation x.op) os → number + 1 < 2 ^ 48
    → IsStateAt (fold state_after_asked s os) (number + 1)
