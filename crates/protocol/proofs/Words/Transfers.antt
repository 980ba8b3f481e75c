-- What a transfer took, entry by entry.
use Rattle.std.proofs.Common.{◌≡◌, ℕ, ◌≤◌, ◌⊎◌, inl, inr, Bool, true, false, cond, List, [], ◌∷◌, refl, ap, ap₂, ◌∙◌, arith, ◌&&◌, Option, Some, None, eqb-true, eq-eqb}
use Rattle.std.specs.Prelude.{◌==◌, nat_le, option_and_then, option_map}
use Rattle.std.specs.Bool.{then_some}
use Rattle.quorum.specs.Votes.{or_else}
use Rattle.std.specs.Option.{option_map_or}
use Rattle.std.proofs.lemmas.Bool.{and_parts, le-leb, leb-true, false_from_ne_true}
use Rattle.terms.specs.declared.state.Level.{Level}
use Rattle.terms.specs.declared.state.Level.TheVariants as levels
use Rattle.wire_format.specs.Messages.{BodyData as Body, MessageData as Message, page as Page}
use Rattle.signing.specs.AuthenticBody.{authentic}
use Rattle.protocol.specs.System.Configuration.{Configuration, members}
use Rattle.protocol.specs.System.Trace.{Entry, Once}
use Rattle.protocol.specs.System.Trace.Entry.{Invoke, Got, Tick, Executed, Installed, Sent, Accepted}
use Rattle.protocol.specs.Replica.Transfers.{place_from, number_asked, fetching, asked_last, is_page_level, is_page_asked, text_given, answer, took}
use Rattle.protocol.specs.Laws.Transfers.{AnswersAreTaken, OthersAreLeft, FetchIsAnswered, TakenWereAsked, DropsAreLeft, FetchesTell, OutputsTellNothing, TicksTakeNothing, InstallationsEnd, ExecutionsEnd, ExecutionsLeave}
use Rattle.protocol.proofs.Words.Options.{or_else_first, or_else_second, or_else_cases, and_then_some, then_some_gives}

-- ---- the place that was asked for last

page_level : (level : Level) → is_page_level level ≡ true → level ≡ levels.Page
page_level levels.Page h = refl
page_level levels.Root h = absurd cc
page_level levels.Inner h = absurd cc

is_asked : (past : List Entry) (k i : ℕ) → asked_last past ≡ Some (k, (levels.Page, i)) → is_page_asked past k i ≡ true
is_asked past k i h =
    ap (λ (o : Option (ℕ × (Level × ℕ))). option_map_or (λ asked. (asked.0 == k) && (is_page_level asked.1.0 && (asked.1.1 == i))) o false) h
    ∙ ap₂ (λ (a b : Bool). a && b) (eq-eqb k k refl) (eq-eqb i i refl)

was_asked : (past : List Entry) (k i : ℕ) → is_page_asked past k i ≡ true → asked_last past ≡ Some (k, (levels.Page, i))
was_asked past k i h = go (asked_last past) h
  where
    go : (o : Option (ℕ × (Level × ℕ))) → option_map_or (λ asked. (asked.0 == k) && (is_page_level asked.1.0 && (asked.1.1 == i))) o false ≡ true → o ≡ Some (k, (levels.Page, i))
    go None g = absurd cc
    go (Some (n, (level, index))) g =
        let p = and_parts (n == k) (is_page_level level && (index == i)) g in
        let q = and_parts (is_page_level level) (index == i) p.1 in
        let en : n ≡ k = eqb-true n k p.0 in
        let el : level ≡ levels.Page = page_level level q.0 in
        let ei : index ≡ i = eqb-true index i q.1 in
        rw (en, el, ei) refl

-- a given part answers the fetch for it
record Gives (past : List Entry) (k i : ℕ) (text : List ℕ) (message : Message) : Type 0 where
  pub is : message ≡ Page k i text
  pub asked : asked_last past ≡ Some (k, (levels.Page, i))

gives : (past : List Entry) (k i sender : ℕ) (message : Message) (text : List ℕ) → text_given past k i (record { sender = sender; message = message }) ≡ Some text → Gives past k i text message
gives past k i sender (Page number index t) text h =
    let g = then_some_gives ((number == k) && ((index == i) && is_page_asked past k i)) t text h in
    let both = and_parts (number == k) ((index == i) && is_page_asked past k i) g.0 in
    let at = and_parts (index == i) (is_page_asked past k i) both.1 in
    let en : number ≡ k = eqb-true number k both.0 in
    let ei : index ≡ i = eqb-true index i at.0 in
    let et : t ≡ text = g.1 in
    record { is = rw (en, ei, et) refl; asked = was_asked past k i at.1 }
gives past k i sender _ text h = absurd cc

-- bytes that answer say so
record Answers (c : Configuration) (me k i : ℕ) (past : List Entry) (bytes text : List ℕ) : Type 0 where
  pub sender : ℕ
  pub says : authentic (members c me) me bytes ≡ Some (record { sender = sender; message = Page k i text })
  pub asked : asked_last past ≡ Some (k, (levels.Page, i))

answers : (c : Configuration) (me k i : ℕ) (past : List Entry) (bytes text : List ℕ) → answer c me (Some k) past i bytes ≡ Some text → Answers c me k i past bytes text
answers c me k i past bytes text h =
    let a = and_then_some (text_given past k i) (authentic (members c me) me bytes) text h in
    let g = gives past k i a.0.sender a.0.message text a.2 in
    record {
      sender = a.0.sender;
      says = a.1 ∙ ap (λ (m : Message). let body : Body = record { sender = a.0.sender; message = m } in Some body) g.is;
      asked = g.asked;
    }

none_of : (c : Configuration) (me k i : ℕ) (past : List Entry) (bytes : List ℕ) → ((text : List ℕ) → Answers c me k i past bytes text → ⊥) → answer c me (Some k) past i bytes ≡ None
none_of c me k i past bytes none = go (answer c me (Some k) past i bytes) refl
  where
    go : (o : Option (List ℕ)) → answer c me (Some k) past i bytes ≡ o → o ≡ None
    go None h = refl
    go (Some text) h = absurd (none text (answers c me k i past bytes text h))

-- ---- the laws

pub answers_are_taken : AnswersAreTaken
unfolding took
answers_are_taken c me sender k i past bytes text says asked =
    or_else_first (answer c me (Some k) past i bytes) (took c me None past i) text
    (ap (option_and_then (text_given past k i)) says
    ∙ ap (λ (b : Bool). then_some b text) (ap₂ (λ (a b : Bool). a && b) (eq-eqb k k refl) (ap₂ (λ (a b : Bool). a && b) (eq-eqb i i refl) (is_asked past k i asked))))

pub others_are_left : OthersAreLeft
unfolding took
others_are_left c me k i past bytes none =
    or_else_second (answer c me (Some k) past i bytes) (took c me None past i) (none_of c me k i past bytes (λ text a. none a.sender text a.says a.asked))

pub drops_are_left : DropsAreLeft
unfolding took
drops_are_left c me i past bytes = refl

answer_asked : (c : Configuration) (me i p : ℕ) (next : Option ℕ) (past : List Entry) (text bytes : List ℕ) → answer c me next past i bytes ≡ Some text → FetchIsAnswered c me i text past (Got p bytes)
answer_asked c me i p None past text bytes h = absurd cc
answer_asked c me i p (Some k) past text bytes h = let a = answers c me k i past bytes text h in (a.sender, k, a.says, a.asked)

pub taken_were_asked : TakenWereAsked
unfolding took
taken_were_asked c me i next [] text h = absurd cc
taken_were_asked c me i next (Got p bytes ∷ past) text h = go (or_else_cases (answer c me next past i bytes) (took c me None past i) text h) (taken_were_asked c me i None past text)
  where
    go : (answer c me next past i bytes ≡ Some text) ⊎ (took c me None past i ≡ Some text) → (took c me None past i ≡ Some text → Once (FetchIsAnswered c me i text) past)
        → Once (FetchIsAnswered c me i text) (Got p bytes ∷ past)
    go (inl here) below = inl (answer_asked c me i p next past text bytes here)
    go (inr there) below = inr (below there)
taken_were_asked c me i next (Tick p ∷ past) text h = inr (taken_were_asked c me i None past text h)
taken_were_asked c me i next (Sent p bytes ∷ past) text h = inr (taken_were_asked c me i (or_else (number_asked bytes) next) past text h)
taken_were_asked c me i next (Executed r number batch ∷ past) text h = inr (go (nat_le (fetching past) number) h (taken_were_asked c me i next past text))
  where
    go : (b : Bool) → cond b None (took c me next past i) ≡ Some text → (took c me next past i ≡ Some text → Once (FetchIsAnswered c me i text) past) → Once (FetchIsAnswered c me i text) past
    go true x below = absurd cc
    go false x below = below x
taken_were_asked c me i next (Installed r number root ∷ past) text h = absurd cc
taken_were_asked c me i next (Invoke x y z ∷ past) text h = inr (taken_were_asked c me i next past text h)
taken_were_asked c me i next (Accepted x y z ∷ past) text h = inr (taken_were_asked c me i next past text h)

pub fetches_tell : FetchesTell
unfolding took
fetches_tell c me k index i level next past bytes says =
    ap (λ (o : Option Body). took c me (or_else (option_map (λ (x : ℕ × (Level × ℕ)). x.0) (option_and_then place_from o)) next) past i) says

pub outputs_tell_nothing : OutputsTellNothing
unfolding took
outputs_tell_nothing c me p i next past bytes none =
    ap (λ (o : Option (ℕ × (Level × ℕ))). took c me (or_else (option_map (λ (x : ℕ × (Level × ℕ)). x.0) o) next) past i) none

pub ticks_take_nothing : TicksTakeNothing
unfolding took
ticks_take_nothing c me p i next past = refl

pub installations_end : InstallationsEnd
unfolding took
installations_end c me r n i next root past = refl

pub executions_end : ExecutionsEnd
unfolding took
executions_end c me r n i next batch past l = ap (λ (b : Bool). cond b None (took c me next past i)) (le-leb (fetching past) n l)

pub executions_leave : ExecutionsLeave
unfolding took
executions_leave c me r n i next batch past l =
    ap (λ (b : Bool). cond b None (took c me next past i))
    (false_from_ne_true (nat_le (fetching past) n) (λ h. let m : fetching past ≤ n = leb-true (fetching past) n h in absurd (omega arith)))
