-- The replica answers fetches of kept states: no two kept states have one number, so it owes one answer.
use Rattle.std.proofs.Common.{◌≡◌, ℕ, suc, ◌%◌, ◌≤◌, ◌<◌, ◌⊎◌, inl, inr, Bool, true, false, cond, List, [], ◌∷◌, refl, sym, ap, ◌∙◌, subst, arith, Option, Some}
use Rattle.std.specs.Prelude.{◌==◌, nat_le, slice_index_or, ⊤}
use Rattle.std.specs.Option.{option_map_or}
use Rattle.terms.specs.declared.state.Level.{Level}
use Rattle.terms.specs.declared.state.Level.TheVariants as levels
use Rattle.partition_tree.specs.Levels.{children_of}
use Rattle.wire_format.specs.Messages.{BodyData as Body, MessageData as Message, FrameData as Frame, fetch as Fetch, meta as Meta, page as Page}
use Rattle.wire_format.specs.Spelling.{has_children, last_index}
use Rattle.wire_format.specs.Words.{carried, frame_of, receivers_of}
use Rattle.wire_format.proofs.Saying.{says_what_is_spelled, reads_frames}
use Rattle.protocol.specs.System.Configuration.{Configuration}
use Rattle.protocol.specs.System.Trace.{Entry, Has, Receives}
use Rattle.protocol.specs.System.Trace.Entry.{Invoke, Got, Executed, Installed, Accepted}
use Rattle.protocol.specs.Replica.Certificates.{low}
use Rattle.protocol.specs.Replica.State.{State, opening, execute, pages_of, page_text}
use Rattle.protocol.specs.Replica.RightReplica.{Point, HistoryReaches, IsStep, KeptState, kept_states, executed_point, MaySendMessage, IsFor, WasAsked, digests_at}
use Rattle.protocol.specs.Replica.Transfers.{place_from}
use Rattle.protocol.specs.Replica.Owed.{IsSendingTo, SendsMessageTo}
use Rattle.protocol.proofs.Words.Options.{some_injective}
use Rattle.protocol.proofs.Words.Elements.{has_weaker, has_some, has_filter, has_map, has_mapped, has_reversed}
use Rattle.protocol.proofs.Words.Leaving.{executed_number}
use Rattle.protocol.proofs.Words.Temporal.{once_weaker, once_stays}
use Rattle.replica_histories.specs.Desk.{Snapshot, snapshot_of}
use Rattle.replica_histories.specs.TransfersAnswers.{answer_of, answer_by, KeptPages, AnswersFetches, KeptAreOne, SnapshotsAreKept, KeptHaveSnapshots, FetchesCount, AnswersMayGo, OutgoingToOne, AnswersSuffice, NoneIsOwed, AnswersStay, AnswersTurn, AnswersInParts}
use Rattle.replica_histories.proofs.Transfers.{heard_valid}
use Rattle.replica_histories.proofs.TransfersInstalling.{pages_read}

-- ---- snapshots of different numbers

-- none is above the number, and no two have the same number
pub record Distinct (snapshots : List State) (number : ℕ) : Type 0 where
  pub below : (x : State) → Has (λ z. z ≡ x) snapshots → x.number ≤ number
  pub one : (x y : State) → Has (λ z. z ≡ x) snapshots → Has (λ z. z ≡ y) snapshots → x.number ≡ y.number → x ≡ y

distinct_with : (st : State) (snapshots : List State) (number : ℕ) → number < st.number → Distinct snapshots number → Distinct (st ∷ snapshots) st.number
distinct_with st snapshots number grows d = record { below = below; one = one }
  where
    below : (x : State) → (st ≡ x) ⊎ Has (λ z. z ≡ x) snapshots → x.number ≤ st.number
    below x (inl e) = let same = ap (λ (y : State). y.number) e in omega arith
    below x (inr h) = let most = d.below x h in omega arith

    one : (x y : State) → (st ≡ x) ⊎ Has (λ z. z ≡ x) snapshots → (st ≡ y) ⊎ Has (λ z. z ≡ y) snapshots → x.number ≡ y.number → x ≡ y
    one x y (inl e) (inl f) same = sym e ∙ f
    one x y (inl e) (inr k) same = let own = ap (λ (z : State). z.number) e in let most = d.below y k in absurd (omega arith)
    one x y (inr h) (inl f) same = let own = ap (λ (z : State). z.number) f in let most = d.below x h in absurd (omega arith)
    one x y (inr h) (inr k) same = d.one x y h k same

distinct_higher : (snapshots : List State) (number later : ℕ) → number ≤ later → Distinct snapshots number → Distinct snapshots later
distinct_higher snapshots number later grows d = record { below = λ x h. let most = d.below x h in omega arith; one = d.one }

abbrev IsDistinct : Point → Type 0
IsDistinct point = Distinct point.snapshots point.state.number

distinct_executed : (c : Configuration) (old : Point) (k : ℕ) (batch : List ℕ) → IsDistinct old → IsDistinct (executed_point c old k batch)
distinct_executed c old k batch d = go (execute c old.state batch) (executed_number c old.state batch) ((execute c old.state batch).number % c.period == 0)
  where
    go : (st : State) → st.number ≡ suc old.state.number → (b : Bool) → Distinct (cond b (st ∷ old.snapshots) old.snapshots) st.number
    go st next true = distinct_with st old.snapshots old.state.number (omega arith) d
    go st next false = distinct_higher old.snapshots old.state.number st.number (omega arith) d

distinct_step : (c : Configuration) (me : ℕ) (past : List Entry) (old : Point) (e : Entry) (new : Point) → IsStep c me past old e new → IsDistinct old → IsDistinct new
distinct_step c me past old (Executed r k batch) new s d = subst IsDistinct (sym s.moves) (distinct_executed c old k batch d)
distinct_step c me past old (Installed r k root) new s d =
    let m = s.moves in
    let is = m.number in
    let above = s.may.0 in
    subst (λ (xs : List State). Distinct xs new.state.number) (sym m.snapshots) (distinct_with new.state old.snapshots old.state.number (omega arith) d)
distinct_step c me past old (Invoke x y z) new s d = absurd s.may
distinct_step c me past old (Accepted x y z) new s d = absurd s.may
distinct_step c me past old _ new s d = subst IsDistinct (sym s.moves) d

pub distinct : (c : Configuration) (me : ℕ) (history : List Entry) (point : Point) → HistoryReaches c me history point → IsDistinct point
distinct c me [] point is = subst IsDistinct (sym is) (record { below = below; one = one })
  where
    below : (x : State) → (opening ≡ x) ⊎ ⊥ → x.number ≤ 0
    below x (inl e) = let same = ap (λ (y : State). y.number) e in omega arith
    below x (inr h) = absurd h

    one : (x y : State) → (opening ≡ x) ⊎ ⊥ → (opening ≡ y) ⊎ ⊥ → x.number ≡ y.number → x ≡ y
    one x y (inl e) (inl f) same = sym e ∙ f
    one x y (inl e) (inr k) same = absurd k
    one x y (inr h) k same = absurd h
distinct c me (e ∷ past) point h = distinct_step c me past h.0 e point h.2 (distinct c me past h.0 h.1)

-- ---- kept states

-- a kept state, by name
record Kept (point : Point) (k : ℕ) (P : State → Type 0) : Type 0 where
  pub state : State
  pub there : Has (λ z. z ≡ state) point.snapshots
  pub number : state.number ≡ k
  pub has : P state

kept : (c : Configuration) (me : ℕ) (past : List Entry) (point : Point) (k : ℕ) (P : State → Type 0) → KeptState c me past point k P → Kept point k P
kept c me past point k P h =
    let s = has_some (λ st. (st.number ≡ k) × P st) point.snapshots (has_filter (λ st. (st.number ≡ k) × P st) (λ st. nat_le (low c me past) st.number) point.snapshots h) in
    record { state = s.0; there = s.1; number = s.2.0; has = s.2.1 }

-- what two kept states of one number are
same_kept : (c : Configuration) (me : ℕ) (past : List Entry) (point : Point) (k : ℕ) (P Q : State → Type 0) → HistoryReaches c me past point → (x : Kept point k P) (y : Kept point k Q) → x.state ≡ y.state
same_kept c me past point k P Q leaves x y = (distinct c me past point leaves).one x.state y.state x.there y.there (x.number ∙ sym y.number)

pub kept_are_one : KeptAreOne
kept_are_one c me history point k st other leaves h g =
    let x = kept c me history point k (λ x. x ≡ st) h in
    let y = kept c me history point k (λ x. x ≡ other) g in
    sym x.has ∙ same_kept c me history point k (λ x. x ≡ st) (λ x. x ≡ other) leaves x y ∙ y.has

pub snapshots_are_kept : SnapshotsAreKept
snapshots_are_kept c me history point snapshots snapshot are h =
    has_weaker (λ st. snapshot_of st ≡ snapshot) (λ st. (st.number ≡ snapshot.number) × (pages_of st ≡ snapshot.pages))
    (λ st is. (ap (λ (x : Snapshot). x.number) is, ap (λ (x : Snapshot). x.pages) is)) (kept_states (low c me history) point.snapshots)
    (has_map (λ x. x ≡ snapshot) snapshot_of (kept_states (low c me history) point.snapshots) (subst (λ (xs : List Snapshot). Has (λ x. x ≡ snapshot) xs) (sym are) h))

pub kept_have_snapshots : KeptHaveSnapshots
kept_have_snapshots c me history point snapshots k are h =
    subst (λ (xs : List Snapshot). Has (λ x. x.number ≡ k) xs) are
    (has_mapped (λ x. x.number ≡ k) snapshot_of (kept_states (low c me history) point.snapshots)
    (has_weaker (λ st. (st.number ≡ k) × ⊤) (λ st. st.number ≡ k) (λ st x. x.0) (kept_states (low c me history) point.snapshots) h))

-- ---- answers

-- the message is a part of a state
abbrev pub IsPart : Message → Type 0
IsPart message = elim message [ Meta k level index digests ↦ ⊤ | Page k index text ↦ ⊤ | _ ↦ ⊥ ]

pub fetches_count : FetchesCount
fetches_count c me past point bytes s k index level pages h =
    has_weaker (λ st. (st.number ≡ k) × (pages_of st ≡ pages)) (λ st. (st.number ≡ k) × ⊤) (λ st x. (x.0, tt)) (kept_states (low c me past) point.snapshots) h

-- the answer of a state is that of its pages
answer_is : (st : State) (k : ℕ) (level : Level) (index : ℕ) → index ≤ last_index level → answer_by (pages_of st) k level index ≡ answer_of st k level index
answer_is st k levels.Root index within = refl
answer_is st k levels.Inner index within = refl
answer_is st k levels.Page index within = ap (Page k index) (pages_read st index (omega arith))

hears_within : (c : Configuration) (me s k : ℕ) (level : Level) (index : ℕ) (past : List Entry) (e : Entry) → Receives c me (record { sender = s; message = Fetch k level index }) past e → index ≤ last_index level
hears_within c me s k level index past (Got p bytes) h = (heard_valid c me bytes (record { sender = s; message = Fetch k level index }) h).1
hears_within c me s k level index past _ h = absurd h

asked_within : (c : Configuration) (me s k : ℕ) (level : Level) (index : ℕ) (past : List Entry) → WasAsked c me past s k level index → index ≤ last_index level
asked_within c me s k level index past h =
    once_stays (λ earlier. index ≤ last_index level) (λ e earlier x. x) past
    (once_weaker (Receives c me (record { sender = s; message = Fetch k level index })) (λ earlier e. index ≤ last_index level) (hears_within c me s k level index) past h)

-- it may be sent for a kept state
may_say : (c : Configuration) (me : ℕ) (past : List Entry) (point : Point) (e : Entry) (bytes : List ℕ) (s k index : ℕ) (level : Level) (pages : List (List ℕ)) → KeptPages c me past point k pages → WasAsked c me past s k level index
    → MaySendMessage c me past point e bytes (answer_by pages k level index)
may_say c me past point e bytes s k index levels.Root pages h asked = (
  has_weaker (λ st. (st.number ≡ k) × (pages_of st ≡ pages)) (λ st. (st.number ≡ k) × (children_of pages levels.Root index ≡ digests_at st levels.Root index))
      (λ st x. (x.0, ap (λ (xs : List (List ℕ)). children_of xs levels.Root index) (sym x.1))) (kept_states (low c me past) point.snapshots) h,
  (s, asked),
)
may_say c me past point e bytes s k index levels.Inner pages h asked = (
  has_weaker (λ st. (st.number ≡ k) × (pages_of st ≡ pages)) (λ st. (st.number ≡ k) × (children_of pages levels.Inner index ≡ digests_at st levels.Inner index))
      (λ st x. (x.0, ap (λ (xs : List (List ℕ)). children_of xs levels.Inner index) (sym x.1))) (kept_states (low c me past) point.snapshots) h,
  (s, asked),
)
may_say c me past point e bytes s k index levels.Page pages h asked = (
  has_weaker (λ st. (st.number ≡ k) × (pages_of st ≡ pages)) (λ st. (st.number ≡ k) × (slice_index_or pages index [] ≡ page_text st index))
      (λ st x. (x.0, ap (λ (xs : List (List ℕ)). slice_index_or xs index []) (sym x.1) ∙ pages_read st index (omega (arith, most)))) (kept_states (low c me past) point.snapshots) h,
  (s, asked),
)
  where
    most : index ≤ 1023
    most = asked_within c me s k levels.Page index past asked

-- it carries no frames, and is for whoever asked
none_carried : (pages : List (List ℕ)) (k : ℕ) (level : Level) (index : ℕ) → carried (answer_by pages k level index) ≡ []
none_carried pages k levels.Root index = refl
none_carried pages k _ index = refl

is_for : (c : Configuration) (me : ℕ) (past : List Entry) (s k : ℕ) (level : Level) (index : ℕ) (pages : List (List ℕ)) → WasAsked c me past s k level index → IsFor c me past (answer_by pages k level index) (s ∷ [])
is_for c me past s k levels.Root index pages asked = (s, refl, asked)
is_for c me past s k _ index pages asked = (s, refl, asked)

pub answers_may_go : AnswersMayGo
answers_may_go c me past point e bytes s k index level pages h asked =
    (may_say c me past point e bytes s k index level pages h asked, is_for c me past s k level index pages asked, none_carried pages k level index)

pub outgoing_to_one : OutgoingToOne
outgoing_to_one c me s message bytes is_outgoing =
    let w = (says_what_is_spelled bytes (record { sender = me; message = message })).0 is_outgoing.says in
    let is : frame_of bytes ≡ Some w.0 = (reads_frames bytes w.0).1 w.1 in
    (is_outgoing.says, ap (λ (o : Option Frame). option_map_or (λ (frame : Frame). receivers_of frame.authenticator) o []) is ∙ (is_outgoing.is_sealed w.0 is).1)

-- ---- what the replica owes

-- an input has one body
pub hears_one : (c : Configuration) (me : ℕ) (a b : Body) (past : List Entry) (e : Entry) → Receives c me a past e → Receives c me b past e → a ≡ b
hears_one c me a b past (Got p bytes) h g = some_injective a b (sym h ∙ g)
hears_one c me a b past _ h g = absurd h

-- the answer to one fetch of an input answers each
answers_each : (c : Configuration) (me : ℕ) (before : List Entry) (input : Entry) (outputs : List Entry) (old : Point) (s k index : ℕ) (level : Level) → Receives c me (record { sender = s; message = Fetch k level index }) before input
    → ((st : State) → KeptState c me before old k (λ x. x ≡ st) → SendsMessageTo me s (answer_of st k level index) outputs) → AnswersFetches c me before input outputs old
answers_each c me before input outputs old s k index level receives gives s' k' index' level' receives' st =
    subst (λ (x : ℕ). KeptState c me before old k' (λ y. y ≡ st) → SendsMessageTo me x (answer_of st k' level' index') outputs) sender
    (subst (λ (x : ℕ × (Level × ℕ)). KeptState c me before old x.0 (λ y. y ≡ st) → SendsMessageTo me s (answer_of st x.0 x.1.0 x.1.1) outputs) place (gives st))
  where
    same : ◌≡◌ {A = Body} (record { sender = s; message = Fetch k level index }) (record { sender = s'; message = Fetch k' level' index' })
    same = hears_one c me _ _ before input receives receives'

    sender : s ≡ s'
    sender = ap (λ (b : Body). b.sender) same

    place : ◌≡◌ {A = ℕ × (Level × ℕ)} (k, (level, index)) (k', (level', index'))
    place = some_injective (k, (level, index)) (k', (level', index')) (ap place_from same)

pub answers_suffice : AnswersSuffice
answers_suffice c me before input outputs old s k index level pages leaves receives has given =
    answers_each c me before input outputs old s k index level receives (λ st h. subst (λ (m : Message). SendsMessageTo me s m outputs) (answer st h) given)
  where
    answer : (st : State) → KeptState c me before old k (λ x. x ≡ st) → answer_by pages k level index ≡ answer_of st k level index
    answer st h =
        let x = kept c me before old k (λ st. pages_of st ≡ pages) has in
        let y = kept c me before old k (λ x. x ≡ st) h in
        let same : x.state ≡ st = same_kept c me before old k (λ st. pages_of st ≡ pages) (λ x. x ≡ st) leaves x y ∙ y.has in
        ap (λ (xs : List (List ℕ)). answer_by xs k level index) (sym x.has ∙ ap pages_of same) ∙ answer_is st k level index (hears_within c me s k level index before input receives)

pub none_is_owed : NoneIsOwed
none_is_owed c me before input outputs old s k index level receives none =
    answers_each c me before input outputs old s k index level receives
    (λ st h. absurd (none (has_weaker (λ x. (x.number ≡ k) × (x ≡ st)) (λ x. (x.number ≡ k) × ⊤) (λ x y. (y.0, tt)) (kept_states (low c me before) old.snapshots) h)))

pub answers_stay : AnswersStay
answers_stay c me before input e outputs old h s k index level receives st is = inr (h s k index level receives st is)

pub answers_turn : AnswersTurn
answers_turn c me before input outputs old h s k index level receives st is = has_reversed (IsSendingTo me s (answer_of st k level index)) outputs (h s k index level receives st is)

pub answers_in_parts : AnswersInParts
answers_in_parts c me before input outputs old h = (digests, λ s k index receives st is. h s k index levels.Page receives st is)
  where
    digests : (s k index : ℕ) (level : Level) → has_children level ≡ true → Receives c me (record { sender = s; message = Fetch k level index }) before input → (st : State) → KeptState c me before old k (λ x. x ≡ st)
        → SendsMessageTo me s (Meta k level index (digests_at st level index)) outputs
    digests s k index levels.Root children receives st is = h s k index levels.Root receives st is
    digests s k index levels.Inner children receives st is = h s k index levels.Inner receives st is
    digests s k index levels.Page children receives st is = absurd cc
