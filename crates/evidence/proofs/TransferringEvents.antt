-- In an event of a replica that fetches a state, the input moves no point. The replica owes at most one fetch.
use Rattle.std.proofs.Common.{◌≡◌, ℕ, ◌+◌, ◌<◌, ◌⊎◌, inl, inr, Bool, true, false, List, [], ◌∷◌, refl, sym, ap, ◌∙◌, subst, arith, Option, Some, None}
use Rattle.std.specs.Prelude.{nat_le, option_and_then, ⊤}
use Rattle.std.specs.Option.{option_map_or}
use Rattle.quorum.specs.Quorum.{count_below}
use Rattle.protocol.specs.System.Configuration.{Configuration, members}
use Rattle.terms.specs.declared.order.Mode.TheVariants as modes
use Rattle.terms.specs.declared.state.Level.{Level}
use Rattle.terms.specs.declared.state.Level.TheVariants as levels
use Rattle.wire_format.specs.Messages.{BodyData as Body, FrameData as Frame, MessageData as Message, request as Request, pre_prepare as PrePrepare, checkpoint as Checkpoint, fetch as Fetch, meta as Meta, page as Page, view_change as ViewChange}
use Rattle.signing.specs.AuthenticBody.{authentic}
use Rattle.wire_format.specs.Words.{said, receivers_of}
use Rattle.protocol.specs.System.Frames.{IsSealed}
use Rattle.protocol.specs.System.Trace.{Entry, Has}
use Rattle.protocol.specs.System.Trace.Entry.{Got, Sent}
use Rattle.protocol.specs.Replica.Selection.{is_quorum}
use Rattle.protocol.specs.Replica.Certificates.{count_checkpoints}
use Rattle.protocol.specs.Replica.State.{Call, opening, call_in}
use Rattle.protocol.specs.Replica.RightReplica.{Point, first_point, with_waiting, waiting_after, others, Executes, IsAddressed, IsStep, MayFetch, MaySend, SentInEvent}
use Rattle.protocol.specs.Replica.Transfers.{fetch_sent, fetching}
use Rattle.protocol.specs.Replica.Owed.{SendsMessage, AtOutputs, NumbersOnce, Counts, IsDropped, Owes, HistoryIsPrompt}
use Rattle.evidence.specs.Examples.{four}
use Rattle.evidence.specs.FirstOperation.{IsFrameFrom}
use Rattle.protocol.proofs.Words.Moving.{no_reason}
use Rattle.protocol.proofs.Words.Starts.{starts_low}
use Rattle.protocol.proofs.Words.Options.{some_injective}
use Rattle.evidence.proofs.TransferringStages.{Stage, agreed}
use Rattle.protocol.proofs.Words.Outgoing.{macs_have_no_leaf}

-- checkpoints and parts, which ask for nothing
abbrev pub IsGiven : Message → Type 0
IsGiven message = elim message [ Checkpoint k root ↦ ⊤ | Meta k level index digests ↦ ⊤ | Page k index text ↦ ⊤ | _ ↦ ⊥ ]

-- a part of the state of this number
abbrev pub IsPartOf : ℕ → Message → Type 0
IsPartOf n message = elim message [ Meta k level index digests ↦ k ≡ n | Page k index text ↦ k ≡ n | _ ↦ ⊥ ]

is_no_call : (c : Configuration) (sender : ℕ) (message : Message) → IsGiven message → call_in c (record { sender = sender; message = message }) ≡ None
is_no_call c sender (Checkpoint k root) h = refl
is_no_call c sender (Meta k level index digests) h = refl
is_no_call c sender (Page k index text) h = refl
is_no_call c sender _ h = absurd h

module _ (clients : ℕ) (seed root : List ℕ) where
  abbrev c : Configuration
  c = four clients seed

  abbrev At : List Entry → (ℕ → Bool) → Option (ℕ × (Level × ℕ)) → ℕ → Type 0
  At past p asked k = Stage clients seed root past p asked k

  abbrev Proceeding : List Entry → Type 0
  Proceeding past = HistoryIsPrompt c 0 past [] first_point first_point

  -- a message that the replica receives, and the proof obligations of its event
  record Due (before : List Entry) (bytes : List ℕ) (outputs now : List Entry) : Type 0 where
    pub body : Body
    pub receives : authentic (members c 0) 0 bytes ≡ Some body
    pub given : IsGiven body.message
    pub numbers_once : AtOutputs (NumbersOnce c 0) (Got 0 bytes ∷ before) outputs
    pub none_executed : (n : ℕ) → Has (λ e. Executes n [] e) outputs → ⊥
    pub fetches : (n : ℕ) (digest : List ℕ) → is_quorum c (count_checkpoints c now (record { number = n; digest = digest })) ≡ true → fetching before < n → SendsMessage 0 (Fetch n levels.Root 0) outputs
    pub parts : (n : ℕ) → IsPartOf n body.message → Has (λ e. fetch_sent e ≡ n) outputs
    pub dropped : IsDropped c 0 before first_point bytes → outputs ≡ []

  owes : (before : List Entry) (bytes : List ℕ) (outputs now : List Entry) (p : ℕ → Bool) (asked : Option (ℕ × (Level × ℕ))) (k : ℕ)
      → At now p asked k → Due before bytes outputs now → Owes c 0 before (Got 0 bytes) outputs now first_point first_point
  owes before bytes outputs now p asked k st due = record {
    numbers = λ v i call active is_primary waits free. absurd waits;
    numbers_once = due.numbers_once;
    prepares = λ v i batch none some active backup. absurd (absurd (let bad : None ≡ Some batch = sym (st.logged_is v i) ∙ some in cc));
    commits = λ v i batch none some active. absurd (absurd (let bad : None ≡ Some batch = sym (st.logged_is v i) ∙ some.logged in cc));
    executes = λ v batch h. absurd (let bad : None ≡ Some batch = sym (st.logged_is v 1) ∙ h.prepared.logged in cc);
    replies = λ ran h. absurd h;
    checkpoints = λ n h multiple. absurd (due.none_executed n h);
    again = λ n t op kept asks there same. absurd (given_is (record { sender = 256 + n; message = Request t modes.Ordered op }) asks);
    says_again = λ r. absurd r.1;
    reads = λ s t op asks is. absurd (given_is (record { sender = s; message = Request t modes.ReadOnly op }) asks);
    fetched_digests = λ s n index level children asks state kept. absurd (given_is (record { sender = s; message = Fetch n level index }) asks);
    fetched_page = λ s n index asks state kept. absurd (given_is (record { sender = s; message = Fetch n levels.Page index }) asks);
    goes_on_by_digests = λ s n index level digests brings awaited. inl (due.parts n (part_is n (record { sender = s; message = Meta n level index digests }) brings refl));
    goes_on_by_page = λ s n index text brings awaited. inl (due.parts n (part_is n (record { sender = s; message = Page n index text }) brings refl));
    fetches = λ n digest quorum above later. due.fetches n digest quorum later;
    fetches_start = λ n starts above later. absurd (let most = starts_low c 0 n now starts in let low = st.low_is in omega (arith, most, low, above));
    fetches_again = λ n index level tick was above. absurd tick;
    view_changes = λ vc other moves may within says. absurd (no_reason c 0 before bytes [] vc.view (λ s x asks. given_is (record { sender = s; message = ViewChange x }) asks) moves);
    new_views = λ new can. absurd (let left = can.left in let sent = st.target_is in omega (arith, left, sent));
    dropped = λ other is drops. due.dropped (subst (λ (bs : List ℕ). IsDropped c 0 before first_point bs) (sym (same_bytes other is)) drops);
  }
    where
      given_is : (other : Body) → authentic (members c 0) 0 bytes ≡ Some other → IsGiven other.message
      given_is other h = subst (λ (x : Body). IsGiven x.message) (some_injective due.body other (sym due.receives ∙ h)) due.given

      part_is : (n : ℕ) (other : Body) → authentic (members c 0) 0 bytes ≡ Some other → IsPartOf n other.message → IsPartOf n due.body.message
      part_is n other h part = subst (λ (x : Body). IsPartOf n x.message) (some_injective other due.body (sym h ∙ due.receives)) part

      same_bytes : (other : List ℕ) → Got 0 bytes ≡ Got 0 other → bytes ≡ other
      same_bytes other is = cc

  -- a message other than a request leaves the point as it is
  pub gets : (before : List Entry) (bytes : List ℕ) (body : Body) → authentic (members c 0) 0 bytes ≡ Some body → IsGiven body.message → IsStep c 0 before first_point (Got 0 bytes) first_point
  gets before bytes body h given = record { own = refl; may = tt; moves = quiet }
    where
      quiet : first_point ≡ record first_point { ran = []; waiting = waiting_after c 0 first_point bytes }
      quiet =
          ap (λ (calls : List Call). let p : Point = record first_point { waiting = calls } in p)
          (sym (ap (λ (o : Option Body). option_map_or (with_waiting opening []) (option_and_then (call_in c) o) []) h
          ∙ ap (λ (o : Option Call). option_map_or (with_waiting opening []) o []) (is_no_call c body.sender body.message given)))

  -- a fetch that may be sent
  pub fetch_sends : (past : List Entry) (bytes : List ℕ) (index : ℕ) (level : Level) → MayFetch c 0 past first_point 16 level index → IsFrameFrom c 0 (Fetch 16 level index) (others c 0) bytes → (SentInEvent bytes past → ⊥) → IsStep c 0 past first_point (Sent 0 bytes) first_point
  fetch_sends past bytes index level fetches f once = record { own = refl; may = may; moves = refl }
    where
      addressed : IsAddressed c 0 past (Fetch 16 level index) f.frame.authenticator
      addressed = subst (IsAddressed c 0 past (Fetch 16 level index)) (sym f.has_macs) (sym (ap receivers_of f.has_macs) ∙ f.is_for)

      may : MaySend c 0 past first_point (Sent 0 bytes) bytes
      may = record {
        body = record { sender = 0; message = Fetch 16 level index };
        says = f.says;
        own = refl;
        seen = tt;
        allowed = fetches;
        is_sealed = λ frame is.
            let same : f.frame ≡ frame = some_injective f.frame frame (sym f.spells ∙ is) in
            subst (λ (y : Frame). IsSealed c y × IsAddressed c 0 past (Fetch 16 level index) y.authenticator) same (f.is_sealed, addressed);
        leaf = macs_have_no_leaf past bytes f.frame f.entries f.spells f.has_macs;
        once = once;
      }

  -- a checkpoint of no quorum, after which nothing is sent
  pub goes_quiet : (before : List Entry) (bytes : List ℕ) (body : Body) (p : ℕ → Bool) (asked : Option (ℕ × (Level × ℕ))) (k : ℕ) → authentic (members c 0) 0 bytes ≡ Some body → IsGiven body.message
      → ((n : ℕ) → IsPartOf n body.message → ⊥) → At (Got 0 bytes ∷ before) p asked k → nat_le 3 (count_below p 4) ≡ false → Proceeding before → Proceeding (Got 0 bytes ∷ before)
  goes_quiet before bytes body p asked k h given no_part st few was = (first_point, gets before bytes body h given, (owes before bytes [] (Got 0 bytes ∷ before) p asked k st due, was))
    where
      due : Due before bytes [] (Got 0 bytes ∷ before)
      due = record {
        body = body;
        receives = h;
        given = given;
        numbers_once = tt;
        none_executed = λ n has. has;
        fetches = λ n digest quorum later.
            let enough = (agreed clients seed root (Got 0 bytes ∷ before) p asked k st (record { number = n; digest = digest }) quorum).1 in
            absurd (let bad : false ≡ true = sym few ∙ enough in cc);
        parts = λ n part. absurd (no_part n part);
        dropped = λ drops. refl;
      }

  -- the replica answers a message that counts by one fetch, of the root if no transfer of 16 is open yet
  pub goes_on : (before : List Entry) (bytes sent : List ℕ) (body : Body) (index : ℕ) (level : Level) (p : ℕ → Bool) → authentic (members c 0) 0 bytes ≡ Some body → IsGiven body.message
      → ((n : ℕ) → IsPartOf n body.message → 16 ≡ n) → IsFrameFrom c 0 (Fetch 16 level index) (others c 0) sent → At (Sent 0 sent ∷ Got 0 bytes ∷ before) p (Some (16, (level, index))) 16
      → MayFetch c 0 (Got 0 bytes ∷ before) first_point 16 level index → (fetching before ≡ 16) ⊎ ((level ≡ levels.Root) × (index ≡ 0)) → Counts c 0 before first_point bytes body.sender body.message
      → Proceeding before → Proceeding (Sent 0 sent ∷ Got 0 bytes ∷ before)
  goes_on before bytes sent body index level p h given of_16 f st fetches ways counts was =
      (first_point, fetch_sends (Got 0 bytes ∷ before) sent index level fetches f (λ here. here), (first_point, gets before bytes body h given, (owes before bytes (Sent 0 sent ∷ []) (Sent 0 sent ∷ Got 0 bytes ∷ before) p (Some (16, (level, index))) 16 st due, was)))
    where
      executed : (n : ℕ) → Has (λ e. Executes n [] e) (Sent 0 sent ∷ []) → ⊥
      executed n (inl has) = has
      executed n (inr has) = has

      no_proposal : (v i : ℕ) (batch : List ℕ) → said sent ≡ Some (record { sender = 0; message = PrePrepare v i batch }) → ⊥
      no_proposal v i batch says =
          let same = some_injective (record { sender = 0; message = Fetch 16 level index }) (record { sender = 0; message = PrePrepare v i batch }) (sym f.says ∙ says) in
          absurd (let bad : Fetch 16 level index ≡ PrePrepare v i batch = ap (λ (y : Body). y.message) same in cc)

      asks : (n : ℕ) → 16 ≡ n → fetching before < n → (fetching before ≡ 16) ⊎ ((level ≡ levels.Root) × (index ≡ 0)) → SendsMessage 0 (Fetch n levels.Root 0) (Sent 0 sent ∷ [])
      asks n is later (inl same) = absurd (omega (arith, is, later, same))
      asks n is later (inr first) =
          inl (f.says ∙ ap (λ (x : Level). let body : Body = record { sender = 0; message = Fetch 16 x index } in Some body) first.0
          ∙ ap (λ (x : ℕ). let body : Body = record { sender = 0; message = Fetch 16 levels.Root x } in Some body) first.1
          ∙ ap (λ (x : ℕ). let body : Body = record { sender = 0; message = Fetch x levels.Root 0 } in Some body) is)

      due : Due before bytes (Sent 0 sent ∷ []) (Sent 0 sent ∷ Got 0 bytes ∷ before)
      due = record {
        body = body;
        receives = h;
        given = given;
        numbers_once = (λ v i batch says none. absurd (no_proposal v i batch says), tt);
        none_executed = executed;
        fetches = λ n digest quorum later.
            let is = (agreed clients seed root (Sent 0 sent ∷ Got 0 bytes ∷ before) p (Some (16, (level, index))) 16 st (record { number = n; digest = digest }) quorum).0 in
            asks n is later ways;
        parts = λ n part. inl (ap (λ (o : Option Body). option_map_or (λ (b : Body). elim b.message [ Fetch k below at ↦ k | _ ↦ 0 ]) o 0) f.says ∙ of_16 n part);
        dropped = λ drops. absurd (drops body h counts);
      }
