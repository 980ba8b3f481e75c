-- The primary assigns the next number to the oldest requests without one.
use Rattle.std.proofs.Common.{◌≡◌, ◌≢◌, ℕ, zero, suc, ◌+◌, ◌≤◌, ◌<◌, inl, inr, Bool, true, false, cond, not, List, [], ◌∷◌, length, map, take, drop, max, Some, refl, sym, ap, ◌∙◌, subst, arith, AllPairs}
use Rattle.std.proofs.lemmas.List.{take-append-drop, length-take, length-map}
use Rattle.wire_format.specs.Lists.{Each}
use Rattle.wire_format.specs.Spelling.{pieces_spelling}
use Rattle.wire_format.specs.Words.{requests_of}
use Rattle.wire_format.proofs.Telling.{reads_requests}
use Rattle.events.specs.declared.output.Output.{Output}
use Rattle.ordering.specs.Log as logs
use Rattle.ordering.specs.Log.{LogData}
use Rattle.protocol.specs.System.Configuration.{Configuration}
use Rattle.protocol.specs.System.Trace.{Entry, Has, either}
use Rattle.protocol.specs.Replica.Certificates.{low, is_in_marks}
use Rattle.protocol.specs.Replica.State.{Call, call_of}
use Rattle.protocol.specs.Replica.RightReplica.{IsFree}
use Rattle.protocol.specs.Replica.Owed.{IsNumbered, AreDifferent}
use Rattle.protocol.proofs.Words.Elements.{has_map, has_mapped, each_mapped, each_where, has_filter}
use Rattle.protocol.proofs.Words.Pairs.{Pairs, pairs_of, all_pairs}
use Rattle.replica_histories.specs.Desk.{Desk}
use Rattle.replica_histories.specs.Logs.{FitsLog}
use Rattle.replica_histories.specs.Events.{Start, after_outputs}
use Rattle.replica_histories.specs.Numbers as numbers
use Rattle.replica_histories.specs.Numbers.{AreCalls, Waiting, CallHasNumber, CallHasNoNumber, IsRightly}
use Rattle.replica_histories.specs.Outputs.{MayNumber}
use Rattle.replica_histories.proofs.Words.{marks_are}
use Rattle.replica_histories.proofs.Numbers.{next_is_free}
use Rattle.replica_histories.proofs.NumbersLists.{each_unmapped, has_taken, pairs_kept, pairs_mapped, pairs_unmapped, pairs_front, IsAt, Spells, spelled_at, Differ, frames_differ}
use Rattle.desk.specs.declared.waiting.WaitingRequest.{WaitingRequest}
use Rattle.replica.specs.State.{BothPartsData, AreOne, Gives}
use Rattle.desk.specs.State.{DeskData}
use Rattle.desk.specs.Waiting.{WaitingData, texts, frames_waiting, all_unnumbered, unnumbered, count_unnumbered, all_numbered, with_numbered}
use Rattle.orderer.specs.Flags.{FitsFlags, flagged}
use Rattle.desk.specs.Assigned.{assigned_of}
use Rattle.desk.specs.DeskOf.{waiting_call, waiting_calls, desk_of, SpellCalls, AreOfDifferentClients}
use Rattle.replica.specs.Desks.{PartsFitEvent}
use Rattle.replica.specs.Going.{GoesOnWith, IsSameParty, FitIsKept, NothingIsLeft}
use Rattle.replica.specs.Numbering.{IsAllNumbered}
use Rattle.orderer.specs.Fitting.{given, FitsEvent}
use Rattle.orderer.specs.Going.{IsSameLog, IsSameOrderer, NoVoteIsDue, IsVotedBut, IsVotedAll}
use Rattle.orderer.specs.Numbering.{next_number}
use Rattle.replica.specs.NumbersNext.{NumbersNext, AssignsNumber, NumbersWaitingRequests}
use Rattle.desk.proofs.WaitingKept.{few_unnumbered}
use Rattle.orderer.proofs.Flags.{oldest_spelled}
use Rattle.replica.proofs.Parties.{gives_on, same_party, parties_twice}
use Rattle.orderer.proofs.Parties.{orderers_twice}
use Rattle.orderer.proofs.Voting.{none_elsewhere}

-- ---- waiting requests

-- one of the oldest without a number waits
frame_waits : (frame : List ℕ) (w : WaitingData) → Has (λ x. x ≡ frame) (texts (unnumbered w)) → Has (λ x. x ≡ frame) (frames_waiting w)
frame_waits frame w h =
    let at = has_map (λ x. x ≡ frame) (λ (r : WaitingRequest). r.frame.items) (unnumbered w) h in
    has_mapped (λ x. x ≡ frame) (λ (r : WaitingRequest). r.frame.items) w.requests
    (has_filter (λ (r : WaitingRequest). r.frame.items ≡ frame) (λ (r : WaitingRequest). not r.numbered) w.requests
    (has_taken (λ (r : WaitingRequest). r.frame.items ≡ frame) 16 (all_unnumbered w.requests) at))

-- a request that is rightly flagged as without a number has none
none_numbered : (c : Configuration) (me v : ℕ) (history : List Entry) (client timestamp : ℕ) (es : List Waiting) → Each (IsRightly c me v history) es
    → Has (λ (e : Waiting). IsAt client timestamp e.call) (numbers.unnumbered es) → IsNumbered c me history v client timestamp → ⊥
none_numbered c me v history client timestamp [] r h n = h
none_numbered c me v history client timestamp (e ∷ es) r h n = go e.numbered r.0 (none_numbered c me v history client timestamp es r.1) h
  where
    go : (b : Bool) → either b (CallHasNumber c me v history e.call) (CallHasNoNumber c me v history e.call)
        → (Has (λ (x : Waiting). IsAt client timestamp x.call) (numbers.unnumbered es) → IsNumbered c me history v client timestamp → ⊥)
        → Has (λ (x : Waiting). IsAt client timestamp x.call) (cond (not b) (e ∷ numbers.unnumbered es) (numbers.unnumbered es)) → ⊥
    go true k rest at = rest at n
    go false k rest (inl at) =
        k (subst (λ (i : ℕ). IsNumbered c me history v i e.call.timestamp) (sym at.0) (subst (λ (t : ℕ). IsNumbered c me history v client t) (sym at.1) n))
    go false k rest (inr at) = rest at n

-- ---- with numbers

-- all but the flag stays
same_numbered : {A : Type 0} (f : WaitingRequest → A) → ((r : WaitingRequest) → f (record r { numbered = true }) ≡ f r) → (n : ℕ) (rs : List WaitingRequest) → map f (all_numbered n rs) ≡ map f rs
same_numbered f same n [] = refl
same_numbered f same zero (r ∷ rs) = refl
same_numbered {A} f same (suc n) (r ∷ rs) = go r.numbered (same_numbered f same (suc n) rs) (same_numbered f same n rs)
  where
    go : (b : Bool) → map f (all_numbered (suc n) rs) ≡ map f rs → map f (all_numbered n rs) ≡ map f rs
        → map f (cond b (r ∷ all_numbered (suc n) rs) (record r { numbered = true } ∷ all_numbered n rs)) ≡ f r ∷ map f rs
    go true many fewer = ap (λ (ts : List A). f r ∷ ts) many
    go false many fewer = ap (λ (ts : List A). f (record r { numbered = true }) ∷ ts) fewer ∙ ap (λ (t : A). t ∷ map f rs) (same r)

abbrev with_frame : Configuration → WaitingRequest → List ℕ × Call
with_frame c r = (r.frame.items, waiting_call c r)

spelled_numbered : (c : Configuration) (n : ℕ) (rs : List WaitingRequest) → SpellCalls c rs → SpellCalls c (all_numbered n rs)
spelled_numbered c n rs h =
    each_unmapped (λ p. call_of c p.0 ≡ Some p.1) (with_frame c) (all_numbered n rs)
    (subst (Each (λ p. call_of c p.0 ≡ Some p.1)) (sym (same_numbered (with_frame c) (λ r. refl) n rs)) (each_mapped (λ p. call_of c p.0 ≡ Some p.1) (with_frame c) rs h))

clients_differ : (n : ℕ) (rs : List WaitingRequest) → AreOfDifferentClients rs → AreOfDifferentClients (all_numbered n rs)
clients_differ n rs h =
    all_pairs (λ (r : WaitingRequest) (t : WaitingRequest). r.client.number ≢ t.client.number) (all_numbered n rs)
    (pairs_unmapped (λ (i : ℕ) (j : ℕ). i ≢ j) (λ (r : WaitingRequest). r.client.number) (all_numbered n rs)
    (subst (Pairs (λ (i : ℕ) (j : ℕ). i ≢ j)) (sym (same_numbered (λ (r : WaitingRequest). r.client.number) (λ r. refl) n rs))
    (pairs_mapped (λ (i : ℕ) (j : ℕ). i ≢ j) (λ (r : WaitingRequest). r.client.number) rs
    (pairs_of (λ (r : WaitingRequest) (t : WaitingRequest). r.client.number ≢ t.client.number) rs h))))

-- how many are left
left_numbered : (n : ℕ) (rs : List WaitingRequest) → n ≤ length (all_unnumbered rs) → length (all_unnumbered (all_numbered n rs)) + n ≡ length (all_unnumbered rs)
left_numbered n [] h = omega (arith, h)
left_numbered zero (r ∷ rs) h = omega arith
left_numbered (suc n) (r ∷ rs) h = go r.numbered refl (left_numbered (suc n) rs) (left_numbered n rs) h
  where
    go : (b : Bool) → r.numbered ≡ b
        → (suc n ≤ length (all_unnumbered rs) → length (all_unnumbered (all_numbered (suc n) rs)) + suc n ≡ length (all_unnumbered rs))
        → (n ≤ length (all_unnumbered rs) → length (all_unnumbered (all_numbered n rs)) + n ≡ length (all_unnumbered rs))
        → suc n ≤ length (cond (not b) (r ∷ all_unnumbered rs) (all_unnumbered rs))
        → length (all_unnumbered (cond b (r ∷ all_numbered (suc n) rs) (record r { numbered = true } ∷ all_numbered n rs))) + suc n ≡ length (cond (not b) (r ∷ all_unnumbered rs) (all_unnumbered rs))
    go true e many fewer k =
        ap (λ (t : Bool). length (cond (not t) (r ∷ all_unnumbered (all_numbered (suc n) rs)) (all_unnumbered (all_numbered (suc n) rs))) + suc n) e ∙ many k
    go false e many fewer k = let rest = fewer (omega (arith, k)) in omega (arith, rest)

-- ---- one batch

module _ (c : Configuration) (me number used : ℕ) (log : LogData) (text : List ℕ) (w : WaitingData) (desk : Desk) (history : List Entry) (inside : logs.is_in_marks log number ≡ true)
    (active : log.active ≡ true) (primary : logs.primary log log.view ≡ log.me) (free : IsFree c me history desk.state.number log.view number) (reads : requests_of text ≡ texts (unnumbered w)) (frames : desk.frames ≡ frames_waiting w)
    (calls : SpellCalls c w.requests) (of_log : FitsLog c me log history) (f : FitsFlags c me log.view used w desk.state desk.waiting history) where
  abbrev entries : List Waiting
  entries = flagged c w.requests

  abbrev first_ones : List Waiting
  first_ones = take 16 (numbers.unnumbered entries)

  abbrev oldest : List Call
  oldest = numbers.calls_of first_ones

  spells : AreCalls c (texts (unnumbered w)) oldest
  spells = oldest_spelled c 16 w.requests calls

  abbrev CallsDiffer : Waiting → Waiting → Type 0
  CallsDiffer = λ x y. Differ c x.call y.call

  differ_here : Pairs (Differ c) oldest
  differ_here =
      pairs_mapped (Differ c) (λ (e : Waiting). e.call) first_ones
      (pairs_front CallsDiffer first_ones (drop 16 (numbers.unnumbered entries))
      (subst (Pairs CallsDiffer) (sym (take-append-drop 16 (numbers.unnumbered entries)))
      (pairs_kept CallsDiffer (λ (e : Waiting). not e.numbered) entries
      (pairs_unmapped (Differ c) (λ (e : Waiting). e.call) entries
      (subst (Pairs (Differ c)) (sym f.calls) (pairs_of (Differ c) desk.waiting f.differ))))))

  fresh : (client timestamp : ℕ) → Has (IsAt client timestamp) oldest → IsNumbered c me history log.view client timestamp → ⊥
  fresh client timestamp h numbered =
      none_numbered c me log.view history client timestamp entries f.rightly
      (has_taken (λ (e : Waiting). IsAt client timestamp e.call) 16 (numbers.unnumbered entries) (has_map (IsAt client timestamp) (λ (e : Waiting). e.call) first_ones h)) numbered

  held : (frame : List ℕ) → Has (λ x. x ≡ frame) (texts (unnumbered w)) → Has (λ x. x ≡ frame) desk.frames
  held frame h = subst (Has (λ x. x ≡ frame)) (sym frames) (frame_waits frame w h)

  -- it may be numbered
  pub may_number : MayNumber c me desk log history number text
  may_number = record {
    within = inside;
    active = active;
    own = primary;
    free = free;
    held = subst (Each (λ frame. Has (λ x. x ≡ frame) desk.frames)) (sym reads) (each_where (λ frame. Has (λ x. x ≡ frame) desk.frames) (texts (unnumbered w)) held);
    differ = subst (AllPairs (AreDifferent c)) (sym reads) (all_pairs (AreDifferent c) (texts (unnumbered w)) (frames_differ c (texts (unnumbered w)) oldest spells differ_here));
    fresh = λ client timestamp has. fresh client timestamp (spelled_at c client timestamp (texts (unnumbered w)) oldest spells (subst (Has (Spells c client timestamp)) reads has));
  }

-- ---- one turn

module _ (number : ℕ) (a b : BothPartsData) (x y : List Output) (one : AreOne a.orderer a.desk) (is_next : number ≡ next_number a.orderer) (near : number ≤ a.desk.executed.state.number + 2) (inside : logs.is_in_marks a.orderer.log number ≡ true)
    (active : a.orderer.log.active ≡ true) (primary : logs.primary a.orderer.log a.orderer.log.view ≡ a.orderer.log.me) (some : 1 ≤ length (unnumbered a.desk.waiting)) (n : NumbersNext number a x b y) where
  abbrev w : WaitingData
  w = a.desk.waiting

  abbrev more : WaitingData
  more = with_numbered (length (unnumbered w)) w

  abbrev text : List ℕ
  text = pieces_spelling (texts (unnumbered w))

  reads : requests_of text ≡ texts (unnumbered w)
  reads =
      let same = length-map (unnumbered w) (λ (r : WaitingRequest). r.frame.items) in
      let few = few_unnumbered w in
      reads_requests (texts (unnumbered w)) (omega (arith, same, few)) n.carried

  module _ (c : Configuration) (s : Start) (known : Gives c a.orderer) (st : PartsFitEvent c s a.orderer a.desk [] x) where
    abbrev me : ℕ
    me = a.orderer.endpoint.me

    abbrev past : List Entry
    past = after_outputs s (given me x)

    fits : FitsEvent c me s a.orderer (desk_of c a.desk) w [] x
    fits = subst (λ (m : ℕ). FitsEvent c m s a.orderer (desk_of c a.desk) w [] x) one.0 st.fits

    -- the next number by the log is the next one by the history
    free : IsFree c me past a.desk.executed.state.number a.orderer.log.view number
    free =
        let of_log = fits.fits.of_log in
        let same : numbers.next_number c me past a.orderer.used ≡ number = ap (λ (l : ℕ). suc (max l a.orderer.used)) of_log.low ∙ sym is_next in
        let marks : is_in_marks c (low c me past) number ≡ true = marks_are c me a.orderer.log past number of_log ∙ inside in
        subst (λ (i : ℕ). IsFree c me past a.desk.executed.state.number a.orderer.log.view i) same
        (next_is_free c me a.orderer.log.view a.orderer.used (assigned_of w.assigned) (flagged c w.requests) a.desk.executed.state (waiting_calls c w.requests) past (fits.numbers primary) (
          subst (λ (i : ℕ). is_in_marks c (low c me past) i ≡ true) (sym same) marks,
          subst (λ (i : ℕ). i ≤ a.desk.executed.state.number + 2) (sym same) near,
        ))

    abbrev later : DeskData
    later = record a.desk { waiting = more }

    numbered_fits : FitsEvent c me s b.orderer (desk_of c later) more [] y
    numbered_fits =
        subst (λ (k : Desk). FitsEvent c me s b.orderer k more [] y)
        (sym (ap (λ (xs : List Call). record (desk_of c later) { waiting = xs }) (same_numbered (waiting_call c) (λ r. refl) (length (unnumbered w)) w.requests)
        ∙ ap (λ (xs : List (List ℕ)). record (desk_of c a.desk) { frames = xs }) (same_numbered (λ (r : WaitingRequest). r.frame.items) (λ r. refl) (length (unnumbered w)) w.requests)))
        (n.says.goes c s (desk_of c a.desk) w [] known st.is.calls reads
        (may_number c me number a.orderer.used a.orderer.log text w (desk_of c a.desk) past inside active primary free reads refl st.is.calls fits.fits.of_log (fits.numbers primary)) fits)

    next_stands : PartsFitEvent c s b.orderer b.desk [] y
    next_stands = subst (λ (d : DeskData). PartsFitEvent c s b.orderer d [] y) (sym n.waits) (record {
      is = record {
        members_are = st.is.members_are;
        period_is = st.is.period_is;
        rests = st.is.rests;
        calls = spelled_numbered c (length (unnumbered w)) w.requests st.is.calls;
        differ = clients_differ (length (unnumbered w)) w.requests st.is.differ;
      };
      fits = subst (λ (m : ℕ). FitsEvent c m s b.orderer (desk_of c later) more [] y) (sym one.0) numbered_fits;
    })

  same_orderer : IsSameOrderer a.orderer b.orderer
  same_orderer = record {
    endpoint = n.says.endpoint;
    log = subst (IsSameLog a.orderer.log) (sym n.says.log) (record { me = refl; faults = refl; span = refl; view = refl; active = refl; low = omega arith });
    target = n.says.target;
    choice = λ off. absurd (let bad : true ≡ false = sym active ∙ off in cc);
  }

  voted_but : IsVotedAll a.orderer.log → IsVotedBut number b.orderer.log
  voted_but voted i ne = subst (λ (l : LogData). NoVoteIsDue l i) (sym n.says.log)
      (none_elsewhere a.orderer.log i number _ inside ne (voted i))

  fewer : count_unnumbered b.desk.waiting < count_unnumbered w
  fewer = subst (λ (d : DeskData). count_unnumbered d.waiting < count_unnumbered w) (sym n.waits)
      (let most = length-take 16 (all_unnumbered w.requests) in
      let left = left_numbered (length (unnumbered w)) w.requests (omega (arith, most)) in
      omega (arith, left, some))

  -- the primary assigns the number, and goes on with it
  pub gives_number : (d : BothPartsData) (z : List Output) → GoesOnWith number b y d z → AssignsNumber a x d z
  gives_number d z e = record {
    proceeds = λ rest c s known st.
        e.proceeds (voted_but rest.0) c s (gives_on c a.orderer b.orderer same_orderer.endpoint known) (next_stands c s known st);
    party = record {
      orderer = orderers_twice a.orderer b.orderer d.orderer same_orderer e.party.orderer;
      me = e.party.me ∙ ap (λ (k : DeskData). k.me) n.waits;
      membership = e.party.membership ∙ ap (λ (k : DeskData). k.membership) n.waits;
    };
    rises = subst (λ (d0 : DeskData). d0.executed.state.number ≤ d.desk.executed.state.number) n.waits e.rises;
    rests = λ rest. e.rests (voted_but rest.0);
    fewer = let now = fewer in let after = e.waiting in omega (arith, now, after);
  }

-- ---- one turn after another

-- so many numbers are assigned
pub record NumbersSoFar (count : ℕ) (old : BothPartsData) (before : List Output) (new : BothPartsData) (after : List Output) : Type 0 where
  pub proceeds : NothingIsLeft old → FitIsKept old before new after
  pub party : IsSameParty old new
  pub rises : old.desk.executed.state.number ≤ new.desk.executed.state.number
  pub rests : NothingIsLeft old → NothingIsLeft new
  pub fewer : count_unnumbered new.desk.waiting + count ≤ count_unnumbered old.desk.waiting

pub none_given : (a : BothPartsData) (x : List Output) → NumbersSoFar 0 a x a x
none_given a x = record { proceeds = λ rest c s known st. st; party = same_party a; rises = omega arith; rests = λ r. r; fewer = omega arith }

pub one_given : (count : ℕ) (a b d : BothPartsData) (x y z : List Output) → NumbersSoFar count a x b y → AssignsNumber b y d z → NumbersSoFar (count + 1) a x d z
one_given count a b d x y z f g = record {
  proceeds = λ rest c s known st. g.proceeds (f.rests rest) c s (gives_on c a.orderer b.orderer f.party.orderer.endpoint known) (f.proceeds rest c s known st);
  party = parties_twice a b d f.party g.party;
  rises = (let first = f.rises in let then = g.rises in omega (arith, first, then));
  rests = λ r. g.rests (f.rests r);
  fewer = let first = f.fewer in let then = g.fewer in omega (arith, first, then);
}

pub numbers_stop : (count : ℕ) (a b d : BothPartsData) (x y z : List Output) → NumbersSoFar count a x b y → (d ≡ b) × (z ≡ y) × IsAllNumbered b → NumbersWaitingRequests a x d z
numbers_stop count a b d x y z f (same, outs, all) =
    subst (λ (r : BothPartsData). NumbersWaitingRequests a x r z) (sym same) (subst (λ (o : List Output). NumbersWaitingRequests a x b o) (sym outs)
    (record { proceeds = f.proceeds; party = f.party; rises = f.rises; rests = f.rests; all = all }))

-- after as many numbers as requests without one, none is left
pub numbers_end : (count : ℕ) (a b : BothPartsData) (x y : List Output) → count ≡ count_unnumbered a.desk.waiting → NumbersSoFar count a x b y → NumbersWaitingRequests a x b y
numbers_end count a b x y whole f = record {
  proceeds = f.proceeds;
  party = f.party;
  rises = f.rises;
  rests = f.rests;
  all = λ free. let few = f.fewer in omega (arith, few, whole);
}
