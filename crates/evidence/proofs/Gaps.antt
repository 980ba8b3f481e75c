-- At the primary of a view its batches leave no gap above the low mark, so a number is free where any above all that
-- are used might be.
use Rattle.std.proofs.Common.{◌≡◌, ℕ, zero, suc, ◌+◌, ◌-◌, ◌^◌, ◌≤◌, ◌<◌, ◌⊎◌, inl, inr, Bool, true, false, cond, ◌&&◌, List, [], ◌∷◌, length, slice_get, refl, sym, ap, ◌∙◌, subst, arith, Option, Some, None, is_some, eqb-true, eq-eqb}
use Rattle.std.specs.Prelude.{◌==◌, nat_lt, nat_le, option_and_then}
use Rattle.std.proofs.lemmas.Bool.{and_parts, and_from, eqb-false, ltb-true, ltb-false, lt-ltb, leb-true, le-leb}
use Rattle.protocol.specs.System.Configuration.{Configuration, primary, span, members}
use Rattle.wire_format.specs.Messages.{BodyData as Body, MessageData as Message, NewViewData, pre_prepare as PrePrepare}
use Rattle.protocol.specs.System.Trace.{Entry, party_of}
use Rattle.protocol.specs.System.Trace.Entry.{Invoke, Got, Sent}
use Rattle.protocol.specs.Replica.Certificates.{taken, low, is_in_marks, are_genuine, batch_from, assigned_batch, assigned_proposal, entry_proposal, proposal, logged}
use Rattle.protocol.specs.Replica.RightReplica.{Point, HistoryReaches, SafeReplica, IsFree, MaySendMessage, MaySend, May}
use Rattle.evidence.specs.Certified.{LeavesNoGap}
use Rattle.protocol.proofs.Words.Options.{and_then_some, then_some_gives, some_injective, or_else_second, or_else_cases}
use Rattle.protocol.proofs.Agreement.Marks.{low_grows, takes, Proposes, proposes}
use Rattle.protocol.proofs.Agreement.Offers.{entry_batch, marks_above}
use Rattle.protocol.proofs.Agreement.Voting.{logged_stays}
use Rattle.evidence.proofs.Certifying.{logs_what_begins}
use Rattle.signing.proofs.AuthenticBody.{authentic_was_opened}

-- ---- values that are there

pub has_value : (o : Option (List ℕ)) → is_some o ≡ true → (x : List ℕ) × (o ≡ Some x)
has_value None h = absurd cc
has_value (Some x) h = (x, refl)

given_at : (xs : List (List ℕ)) (k : ℕ) → k < length xs → (x : List ℕ) × (slice_get xs k ≡ Some x)
given_at [] k l = absurd (omega (arith, l))
given_at (x ∷ xs) zero l = (x, refl)
given_at (x ∷ xs) (suc k) l = given_at xs k (omega (arith, l))

-- ---- what an entry logs at the primary

-- a pre-prepare that it sends for a number without a batch has the next number
next_by : (c : Configuration) (me v i : ℕ) (batch : List ℕ) (past : List Entry) (point : Point) (e : Entry) (bytes : List ℕ) (sender : ℕ) (message : Message) → MaySendMessage c me past point e bytes message
    → batch_from c me v i (record { sender = sender; message = message }) ≡ Some batch → logged c me past v i ≡ None → IsFree c me past point.state.number v i
next_by c me v i batch past point e bytes sender (PrePrepare w number b) allowed h none =
    let g = then_some_gives ((w == v) && (number == i) && (sender == primary c v) && are_genuine c me b) b batch h in
    let p = and_parts ((w == v) && (number == i) && (sender == primary c v)) (are_genuine c me b) g.0 in
    let r = and_parts (w == v) (number == i) (and_parts ((w == v) && (number == i)) (sender == primary c v) p.0).0 in
    let next : logged c me past v i ≡ None → IsFree c me past point.state.number v i =
    subst (λ (x : ℕ). logged c me past x i ≡ None → IsFree c me past point.state.number x i) (eqb-true w v r.0)
    (subst (λ (x : ℕ). logged c me past w x ≡ None → IsFree c me past point.state.number w x) (eqb-true number i r.1) allowed.next) in
    next none
next_by c me v i batch past point e bytes sender _ allowed h none = absurd cc

-- who proposes a batch is the view's primary
proposer : (c : Configuration) (me v i : ℕ) (batch : List ℕ) (sender : ℕ) (message : Message) → batch_from c me v i (record { sender = sender; message = message }) ≡ Some batch → sender ≡ primary c v
proposer c me v i batch sender (PrePrepare w number b) h =
    let g = then_some_gives ((w == v) && (number == i) && (sender == primary c v) && are_genuine c me b) b batch h in
    let p = and_parts ((w == v) && (number == i) && (sender == primary c v)) (are_genuine c me b) g.0 in
    eqb-true sender (primary c v) (and_parts ((w == v) && (number == i)) (sender == primary c v) p.0).1
proposer c me v i batch sender _ h = absurd cc

-- so what it logs by a pre-prepare is the next number
entry_next : (c : Configuration) (me v i : ℕ) (batch : List ℕ) (e : Entry) (past : List Entry) (point : Point) → primary c v ≡ me → party_of e ≡ me → May c me past point e → entry_proposal c me past e v i ≡ Some batch
    → logged c me past v i ≡ None → IsFree c me past point.state.number v i
entry_next c me v i batch (Got p bytes) past point own party may h none =
    let t = entry_batch c me v i batch past (Got p bytes) h in
    let sender = proposer c me v i batch t.1.0.sender t.1.0.message t.1.2 in
    absurd ((authentic_was_opened (members c p) p bytes t.1.0 t.1.1).other (sender ∙ own ∙ sym party))
entry_next c me v i batch (Sent p bytes) past point own party may h none =
    let t = entry_batch c me v i batch past (Sent p bytes) h in
    let m : MaySend c me past point (Sent p bytes) bytes = may in
    let allowed : MaySendMessage c me past point (Sent p bytes) bytes t.1.0.message = subst (λ (x : Body). MaySendMessage c me past point (Sent p bytes) bytes x.message) (some_injective m.body t.1.0 (sym m.says ∙ t.1.1)) m.allowed in
    next_by c me v i batch past point (Sent p bytes) bytes t.1.0.sender t.1.0.message allowed t.1.2 none
entry_next c me v i batch (Invoke x y z) past point own party may h none = absurd cc
entry_next c me v i batch _ past point own party may h none = absurd cc

-- if a new view has a batch for a number, it has one for each number between its start and that number
assigned_between : (c : Configuration) (v i j : ℕ) (new : NewViewData) (batch : List ℕ) → assigned_batch v i new ≡ Some batch → new.start < j → j < i → (x : List ℕ) × (assigned_batch new.view j new ≡ Some x)
assigned_between c v i j new batch h above below =
    let x = given_at new.batches (j - new.start - 1) (omega (arith, above, below, (proposes c v i new batch h).within)) in
    (x.0, rw (eq-eqb new.view new.view refl, lt-ltb new.start j above) x.1)

-- ---- no gap

no_gap : (c : Configuration) (me v : ℕ) → primary c v ≡ me → (xs : List Entry) (point : Point) → HistoryReaches c me xs point → (i j : ℕ) (batch : List ℕ) → logged c me xs v i ≡ Some batch → low c me xs < j → j < i
    → (other : List ℕ) × (logged c me xs v j ≡ Some other)
unfolding logged
no_gap c me v own [] point h i j batch there above below = absurd (let bad : None ≡ Some batch = there in cc)
no_gap c me v own (e ∷ past) point h i j batch there above below = go (λ earlier is lower. no_gap c me v own past h.0 h.1 i j earlier is lower below) (logged c me past v i) refl
  where
    lower : low c me past < j
    lower = let more = low_grows c me e past in omega (arith, above, more)

    kept : (other : List ℕ) × (logged c me past v j ≡ Some other) → (other : List ℕ) × (logged c me (e ∷ past) v j ≡ Some other)
    kept x = (x.0, logged_stays c me v j x.0 e past x.1)

    assigned : (b : Bool) → cond b (option_and_then (assigned_batch v i) (taken c past e)) None ≡ Some batch → (other : List ℕ) × (logged c me (e ∷ past) v j ≡ Some other)
    assigned false k = absurd cc
    assigned true k =
        let t = and_then_some (assigned_batch v i) (taken c past e) batch k in
        let p : Proposes c v i t.0 = proposes c v i t.0 batch t.2 in
        let x = assigned_between c v i j t.0 batch t.2 (omega (arith, (takes c me past e t.0 t.1).low_is, above)) below in
        (x.0, subst (λ (w : ℕ). logged c me (e ∷ past) w j ≡ Some x.0) p.view_is (logs_what_begins c me j x.0 e past t.0 (h.0, h.1) t.1 x.1 above))

    of : logged c me past v i ≡ None → (assigned_proposal c me past e v i ≡ Some batch) ⊎ (entry_proposal c me past e v i ≡ Some batch) → (other : List ℕ) × (logged c me (e ∷ past) v j ≡ Some other)
    of none (inl k) = assigned (is_in_marks c (low c me (e ∷ past)) i) k
    of none (inr k) = kept (has_value (logged c me past v j) ((entry_next c me v i batch e past h.0 own h.2.own h.2.may k none).used j lower below))

    go : ((earlier : List ℕ) → logged c me past v i ≡ Some earlier → low c me past < j → (other : List ℕ) × (logged c me past v j ≡ Some other)) → (o : Option (List ℕ)) → logged c me past v i ≡ o
        → (other : List ℕ) × (logged c me (e ∷ past) v j ≡ Some other)
    go before (Some earlier) is = kept (before earlier is lower)
    go before None is = of is (or_else_cases (assigned_proposal c me past e v i) (entry_proposal c me past e v i) batch (sym (or_else_second (logged c me past v i) (proposal c me past e v i) is) ∙ there))

pub leaves_no_gap : LeavesNoGap
leaves_no_gap c me v i j batch history right own there above below = no_gap c me v own history right.0 right.1 i j batch there above below

-- ---- some number is free

-- the number below one in the marks is in them, if it is above the low mark
lower_in_marks : (c : Configuration) (h i : ℕ) → is_in_marks c h (suc i) ≡ true → h < i → is_in_marks c h i ≡ true
lower_in_marks c h i e above =
    let p = and_parts (nat_lt h (suc i) && nat_le (suc i) (h + span c)) (nat_lt (suc i) (2 ^ 48)) e in
    let q = and_parts (nat_lt h (suc i)) (nat_le (suc i) (h + span c)) p.0 in
    let high = leb-true (suc i) (h + span c) q.1 in
    let number = ltb-true (suc i) (2 ^ 48) p.1 in
    and_from (nat_lt h i && nat_le i (h + span c)) (nat_lt i (2 ^ 48))
    (and_from (nat_lt h i) (nat_le i (h + span c)) (lt-ltb h i above) (le-leb i (h + span c) (omega (arith, high)))) (lt-ltb i (2 ^ 48) (omega (arith, number)))

pub some_is_free : (c : Configuration) (me v executed : ℕ) (history : List Entry) → primary c v ≡ me → SafeReplica c me history → (i : ℕ) → is_in_marks c (low c me history) i ≡ true → i ≤ executed + 2
    → ((j : ℕ) → i ≤ j → logged c me history v j ≡ None) → (n : ℕ) × IsFree c me history executed v n
some_is_free c me v executed history own right zero marks near unused = let above = marks_above c (low c me history) zero marks in absurd (omega (arith, above))
some_is_free c me v executed history own right (suc i) marks near unused = go (λ marks near unused. some_is_free c me v executed history own right i marks near unused) (nat_lt (low c me history) i) refl (logged c me history v i) refl
  where
    go : (is_in_marks c (low c me history) i ≡ true → i ≤ executed + 2 → ((j : ℕ) → i ≤ j → logged c me history v j ≡ None) → (n : ℕ) × IsFree c me history executed v n)
        → (b : Bool) → nat_lt (low c me history) i ≡ b → (o : Option (List ℕ)) → logged c me history v i ≡ o → (n : ℕ) × IsFree c me history executed v n
    go lower false e o is =
        let below = ltb-false (low c me history) i e in
        (suc i, record { in_marks = marks; near = near; used = λ j above under. absurd (omega (arith, above, under, below)); unused = unused })
    go lower true e (Some batch) is = (suc i, record { in_marks = marks; near = near; used = λ j above under. used j above under (j == i) refl; unused = unused })
      where
        used : (j : ℕ) → low c me history < j → j < suc i → (b : Bool) → (j == i) ≡ b → is_some (logged c me history v j) ≡ true
        used j above under true at = ap is_some (ap (logged c me history v) (eqb-true j i at) ∙ is)
        used j above under false at =
            ap is_some (leaves_no_gap c me v i j batch history right own is above (omega (arith, under, eqb-false j i at))).1
    go lower true e None is =
        lower (lower_in_marks c (low c me history) i marks (ltb-true (low c me history) i e)) (omega (arith, near)) (λ j above. unused_from j above (j == i) refl)
      where
        unused_from : (j : ℕ) → i ≤ j → (b : Bool) → (j == i) ≡ b → logged c me history v j ≡ None
        unused_from j above true at = ap (logged c me history v) (eqb-true j i at) ∙ is
        unused_from j above false at = let other = eqb-false j i at in unused j (omega (arith, above, other))
