-- The reads by the notes on each client.
use Rattle.std.proofs.Common.{◌≡◌, ℕ, ◌+◌, Bool, true, false, cond, List, [], ◌∷◌, ◌++◌, length, refl, sym, ap, ap₂, ◌∙◌, Option, Some, None}
use Rattle.std.specs.Prelude.{◌==◌, option_and_then, option_map}
use Rattle.std.specs.Bool.{then_some}
use Rattle.std.specs.Option.{option_map_or}
use Rattle.terms.specs.declared.order.Mode.TheVariants as modes
use Rattle.tuple_codec.specs.Operations.{Outcome}
use Rattle.wire_format.specs.Messages.{BodyData}
use Rattle.signing.specs.AuthenticBody.{authentic}
use Rattle.protocol.specs.System.Configuration.{Configuration, members}
use Rattle.protocol.specs.System.Frames.{same_mode}
use Rattle.protocol.specs.System.Trace.{Entry, party_of, history_of}
use Rattle.protocol.specs.System.Trace.Entry.{Invoke, Got, Tick, Executed, Installed, Sent, Accepted}
use Rattle.protocol.specs.Client.RightClient.{Vote, OpenCall, reply_vote, open_call, newest_vote}
use Rattle.protocol.specs.Space.Linear.{Placing, invoked_at, invoke_past, read_point, read_points}
use Rattle.points.proofs.Finding.{position_of}
use Rattle.points.specs.Scanning.{scan_after_entry, scan_of, number_in, read_number, read_at, read_by_scan, with_read, reads_by_scans, seed_holder}
use Rattle.points.proofs.Judging.{same_judgement}

pub call_is : (p : ℕ) (past : List Entry) → open_call (history_of p past) ≡ (scan_of p past).call
call_is p [] = refl
call_is p (e ∷ past) = own e (party_of e == p) (call_is p past)
  where
    own : (e : Entry) (b : Bool) → open_call (history_of p past) ≡ (scan_of p past).call
        → open_call (cond b (e ∷ history_of p past) (history_of p past)) ≡ (cond b (scan_after_entry (length past) e (scan_of p past)) (scan_of p past)).call
    own e false below = below
    own (Invoke k t op) true below = refl
    own (Accepted k t answer) true below = refl
    own (Got q bytes) true below = below
    own (Tick q) true below = below
    own (Executed q n batch) true below = below
    own (Installed q n root) true below = below
    own (Sent q bytes) true below = below

-- an entry that is no invocation leaves the last one
keeps : (p : ℕ) (e : Entry) (past : List Entry) (b : Bool) → (scan_after_entry (length past) e (scan_of p past)).invoked ≡ (scan_of p past).invoked
    → invoked_at p past ≡ (scan_of p past).invoked → invoked_at p past ≡ (cond b (scan_after_entry (length past) e (scan_of p past)) (scan_of p past)).invoked
keeps p e past true same below = below ∙ sym same
keeps p e past false same below = below

pub invoked_is : (p : ℕ) (past : List Entry) → invoked_at p past ≡ (scan_of p past).invoked
invoked_is p [] = refl
invoked_is p (Invoke k t op ∷ past) = own (256 + k == p) (invoked_is p past)
  where
    own : (b : Bool) → invoked_at p past ≡ (scan_of p past).invoked
        → length (cond b past (invoke_past p past)) ≡ (cond b (scan_after_entry (length past) (Invoke k t op) (scan_of p past)) (scan_of p past)).invoked
    own true below = refl
    own false below = below
invoked_is p (Accepted k t answer ∷ past) = keeps p (Accepted k t answer) past (256 + k == p) refl (invoked_is p past)
invoked_is p (Got q bytes ∷ past) = keeps p (Got q bytes) past (q == p) refl (invoked_is p past)
invoked_is p (Tick q ∷ past) = keeps p (Tick q) past (q == p) refl (invoked_is p past)
invoked_is p (Executed q n batch ∷ past) = keeps p (Executed q n batch) past (q == p) refl (invoked_is p past)
invoked_is p (Installed q n root ∷ past) = keeps p (Installed q n root) past (q == p) refl (invoked_is p past)
invoked_is p (Sent q bytes ∷ past) = keeps p (Sent q bytes) past (q == p) refl (invoked_is p past)

-- the vote in the bytes
abbrev vote_in : Configuration → ℕ → ℕ → List ℕ → Option Vote
vote_in c p timestamp bytes = option_and_then (λ (body : BodyData). reply_vote p timestamp body.sender body) (authentic (members c p) p bytes)

pub vote_is : (c : Configuration) (p timestamp : ℕ) (past : List Entry) → newest_vote c p (history_of p past) timestamp ≡ option_and_then (vote_in c p timestamp) (scan_of p past).got
vote_is c p timestamp [] = refl
vote_is c p timestamp (e ∷ past) = own e (party_of e == p) (vote_is c p timestamp past)
  where
    own : (e : Entry) (b : Bool) → newest_vote c p (history_of p past) timestamp ≡ option_and_then (vote_in c p timestamp) (scan_of p past).got
        → newest_vote c p (cond b (e ∷ history_of p past) (history_of p past)) timestamp
        ≡ option_and_then (vote_in c p timestamp) (cond b (scan_after_entry (length past) e (scan_of p past)) (scan_of p past)).got
    own e false below = below
    own (Invoke k t op) true below = refl
    own (Accepted k t answer) true below = refl
    own (Got q bytes) true below = refl
    own (Tick q) true below = refl
    own (Executed q n batch) true below = refl
    own (Installed q n root) true below = refl
    own (Sent q bytes) true below = refl

-- ---- the read, by call and vote

abbrev number_by : Vote → Option ℕ
number_by vote = then_some (same_mode vote.mode modes.ReadOnly) vote.number

abbrev read_by : (ℕ → ℕ) → ℕ → Outcome → ℕ → Option Vote → Option OpenCall → Option Placing
read_by at p answer invoked vote call =
    option_and_then (λ (call : OpenCall). option_and_then (λ (vote : Vote). then_some (same_mode vote.mode modes.ReadOnly) (read_at at p answer invoked call vote.number)) vote) call

same_read : (f g : ℕ → ℕ) → ((k : ℕ) → f k ≡ g k) → (p : ℕ) (answer : Outcome) (invoked : ℕ) (vote : Option Vote) (call : Option OpenCall)
    → read_by f p answer invoked vote call ≡ option_and_then (λ (call : OpenCall). option_map (read_at g p answer invoked call) (option_and_then number_by vote)) call
same_read f g same p answer invoked vote None = refl
same_read f g same p answer invoked None (Some call) = refl
same_read f g same p answer invoked (Some vote) (Some call) = go (same_mode vote.mode modes.ReadOnly)
  where
    go : (b : Bool) → then_some b (read_at f p answer invoked call vote.number) ≡ option_map (read_at g p answer invoked call) (then_some b vote.number)
    go false = refl
    go true = ap (λ (n : ℕ). Some (read_at (λ _. n) p answer invoked call vote.number)) (same vote.number)

same_number : (c : Configuration) (p timestamp : ℕ) (got : Option (List ℕ))
    → option_and_then number_by (option_and_then (vote_in c p timestamp) got) ≡ option_and_then (read_number (seed_holder c) p timestamp) got
same_number c p timestamp None = refl
same_number c p timestamp (Some bytes) = go (authentic (members c p) p bytes) ∙ same_judgement c p timestamp bytes
  where
    go : (o : Option BodyData) → option_and_then number_by (option_and_then (λ (body : BodyData). reply_vote p timestamp body.sender body) o) ≡ option_and_then (number_in p timestamp) o
    go None = refl
    go (Some body) = refl

pub read_is : (c : Configuration) (trace : List Entry) (at : ℕ → ℕ) → ((k : ℕ) → position_of c trace k ≡ at k) → (past : List Entry) (p timestamp : ℕ) (answer : Outcome)
    → option_and_then (λ call. option_and_then (read_point c trace p call answer past) (newest_vote c p (history_of p past) timestamp)) (open_call (history_of p past))
    ≡ read_by_scan (seed_holder c) at p timestamp answer (scan_of p past)
read_is c trace at same past p timestamp answer =
    ap (read_by (position_of c trace) p answer (invoked_at p past) (newest_vote c p (history_of p past) timestamp)) (call_is p past)
    ∙ ap (λ v. read_by (position_of c trace) p answer (invoked_at p past) v (scan_of p past).call) (vote_is c p timestamp past)
    ∙ ap (λ i. read_by (position_of c trace) p answer i (option_and_then (vote_in c p timestamp) (scan_of p past).got) (scan_of p past).call) (invoked_is p past)
    ∙ same_read (position_of c trace) at same p answer (scan_of p past).invoked (option_and_then (vote_in c p timestamp) (scan_of p past).got) (scan_of p past).call
    ∙ ap (λ (n : Option ℕ). option_and_then (λ (call : OpenCall). option_map (read_at at p answer (scan_of p past).invoked call) n) (scan_of p past).call) (same_number c p timestamp (scan_of p past).got)

joined : (o : Option Placing) (xs : List Placing) → option_map_or (λ point. point ∷ []) o [] ++ xs ≡ with_read o xs
joined None xs = refl
joined (Some x) xs = refl

pub reads_are : (c : Configuration) (trace : List Entry) (at : ℕ → ℕ) → ((k : ℕ) → position_of c trace k ≡ at k) → (past : List Entry) → read_points c trace past ≡ reads_by_scans (seed_holder c) at past
reads_are c trace at same [] = refl
reads_are c trace at same (Accepted k t answer ∷ past) =
    ap₂ (λ (o : Option Placing) (rest : List Placing). option_map_or (λ point. point ∷ []) o [] ++ rest) (read_is c trace at same past (256 + k) t answer) (reads_are c trace at same past)
    ∙ joined (read_by_scan (seed_holder c) at (256 + k) t answer (scan_of (256 + k) past)) (reads_by_scans (seed_holder c) at past)
reads_are c trace at same (_ ∷ past) = reads_are c trace at same past
