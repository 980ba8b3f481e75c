-- Events of a history's later part: an input there, with all outputs of its party.
use Rattle.std.proofs.Common.{◌≡◌, ℕ, ◌⊎◌, inl, inr, false, List, [], ◌∷◌, ◌++◌, reverse, Some, ap, subst}
use Rattle.wire_format.specs.Messages.{MessageData as Message}
use Rattle.wire_format.specs.Words.{said}
use Rattle.protocol.specs.System.Configuration.{Configuration}
use Rattle.protocol.specs.System.Trace.{Entry, is_output}
use Rattle.protocol.specs.System.Trace.Entry.{Sent}
use Rattle.protocol.specs.Client.RightClient.{reaction, IsReaction, MayInput, Reacts}
use Rattle.protocol.specs.Replica.RightReplica.{Point, HistoryReaches, IsStep, MaySend}
use Rattle.protocol.specs.Replica.Owed.{Owes, HistoryIsPrompt, IsSending, SendsMessage}
use Rattle.protocol.proofs.Words.Elements.{has_some}
use Rattle.protocol.proofs.Words.Reacting.{one_of, proceeds_leaves}
use Rattle.evidence.proofs.RefusingRuns.{when_false}
use Rattle.progress.specs.Delivery.{HasEntry}

-- all of them stand among the outputs that are still to come, or in the part
abbrev pub Among : List Entry → List Entry → List Entry → Type 0
Among outs outputs part = (x : Entry) → HasEntry x outs → HasEntry x outputs ⊎ HasEntry x part

taken_in : (e x : Entry) (outputs part : List Entry) → HasEntry x (e ∷ outputs) ⊎ HasEntry x part → HasEntry x outputs ⊎ HasEntry x (e ∷ part)
taken_in e x outputs part (inl (inl is)) = inr (inl is)
taken_in e x outputs part (inl (inr k)) = inl k
taken_in e x outputs part (inr k) = inr (inr k)

none_to_come : (e x : Entry) (outputs part : List Entry) → HasEntry x [] ⊎ HasEntry x part → HasEntry x outputs ⊎ HasEntry x (e ∷ part)
none_to_come e x outputs part (inl k) = absurd k
none_to_come e x outputs part (inr k) = inr (inr k)

-- ---- a client's

pub record Reacted (c : Configuration) (me : ℕ) (e : Entry) (outputs part start : List Entry) : Type 0 where
  pub later : List Entry
  pub before : List Entry
  pub splits : part ≡ later ++ e ∷ before
  pub outs : List Entry
  pub reacts : IsReaction c me (reaction c me (e ∷ before ++ start)) outs
  pub among : Among outs outputs part

pub reacted : (c : Configuration) (me : ℕ) (e : Entry) → is_output e ≡ false → (outputs part start : List Entry) → Reacts c me 0 (reaction c me) outputs (part ++ start) → HasEntry e part
    → Reacted c me e outputs part start
reacted c me e input outputs [] start r h = absurd h
reacted c me e input outputs (x ∷ part) start r (inl is) =
    let here : Reacts c me 0 (reaction c me) outputs (e ∷ part ++ start) = subst (λ (y : Entry). Reacts c me 0 (reaction c me) outputs (y ∷ part ++ start)) is r in
    let event = when_false (is_output e) (Reacts c me 0 (reaction c me) (e ∷ outputs) (part ++ start))
    (MayInput 0 (part ++ start) e × IsReaction c me (reaction c me (e ∷ part ++ start)) outputs × Reacts c me 0 (reaction c me) [] (part ++ start)) input here.1 in
    record { later = []; before = part; splits = ap (λ (y : Entry). y ∷ part) is; outs = outputs; reacts = event.1; among = λ y k. inl k }
reacted c me e input outputs (x ∷ part) start r (inr h) =
    one_of (is_output x) (Reacts c me 0 (reaction c me) (x ∷ outputs) (part ++ start))
    (MayInput 0 (part ++ start) x × IsReaction c me (reaction c me (x ∷ part ++ start)) outputs × Reacts c me 0 (reaction c me) [] (part ++ start)) (Reacted c me e outputs (x ∷ part) start) r.1
    (λ k. let below = reacted c me e input (x ∷ outputs) part start k h in
    record { later = x ∷ below.later; before = below.before; splits = ap (λ (ys : List Entry). x ∷ ys) below.splits; outs = below.outs; reacts = below.reacts; among = λ y m. taken_in x y outputs part (below.among y m) })
    (λ k. let below = reacted c me e input [] part start k.2 h in
    record { later = x ∷ below.later; before = below.before; splits = ap (λ (ys : List Entry). x ∷ ys) below.splits; outs = below.outs; reacts = below.reacts; among = λ y m. none_to_come x y outputs part (below.among y m) })

-- ---- a replica's

pub record Owed (c : Configuration) (me : ℕ) (e : Entry) (outputs part start : List Entry) : Type 0 where
  pub later : List Entry
  pub before : List Entry
  pub splits : part ≡ later ++ e ∷ before
  pub outs : List Entry
  pub old : Point
  pub new : Point
  pub leaves : HistoryReaches c me (before ++ start) old
  pub owes : Owes c me (before ++ start) e outs (reverse outs ++ e ∷ (before ++ start)) old new
  pub among : Among outs outputs part

pub owed : (c : Configuration) (me : ℕ) (e : Entry) → is_output e ≡ false → (outputs part start : List Entry) (new point : Point) → HistoryIsPrompt c me (part ++ start) outputs new point → HasEntry e part
    → Owed c me e outputs part start
owed c me e input outputs [] start new point r h = absurd h
owed c me e input outputs (x ∷ part) start new point r (inl is) =
    let here : HistoryIsPrompt c me (e ∷ part ++ start) outputs new point = subst (λ (y : Entry). HistoryIsPrompt c me (y ∷ part ++ start) outputs new point) is r in
    let event = when_false (is_output e) (HistoryIsPrompt c me (part ++ start) (e ∷ outputs) new here.0)
    (Owes c me (part ++ start) e outputs (reverse outputs ++ e ∷ (part ++ start)) here.0 new × HistoryIsPrompt c me (part ++ start) [] here.0 here.0) input here.2 in
    record {
      later = [];
      before = part;
      splits = ap (λ (y : Entry). y ∷ part) is;
      outs = outputs;
      old = here.0;
      new = new;
      leaves = proceeds_leaves c me (part ++ start) [] here.0 here.0 event.1;
      owes = event.0;
      among = λ y k. inl k;
    }
owed c me e input outputs (x ∷ part) start new point r (inr h) =
    one_of (is_output x) (HistoryIsPrompt c me (part ++ start) (x ∷ outputs) new r.0)
    (Owes c me (part ++ start) x outputs (reverse outputs ++ x ∷ (part ++ start)) r.0 new × HistoryIsPrompt c me (part ++ start) [] r.0 r.0) (Owed c me e outputs (x ∷ part) start) r.2
    (λ k. let below = owed c me e input (x ∷ outputs) part start new r.0 k h in
    record {
      later = x ∷ below.later;
      before = below.before;
      splits = ap (λ (ys : List Entry). x ∷ ys) below.splits;
      outs = below.outs;
      old = below.old;
      new = below.new;
      leaves = below.leaves;
      owes = below.owes;
      among = λ y m. taken_in x y outputs part (below.among y m);
    })
    (λ k. let below = owed c me e input [] part start r.0 r.0 k.1 h in
    record {
      later = x ∷ below.later;
      before = below.before;
      splits = ap (λ (ys : List Entry). x ∷ ys) below.splits;
      outs = below.outs;
      old = below.old;
      new = below.new;
      leaves = below.leaves;
      owes = below.owes;
      among = λ y m. none_to_come x y outputs part (below.among y m);
    })

-- ---- outputs are sent

pub record Given (me : ℕ) (message : Message) (outs : List Entry) : Type 0 where
  pub party : ℕ
  pub bytes : List ℕ
  pub is_there : HasEntry (Sent party bytes) outs
  pub says : said bytes ≡ Some (record { sender = me; message = message })

pub given : (me : ℕ) (message : Message) (outs : List Entry) → SendsMessage me message outs → Given me message outs
given me message outs h =
    let x = has_some (IsSending me message) outs h in
    go x.0 x.1 x.2
  where
    go : (e : Entry) → HasEntry e outs → IsSending me message e → Given me message outs
    go (Sent p bytes) there says = record { party = p; bytes = bytes; is_there = there; says = says }
    go _ there says = absurd says

-- the replica might send what it sends
pub record MightSend (c : Configuration) (me : ℕ) (e : Entry) (bytes : List ℕ) : Type 0 where
  pub past : List Entry
  pub point : Point
  pub may : MaySend c me past point e bytes

pub sent_may : (c : Configuration) (me p : ℕ) (bytes : List ℕ) (history : List Entry) (point : Point) → HistoryReaches c me history point → HasEntry (Sent p bytes) history
    → (p ≡ me) × MightSend c me (Sent p bytes) bytes
sent_may c me p bytes [] point leaves h = absurd h
sent_may c me p bytes (e ∷ past) point leaves (inl is) =
    let step : IsStep c me past leaves.0 (Sent p bytes) point = subst (λ (x : Entry). IsStep c me past leaves.0 x point) is leaves.2 in
    (step.own, record { past = past; point = leaves.0; may = step.may })
sent_may c me p bytes (e ∷ past) point leaves (inr h) = sent_may c me p bytes past leaves.0 leaves.1 h
