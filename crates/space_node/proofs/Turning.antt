-- The outputs of a client's event make a turn.
use Rattle.std.proofs.Common.{◌≡◌, ℕ, zero, suc, ◌-◌, ◌<◌, inl, inr, Bool, true, false, cond, ◌&&◌, not, List, [], ◌∷◌, ◌++◌, length, get_or, Option, Some, None, map, refl, sym, ap, ◌∙◌, subst, arith}
use Rattle.std.proofs.lemmas.List.{append-nil}
use Rattle.std.specs.Option.{option_map_or}
use Rattle.std.specs.declared.alloc.Global.{Global}
use Rattle.tuple_codec.specs.Operations.{Operation, Outcome}
use Rattle.tuple_codec.specs.declared.operations.Answer.{Answer}
use Rattle.terms.specs.declared.order.Mode.TheVariants as modes
use Rattle.protocol.specs.System.Configuration.{Configuration}
use Rattle.protocol.specs.System.Trace.{Entry, either, is_output}
use Rattle.protocol.specs.System.Trace.Entry.{Invoke, Got, Tick, Executed, Sent, Accepted}
use Rattle.protocol.specs.Client.RightClient.{IsReaction, MayInput, OpenCall, Reacts, Reaction, Vote, fallback, is_answered, is_complete, last_call, newest_vote, on_got, on_reply, open_call, reaction, went_ordered}
use Rattle.protocol.specs.Client.RightClient.Reaction.{nothing, asks, accepts}
use Rattle.events.specs.Outputs.{after_entries, entry_of}
use Rattle.events.specs.declared.output.Output.{Output}
use Rattle.events.specs.declared.output.Output.TheVariants as outputs
use Rattle.wire_format.specs.Lists.{Each}
use Rattle.space_node.specs.Calls.{AcceptNothing, AcceptsSome, MakesTurn}

-- ---- the outputs of the newest event are its reaction

when_true : (b : Bool) (A B : Type 0) → b ≡ true → either b A B → A
when_true true A B is x = x
when_true false A B is x = absurd cc

when_false : (b : Bool) (A B : Type 0) → b ≡ false → either b A B → B
when_false true A B is x = absurd cc
when_false false A B is x = x

gives_output : (p : ℕ) (output : Output) → is_output (entry_of p output) ≡ true
gives_output p (outputs.Executed number batch) = refl
gives_output p _ = refl

module _ (c : Configuration) (me : ℕ) (react : List Entry → Reaction) where
  gathered : (outs : List Output) (given past : List Entry) → Reacts c me 0 react given (after_entries (map (entry_of me) outs) past) → Reacts c me 0 react (map (entry_of me) outs ++ given) past
  gathered [] given past r = r
  gathered (output ∷ outs) given past r =
      let e = entry_of me output in
      let rest = map (entry_of me) outs ++ given in
      when_true (is_output e) (Reacts c me 0 react (e ∷ rest) past) (MayInput 0 past e × IsReaction c me (react (e ∷ past)) rest × Reacts c me 0 react [] past) (gives_output me output)
      (gathered outs given (e ∷ past) r).1

  pub reacted : (outs : List Output) (input : Entry) (past : List Entry) → is_output input ≡ false → Reacts c me 0 react [] (after_entries (map (entry_of me) outs) (input ∷ past))
      → IsReaction c me (react (input ∷ past)) (map (entry_of me) outs)
  reacted outs input past begins r =
      let given = map (entry_of me) outs ++ [] in
      subst (λ (es : List Entry). IsReaction c me (react (input ∷ past)) es) (append-nil (map (entry_of me) outs))
      (when_false (is_output input) (Reacts c me 0 react (input ∷ given) past) (MayInput 0 past input × IsReaction c me (react (input ∷ past)) given × Reacts c me 0 react [] past) begins
      (gathered outs [] (input ∷ past) r).1).1

-- ---- an answer that is accepted is that of the last call

call_timestamp : (past : List Entry) (call : OpenCall) → open_call past ≡ Some call → call.timestamp ≡ last_call past
call_timestamp [] call is = absurd cc
call_timestamp (Invoke client timestamp op ∷ past) call is = go is
  where
    go : Some (record { timestamp = timestamp; op = op }) ≡ Some call → call.timestamp ≡ timestamp
    go same = cc
call_timestamp (Accepted client timestamp answer ∷ past) call is = absurd cc
call_timestamp (_ ∷ past) call is = call_timestamp past call is

asks_or_not : (b : Bool) (call : OpenCall) (t : ℕ) (a : Outcome) → cond b (asks modes.Ordered call) nothing ≡ accepts t a → ⊥
asks_or_not true call t a h = cc
asks_or_not false call t a h = cc

accepts_call : (b : Bool) (call : OpenCall) (answer : Outcome) (r : Reaction) (t : ℕ) (a : Outcome) → (r ≡ accepts t a → ⊥) → cond b (accepts call.timestamp answer) r ≡ accepts t a → call.timestamp ≡ t
accepts_call true call answer r t a never h = cc
accepts_call false call answer r t a never h = absurd (never h)

reply_accepts : (c : Configuration) (me : ℕ) (now : List Entry) (call : OpenCall) (vote : Option Vote) (t : ℕ) (a : Outcome)
    → option_map_or (on_reply c me now call) vote nothing ≡ accepts t a → call.timestamp ≡ t
reply_accepts c me now call None t a h = absurd cc
reply_accepts c me now call (Some vote) t a h =
    accepts_call (is_complete c me now call.timestamp vote) call vote.answer (fallback c me now call) t a
    (λ falls. asks_or_not (not (went_ordered now call.timestamp) && is_answered c me now call.timestamp) call t a falls) h

pub accepts_last : (c : Configuration) (me : ℕ) (now : List Entry) (t : ℕ) (a : Outcome) → reaction c me now ≡ accepts t a → t ≡ last_call now
accepts_last c me [] t a h = absurd cc
accepts_last c me (Invoke client timestamp op ∷ past) t a h = absurd cc
accepts_last c me (Got p bytes ∷ past) t a h = go (open_call past) refl h
  where
    go : (o : Option OpenCall) → open_call past ≡ o → option_map_or (on_got c me (Got p bytes ∷ past)) o nothing ≡ accepts t a → t ≡ last_call past
    go None none k = absurd cc
    go (Some call) is k =
        sym (reply_accepts c me (Got p bytes ∷ past) call (newest_vote c me (Got p bytes ∷ past) call.timestamp) t a k) ∙ call_timestamp past call is
accepts_last c me (Tick p ∷ past) t a h = absurd (go (open_call past) h)
  where
    go : (o : Option OpenCall) → option_map_or (asks modes.Ordered) o nothing ≡ accepts t a → ⊥
    go None k = cc
    go (Some call) k = cc
accepts_last c me (Executed r i batch ∷ past) t a h = absurd cc
accepts_last c me (_ ∷ past) t a h = absurd cc

-- ---- a reaction makes a turn

sends_nothing : (me : ℕ) (bytes : List ℕ) (outs : List Output) → map (entry_of me) outs ≡ Sent me bytes ∷ [] → AcceptNothing outs
sends_nothing me bytes (outputs.Send receivers frame ∷ []) is = ((λ accepted. accepted), tt)
sends_nothing me bytes _ is = absurd cc

accepts_one : (me k t : ℕ) (a : Outcome) (outs : List Output) → map (entry_of me) outs ≡ Accepted k t a ∷ [] → MakesTurn t outs
accepts_one me k t a (outputs.Accepted timestamp answer ∷ []) is =
    let when : timestamp.0 ≡ t = cc in
    inr (answer, ap (λ (n : ℕ). outputs.Accepted (record { 0 = n }) answer ∷ []) when)
accepts_one me k t a _ is = absurd cc

makes_turn : (c : Configuration) (me t : ℕ) (r : Reaction) (outs : List Output) → ((k : ℕ) (a : Outcome) → r ≡ accepts k a → k ≡ t) → IsReaction c me r (map (entry_of me) outs) → MakesTurn t outs
makes_turn c me t nothing [] last is = inl tt
makes_turn c me t nothing (output ∷ outs) last is = absurd cc
makes_turn c me t (asks mode call) outs last is = inl (sends_nothing me is.0 outs is.1)
makes_turn c me t (accepts k a) outs last is = subst (λ (n : ℕ). MakesTurn n outs) (last k a refl) (accepts_one me is.0 k a outs is.1)

-- The outputs of a client's event that begins with this input.
pub event_turns : (c : Configuration) (me : ℕ) (outs : List Output) (input : Entry) (past : List Entry) → is_output input ≡ false
    → Reacts c me 0 (reaction c me) [] (after_entries (map (entry_of me) outs) (input ∷ past)) → MakesTurn (last_call (input ∷ past)) outs
event_turns c me outs input past begins r =
    makes_turn c me (last_call (input ∷ past)) (reaction c me (input ∷ past)) outs (λ k a is. accepts_last c me (input ∷ past) k a is)
    (reacted c me (reaction c me) outs input past begins r)

-- a call is asked for, and nothing is accepted yet
pub call_waits : (c : Configuration) (me k t : ℕ) (op : Operation) (outs : List Output) (past : List Entry)
    → Reacts c me 0 (reaction c me) [] (after_entries (map (entry_of me) outs) (Invoke k t op ∷ past)) → AcceptNothing outs
call_waits c me k t op outs past r =
    let asked = reacted c me (reaction c me) outs (Invoke k t op) past refl r in
    sends_nothing me asked.0 outs asked.1

-- ---- as the program has it

each_at : (P : Output → Type 0) (xs : List Output) (i : ℕ) (d : Output) → Each P xs → i < length xs → P (get_or xs i d)
each_at P [] i d e low = absurd (omega arith)
each_at P (x ∷ xs) zero d e low = e.0
each_at P (x ∷ xs) (suc i) d e low = each_at P xs i d e.1 (omega arith)

-- one that accepts is found
pub found : (outs : List Output) (i : ℕ) (output : Output) → i < length outs → output ≡ get_or outs i output → AcceptsSome output → ¬ AcceptNothing outs
found outs i output low is accepted none = each_at (λ o. ¬ AcceptsSome o) outs i output none low (subst AcceptsSome is accepted)

-- the one that is left accepts the answer of the call
pub answered : (t : ℕ) (outs : List Output) (last : Option Output) → MakesTurn t outs → ¬ AcceptNothing outs
    → ((d : Output) → 0 < length outs → last ≡ Some (get_or outs (length outs - 1) d))
    → (answer : Answer Global) × (outs ≡ outputs.Accepted (record { 0 = t }) answer ∷ []) × (last ≡ Some (outputs.Accepted (record { 0 = t }) answer))
answered t outs last (inl none) some is = absurd (some none)
answered t outs last (inr one) some is =
    let output = outputs.Accepted (record { 0 = t }) one.0 in
    let low : 0 < length outs = subst (λ (xs : List Output). 0 < length xs) (sym one.1) (omega arith) in
    (one.0, one.1, is output low ∙ ap (λ (xs : List Output). Some (get_or xs (length xs - 1) output)) one.1)
