-- The outputs of a step as entries, and their records.
use Rattle.std.proofs.Common.{◌≡◌, ℕ, Bool, true, false, List, [], ◌∷◌, ◌++◌, map, Option, None, Some, option_map, refl, ap, subst, ◌∙◌}
use Rattle.wire_format.specs.Lists.{Each}
use Rattle.tuple_codec.specs.Operations.{Outcome}
use Rattle.protocol.specs.System.Configuration.{Configuration}
use Rattle.protocol.specs.System.Trace.{Entry, party_of, is_output, Always, AreOutputs, either}
use Rattle.protocol.specs.Client.RightClient.{Reaction, reaction, IsReaction, MayInput, Reacts}
use Rattle.events.specs.Outputs.{entry_of, after_entries, receivers_in, AreSentAsMeant}
use Rattle.events.specs.declared.output.Output.{Output}
use Rattle.events.specs.declared.output.Output.TheVariants as outputs
use Rattle.records.specs.Records.{frame_record}
use Rattle.party_runs.specs.Interleavings.{IsOutputOf, IsEventOf}
use Rattle.client_process.specs.Clients.{IsPromptLife}
use Rattle.client_process.specs.Serving.{frames_text, accepted_in}
use Rattle.client_process.specs.Texts.{outputs_text, accepted_of}

-- Frames that go as they are meant have the records of their entries.
pub texts_are_one : (c : Configuration) (me : ℕ) (outs : List Output) → AreSentAsMeant c me outs
    → outputs_text outs ≡ frames_text c me (map (entry_of me) outs)
texts_are_one c me [] meant = refl
texts_are_one c me (outputs.Executed number batch ∷ outs) meant = texts_are_one c me outs meant.1
texts_are_one c me (outputs.Installed number root ∷ outs) meant = texts_are_one c me outs meant.1
texts_are_one c me (outputs.Send receivers frame ∷ outs) meant =
    ap (λ l. frame_record l frame ++ outputs_text outs) meant.0
    ∙ ap (λ l. frame_record (receivers_in c me frame) frame ++ l) (texts_are_one c me outs meant.1)
texts_are_one c me (outputs.Accepted timestamp answer ∷ outs) meant = texts_are_one c me outs meant.1

-- The answer among the outputs is that among their entries.
pub answers_are_one : (me : ℕ) (outs : List Output) → accepted_in (map (entry_of me) outs) ≡ accepted_of outs
answers_are_one me [] = refl
answers_are_one me (outputs.Executed number batch ∷ outs) = answers_are_one me outs
answers_are_one me (outputs.Installed number root ∷ outs) = answers_are_one me outs
answers_are_one me (outputs.Send receivers frame ∷ outs) = answers_are_one me outs
answers_are_one me (outputs.Accepted timestamp answer ∷ outs) = refl

-- What was found among the outputs: no answer, or this one.
pub none_accepted : {X : Type 0} (f : X → Outcome) (found : Option X) (outs : List Output) → found ≡ None → option_map f found ≡ accepted_of outs
    → None ≡ accepted_of outs
none_accepted f found outs is said = subst (λ r. option_map f r ≡ accepted_of outs) is said

pub one_accepted : {X : Type 0} (f : X → Outcome) (found : Option X) (x : X) (outs : List Output) → found ≡ Some x → option_map f found ≡ accepted_of outs
    → Some (f x) ≡ accepted_of outs
one_accepted f found x outs is said = subst (λ r. option_map f r ≡ accepted_of outs) is said

is_output_entry : (me : ℕ) (out : Output) → is_output (entry_of me out) ≡ true
is_output_entry me (outputs.Executed number batch) = refl
is_output_entry me (outputs.Installed number root) = refl
is_output_entry me (outputs.Send receivers frame) = refl
is_output_entry me (outputs.Accepted timestamp answer) = refl

are_outputs : (me : ℕ) (outs : List Output) → AreOutputs (map (entry_of me) outs)
are_outputs me [] = tt
are_outputs me (out ∷ outs) = (is_output_entry me out, are_outputs me outs)

-- ---- each entry is the party's own

-- the entries of a prompt client
own : (c : Configuration) (me start : ℕ) (react : List Entry → Reaction) (outs history : List Entry) → Reacts c me start react outs history
    → Always (λ past e. party_of e ≡ me) history
own c me start react outs [] h = tt
own c me start react outs (e ∷ past) h = (h.0, go (is_output e) h.1 (own c me start react (e ∷ outs) past) (own c me start react [] past))
  where
    go : (b : Bool) → either b (Reacts c me start react (e ∷ outs) past) (MayInput start past e × IsReaction c me (react (e ∷ past)) outs × Reacts c me start react [] past)
        → (Reacts c me start react (e ∷ outs) past → Always (λ past e. party_of e ≡ me) past) → (Reacts c me start react [] past → Always (λ past e. party_of e ≡ me) past)
        → Always (λ past e. party_of e ≡ me) past
    go true k within between = within k
    go false k within between = between k.2

-- those that come last, and the one before them
last_own : (me : ℕ) (entries past : List Entry) → Always (λ past e. party_of e ≡ me) (after_entries entries past)
    → Each (λ e. party_of e ≡ me) entries × Always (λ past e. party_of e ≡ me) past
last_own me [] past h = (tt, h)
last_own me (e ∷ entries) past h =
    let rest = last_own me entries (e ∷ past) h in
    ((rest.1.0, rest.0), rest.1.1)

both : (me : ℕ) (entries : List Entry) → Each (λ e. party_of e ≡ me) entries → AreOutputs entries → Each (IsOutputOf me) entries
both me [] a b = tt
both me (e ∷ entries) a b = ((a.0, b.0), both me entries a.1 b.1)

-- An input and its outputs are an event of a prompt client.
pub is_event : (c : Configuration) (me start : ℕ) (input : Entry) (outs : List Output) (history : List Entry) → is_output input ≡ false
    → IsPromptLife c me start (after_entries (map (entry_of me) outs) (input ∷ history)) → IsEventOf me (input ∷ map (entry_of me) outs)
is_event c me start input outs history is right =
    let entries = map (entry_of me) outs in
    let mine = last_own me entries (input ∷ history) (own c me start (reaction c me) [] (after_entries entries (input ∷ history)) right) in
    (mine.1.0, is, both me entries mine.0 (are_outputs me outs))
