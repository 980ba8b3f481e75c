-- The outputs of a step as entries, and their records.
use Rattle.std.proofs.Common.{◌≡◌, ℕ, true, false, List, [], ◌∷◌, ◌++◌, map, refl, ap, ◌∙◌, inl}
use Rattle.wire_format.specs.Lists.{Each}
use Rattle.protocol.specs.System.Configuration.{Configuration}
use Rattle.protocol.specs.System.Trace.{Entry, party_of, is_output, Always, AreOutputs}
use Rattle.protocol.specs.Replica.Owed.{IsPromptReplica}
use Rattle.protocol.proofs.Words.Reacting.{replicas_have_own}
use Rattle.events.specs.Outputs.{entry_of, after_entries, receivers_in, AreSentAsMeant}
use Rattle.events.specs.declared.output.Output.{Output}
use Rattle.events.specs.declared.output.Output.TheVariants as outputs
use Rattle.records.specs.Records.{frame_record}
use Rattle.party_runs.specs.Interleavings.{IsOutputOf, IsEventOf}
use Rattle.replica_process.specs.Serving.{frames_text}
use Rattle.replica_process.specs.Texts.{outputs_text}

-- Frames that go as they are meant have the records of their entries.
pub texts_are_one : (c : Configuration) (me : ℕ) (outs : List Output) → AreSentAsMeant c me outs
    → outputs_text outs ≡ frames_text c me (map (entry_of me) outs)
texts_are_one c me [] meant = refl
texts_are_one c me (outputs.Executed number batch ∷ outs) meant = texts_are_one c me outs meant.1
texts_are_one c me (outputs.Installed number root ∷ outs) meant = texts_are_one c me outs meant.1
texts_are_one c me (outputs.Send receivers frame ∷ outs) meant =
    ap (λ l. frame_record l frame ++ outputs_text outs) meant.0
    ∙ ap (λ l. frame_record (receivers_in c me frame) frame ++ l) (texts_are_one c me outs meant.1)
texts_are_one c me (outputs.Accepted timestamp answer ∷ outs) meant = texts_are_one c me outs meant.1

is_output_entry : (me : ℕ) (out : Output) → is_output (entry_of me out) ≡ true
is_output_entry me (outputs.Executed number batch) = refl
is_output_entry me (outputs.Installed number root) = refl
is_output_entry me (outputs.Send receivers frame) = refl
is_output_entry me (outputs.Accepted timestamp answer) = refl

pub are_outputs : (me : ℕ) (outs : List Output) → AreOutputs (map (entry_of me) outs)
are_outputs me [] = tt
are_outputs me (out ∷ outs) = (is_output_entry me out, are_outputs me outs)

-- ---- each entry is the party's own

-- a prompt replica's entries
own : (c : Configuration) (me : ℕ) (history : List Entry) → IsPromptReplica c me history → Always (λ past e. party_of e ≡ me) history
own c me [] right = tt
own c me (e ∷ past) right = replicas_have_own c me (e ∷ past) (inl right)

-- those that come last
last_own : (me : ℕ) (entries past : List Entry) → Always (λ past e. party_of e ≡ me) (after_entries entries past)
    → Each (λ e. party_of e ≡ me) entries × Always (λ past e. party_of e ≡ me) past
last_own me [] past h = (tt, h)
last_own me (e ∷ entries) past h =
    let rest = last_own me entries (e ∷ past) h in
    ((rest.1.0, rest.0), rest.1.1)

both : (me : ℕ) (entries : List Entry) → Each (λ e. party_of e ≡ me) entries → AreOutputs entries → Each (IsOutputOf me) entries
both me [] a b = tt
both me (e ∷ entries) a b = ((a.0, b.0), both me entries a.1 b.1)

-- An input and its outputs are an event of a prompt replica.
pub is_event : (c : Configuration) (me : ℕ) (input : Entry) (entries history : List Entry) → party_of input ≡ me
    → is_output input ≡ false → AreOutputs entries → IsPromptReplica c me (after_entries entries (input ∷ history))
    → IsEventOf me (input ∷ entries)
is_event c me input entries history mine is outs right =
    (mine, is, both me entries (last_own me entries (input ∷ history) (own c me (after_entries entries (input ∷ history)) right)).0 outs)
