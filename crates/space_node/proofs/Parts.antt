-- Parts of a replica after an event.
use Rattle.std.proofs.Common.{◌≡◌, ◌<◌, ℕ, false, List, [], ◌∷◌, map, Option, Some, None, refl, sym, ap, ◌∙◌, subst}
use Rattle.std.specs.Prelude.{is_none, Result, Ok, Err}
use Rattle.protocol.specs.System.Configuration.{Configuration}
use Rattle.protocol.specs.System.Reads.{without_reads}
use Rattle.protocol.specs.System.Trace.{Entry}
use Rattle.protocol.specs.System.Trace.Entry.{Got}
use Rattle.protocol.specs.Replica.Owed.{IsPromptReplica}
use Rattle.protocol.specs.Replica.RightReplica.{first_point}
use Rattle.events.specs.Outputs.{after_entries, entry_of, after_event}
use Rattle.events.specs.declared.output.Output.{Output}
use Rattle.journal.specs.Parts.{Part, AgreeInOrdering, fresh, longer_part}
use Rattle.replica.specs.Parted.{DeskStops, FitBoth, DeskFitsHistory, OrdererFitsHistory, ReadLeads}
use Rattle.replica.specs.State.{DeskPart, OrdererPart}
use Rattle.desk.specs.State.{DeskData}
use Rattle.replica.proofs.Prompt.{desks_are_prompt}
use Rattle.space_node.specs.declared.input.Input.{Input}
use Rattle.space_node.specs.PartyStates.{InputLeads, DeskFitsShare, input_of}
use Rattle.space_node.proofs.Events.{ordering_behind}

-- ---- an event of ordering, of entries that stand for it

module _ (c : Configuration) (o later_o : OrdererPart) (d later_d : DeskPart) (share order : Part) (input : Input) (outs : List Output) (es : List Entry)
    (leads : InputLeads o d input outs later_o later_d) (states : DeskFitsShare c d share) (fits : OrdererFitsHistory c order.party o order.history)
    (are : es ≡ input_of share.party input ∷ map (entry_of share.party) outs) (alike : AgreeInOrdering share order) where
  both : FitBoth c share.party later_o later_d (after_event share.party (input_of share.party input) outs share.history)
  both = leads c share.party share.history (
    states.fits,
    subst (OrdererFitsHistory c share.party o) (sym alike.1) (subst (λ (p : ℕ). OrdererFitsHistory c p o order.history) (sym alike.0) fits),
  )

  after : after_entries es share.history ≡ after_event share.party (input_of share.party input) outs share.history
  after = ap (λ (xs : List Entry). after_entries xs share.history) are

  pub desk_after : is_none later_d.holds ≡ false → DeskFitsShare c later_d (longer_part share es)
  desk_after on = record {
    replica = states.replica;
    fits = subst (DeskFitsHistory c share.party later_d) (sym after) both.0;
    prompt = desks_are_prompt c share.party later_d (after_entries es share.history) (subst (DeskFitsHistory c share.party later_d) (sym after) both.0) on;
  }

  pub orderer_after : OrdererFitsHistory c order.party later_o (after_entries (without_reads es) order.history)
  orderer_after =
      subst (λ (p : ℕ). OrdererFitsHistory c p later_o (after_entries (without_reads es) order.history)) alike.0
      (subst (λ (h : List Entry). OrdererFitsHistory c share.party later_o (after_entries (without_reads es) h)) alike.1
      (subst (OrdererFitsHistory c share.party later_o) (ordering_behind es share.history)
      (subst (λ (h : List Entry). OrdererFitsHistory c share.party later_o (without_reads h)) (sym after) both.1)))

-- ---- a read

module _ (c : Configuration) (d later : DeskPart) (share : Part) (bytes : List ℕ) (outs : List Output) (es : List Entry) (leads : ReadLeads d bytes outs later) (states : DeskFitsShare c d share)
    (are : es ≡ Got share.party bytes ∷ map (entry_of share.party) outs) where
  read_fits : DeskFitsHistory c share.party later (after_entries es share.history)
  read_fits = subst (λ (xs : List Entry). DeskFitsHistory c share.party later (after_entries xs share.history)) (sym are) (leads c share.party share.history states.fits).0

  pub desk_after_read : is_none later.holds ≡ false → DeskFitsShare c later (longer_part share es)
  desk_after_read on = record {
    replica = states.replica;
    fits = read_fits;
    prompt = desks_are_prompt c share.party later (after_entries es share.history) read_fits on;
  }

-- ---- a desk that was stopped

-- a part whose answer is no refusal did not stop
pub runs_on : {A E : Type 0} (d : DeskPart) (result : Result A E) (stop : E) (x : A) → (d.holds ≡ None → result ≡ Err stop) → result ≡ Ok x → is_none d.holds ≡ false
runs_on d result stop x before is = go d.holds refl
  where
    go : (o : Option DeskData) → d.holds ≡ o → is_none o ≡ false
    go None none = let bad : Ok x ≡ Err stop = sym is ∙ before none in absurd cc
    go (Some y) some = refl

-- a replica that has done nothing is prompt
pub fresh_prompt : (c : Configuration) (p : ℕ) → IsPromptReplica c p []
fresh_prompt c p = (first_point, (refl, refl))

-- so is the history that a stopped desk is left with
pub desk_left : (c : Configuration) (d stopped : DeskPart) (share left : Part) → DeskFitsShare c d share → DeskStops d stopped → left ≡ fresh share.party → DeskFitsShare c stopped left
desk_left c d stopped share left states stops is =
    let state : DeskFitsShare c stopped (fresh share.party) = record {
      replica = states.replica;
      fits = stops c share.party share.history [] states.fits tt;
      prompt = fresh_prompt c share.party;
    } in
    subst (DeskFitsShare c stopped) (sym is) state

-- and that of a new one
pub new_desk : (c : Configuration) (d : DeskPart) (share : Part) → share.party < 256 → DeskFitsHistory c share.party d share.history → share.history ≡ [] → DeskFitsShare c d share
new_desk c d share replica fits new = record {
  replica = replica;
  fits = fits;
  prompt = subst (IsPromptReplica c share.party) (sym new) (fresh_prompt c share.party);
}
