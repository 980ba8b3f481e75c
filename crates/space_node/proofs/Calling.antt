-- How a client's history grows in a call.
use Rattle.std.proofs.Common.{◌≡◌, ℕ, suc, ◌-◌, false, List, [], ◌∷◌, ◌++◌, map, refl, sym, ap, ◌∙◌, append_assoc}
use Rattle.tuple_codec.specs.Operations.{Operation, Outcome}
use Rattle.wire_format.specs.Lists.{Each}
use Rattle.protocol.specs.System.Trace.{Entry}
use Rattle.protocol.specs.System.Trace.Entry.{Invoke, Accepted}
use Rattle.protocol.specs.Client.RightClient.{last_call}
use Rattle.protocol.proofs.Words.Elements.{each_append}
use Rattle.events.specs.Outputs.{after_entries, entry_of}
use Rattle.events.specs.declared.output.Output.{Output}
use Rattle.events.specs.declared.output.Output.TheVariants as outputs
use Rattle.space_node.specs.Calls.{AcceptNothing, AcceptsSome, CallBegins, Called, CallEnds, CallGoesOn, IsQuiet, IsUnanswered, Refused}
use Rattle.space_node.specs.PartyStates.{PartyState}

-- ---- quiet entries

each_behind : (P : Entry → Type 0) (es past : List Entry) → Each P es → Each P past → Each P (after_entries es past)
each_behind P [] past h k = k
each_behind P (e ∷ es) past h k = each_behind P es (e ∷ past) h.1 (h.0, k)

behind_append : (es xs past : List Entry) → after_entries es (xs ++ past) ≡ after_entries es xs ++ past
behind_append [] xs past = refl
behind_append (e ∷ es) xs past = behind_append es (e ∷ xs) past

quiet_output : (p : ℕ) (output : Output) → ¬ AcceptsSome output → IsQuiet (entry_of p output)
quiet_output p (outputs.Accepted timestamp answer) none = absurd (none tt)
quiet_output p _ none = tt

quiet_outputs : (p : ℕ) (outs : List Output) → AcceptNothing outs → Each IsQuiet (map (entry_of p) outs)
quiet_outputs p [] none = tt
quiet_outputs p (output ∷ outs) none = (quiet_output p output none.0, quiet_outputs p outs none.1)

pub last_quiet : (more past : List Entry) → Each IsQuiet more → last_call (more ++ past) ≡ last_call past
last_quiet [] past quiet = refl
last_quiet (Invoke client timestamp op ∷ more) past quiet = absurd quiet.0
last_quiet (Accepted client timestamp answer ∷ more) past quiet = absurd quiet.0
last_quiet (_ ∷ more) past quiet = last_quiet more past quiet.1

unanswered : (more : List Entry) → Each IsQuiet more → Each IsUnanswered more
unanswered [] quiet = tt
unanswered (Invoke client timestamp op ∷ more) quiet = absurd quiet.0
unanswered (Accepted client timestamp answer ∷ more) quiet = absurd quiet.0
unanswered (_ ∷ more) quiet = (tt, unanswered more quiet.1)

-- ---- how a call begins, goes on and ends

pub begins : (old new : PartyState) (k timestamp : ℕ) (op : Operation) (outs : List Output) (es : List Entry)
    → k ≡ old.party - 256 → timestamp ≡ suc (last_call old.history) → es ≡ Invoke k timestamp op ∷ map (entry_of old.party) outs → AcceptNothing outs
    → new ≡ record { party = old.party; history = after_entries es old.history; stopped = false } → CallBegins old op new
begins old new k timestamp op outs es who when are none is =
    let invoke : Invoke k timestamp op ≡ Invoke (old.party - 256) (suc (last_call old.history)) op =
    ap (λ (j : ℕ). Invoke j timestamp op) who ∙ ap (λ (t : ℕ). Invoke (old.party - 256) t op) when in
    record {
      more = after_entries (map (entry_of old.party) outs) [];
      quiet = each_behind IsQuiet (map (entry_of old.party) outs) [] (quiet_outputs old.party outs none) tt;
      history = ap (λ (s : PartyState). s.history) is ∙ (ap (λ (xs : List Entry). after_entries xs old.history) are
          ∙ (behind_append (map (entry_of old.party) outs) [] (Invoke k timestamp op ∷ old.history)
          ∙ ap (λ (e : Entry). after_entries (map (entry_of old.party) outs) [] ++ e ∷ old.history) invoke));
      party = ap (λ (s : PartyState). s.party) is;
      running = ap (λ (s : PartyState). s.stopped) is;
    }

pub goes_on : (old new : PartyState) (input : Entry) (outs : List Output) (es : List Entry) → IsQuiet input → es ≡ input ∷ map (entry_of old.party) outs → AcceptNothing outs
    → new ≡ record { party = old.party; history = after_entries es old.history; stopped = false } → CallGoesOn old new
goes_on old new input outs es quiet are none is = record {
  more = after_entries (map (entry_of old.party) outs) (input ∷ []);
  quiet = each_behind IsQuiet (map (entry_of old.party) outs) (input ∷ []) (quiet_outputs old.party outs none) (quiet, tt);
  history = ap (λ (s : PartyState). s.history) is ∙ (ap (λ (xs : List Entry). after_entries xs old.history) are
      ∙ behind_append (map (entry_of old.party) outs) (input ∷ []) old.history);
  party = ap (λ (s : PartyState). s.party) is;
  running = ap (λ (s : PartyState). s.stopped) is;
}

pub ends : (old new : PartyState) (input : Entry) (timestamp : ℕ) (answer : Outcome) (es : List Entry) → IsQuiet input → timestamp ≡ last_call old.history
    → es ≡ input ∷ Accepted (old.party - 256) timestamp answer ∷ []
    → new ≡ record { party = old.party; history = after_entries es old.history; stopped = false } → CallEnds old answer new
ends old new input timestamp answer es quiet when are is = record {
  more = input ∷ [];
  quiet = (quiet, tt);
  history = ap (λ (s : PartyState). s.history) is ∙ (ap (λ (xs : List Entry). after_entries xs old.history) are
      ∙ ap (λ (t : ℕ). Accepted (old.party - 256) t answer ∷ input ∷ old.history) when);
  party = ap (λ (s : PartyState). s.party) is;
  running = ap (λ (s : PartyState). s.stopped) is;
}

pub ends_later : (a b c : PartyState) (answer : Outcome) → CallGoesOn a b → CallEnds b answer c → CallEnds a answer c
ends_later a b c answer first next = record {
  more = next.more ++ first.more;
  quiet = each_append IsQuiet next.more first.more next.quiet first.quiet;
  history = next.history ∙ (ap (λ (p : ℕ). Accepted (p - 256) (last_call b.history) answer ∷ (next.more ++ b.history)) first.party
      ∙ (ap (λ (t : ℕ). Accepted (a.party - 256) t answer ∷ (next.more ++ b.history)) (ap last_call first.history ∙ last_quiet first.more a.history first.quiet)
      ∙ ap (λ (h : List Entry). Accepted (a.party - 256) (last_call a.history) answer ∷ h)
      (ap (λ (h : List Entry). next.more ++ h) first.history ∙ sym (append_assoc next.more first.more a.history))));
  party = next.party ∙ first.party;
  running = next.running;
}

pub called : (a b c : PartyState) (op : Operation) (answer : Outcome) → CallBegins a op b → CallEnds b answer c → Called a op answer c
called a b c op answer first next =
    let invoke = Invoke (a.party - 256) (suc (last_call a.history)) op in
    record {
      between = next.more ++ first.more;
      quiet = each_append IsQuiet next.more first.more next.quiet first.quiet;
      history = next.history ∙ (ap (λ (p : ℕ). Accepted (p - 256) (last_call b.history) answer ∷ (next.more ++ b.history)) first.party
          ∙ (ap (λ (t : ℕ). Accepted (a.party - 256) t answer ∷ (next.more ++ b.history))
          (ap last_call first.history ∙ last_quiet first.more (invoke ∷ a.history) first.quiet)
          ∙ ap (λ (h : List Entry). Accepted (a.party - 256) (suc (last_call a.history)) answer ∷ h)
          (ap (λ (h : List Entry). next.more ++ h) first.history ∙ sym (append_assoc next.more first.more (invoke ∷ a.history)))));
      party = next.party ∙ first.party;
      running = next.running;
    }

-- ---- how it is refused

pub refused_call : (a b c : PartyState) (op : Operation) → CallBegins a op b → Refused b c → Refused a c
refused_call a b c op first next =
    let invoke = Invoke (a.party - 256) (suc (last_call a.history)) op in
    record {
      more = next.more ++ (first.more ++ invoke ∷ []);
      unanswered = each_append IsUnanswered next.more (first.more ++ invoke ∷ []) next.unanswered
          (each_append IsUnanswered first.more (invoke ∷ []) (unanswered first.more first.quiet) (tt, tt));
      history = next.history ∙ (ap (λ (h : List Entry). next.more ++ h) (first.history ∙ sym (append_assoc first.more (invoke ∷ []) a.history))
          ∙ sym (append_assoc next.more (first.more ++ invoke ∷ []) a.history));
      party = next.party ∙ first.party;
      stopped = next.stopped;
    }
