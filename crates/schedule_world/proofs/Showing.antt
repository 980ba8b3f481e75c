-- Trace, frames and acceptances after an entry.
use Rattle.std.proofs.Common.{◌≡◌, ℕ, List, [], ◌∷◌, ◌++◌, map, length, reverse, refl, sym, ap, ◌∙◌, subst}
use Rattle.std.specs.Prelude.{filter}
use Rattle.std.proofs.lemmas.List.{reverse-append, length-reverse, map-append}
use Rattle.tuple_codec.specs.Operations.{Outcome}
use Rattle.protocol.specs.System.Configuration.{Configuration, is_correct}
use Rattle.protocol.specs.System.Trace.{Entry}
use Rattle.protocol.specs.System.Trace.Entry.{Sent, Accepted}
use Rattle.protocol.specs.System.Schedule as schedules
use Rattle.protocol.specs.System.Schedule.{World, with_entry, made_by, acceptances}
use Rattle.events.specs.declared.output.Output.{Output}
use Rattle.events.specs.Outputs.{entry_of, receivers_in, AreSentAsMeant, IsSentAsMeant}
use Rattle.schedule_world.specs.declared.report.Acceptance.{Acceptance}
use Rattle.schedule_world.specs.declared.stage.Stage.{Stage}
use Rattle.schedule_world.specs.Pooled.{Frame, added}
use Rattle.schedule_world.specs.Pooling.{IsPool}
use Rattle.schedule_world.specs.Stages.{StageShowsWorld, acceptance_of, with_entries}
use Rattle.schedule_world.specs.Moving.{StageAddsEntry, AddsAll, AddsIfMeant, AddsAllIfMeant, AreOf, IsOutputOf, IsPlainEntry, KeepsRecords}
use Rattle.schedule_world.proofs.Pools.{pool_kept, pool_sent}

-- one more at the end
reverse_more : {X : Type 0} (xs : List X) (x : X) → reverse (xs ++ x ∷ []) ≡ x ∷ reverse xs
reverse_more xs x = reverse-append xs (x ∷ [])

-- one more in front
reverse_first : {X : Type 0} (xs : List X) (x : X) → reverse (x ∷ xs) ≡ reverse xs ++ x ∷ []
reverse_first xs x = reverse-append (x ∷ []) xs

plain_makes : (c : Configuration) (e : Entry) → IsPlainEntry e → made_by c e ≡ []
plain_makes c (Sent p bytes) h = absurd h
plain_makes c (Accepted k t a) h = absurd h
plain_makes c _ h = refl

plain_accepts : (e : Entry) (past : List Entry) → IsPlainEntry e → acceptances (e ∷ past) ≡ acceptances past
plain_accepts (Sent p bytes) past h = absurd h
plain_accepts (Accepted k t a) past h = absurd h
plain_accepts _ past h = refl

past_more : (c : Configuration) (w : World) (old new : Stage) (e : Entry) → StageShowsWorld c w old → new.trace.items ≡ old.trace.items ++ e ∷ [] → reverse new.trace.items ≡ e ∷ w.past
past_more c w old new e shows trace = ap reverse trace ∙ reverse_more old.trace.items e ∙ ap (λ (xs : List Entry). e ∷ xs) shows.past

pub adds_plain : (c : Configuration) (e : Entry) (old new : Stage) → IsPlainEntry e → new.trace.items ≡ old.trace.items ++ e ∷ [] → new.pool ≡ old.pool → new.accepted.items ≡ old.accepted.items → StageAddsEntry c e old new
adds_plain c e old new plain trace pool accepted w shows = record {
  past = past_more c w old new e shows trace;
  frames = pool_kept c w new.pool e (plain_makes c e plain) (subst (λ (p : List Frame). IsPool c w p) (sym pool) shows.frames);
  accepted = ap (map acceptance_of) accepted ∙ shows.accepted ∙ ap reverse (sym (plain_accepts e w.past plain));
}

pub adds_sent : (c : Configuration) (p : ℕ) (bytes waiting : List ℕ) (old new : Stage) → waiting ≡ filter (is_correct c) (receivers_in c p bytes)
    → new.trace.items ≡ old.trace.items ++ Sent p bytes ∷ [] → new.pool ≡ added old.pool bytes waiting → new.accepted.items ≡ old.accepted.items → StageAddsEntry c (Sent p bytes) old new
adds_sent c p bytes waiting old new right trace pool accepted w shows = record {
  past = past_more c w old new (Sent p bytes) shows trace;
  frames = subst (IsPool c (with_entry c w (Sent p bytes))) (ap (added old.pool bytes) (sym right) ∙ sym pool) (pool_sent c w old.pool p bytes shows.frames);
  accepted = ap (map acceptance_of) accepted ∙ shows.accepted;
}

abbrev of : ℕ → ℕ → ℕ → Outcome → schedules.Acceptance
of i j u b = record { position = i; client = j; timestamp = u; answer = b }

pub adds_accepted : (c : Configuration) (k t : ℕ) (a : Outcome) (x : Acceptance) (old new : Stage) → x.position ≡ length old.trace.items → x.client.number ≡ k → x.timestamp.0 ≡ t → (acceptance_of x).answer ≡ a
    → new.trace.items ≡ old.trace.items ++ Accepted k t a ∷ [] → new.pool ≡ old.pool → new.accepted.items ≡ old.accepted.items ++ x ∷ [] → StageAddsEntry c (Accepted k t a) old new
adds_accepted c k t a x old new position client timestamp answer trace pool accepted w shows = record {
  past = past_more c w old new (Accepted k t a) shows trace;
  frames = pool_kept c w new.pool (Accepted k t a) refl (subst (IsPool c w) (sym pool) shows.frames);
  accepted = ap (map acceptance_of) accepted ∙ map-append acceptance_of old.accepted.items (x ∷ []) ∙ ap (λ (xs : List schedules.Acceptance). xs ++ acceptance_of x ∷ []) shows.accepted
      ∙ ap (λ (y : schedules.Acceptance). reverse (acceptances w.past) ++ y ∷ []) same ∙ sym (reverse_first (acceptances w.past) (of (length w.past) k t a));
}
  where
    long : x.position ≡ length w.past
    long = position ∙ sym (length-reverse old.trace.items) ∙ ap length shows.past

    same : acceptance_of x ≡ of (length w.past) k t a
    same = ap (λ i. of i x.client.number x.timestamp.0 (acceptance_of x).answer) long ∙ ap (λ j. of (length w.past) j x.timestamp.0 (acceptance_of x).answer) client
        ∙ ap (λ u. of (length w.past) k u (acceptance_of x).answer) timestamp ∙ ap (of (length w.past) k t) answer

-- ---- all outputs of a party

pub entries_more : (c : Configuration) (me : ℕ) (w : World) (outs : List Output) (output : Output)
    → with_entries c w (map (entry_of me) (outs ++ output ∷ [])) ≡ with_entry c (with_entries c w (map (entry_of me) outs)) (entry_of me output)
entries_more c me w [] output = refl
entries_more c me w (o ∷ outs) output = entries_more c me (with_entry c w (entry_of me o)) outs output

pub adds_more : (c : Configuration) (me : ℕ) (outs : List Output) (output : Output) (old mid new : Stage) → AddsAll c (map (entry_of me) outs) old mid → StageAddsEntry c (entry_of me output) mid new
    → AddsAll c (map (entry_of me) (outs ++ output ∷ [])) old new
adds_more c me outs output old mid new before adds w shows =
    subst (λ v. StageShowsWorld c v new) (sym (entries_more c me w outs output)) (adds (with_entries c w (map (entry_of me) outs)) (before w shows))

-- the frames of the outputs, and that of one more
parted : (c : Configuration) (me : ℕ) (outs : List Output) (output : Output) → AreSentAsMeant c me (outs ++ output ∷ []) → AreSentAsMeant c me outs × IsSentAsMeant c me output
parted c me [] output h = (tt, h.0)
parted c me (o ∷ outs) output h = let rest = parted c me outs output h.1 in ((h.0, rest.0), rest.1)

pub adds_more_meant : (c : Configuration) (me : ℕ) (outs : List Output) (output : Output) (old mid new : Stage) → AddsAllIfMeant c me outs old mid
    → AddsIfMeant c me output mid new → AddsAllIfMeant c me (outs ++ output ∷ []) old new
adds_more_meant c me outs output old mid new before adds meant =
    let parts = parted c me outs output meant in
    adds_more c me outs output old mid new (before parts.0) (adds parts.1)

pub own_more : (me : ℕ) (outs : List Output) (output : Output) → AreOf me (map (entry_of me) outs) → IsOutputOf me (entry_of me output) → AreOf me (map (entry_of me) (outs ++ output ∷ []))
own_more me [] output all own = (own, tt)
own_more me (o ∷ outs) output all own = (all.0, own_more me outs output all.1 own)

pub shows_same : (c : Configuration) (w : World) (old new : Stage) → KeepsRecords old new → StageShowsWorld c w old → StageShowsWorld c w new
shows_same c w old new kept shows = record {
  past = ap (λ (v : _). reverse v.items) kept.trace ∙ shows.past;
  frames = subst (IsPool c w) (sym kept.pool) shows.frames;
  accepted = ap (λ (v : _). map acceptance_of v.items) kept.accepted ∙ shows.accepted;
}
