-- The entries of the journal and the histories of the shares after an append, the oldest first.
use Rattle.std.proofs.Common.{◌≡◌, ℕ, ◌+◌, ◌≤◌, ◌==◌, true, List, [], ◌++◌, length, Option, ap, sym, ◌∙◌, subst, arith, length-append}
use Rattle.std.specs.Prelude.{reverse}
use Rattle.std.proofs.lemmas.List.{length-reverse}
use Rattle.protocol.specs.System.Configuration.{Configuration, is_correct}
use Rattle.protocol.specs.System.Trace.{Entry, party_of, history_of}
use Rattle.protocol.specs.System.Run.{IsRun}
use Rattle.events.specs.Outputs.{after_entries}
use Rattle.journal.specs.Carrying.{Carried, IsCarriedFrom}
use Rattle.journal.specs.Codes.{journaled_from, part_from}
use Rattle.journal.specs.Comparing.{ordering_of, JournalIsKept}
use Rattle.journal.specs.Histories.{IsRight, IsEventOf}
use Rattle.journal.specs.Parts.{Journaled, Part, longer, longer_part}
use Rattle.protocol.specs.System.Reads.{orders, without_reads}
use Rattle.journal.specs.Ties.{Knot, TiesJournal, SeenHasHistory, KeepsTies}
use Rattle.journal.proofs.Turned.{turned_longer, filtered_back}
use Rattle.journal.proofs.Running.{run_empty, run_longer}
use Rattle.journal.proofs.Carriers.{carried_empty, carried_longer}

pub kept_empty : (c : Configuration) (entries : List Entry) (limit : ℕ) → entries ≡ [] → JournalIsKept c entries limit
kept_empty c entries limit none = subst (λ (xs : List Entry). JournalIsKept c xs limit) (sym none) (record {
  run = run_empty c;
  carried = carried_empty c;
  room = omega arith;
})

pub right_longer : (c : Configuration) (p : ℕ) (h es : List Entry) → IsRight c p (after_entries es (reverse h)) → IsRight c p (reverse (h ++ es))
right_longer c p h es right = subst (IsRight c p) (sym (turned_longer h es)) right

-- the values that contracts see of the longer ones
pub journal_longer : (j : Journaled) (t new es : List Entry) (limit : ℕ) → record { trace = reverse t; limit = limit } ≡ j → new ≡ t ++ es → record { trace = reverse new; limit = limit } ≡ longer j es
journal_longer j t new es limit is more =
    ap (λ (xs : List Entry). journaled_from (reverse xs, limit)) more
    ∙ (ap (λ (xs : List Entry). journaled_from (xs, limit)) (turned_longer t es) ∙ ap (λ (x : Journaled). longer x es) is)

pub part_longer : (s : Part) (p : ℕ) (h new es : List Entry) → record { party = p; history = reverse h } ≡ s → new ≡ h ++ es → record { party = p; history = reverse new } ≡ longer_part s es
part_longer s p h new es is more =
    ap (λ (xs : List Entry). part_from (p, reverse xs)) more
    ∙ (ap (λ (xs : List Entry). part_from (p, xs)) (turned_longer h es) ∙ ap (λ (x : Part). longer_part x es) is)

module _ (c : Configuration) (p : ℕ) (t h es : List Entry) (agrees : history_of p (reverse t) ≡ reverse h) (event : IsEventOf p es) where
  plainly : history_of p t ≡ h
  plainly = filtered_back (λ (e : Entry). party_of e == p) t h agrees

  pub kept_longer : (limit : ℕ) (from : Option ℕ) → JournalIsKept c t limit → is_correct c p ≡ true → IsRight c p (after_entries es (reverse h)) → IsCarriedFrom c (reverse t) from es → length (reverse t) + length es ≤ limit
      → JournalIsKept c (t ++ es) limit
  kept_longer limit from kept correct right by room = record {
    run = subst (IsRun c) (sym (turned_longer t es)) (run_longer c p es (reverse t) (reverse h) kept.run agrees correct event right);
    carried = subst (Carried c) (sym (turned_longer t es)) (carried_longer c p es (reverse t) from kept.carried event by);
    room = omega (arith, length-append t es, length-reverse t, room);
  }

  pub ties_kept : (old new : Option Knot) (seen : Option (List (List Entry))) → TiesJournal old t → KeepsTies p es old new seen → TiesJournal new (t ++ es)
  ties_kept old new seen ties keeps = (keeps t event ties).ties

  pub marks_kept : (old new : Option Knot) (seen : Option (List (List Entry))) → TiesJournal old t → KeepsTies p es old new seen → SeenHasHistory history_of seen p (h ++ es)
  marks_kept old new seen ties keeps =
      subst (λ (xs : List Entry). SeenHasHistory history_of seen p (xs ++ es)) plainly (keeps t event ties).history

  pub ordering_kept : (old new : Option Knot) (seen : Option (List (List Entry))) (o : List Entry) → TiesJournal old t → KeepsTies p es old new seen → without_reads (reverse h) ≡ reverse o
      → SeenHasHistory ordering_of seen p (o ++ without_reads es)
  ordering_kept old new seen o ties keeps alike =
      subst (λ (xs : List Entry). SeenHasHistory ordering_of seen p (xs ++ without_reads es)) (ap without_reads plainly ∙ filtered_back orders h o alike) (keeps t event ties).ordering
