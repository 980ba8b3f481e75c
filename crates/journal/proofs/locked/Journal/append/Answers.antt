use Rattle.std.proofs.Common.{◌≡◌, ◌+◌, ◌≤◌, rules, sym, ◌∙◌, subst, length}
use Rattle.std.specs.Prelude.{reverse}
use Rattle.terms.specs.Parties.{party_number}
use Rattle.protocol.specs.System.Trace.{history_of}
use Rattle.events.specs.Outputs.{after_entries}
use Rattle.journal.specs.Carrying.{IsCarriedFrom}
use Rattle.journal.specs.Histories.{IsEventOf, IsRight}
use Rattle.journal.specs.Parts.{Part}
use Rattle.journal.proofs.Appending.{kept_longer, right_longer, ties_kept, marks_kept, journal_longer, part_longer}
use Rattle.journal.proofs.locked.Journal.append.Goals as goal
use Rattle.journal.proofs.locked.Journal.append.Goals.{in-Ok, in-Err}

pub invariant_of-self : goal.invariant_of-self
invariant_of-self g c =
    let t = c.self.inside.entries.items in
    let h = c.share.inside.history.items in
    let p = party_number c.share.inside.party in
    let es = c.args.entries.items in
    let agrees : history_of p (reverse t) ≡ reverse h = search rules in
    let by : IsCarriedFrom g.N.Naming.config (reverse t) c.args.from es = search rules in
    let room : length (reverse t) + length es ≤ c.self.inside.limit = search rules in
    let event : IsEventOf p es = subst (λ (s : Part). IsEventOf s.party es) (sym c.share.view_is) c.requires.event in
    let right : IsRight g.N.Naming.config p (after_entries es (reverse h)) = subst (λ (s : Part). IsRight g.N.Naming.config s.party (after_entries es s.history)) (sym c.share.view_is) c.requires.right in
    elim c.match-grow_both.branch [
      | in-Ok w ↦ rw w.in-Ok.ensures.trace (
        kept_longer g.N.Naming.config p t h es agrees event c.self.inside.limit c.args.from c.self.invariant.0 c.share.invariant.0 right by room,
        ties_kept g.N.Naming.config p t h es agrees event c.self.inside.tie _ w.in-Ok.front c.self.invariant.1 w.in-Ok.ensures.tied,
      )
      | in-Err w ↦ rw (w.in-Err.ensures.err, w.in-Err.ensures.err_tie) c.self.invariant
    ]

pub invariant_of-share : goal.invariant_of-share
invariant_of-share g c =
    let t = c.self.inside.entries.items in
    let h = c.share.inside.history.items in
    let p = party_number c.share.inside.party in
    let es = c.args.entries.items in
    let agrees : history_of p (reverse t) ≡ reverse h = search rules in
    let event : IsEventOf p es = subst (λ (s : Part). IsEventOf s.party es) (sym c.share.view_is) c.requires.event in
    let right : IsRight g.N.Naming.config p (after_entries es (reverse h)) = subst (λ (s : Part). IsRight g.N.Naming.config s.party (after_entries es s.history)) (sym c.share.view_is) c.requires.right in
    rw c.in-Ok.ensures.history (
      c.share.invariant.0,
      right_longer g.N.Naming.config p h es right,
      marks_kept g.N.Naming.config p t h es agrees event c.self.inside.tie _ c.in-Ok.front c.self.invariant.1 c.in-Ok.ensures.tied,
    )

pub returns-clause-taken : goal.returns-clause-taken
returns-clause-taken g c =
    elim c.match-grow_both.branch [
      | in-Ok w ↦ rw w.result-is (journal_longer c.args.self.now c.self.inside.entries.items _ c.args.entries.items c.self.inside.limit c.self.view_is w.in-Ok.ensures.trace)
      | in-Err w ↦ rw w.result-is tt
    ]

pub returns-clause-kept : goal.returns-clause-kept
returns-clause-kept g c =
    elim c.match-grow_both.branch [
      | in-Ok w ↦ rw w.result-is (w.share-is ∙ part_longer c.args.share.now (party_number c.share.inside.party) c.share.inside.history.items _ c.args.entries.items c.share.view_is w.in-Ok.ensures.history)
      | in-Err w ↦ rw w.result-is tt
    ]
