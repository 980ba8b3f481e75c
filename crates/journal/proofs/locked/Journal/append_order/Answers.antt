use Rattle.std.proofs.Common.{◌≡◌, ℕ, ◌+◌, ◌≤◌, ◌++◌, rules, sym, subst, length}
use Rattle.std.specs.Prelude.{reverse}
use Rattle.terms.specs.Parties.{party_number}
use Rattle.protocol.specs.System.Trace.{history_of}
use Rattle.events.specs.Outputs.{after_entries}
use Rattle.journal.specs.Carrying.{IsCarriedFrom}
use Rattle.journal.specs.Codes.{part_from}
use Rattle.journal.specs.Comparing.{ordering_of}
use Rattle.journal.specs.Histories.{IsEventOf, IsRight}
use Rattle.journal.specs.Parts.{Part, AgreeInOrdering}
use Rattle.protocol.specs.System.Reads.{without_reads}
use Rattle.journal.specs.Ties.{SeenHasHistory}
use Rattle.journal.proofs.Appending.{kept_longer, right_longer, ties_kept, marks_kept, ordering_kept, journal_longer, part_longer}
use Rattle.journal.proofs.locked.Journal.append_order.Goals as goal
use Rattle.journal.proofs.locked.Journal.append_order.Goals.{in-Ok, in-Err}

pub invariant_of-self : goal.invariant_of-self
invariant_of-self g c =
    let t = c.self.inside.entries.items in
    let h = c.share.inside.history.items in
    let p = party_number c.share.inside.party in
    let es = c.args.entries.items in
    let agrees : history_of p (reverse t) ≡ reverse h = search rules in
    let by : IsCarriedFrom g.N.Naming.config (reverse t) c.args.from es = search rules in
    let room : length (reverse t) + length es ≤ c.self.inside.limit = search rules in
    let alike : AgreeInOrdering c.args.share.now c.args.order.now = search rules in
    let event : IsEventOf p es = subst (λ (s : Part). IsEventOf s.party es) (sym c.share.view_is) c.requires.event in
    let right : IsRight g.N.Naming.config p (after_entries es (reverse h)) = subst (λ (s : Part). IsRight g.N.Naming.config s.party (after_entries es s.history)) (sym c.share.view_is) (c.requires.right alike) in
    elim c.match-grow_three.branch [
      | in-Ok w ↦ rw w.in-Ok.ensures.trace (
        kept_longer g.N.Naming.config p t h es agrees event c.self.inside.limit c.args.from c.self.invariant.0 c.share.invariant.0 right by room,
        ties_kept g.N.Naming.config p t h es agrees event c.self.inside.tie _ w.in-Ok.front c.self.invariant.1 w.in-Ok.ensures.tied,
      )
      | in-Err w ↦ rw (w.in-Err.ensures.err, w.in-Err.ensures.err_tie) c.self.invariant
    ]

pub invariant_of-share : goal.invariant_of-share
invariant_of-share g c =
    let t = c.self.inside.entries.items in
    let h = c.share.inside.history.items in
    let p = party_number c.share.inside.party in
    let es = c.args.entries.items in
    let agrees : history_of p (reverse t) ≡ reverse h = search rules in
    let alike : AgreeInOrdering c.args.share.now c.args.order.now = search rules in
    let event : IsEventOf p es = subst (λ (s : Part). IsEventOf s.party es) (sym c.share.view_is) c.requires.event in
    let right : IsRight g.N.Naming.config p (after_entries es (reverse h)) = subst (λ (s : Part). IsRight g.N.Naming.config s.party (after_entries es s.history)) (sym c.share.view_is) (c.requires.right alike) in
    elim c.match-grow_three.branch [
      | in-Ok w ↦ rw (w.share-inside-is, w.in-Ok.ensures.history) (
        c.share.invariant.0,
        right_longer g.N.Naming.config p h es right,
        marks_kept g.N.Naming.config p t h es agrees event c.self.inside.tie _ w.in-Ok.front c.self.invariant.1 w.in-Ok.ensures.tied,
      )
      | in-Err w ↦ rw (w.share-inside-is, w.in-Err.ensures.err_history) c.share.invariant
    ]

pub invariant_of-order : goal.invariant_of-order
invariant_of-order g c =
    let t = c.self.inside.entries.items in
    let h = c.share.inside.history.items in
    let o = c.order.inside.history.items in
    let p = party_number c.share.inside.party in
    let q = party_number c.order.inside.party in
    let es = c.args.entries.items in
    let agrees : history_of p (reverse t) ≡ reverse h = search rules in
    let both : AgreeInOrdering c.args.share.now c.args.order.now = search rules in
    let alike : AgreeInOrdering (part_from (p, reverse h)) (part_from (q, reverse o)) = subst (λ (s : Part). AgreeInOrdering s (part_from (q, reverse o))) (sym c.share.view_is) (subst (λ (r : Part). AgreeInOrdering c.args.share.now r) (sym c.order.view_is) both) in
    let event : IsEventOf p es = subst (λ (s : Part). IsEventOf s.party es) (sym c.share.view_is) c.requires.event in
    elim c.match-grow_three.branch [
      | in-Ok w ↦ rw (w.order-inside-is, w.again.ensures, w.in-Ok.ensures.ordering) (
        c.order.invariant.0,
        subst (λ (r : ℕ). SeenHasHistory ordering_of w.in-Ok.front r (o ++ without_reads es)) alike.0
            (ordering_kept g.N.Naming.config p t h es agrees event c.self.inside.tie _ w.in-Ok.front o c.self.invariant.1 w.in-Ok.ensures.tied alike.1),
      )
      | in-Err w ↦ rw (w.order-inside-is, w.in-Err.ensures.err_ordering) c.order.invariant
    ]

pub returns-clause-taken : goal.returns-clause-taken
returns-clause-taken g c =
    elim c.match-grow_three.branch [
      | in-Ok w ↦ rw w.result-is (journal_longer c.args.self.now c.self.inside.entries.items _ c.args.entries.items c.self.inside.limit c.self.view_is w.in-Ok.ensures.trace)
      | in-Err w ↦ rw w.result-is tt
    ]

pub returns-clause-kept : goal.returns-clause-kept
returns-clause-kept g c =
    elim c.match-grow_three.branch [
      | in-Ok w ↦ rw (w.result-is, w.share-inside-is) (part_longer c.args.share.now (party_number c.share.inside.party) c.share.inside.history.items _ c.args.entries.items c.share.view_is w.in-Ok.ensures.history)
      | in-Err w ↦ rw w.result-is tt
    ]

pub returns-clause-ordered : goal.returns-clause-ordered
returns-clause-ordered g c =
    elim c.match-grow_three.branch [
      | in-Ok w ↦ rw (w.result-is, w.order-inside-is) (part_longer c.args.order.now (party_number c.order.inside.party) c.order.inside.history.items _ (without_reads c.args.entries.items) c.order.view_is w.in-Ok.ensures.ordering)
      | in-Err w ↦ rw w.result-is tt
    ]
