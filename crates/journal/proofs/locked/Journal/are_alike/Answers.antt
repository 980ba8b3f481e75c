use Rattle.std.proofs.Common.{◌==◌, subst, sym}
use Rattle.std.specs.Prelude.{reverse}
use Rattle.terms.specs.Parties.{party_number}
use Rattle.protocol.specs.System.Trace.{Entry, party_of}
use Rattle.journal.specs.Parts.{Journaled, Part, JournalAgrees}
use Rattle.journal.proofs.Turned.{filtered_back}
use Rattle.journal.proofs.locked.Journal.are_alike.Goals as goal

pub are_alike-requires-clause-tied : goal.are_alike-requires-clause-tied
are_alike-requires-clause-tied g c =
    let p = party_number c.share.inside.party in
    let t = c.self.inside.entries.items in
    let h = c.share.inside.history.items in
    let whole = subst (λ (s : Part). JournalAgrees (record { trace = reverse t; limit = c.self.inside.limit }) s) (sym c.share.view_is) (subst (λ (j : Journaled). JournalAgrees j c.args.share.now) (sym c.self.view_is) c.requires) in
    rw c.as_slice.ensures.value (t, c.self.invariant.1, filtered_back (λ (e : Entry). party_of e == p) t h whole)
