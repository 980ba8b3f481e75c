use Rattle.std.proofs.Common.{◌∙◌, ap, subst, sym}
use Rattle.std.specs.Prelude.{[], IfOk}
use Rattle.authenticator.specs.Keys.{row}
use Rattle.party_keys.specs.Dealing.{IsRingOf}
use Rattle.party_keys.specs.KeysView.{keys_data}
use Rattle.party_keys.specs.PartyData.{row_of}
use Rattle.party_keys.proofs.Appending.{if_ok}
use Rattle.party_keys.proofs.DealtKeys.{is_ring}
use Rattle.party_keys.proofs.party_keys.PartyKeys.ring.Goals as goal

pub returns-clause-members : goal.returns-clause-members
returns-clause-members c =
    let me = keys_data c.self.inside in
    let rows = c.in_ok-row.ensures {u = tt} ∙ ap row_of (sym c.self.view_is) in
    subst (λ k. IfOk c.of_party.result (IsRingOf k)) c.self.view_is
    (if_ok c.of_party.result
    (λ ring e. subst (IsRingOf me) (sym (e ∙ ap (λ keys. record { faults = me.faults; clients = me.clients; keys = row keys; publics = [] }) rows)) (is_ring me))
    c.of_party.ensures)
