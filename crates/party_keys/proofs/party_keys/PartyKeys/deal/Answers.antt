use Rattle.std.proofs.Common.{◌≡◌, length, refl, ap, sym, ◌∙◌, subst}
use Rattle.std.specs.Prelude.{All, IfSome}
use Rattle.terms.specs.Parties.{party_number}
use Rattle.party_keys.specs.Dealing.{keys_of}
use Rattle.party_keys.specs.PartyData.{IsKey, IsPartyData, PartyData}
use Rattle.party_keys.proofs.DealtKeys.{dealt_publics, dealt_same, dealt_valid, from_row, to_row}
use Rattle.party_keys.proofs.Once.{parts_same}
use Rattle.party_keys.proofs.party_keys.PartyKeys.deal.Goals as goal

pub public_keys-requires : goal.public_keys-requires
public_keys-requires c =
    ap length c.requires.publics ∙ dealt_publics c.args.config.now c.faults.ensures.valid ∙ sym c.replicas.ensures.value

pub invariant_of-result : goal.invariant_of-result
invariant_of-result c =
    let config = c.args.config.now in
    let me = party_number c.args.me in
    let rows = c.in_ok-row.ensures {u = tt} ∙ dealt_same c.seed.result.now config.seed c.faults.result config.faults c.clients.result config.clients me c.seed.ensures.value c.faults.ensures.value c.clients.ensures.value in
    let from = from_row config me c.number.result c.as_slice.result.now c.in_ok-from.from.items (c.in_ok-from.ensures {u = tt}) c.number.ensures (c.as_slice.ensures.value ∙ rows) in
    let to = to_row config me c.number-2.result c.as_slice-2.result.now c.in_ok-to.to.items (c.in_ok-to.ensures {u = tt}) c.number-2.ensures (c.as_slice-2.ensures.value ∙ rows) in
    let publics = c.in_ok-publics.ensures {u = tt} ∙ c.requires.publics in
    let have : PartyData = record {
      party = me;
      faults = c.faults-2.result;
      clients = c.clients-2.result;
      period = c.period.result;
      from = c.in_ok-from.from.items;
      to = c.in_ok-to.to.items;
      publics = c.in_ok-publics.publics.items;
      seed = c.seed_of-seed.result;
    } in
    let same = parts_same have (keys_of config me) refl c.faults-2.ensures.value c.clients-2.ensures.value c.period.ensures.value from to publics c.seed_of-seed.ensures in
    subst IsPartyData (sym same)
    (dealt_valid config me c.faults.ensures.valid c.requires.part
    (subst (All IsKey) (c.as_slice-3.ensures.value ∙ from) c.note_keys.ensures)
    (subst (All IsKey) (c.as_slice-4.ensures.value ∙ to) c.note_keys-2.ensures)
    (subst (All IsKey) (c.as_slice-5.ensures.value ∙ publics) c.note_keys-3.ensures)
    (subst (λ s. IfSome s IsKey) c.seed_of-seed.ensures c.note_seed.ensures))

pub returns : goal.returns
returns c =
    let config = c.args.config.now in
    let me = party_number c.args.me in
    let rows = c.in_ok-row.ensures {u = tt} ∙ dealt_same c.seed.result.now config.seed c.faults.result config.faults c.clients.result config.clients me c.seed.ensures.value c.faults.ensures.value c.clients.ensures.value in
    let from = from_row config me c.number.result c.as_slice.result.now c.in_ok-from.from.items (c.in_ok-from.ensures {u = tt}) c.number.ensures (c.as_slice.ensures.value ∙ rows) in
    let to = to_row config me c.number-2.result c.as_slice-2.result.now c.in_ok-to.to.items (c.in_ok-to.ensures {u = tt}) c.number-2.ensures (c.as_slice-2.ensures.value ∙ rows) in
    let publics = c.in_ok-publics.ensures {u = tt} ∙ c.requires.publics in
    let have : PartyData = record {
      party = me;
      faults = c.faults-2.result;
      clients = c.clients-2.result;
      period = c.period.result;
      from = c.in_ok-from.from.items;
      to = c.in_ok-to.to.items;
      publics = c.in_ok-publics.publics.items;
      seed = c.seed_of-seed.result;
    } in
    parts_same have (keys_of config me) refl c.faults-2.ensures.value c.clients-2.ensures.value c.period.ensures.value from to publics c.seed_of-seed.ensures
