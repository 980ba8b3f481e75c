use Rattle.std.proofs.Common.{◌≡◌, ◌+◌, ◌*◌, length, ap, sym, ◌∙◌, subst}
use Rattle.std.specs.Prelude.{codes}
use Rattle.std.proofs.lemmas.Bool.{false≢true}
use Rattle.std.proofs.lemmas.Result.{err_from_is_err_and}
use Rattle.terms.specs.Parties.{party_number}
use Rattle.authenticator.specs.Dealing.{peers}
use Rattle.toml.specs.View.{table_view}
use Rattle.party_keys.specs.PartyData.{AreKeys, HasOwnSeed}
use Rattle.party_keys.proofs.KnownKeys.{all_known, known_all}
use Rattle.party_keys.proofs.Once.{same_keys, same_number}
use Rattle.party_keys.proofs.Refusals.{because}
use Rattle.party_keys.proofs.reading.read_table.Goals as goal

pub returns-then-not-has_known_keys : goal.returns-then-not-has_known_keys
returns-then-not-has_known_keys c k says =
    false≢true (sym c.if-not-has_known_keys.true ∙ c.has_known_keys.ensures ∙ known_all c.args.table.now.entries says.known)

pub returns-in_err-seed : goal.returns-in_err-seed
returns-in_err-seed c =
    let p = err_from_is_err_and c.from_residual-in_err-seed.result c.from_residual-in_err-seed.ensures.1 in
    let table = table_view c.args.table.now in
    rw (p.1, p.2) (because c.in_err-seed.field-0.0
    (λ none k says.
    let party : k.party ≡ party_number c.in_ok-me.me = same_number table (codes "party") k.party (party_number c.in_ok-me.me) says.party.party (c.in_ok-me.ensures {u = tt}).0 in
    let publics : k.publics ≡ c.as_slice.result.now =
    same_keys table (codes "public") k.publics c.in_ok-publics.publics.items says.party.publics (c.in_ok-publics.ensures {u = tt}).0 ∙ sym c.as_slice.ensures.value in
    none k.seed says.party.seed (subst (λ ps. HasOwnSeed ps (party_number c.in_ok-me.me) k.seed) publics (subst (λ p. HasOwnSeed k.publics p k.seed) party says.valid.own)))
    (c.in_err-seed.ensures {u = tt}))

pub returns : goal.returns
returns c =
    let me = party_number c.in_ok-me.me in
    let count : c.len-count.result ≡ length (peers c.in_ok-faults.field-0 c.in_ok-clients.field-0 me) =
    c.len-count.ensures ∙ c.in_ok-peers.field-0.ok.0 ∙ ap length (c.in_ok-peers.ensures {u = tt})
    ∙ ap (λ m. length (peers c.in_ok-faults.field-0 c.in_ok-clients.field-0 m)) c.number-4.ensures in
    record {
      known = all_known c.args.table.now.entries (sym c.has_known_keys.ensures ∙ c.if-not-has_known_keys.false);
      party = record {
        party = (c.in_ok-me.ensures {u = tt}).0;
        faults = (c.in_ok-faults.ensures {u = tt}).0;
        clients = (c.in_ok-clients.ensures {u = tt}).0;
        period = (c.in_ok-period.ensures {u = tt}).0;
        from = (c.in_ok-from.ensures {u = tt}).0;
        to = (c.in_ok-to.ensures {u = tt}).0;
        publics = (c.in_ok-publics.ensures {u = tt}).0;
        seed = (c.in_ok-seed.ensures {u = tt}).0;
      };
      valid = record {
        some_faults = (c.in_ok-faults.ensures {u = tt}).1.0;
        most = (c.in_ok-faults.ensures {u = tt}).1.1;
        some_clients = (c.in_ok-clients.ensures {u = tt}).1.0;
        clients = (c.in_ok-clients.ensures {u = tt}).1.1;
        period = (c.in_ok-period.ensures {u = tt}).1.0;
        period_most = (c.in_ok-period.ensures {u = tt}).1.1;
        part = (c.in_ok-me.ensures {u = tt}).1;
        from_are = subst (λ n. AreKeys n c.in_ok-from.from.items) count (c.in_ok-from.ensures {u = tt}).1;
        to_are = subst (λ n. AreKeys n c.in_ok-to.to.items) count (c.in_ok-to.ensures {u = tt}).1;
        publics_are = subst (λ n. AreKeys (3 * n + 1) c.in_ok-publics.publics.items) c.from.ensures (c.in_ok-publics.ensures {u = tt}).1;
        own = subst (λ ps. HasOwnSeed ps me c.in_ok-seed.seed) c.as_slice.ensures.value (c.in_ok-seed.ensures {u = tt}).1;
      };
    }
