-- The model of a party's keys.
use Rattle.terms.specs.Parties.{party_number}
use Rattle.party_keys.specs.PartyData.{PartyData}
use Rattle.party_keys.specs.declared.party_keys.PartyKeys.TheInside.{Inside}

abbrev pub keys_data : Inside → PartyData
keys_data k =
    record {
      party = party_number k.me;
      faults = k.faults;
      clients = k.clients;
      period = k.period;
      from = k.from.items;
      to = k.to.items;
      publics = k.publics.items;
      seed = k.seed;
    }
