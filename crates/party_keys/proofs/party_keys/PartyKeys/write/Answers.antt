use Rattle.std.proofs.Common.{◌≡◌, ◌++◌, subst}
use Rattle.std.specs.Prelude.{OnOk, codes}
use Rattle.party_keys.specs.Text.{file_text, keys_lines, number_line, seed_line}
use Rattle.party_keys.proofs.Appending.{all_put, on_ok}
use Rattle.party_keys.proofs.party_keys.PartyKeys.write.Goals as goal

pub returns : goal.returns
returns c =
    let old = c.args.out.now.items in
    let new = c.put_keys-3.new.out.items in
    let period = number_line (codes "checkpoint") c.from.result in
    let clients = number_line (codes "clients") c.self.inside.clients in
    let faults = number_line (codes "f") c.from-2.result in
    let from = keys_lines (codes "from") c.as_slice.result.now in
    let party = number_line (codes "party") c.number.result in
    let publics = keys_lines (codes "public") c.as_slice-2.result.now in
    let seed = seed_line c.self.inside.seed in
    let to = keys_lines (codes "to") c.as_slice-3.result.now in
    subst (λ k. OnOk c.put_keys-3.result (new ≡ old ++ file_text k)) c.self.view_is
    (on_ok c.put_keys-3.result
    (λ last.
    let text : new ≡ old ++ (period ++ (clients ++ (faults ++ (from ++ (party ++ (publics ++ (seed ++ to))))))) =
    all_put old period c.put_number.new.out.items clients c.put_number-2.new.out.items faults c.put_number-3.new.out.items from c.put_keys.new.out.items
    party c.put_number-4.new.out.items publics c.put_keys-2.new.out.items seed c.put_seed.new.out.items to new
    (c.in_ok-put_number.ensures {u = tt}) (c.in_ok-put_number-2.ensures {u = tt}) (c.in_ok-put_number-3.ensures {u = tt}) (c.in_ok-put_keys.ensures {u = tt})
    (c.in_ok-put_number-4.ensures {u = tt}) (c.in_ok-put_keys-2.ensures {u = tt}) (c.in_ok-put_seed.ensures {u = tt}) last in
    rw (c.from.ensures, c.from-2.ensures, c.number.ensures, c.as_slice.ensures.value, c.as_slice-2.ensures.value, c.as_slice-3.ensures.value) at text)
    c.put_keys-3.ensures)
