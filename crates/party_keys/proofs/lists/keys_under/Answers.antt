use Rattle.std.proofs.Common.{◌≡◌, Some, List, length, ap, sym, ◌∙◌, subst}
use Rattle.toml.specs.Data.{Data, get_member}
use Rattle.toml.specs.View.{items_view, table_view, view}
use Rattle.party_keys.specs.Names.{key_name}
use Rattle.party_keys.specs.Reading.{AreKeyTexts}
use Rattle.party_keys.proofs.Listed.{as_many, found_array}
use Rattle.party_keys.proofs.lists.keys_under.Goals as goal

pub returns-then-items-count : goal.returns-then-items-count
returns-then-items-count c keys has are =
    let vs = c.in-Some-as_array.items.now.items in
    let table = table_view c.args.table.now in
    let found : Some (view c.in-Some.value.now) ≡ get_member (key_name c.args.key) table =
    c.in-Some.ensures {u = tt} ∙ ap (λ name. get_member name table) c.name.ensures in
    let same = found_array (get_member (key_name c.args.key) table) (view c.in-Some.value.now) vs found (c.in-Some-as_array.ensures {u = tt}) has.0 has.1 in
    let many = as_many vs keys (rw same at has.2) in
    c.if-items-count.true (ap length c.as_slice-items.ensures.value ∙ sym many ∙ are.0)
