use Rattle.std.proofs.Common.{rules, ◌≡◌, ◌-◌, ◌<◌, length, take, drop, arith, sym, ◌∙◌, subst}
use Rattle.std.specs.Prelude.{slice_index}
use Rattle.std.proofs.lemmas.Fmt.{decimal_injective}
use Rattle.std.proofs.lemmas.Result.{err_from_is_err_and}
use Rattle.schedule_text.specs.Reading.{PartyText}
use Rattle.schedule_text.proofs.Numbers.{because}
use Rattle.schedule_text.proofs.Parties.{led, replica_behind, client_behind, client_text}
use Rattle.schedule_text.proofs.arguments.party_in.Goals as goal

pub returns-in-Err : goal.returns-in-Err
returns-in-Err c s h =
    let first : slice_index c.args.text.now 0 ≡ 114 = search rules in
    let word = led 114 c.args.text.now c.in-114.len_at_least first in
    let k = c.in_ok-number_in-in-114.ensures {u = tt} in
    let r = replica_behind s (take (length c.args.text.now - 1) (drop 1 c.args.text.now)) (subst (PartyText s) word h) in
    let below : s < 256 = r.0 in
    let same : s ≡ c.in_ok-number_in-in-114.field-0 = decimal_injective s c.in_ok-number_in-in-114.field-0 (omega arith) k.1 (sym r.1 ∙ k.0) in
    c.in-Err.ensures {u = tt} (omega arith)

pub returns-in_ok-client_in-in-99 : goal.returns-in_ok-client_in-in-99
returns-in_ok-client_in-in-99 c =
    let first : slice_index c.args.text.now 0 ≡ 99 = search rules in
    let word = led 99 c.args.text.now c.in-99.len_at_least first in
    let k = c.in_ok-client_in-in-99.ensures {u = tt} in
    (word ∙ client_text c.in_ok-client_in-in-99.field-0.number (take (length c.args.text.now - 1) (drop 1 c.args.text.now)) k.0, k.1)
