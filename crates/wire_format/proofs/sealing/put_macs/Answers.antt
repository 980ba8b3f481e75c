use Rattle.std.proofs.Common.{◌≡◌, ◌++◌, ◌∙◌, ap, refl, map, length, vec_len, rules}
use Rattle.std.specs.Int.{w16, to_be_bytes}
use Rattle.wire_format.specs.Lists.{each_spelling}
use Rattle.terms.specs.Parties.{party_number}
use Rattle.wire_format.specs.Views.{mac_data}
use Rattle.wire_format.specs.Spelling.{mac_spelling}
use Rattle.wire_format.proofs.Appending.{two, one_more, none_left, kept_more}
use Rattle.wire_format.proofs.sealing.put_macs.Goals as goal

pub loop-mac-preserved : goal.loop-mac-preserved
loop-mac-preserved c =
    let number : c.extend_from_slice.new.self.items ≡ c.loop-mac.out.items ++ to_be_bytes w16 (party_number c.mac-item.result.receiver) = search rules in
    let len : vec_len c.args.out.now ≡ length c.args.out.now.items = search rules in
    record {
      spelled =
          one_more (λ ms. each_spelling mac_spelling (map mac_data ms)) (λ m. mac_spelling (mac_data m)) (λ m ms. refl) c.args.receivers.now c.loop-mac.mac-index c.mac-item.result _ _ _ c.loop-mac-test.true
          (two _ _ _ _ _ number c.in_ok-extend_from_slice-2.ensures.items ∙ ap (λ m. c.loop-mac.out.items ++ mac_spelling (mac_data m)) c.mac-item.is) c.loop-mac.invariant.spelled;
      kept = kept_more _ _ _ _ _ len (kept_more _ _ _ _ _ len c.loop-mac.invariant.kept number) c.in_ok-extend_from_slice-2.ensures.items;
    }

pub returns-clause-ok : goal.returns-clause-ok
returns-clause-ok c =
    none_left (λ ms. each_spelling mac_spelling (map mac_data ms)) (λ m. mac_spelling (mac_data m)) (λ m ms. refl) c.args.receivers.now c.loop-mac.mac-index _ _ c.loop-mac-test.false refl c.loop-mac.invariant.spelled

pub returns-clause-kept : goal.returns-clause-kept
returns-clause-kept c = c.loop-mac.invariant.kept
