use Rattle.std.proofs.Common.{◌≡◌, ℕ, [], ◌∷◌, ◌++◌, ap, arith, ◌+◌, ◌∙◌, drop, append_assoc, append-nil, sym}
use Rattle.std.specs.List.{flat_map}
use Rattle.tuple_text.specs.Texts.{hex_pair}
use Rattle.tuple_text.proofs.Writing.{so_far, one_more, nothing_left, flat_map_first, drop_all}
use Rattle.tuple_text.proofs.write.put_pairs.Goals as goal

pair : {a b x y : ℕ} → a ≡ x → b ≡ y → a ∷ b ∷ [] ≡ x ∷ y ∷ []
pair p q = cc

pub loop-byte-init : goal.loop-byte-init
loop-byte-init g c =
    let room = (c.in_ok-reserve.ensures {u = tt}).ok in
    record {
      written = so_far _ [] (flat_map hex_pair c.args.bytes.now) _ (c.reserve.ensures.items ∙ sym (append-nil c.args.out.now.items));
      room = omega (arith, room);
    }

pub returns : goal.returns
returns g c = nothing_left _ _ _ _ c.loop-byte.invariant.written (ap (flat_map hex_pair) (drop_all c.args.bytes.now c.loop-byte.byte-index (omega arith)))

pub loop-byte-preserved : goal.loop-byte-preserved
loop-byte-preserved g c =
    let out = c.loop-byte.out.items in
    record {
      written =
          one_more _ _ _ _ (flat_map hex_pair (drop (c.loop-byte.byte-index + 1) c.args.bytes.now)) _ _ c.loop-byte.invariant.written
          (flat_map_first hex_pair c.args.bytes.now c.loop-byte.byte-index (omega arith))
          (c.push_reserved-in-loop-byte.ensures.items ∙ ap (λ t. t ++ c.hex_digit-in-loop-byte.result ∷ []) c.push_reserved.ensures.items
          ∙ append_assoc out (c.hex_digit.result ∷ []) (c.hex_digit-in-loop-byte.result ∷ [])
          ∙ ap (λ t. out ++ t) (pair c.hex_digit.ensures c.hex_digit-in-loop-byte.ensures));
      room = omega arith;
    }
