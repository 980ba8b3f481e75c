-- A frame with a MAC for each receiver.
use Rattle.std.proofs.Common.{◌≡◌, refl, false, ◌<◌, ◌≤◌, ℕ, ◌+◌, ◌*◌, List, [], ◌∷◌, ◌++◌, map, length, length-append, nat_lt, arith, ap, subst, sym, ◌∙◌}
use Rattle.std.proofs.lemmas.List.{length-map}
use Rattle.wire_format.specs.Lists.{Each, each_spelling, leads, ascends}
use Rattle.wire_format.specs.Counts.{CountsFit}
use Rattle.wire_format.specs.Messages.{BodyData, MacData, macs, MessageData, view_change, new_view}
use Rattle.wire_format.specs.Spelling.{SpellsFrame, IsMac, mac_spelling, mac_before, body_spelling, authenticator_spelling, piece, frame_limit, frame_spelling, is_signed}
use Rattle.authenticator.specs.Keys.{Keys, key_between}
use Rattle.authenticator.specs.Sealing.{IsSealable, IsTooLong, entry_for, sealed_for}
use Rattle.authenticator.proofs.Lengths.{length-hmac_of}

leads-entries : (keys : Keys) (sender : ℕ) (text : List ℕ) (p : ℕ) (ps : List ℕ)
    → leads mac_before (entry_for keys sender text p) (map (entry_for keys sender text) ps) ≡ leads nat_lt p ps
leads-entries keys sender text p [] = refl
leads-entries keys sender text p (q ∷ ps) = refl

-- the entries ascend as the parties do
ascends-entries : (keys : Keys) (sender : ℕ) (text : List ℕ) (ps : List ℕ) → ascends mac_before (map (entry_for keys sender text) ps) ≡ ascends nat_lt ps
ascends-entries keys sender text [] = refl
ascends-entries keys sender text (p ∷ ps) = rw (leads-entries keys sender text p ps, ascends-entries keys sender text ps) refl

-- 34 bytes an entry
length-entries : (keys : Keys) (sender : ℕ) (text : List ℕ) (ps : List ℕ) → length (each_spelling mac_spelling (map (entry_for keys sender text) ps)) ≡ 34 * length ps
length-entries keys sender text [] = refl
length-entries keys sender text (p ∷ ps) =
    let first = length-hmac_of (key_between keys sender p) text in
    let others = length-entries keys sender text ps in
    simp length-append (omega (arith, first, others))

length-sealed : (keys : Keys) (body : BodyData) (ps : List ℕ) → length (frame_spelling (sealed_for keys body ps)) ≡ length (piece (body_spelling body)) + (2 + 34 * length ps)
length-sealed keys body ps =
    let entries = length-entries keys body.sender (body_spelling body) ps in
    length-append (piece (body_spelling body)) (authenticator_spelling (sealed_for keys body ps).authenticator) ∙ ap (λ n. length (piece (body_spelling body)) + n) (omega (arith, entries))

-- the frame that the bytes of a body and of its entries spell
pub sealed-spells : (keys : Keys) (body : BodyData) (ps : List ℕ) (frame : List ℕ) (entries : List MacData)
    → IsSealable body ps → entries ≡ map (entry_for keys body.sender (body_spelling body)) ps → Each IsMac entries
    → length (piece (body_spelling body)) + (2 + 34 * length ps) ≤ frame_limit body.message
    → frame ≡ piece (body_spelling body) ++ authenticator_spelling (macs entries) → SpellsFrame frame (sealed_for keys body ps)
sealed-spells keys body ps frame entries can made formed short is =
    let count = length-map ps (entry_for keys body.sender (body_spelling body)) in
    let whole = length-sealed keys body ps in
    record {
      valid = record {
        sender = can.said.sender;
        message = can.said.message;
        authenticator = (omega (arith, count, can.some), omega (arith, count, can.few), subst (Each IsMac) made formed, ascends-entries keys body.sender (body_spelling body) ps ∙ can.ascend);
        proved = sym can.unsigned;
        short = omega (arith, whole, short);
      };
      spelled = is ∙ ap (λ es. piece (body_spelling body) ++ authenticator_spelling (macs es)) made;
    }

pub sealed-too_long : (keys : Keys) (body : BodyData) (ps : List ℕ)
    → frame_limit body.message < length (piece (body_spelling body)) + (2 + 34 * length ps) → IsTooLong (sealed_for keys body ps)
sealed-too_long keys body ps long = let whole = length-sealed keys body ps in record { over = omega (arith, whole, long) }

pub sealed-over : (keys : Keys) (body : BodyData) (ps : List ℕ) → IsTooLong (sealed_for keys body ps)
    → frame_limit body.message < length (piece (body_spelling body)) + (2 + 34 * length ps)
sealed-over keys body ps long = let whole = length-sealed keys body ps in omega (arith, whole, long.over)

pub sealed-short : (keys : Keys) (body : BodyData) (ps : List ℕ)
    → length (piece (body_spelling body)) + (2 + 34 * length ps) ≤ frame_limit body.message → ¬ IsTooLong (sealed_for keys body ps)
sealed-short keys body ps short long = let over = sealed-over keys body ps long in omega (arith, over, short)

-- messages that go with MACs have no counted lists
pub counts_fit : (m : MessageData) → is_signed m ≡ false → CountsFit m
counts_fit (view_change c) unsigned = absurd cc
counts_fit (new_view n) unsigned = absurd cc
counts_fit _ unsigned = tt
