-- Records that are appended part by part.
use Rattle.std.proofs.Common.{◌≡◌, ℕ, ◌+◌, ◌*◌, List, [], ◌∷◌, ◌++◌, length, map, refl, sym, ap, ◌∙◌, arith, length-append}
use Rattle.std.proofs.lemmas.List.{length-map}
use Rattle.std.specs.Int.{w16, w32, to_be_bytes}
use Rattle.terms.specs.Parties.{party_number}
use Rattle.terms.specs.declared.parties.Party.{Party}
use Rattle.wire_format.specs.Lists.{each_spelling}
use Rattle.wire_format.proofs.Appending.{four}
use Rattle.records.specs.Records.{frame_record}
use Rattle.records.specs.declared.notice.TheConstants.{FRAME}

-- each party takes two bytes
pub parties_len : (parties : List Party) → length (each_spelling (to_be_bytes w16) (map party_number parties)) ≡ 2 * length parties
parties_len [] = refl
parties_len (party ∷ parties) = omega (arith, parties_len parties)

-- a length, a kind and a count, the parties, and the frame
pub frame_put : (receivers : List Party) (frame old head kind parties out : List ℕ) (len : ℕ)
    → len ≡ 2 + 2 * length receivers + length frame → head ≡ old ++ to_be_bytes w32 len → kind ≡ head ++ FRAME ∷ length receivers ∷ []
    → parties ≡ kind ++ each_spelling (to_be_bytes w16) (map party_number receivers) → out ≡ parties ++ frame
    → out ≡ old ++ frame_record (map party_number receivers) frame
frame_put receivers frame old head kind parties out len l a b c d =
    let numbers = each_spelling (to_be_bytes w16) (map party_number receivers) in
    let count : length receivers ≡ length (map party_number receivers) = sym (length-map receivers party_number) in
    let whole : len ≡ length (FRAME ∷ length (map party_number receivers) ∷ (numbers ++ frame)) =
    omega (arith, l, parties_len receivers, length-append numbers frame) in
    four old (to_be_bytes w32 len) (FRAME ∷ length receivers ∷ []) numbers frame head kind parties out a b c d
    ∙ ap (λ n. old ++ (to_be_bytes w32 len ++ FRAME ∷ n ∷ (numbers ++ frame))) count
    ∙ ap (λ n. old ++ (to_be_bytes w32 n ++ FRAME ∷ length (map party_number receivers) ∷ (numbers ++ frame))) whole
