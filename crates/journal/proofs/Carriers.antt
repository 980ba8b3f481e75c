-- An event whose frame is carried leaves a trace carried.
use Rattle.std.proofs.Common.{◌≡◌, ℕ, zero, suc, inl, inr, true, Option, Some, None, List, [], ◌∷◌, ◌++◌, refl, ap, sym, ◌∙◌, subst}
use Rattle.std.specs.Prelude.{reverse, slice_get, MatchOption}
use Rattle.std.specs.Option.{option_map_or}
use Rattle.std.proofs.lemmas.List.{reverse-reverse}
use Rattle.tuple_tree.specs.Reading.{◌>>=◌}
use Rattle.wire_format.specs.Lists.{Each}
use Rattle.wire_format.specs.Messages.{FrameData}
use Rattle.wire_format.specs.Spelling.{SpellsFrame}
use Rattle.wire.specs.Headers.{HeaderData, HasHeader}
use Rattle.wire_format.specs.Words.{said, frame_of}
use Rattle.wire_format.proofs.Saying.{reads_frames}
use Rattle.protocol.specs.System.Configuration.{Configuration}
use Rattle.protocol.specs.System.Trace.{Entry, is_output, Has, Always}
use Rattle.protocol.specs.System.Trace.Entry.{Got}
use Rattle.events.specs.Outputs.{after_entries}
use Rattle.journal.specs.Carrying.{is_faulty, is_exempt, EntrySendsBytes, IsCarriedAt, Carried, IsSentAt, IsSentFrom, ComesFrom, IsCarriedFrom}
use Rattle.journal.specs.Histories.{IsOutputOf, IsEventOf}
use Rattle.journal.proofs.Turned.{reverse_first}

-- ---- items of a list

has_there : (P : Entry → Type 0) (xs : List Entry) (k : ℕ) (e : Entry) → slice_get xs k ≡ Some e → P e → Has P xs
has_there P [] k e is p = absurd cc
has_there P (x ∷ xs) zero e is p = let same : x ≡ e = cc in inl (subst P (sym same) p)
has_there P (x ∷ xs) (suc k) e is p = inr (has_there P xs k e is p)

has_front : (P : Entry → Type 0) (xs ys : List Entry) → Has P xs → Has P (xs ++ ys)
has_front P [] ys h = absurd h
has_front P (x ∷ xs) ys (inl p) = inl p
has_front P (x ∷ xs) ys (inr h) = inr (has_front P xs ys h)

has_back : (P : Entry → Type 0) (xs ys : List Entry) → Has P ys → Has P (xs ++ ys)
has_back P [] ys h = h
has_back P (x ∷ xs) ys h = inr (has_back P xs ys h)

has_turned : (P : Entry → Type 0) (xs : List Entry) → Has P xs → Has P (reverse xs)
has_turned P [] h = absurd h
has_turned P (x ∷ xs) (inl p) = subst (Has P) (sym (reverse_first xs x)) (has_back P (reverse xs) (x ∷ []) (inl p))
has_turned P (x ∷ xs) (inr h) = subst (Has P) (sym (reverse_first xs x)) (has_front P (reverse xs) (x ∷ []) (has_turned P xs h))

-- ---- bytes that were sent at a position were sent before

sent_there : (past : List Entry) (k : ℕ) (bytes : List ℕ) → IsSentAt (reverse past) k bytes → Has (EntrySendsBytes bytes) past
sent_there past k bytes h = go (slice_get (reverse past) k) refl h
  where
    go : (o : Option Entry) → slice_get (reverse past) k ≡ o → MatchOption o ⊥ (EntrySendsBytes bytes) → Has (EntrySendsBytes bytes) past
    go None is h = absurd h
    go (Some e) is h = subst (Has (EntrySendsBytes bytes)) (reverse-reverse past) (has_turned (EntrySendsBytes bytes) (reverse past) (has_there (EntrySendsBytes bytes) (reverse past) k e is h))

sent_before : (past : List Entry) (from : Option ℕ) (bytes : List ℕ) → IsSentFrom (reverse past) from bytes → Has (EntrySendsBytes bytes) past
sent_before past None bytes h = absurd h
sent_before past (Some k) bytes h = sent_there past k bytes h

input_carried : (c : Configuration) (past : List Entry) (from : Option ℕ) (e : Entry) → ComesFrom c (reverse past) from e → IsCarriedAt c past e
input_carried c past from (Got p bytes) (inl h) = inl (sent_before past from bytes h)
input_carried c past from (Got p bytes) (inr h) = inr h
input_carried c past from _ h = tt

output_carried : (c : Configuration) (past : List Entry) (e : Entry) → is_output e ≡ true → IsCarriedAt c past e
output_carried c past (Got p bytes) is = absurd cc
output_carried c past _ is = tt

outputs_carried : (c : Configuration) (p : ℕ) (es past : List Entry) → Each (IsOutputOf p) es → Always (IsCarriedAt c) past → Always (IsCarriedAt c) (after_entries es past)
outputs_carried c p [] past are h = h
outputs_carried c p (e ∷ es) past are h = outputs_carried c p es (e ∷ past) are.1 (output_carried c past e are.0.1, h)

pub carried_longer : (c : Configuration) (p : ℕ) (es past : List Entry) (from : Option ℕ) → Carried c past → IsEventOf p es → IsCarriedFrom c past from es → Carried c (after_entries es past)
carried_longer c p [] past from carried event by = absurd event
carried_longer c p (e ∷ es) past from carried event by = record {
  each = outputs_carried c p es (e ∷ past) event.2 (input_carried c past from e by, carried.each);
}

pub carried_empty : (c : Configuration) → Carried c []
carried_empty c = record { each = tt }

-- ---- bytes that may come from anywhere

pub header_exempt : (c : Configuration) (bytes : List ℕ) (header : HeaderData) → HasHeader bytes header → is_exempt c bytes ≡ is_faulty c header.sender
unfolding said
header_exempt c bytes header (frame, spells, is) =
    ap (λ (o : Option FrameData). option_map_or (λ body. is_faulty c body.sender) (o >>= (λ f. Some f.body)) true) ((reads_frames bytes frame).1 spells)
    ∙ ap (λ (h : HeaderData). is_faulty c h.sender) (sym is)

pub none_exempt : (c : Configuration) (bytes : List ℕ) → ((f : FrameData) → SpellsFrame bytes f → ⊥) → is_exempt c bytes ≡ true
unfolding said
none_exempt c bytes none = go (frame_of bytes) refl
  where
    go : (o : Option FrameData) → frame_of bytes ≡ o → option_map_or (λ body. is_faulty c body.sender) (frame_of bytes >>= (λ f. Some f.body)) true ≡ true
    go None e = ap (λ (o : Option FrameData). option_map_or (λ body. is_faulty c body.sender) (o >>= (λ f. Some f.body)) true) e
    go (Some f) e = absurd (none f ((reads_frames bytes f).0 e))
