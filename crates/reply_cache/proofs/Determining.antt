-- Replies with equal pages are equal.
use Rattle.std.proofs.Common.{◌≡◌, ℕ, ◌^◌, ◌<◌, List, [], ◌++◌, take, drop, Option, Some, None, refl, sym, ap, ◌∙◌}
use Rattle.std.proofs.Common.{arith}
use Rattle.std.specs.Int.{w64, to_be_bytes, from_be_bytes}
use Rattle.std.proofs.lemmas.List.{take_at, drop_at, ext_get_or}
use Rattle.std.proofs.lemmas.Nat.{from_be_bytes-to_be_bytes_8}
use Rattle.tuple_codec.specs.Operations.{Outcome, IsOutcome}
use Rattle.tuple_codec.specs.Spelling.{outcome_spelling}
use Rattle.tuple_codec.specs.Reading.{outcome_at}
use Rattle.tuple_codec.proofs.Grammar.{one}
use Rattle.tuple_codec.proofs.OperationLaws.{outcome_reads}
use Rattle.reply_cache.specs.Replies.{Kept, Replies, last_of, IsKeptReply, IsReply, AreReplies}
use Rattle.reply_cache.specs.Pages.{kept_text, reply_text, reply_page_text}

bytes_same : (a b : ℕ) → a < 2 ^ 64 → b < 2 ^ 64 → to_be_bytes w64 a ≡ to_be_bytes w64 b → a ≡ b
bytes_same a b l m e = sym (from_be_bytes-to_be_bytes_8 a l) ∙ ap (from_be_bytes w64) e ∙ from_be_bytes-to_be_bytes_8 b m

number_split : (a b : ℕ) (u v : List ℕ) → a < 2 ^ 64 → b < 2 ^ 64 → to_be_bytes w64 a ++ u ≡ to_be_bytes w64 b ++ v → (a ≡ b) × (u ≡ v)
number_split a b u v l m e =
    let front : to_be_bytes w64 a ≡ to_be_bytes w64 b = sym (take_at (to_be_bytes w64 a) u 8 refl) ∙ ap (take 8) e ∙ take_at (to_be_bytes w64 b) v 8 refl in
    let rest : u ≡ v = sym (drop_at (to_be_bytes w64 a) u 8 refl) ∙ ap (drop 8) e ∙ drop_at (to_be_bytes w64 b) v 8 refl in
    (bytes_same a b l m front, rest)

pub outcome_same : (r s : Outcome) → IsOutcome r → IsOutcome s → outcome_spelling r ≡ outcome_spelling s → r ≡ s
outcome_same r s h k e =
    (one IsOutcome outcome_spelling outcome_at outcome_reads (outcome_spelling r) (outcome_spelling s) [] [] r s (record { valid = h; spelled = refl }) (record { valid = k; spelled = refl })
    (ap (λ bs. bs ++ []) e)).1

pub kept_same : (j k : Kept) → IsKeptReply j → IsKeptReply k → kept_text j ≡ kept_text k → j ≡ k
kept_same j k f g e =
    let s = number_split j.timestamp k.timestamp _ _ f.timestamp_fits g.timestamp_fits e in
    let rest = s.1 in
    let numbers : to_be_bytes w64 j.number ++ outcome_spelling j.outcome ≡ to_be_bytes w64 k.number ++ outcome_spelling k.outcome = cc in
    let t = number_split j.number k.number _ _ f.number_fits g.number_fits numbers in
    build j.timestamp k.timestamp j.number k.number j.outcome k.outcome s.0 t.0 (outcome_same j.outcome k.outcome f.answer g.answer t.1)
  where
    build : (t u n m : ℕ) (r s : Outcome) → t ≡ u → n ≡ m → r ≡ s → ◌≡◌ {A = Kept} (record { timestamp = t; number = n; outcome = r }) (record { timestamp = u; number = m; outcome = s })
    build t u n m r s p q w = rw (p, q, w) refl

pub reply_same : (o p : Option Kept) → IsReply o → IsReply p → reply_text o ≡ reply_text p → o ≡ p
reply_same None None f g e = refl
reply_same None (Some k) f g e = absurd (let h : ⊥ = cc in h)
reply_same (Some j) None f g e = absurd (let h : ⊥ = cc in h)
reply_same (Some j) (Some k) f g e = ap Some (kept_same j k f g e)

pub pages_determine : (rs qs : Replies) → AreReplies rs → AreReplies qs → ((client : ℕ) → client < 256 → reply_page_text rs client ≡ reply_page_text qs client) → rs ≡ qs
pages_determine rs qs h k pages =
    ext_get_or None rs qs (h.all ∙ sym k.all) (λ i l. reply_same (last_of rs i) (last_of qs i) (h.each i) (k.each i) (pages i (omega (arith, h.all))))
