-- The front of a page's text.
use Rattle.std.proofs.Common.{◌≡◌, ℕ, zero, suc, ◌+◌, ◌^◌, ◌≤◌, ◌<◌, cond, List, [], ◌∷◌, ◌++◌, length, drop, get_or}
use Rattle.std.proofs.Common.{Option, Some, None, true, refl, sym, ap, subst, ◌∙◌, arith, inl, inr}
use Rattle.std.specs.Prelude.{◌==◌}
use Rattle.std.specs.Int.{w64, to_be_bytes}
use Rattle.std.proofs.lemmas.Bool.{le-ltb, cases_lt, cases_eq, eqb-true}
use Rattle.std.proofs.lemmas.List.{length-drop, drop-drop, length_push, get_or_append_left, get_or_push, get_or_past}
use Rattle.byteorder.specs.Endian.{big_number}
use Rattle.byteorder.specs.Numbers.{big_from-lt}
use Rattle.tuple_tree.specs.Values.{AreBytes}
use Rattle.tuple_codec.specs.Operations.{Outcome}
use Rattle.tuple_codec.specs.Spelling.{SpellsOutcome, outcome_spelling}
use Rattle.tuple_tree.specs.Reading.{number_of}
use Rattle.tuple_tree.proofs.Readers.{bytes_drop}
use Rattle.tuple_tree.proofs.Numbers.{number_found}
use Rattle.reply_cache.specs.declared.cache.Reply.{Reply}
use Rattle.reply_cache.specs.Replies.{Kept, Replies, last_of, IsReply}
use Rattle.reply_cache.specs.ReplyView.{kept_if_any, padded, AreSlots}
use Rattle.reply_cache.specs.Pages.{reply_text, ArePagesOfReplies}
use Rattle.reply_cache.specs.Reading.{SpellsReply, EachSpelled, AreRead}
use Rattle.reply_cache.proofs.Slots.{last-padded, AreReplies-padded}
use Rattle.reply_cache.proofs.Determining.{reply_same, pages_determine}

-- eight bytes are those of the number that they make
number_front : (bs : List ℕ) → 8 ≤ length bs → AreBytes bs → bs ≡ to_be_bytes w64 (big_number 8 bs) ++ drop 8 bs
unfolding number_of
number_front bs l h =
    let read : number_of 8 bs ≡ Some (big_number 8 bs, drop 8 bs) = ap (λ b. cond b None (Some (big_number 8 bs, drop 8 bs))) (le-ltb (length bs) 8 l) in
    (number_found 8 bs (drop 8 bs) (big_number 8 bs) h read).0.whole

-- A reply that was read by its parts.
module _ (text front rest : List ℕ) (timestamp number : ℕ) (r : Outcome) (long : 16 ≤ length text) (bytes : AreBytes text) (is_timestamp : timestamp ≡ big_number 8 text) (is_front : front ≡ drop 8 text)
    (is_number : number ≡ big_number 8 front) (is_rest : rest ≡ drop 16 text) (first : 1 ≤ timestamp) (spelled : SpellsOutcome rest r) where
  pub reply_found : SpellsReply text (Some (record { timestamp = timestamp; number = number; outcome = r }))
  reply_found =
      let front_bytes : AreBytes front = subst AreBytes (sym is_front) (bytes_drop 8 text bytes) in
      let tail : front ≡ to_be_bytes w64 number ++ outcome_spelling r =
      number_front front (omega (arith, ap length is_front, length-drop 8 text)) front_bytes ∙ ap (λ n. to_be_bytes w64 n ++ drop 8 front) (sym is_number)
      ∙ ap (λ bs. to_be_bytes w64 number ++ bs) (ap (drop 8) is_front ∙ drop-drop 8 8 text ∙ sym is_rest ∙ spelled.spelled) in
      record {
        valid = record {
          first = first;
          timestamp_fits = subst (λ n. n < 2 ^ 64) (sym is_timestamp) (big_from-lt 0 8 text bytes);
          number_fits = subst (λ n. n < 2 ^ 64) (sym is_number) (big_from-lt 0 8 front front_bytes);
          answer = spelled.valid;
        };
        spelled = number_front text (omega arith) bytes ∙ ap (λ n. to_be_bytes w64 n ++ drop 8 text) (sym is_timestamp) ∙ ap (λ bs. to_be_bytes w64 timestamp ++ bs) (sym is_front ∙ tail);
      }

-- the bytes after the numbers of a reply
pub reply_rest : (text : List ℕ) (o : Option Kept) → 16 ≤ length text → SpellsReply text o → (r : Outcome) × SpellsOutcome (drop 16 text) r
reply_rest text None l h = absurd (let e : length text ≡ 0 = ap length h.spelled in omega arith)
reply_rest text (Some k) l h = (k.outcome, record { valid = h.valid.answer; spelled = ap (drop 16) h.spelled })

pub no_reply : (text : List ℕ) → (length text == 0) ≡ true → SpellsReply text None
no_reply [] e = record { valid = tt; spelled = refl }
no_reply (b ∷ text) e = absurd (let l : suc (length text) ≡ 0 = eqb-true (suc (length text)) 0 e in omega arith)

pub spelled_one : (text : List ℕ) (o p : Option Kept) → SpellsReply text o → SpellsReply text p → o ≡ p
spelled_one text o p h k = reply_same o p h.valid k.valid (sym h.spelled ∙ k.spelled)

-- ---- slot by slot

module _ (texts : List (List ℕ)) (slots : List (Option Reply)) (h : AreRead texts slots 256) where
  pub AreSlots-read : AreSlots slots
  AreSlots-read = record {
    few = omega (arith, h.long);
    each = λ client. elim (cases_lt client 256) [
      | inl l ↦ (h.each client l).valid
      | inr l ↦ subst (λ o. IsReply (kept_if_any o)) (sym (get_or_past slots client None (omega (arith, h.long)))) tt
    ];
  }

  pub ArePages-read : length texts ≡ 256 → ArePagesOfReplies texts (padded slots)
  ArePages-read all = record {
    replies = AreReplies-padded slots AreSlots-read;
    all = all;
    each = λ client l. (h.each client l).spelled ∙ ap reply_text (sym (last-padded slots client));
  }

pub ArePages-one : (texts : List (List ℕ)) (rs qs : Replies) → ArePagesOfReplies texts rs → ArePagesOfReplies texts qs → rs ≡ qs
ArePages-one texts rs qs h k = pages_determine rs qs h.replies k.replies (λ client l. sym (h.each client l) ∙ k.each client l)

pub SpellsReply-of : (texts : List (List ℕ)) (rs : Replies) (client : ℕ) (text : List ℕ) → ArePagesOfReplies texts rs → client < 256 → get_or texts client [] ≡ text → SpellsReply text (last_of rs client)
SpellsReply-of texts rs client text h l is = record { valid = h.replies.each client; spelled = sym is ∙ h.each client l }

-- ---- texts that spell replies each are the pages of replies

collected : (texts : List (List ℕ)) (n : ℕ) → EachSpelled texts n → (rs : Replies) × (length rs ≡ n) × ((client : ℕ) → client < n → SpellsReply (get_or texts client []) (last_of rs client))
collected texts zero h = ([], refl, λ client l. absurd (omega arith))
collected texts (suc n) h =
    let below = collected texts n (λ client l. h client (omega arith)) in
    let rs : Replies = below.0 in
    let long : length rs ≡ n = below.1 in
    let last = h n (omega arith) in (
      rs ++ last.0 ∷ [],
      omega (arith, length_push rs last.0, long),
      λ client l. elim (cases_eq client n) [
        | inl same ↦
            let at : last_of (rs ++ last.0 ∷ []) client ≡ last.0 = ap (last_of (rs ++ last.0 ∷ [])) same ∙ get_or_push rs last.0 None n long in
            subst (λ o. SpellsReply (get_or texts client []) o) (sym at) (subst (λ i. SpellsReply (get_or texts i []) last.0) (sym same) last.1)
        | inr other ↦
            let at : last_of (rs ++ last.0 ∷ []) client ≡ last_of rs client = get_or_append_left rs (last.0 ∷ []) None client (omega (arith, long)) in
            subst (λ o. SpellsReply (get_or texts client []) o) (sym at) (below.2 client (omega arith))
      ],
    )

pub EachSpelled-more : (texts : List (List ℕ)) (count : ℕ) (text : List ℕ) → EachSpelled texts count → get_or texts count [] ≡ text → (o : Option Kept) × SpellsReply text o → EachSpelled texts (count + 1)
EachSpelled-more texts count text h is found client l = elim (cases_eq client count) [
  | inl same ↦ (found.0, subst (λ bs. SpellsReply bs found.0) (sym (ap (λ i. get_or texts i []) same ∙ is)) found.1)
  | inr other ↦ h client (omega arith)
]

pub ArePages-each : (texts : List (List ℕ)) → EachSpelled texts 256 → length texts ≡ 256 → (rs : Replies) × ArePagesOfReplies texts rs
ArePages-each texts h all =
    let found = collected texts 256 h in
    let rs : Replies = found.0 in
    let long : length rs ≡ 256 = found.1 in (
      rs,
      record {
        replies = record {
          all = long;
          each = λ client. elim (cases_lt client 256) [
            | inl l ↦ (found.2 client l).valid
            | inr l ↦ subst IsReply (sym (get_or_past rs client None (omega (arith, long)))) tt
          ];
        };
        all = all;
        each = λ client l. (found.2 client l).spelled;
      },
    )
