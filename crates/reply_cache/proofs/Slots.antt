-- Slots for some clients stand for those of all.
use Rattle.std.proofs.Common.{◌≡◌, ℕ, zero, suc, ◌-◌, ◌≤◌, ◌<◌, List, [], ◌∷◌, ◌++◌, length, map, replicate, set}
use Rattle.std.proofs.Common.{get_or, Option, Some, None, Result, Ok, Err, refl, sym, ap, subst, ◌∙◌, arith, inl, inr}
use Rattle.std.proofs.lemmas.List.{length-map, length-append, length-replicate, length-set, length_push}
use Rattle.std.proofs.lemmas.List.{get_or-replicate, get_or_past, get_or-map, get_or_append_left, get_or-append_right}
use Rattle.std.proofs.lemmas.List.{get_or-set_same, get_or-set_other, ext_get_or}
use Rattle.std.proofs.lemmas.Bool.{cases_lt, cases_eq}
use Rattle.std.specs.Prelude.{option_map, OnErr}
use Rattle.std.specs.Option.{option_copied}
use Rattle.std.specs.Borrow.{Bor}
use Rattle.reply_cache.specs.declared.cache.Reply.{Reply}
use Rattle.reply_cache.specs.Replies.{Kept, Replies, no_replies, last_of, with_reply, IsKeptReply, IsReply, AreReplies}
use Rattle.reply_cache.specs.ReplyView.{kept_of_reply, kept_if_any, padded, AreSlots}

abbrev empty : ℕ → Replies
empty n = replicate n None

get_or-empty : (n i : ℕ) → get_or (empty n) i None ≡ None
get_or-empty n i = elim (cases_lt i n) [
  | inl l ↦ get_or-replicate n i None None l
  | inr l ↦ get_or_past (empty n) i None (omega (arith, length-replicate {A = Option Kept} n None))
]

pub last-padded : (slots : List (Option Reply)) (i : ℕ) → last_of (padded slots) i ≡ kept_if_any (get_or slots i None)
unfolding padded
last-padded slots i =
    let rest : Replies = empty (256 - length slots) in
    elim (cases_lt i (length slots)) [
      | inl l ↦ get_or_append_left (map kept_if_any slots) rest None i (omega (arith, length-map slots kept_if_any)) ∙ get_or-map kept_if_any slots i None None l
      | inr l ↦ get_or-append_right (map kept_if_any slots) rest (length slots) i None (length-map slots kept_if_any) l ∙ get_or-empty (256 - length slots) (i - length slots) ∙ sym (ap kept_if_any (get_or_past slots i None l))
    ]

pub length-padded : (slots : List (Option Reply)) → length slots ≤ 256 → length (padded slots) ≡ 256
unfolding padded
length-padded slots l = omega (arith, length-append (map kept_if_any slots) (empty (256 - length slots)), length-map slots kept_if_any, length-replicate {A = Option Kept} (256 - length slots) None)

same_replies : (rs qs : Replies) → length rs ≡ 256 → length qs ≡ 256 → ((i : ℕ) → last_of rs i ≡ last_of qs i) → rs ≡ qs
same_replies rs qs l m h = ext_get_or None rs qs (l ∙ sym m) (λ i k. h i)

pub padded-none : padded [] ≡ no_replies
unfolding padded no_replies
padded-none = refl

get_or_push_none : (slots : List (Option Reply)) (i : ℕ) → get_or (slots ++ None ∷ []) i None ≡ get_or slots i None
get_or_push_none [] zero = refl
get_or_push_none [] (suc i) = refl
get_or_push_none (s ∷ slots) zero = refl
get_or_push_none (s ∷ slots) (suc i) = get_or_push_none slots i

-- an empty slot more stands for the same
pub padded_push : (slots : List (Option Reply)) → length slots < 256 → padded (slots ++ None ∷ []) ≡ padded slots
padded_push slots l =
    same_replies (padded (slots ++ None ∷ [])) (padded slots) (length-padded (slots ++ None ∷ []) (omega (arith, length_push slots None))) (length-padded slots (omega arith))
    (λ i. last-padded (slots ++ None ∷ []) i ∙ ap kept_if_any (get_or_push_none slots i) ∙ sym (last-padded slots i))

pub AreSlots_push : (slots : List (Option Reply)) → length slots < 256 → AreSlots slots → AreSlots (slots ++ None ∷ [])
AreSlots_push slots l h = record {
  few = omega (arith, length_push slots None);
  each = λ client. subst (λ o. IsReply (kept_if_any o)) (sym (get_or_push_none slots client)) (h.each client);
}

pub AreReplies-with : (rs : Replies) (client : ℕ) (k : Kept) → AreReplies rs → IsKeptReply k → client < 256 → AreReplies (with_reply rs client k)
AreReplies-with rs client k h valid l = record {
  all = omega (arith, length-set rs client (Some k), h.all);
  each = λ i. elim (cases_eq i client) [
    | inl same ↦ subst IsReply (sym (ap (λ j. get_or (with_reply rs client k) j None) same ∙ get_or-set_same rs client (Some k) None (omega (arith, h.all)))) valid
    | inr other ↦ subst IsReply (sym (get_or-set_other rs client i (Some k) None other)) (h.each i)
  ];
}

pub padded-set : (slots : List (Option Reply)) (client : ℕ) (r : Reply) → client < length slots → length slots ≤ 256 → padded (set slots client (Some r)) ≡ with_reply (padded slots) client (kept_of_reply r)
padded-set slots client r within few =
    same_replies (padded (set slots client (Some r))) (with_reply (padded slots) client (kept_of_reply r))
    (length-padded (set slots client (Some r)) (omega (arith, length-set slots client (Some r))))
    (length-set (padded slots) client (Some (kept_of_reply r)) ∙ length-padded slots few)
    (λ i. last-padded (set slots client (Some r)) i ∙ elim (cases_eq i client) [
      | inl same ↦
          rw same (ap kept_if_any (get_or-set_same slots client (Some r) None within) ∙ sym (get_or-set_same (padded slots) client (Some (kept_of_reply r)) None (omega (arith, length-padded slots few))))
      | inr other ↦
          ap kept_if_any (get_or-set_other slots client i (Some r) None other) ∙ sym (last-padded slots i) ∙ sym (get_or-set_other (padded slots) client i (Some (kept_of_reply r)) None other)
    ])

pub AreSlots-set : (slots : List (Option Reply)) (client : ℕ) (r : Reply) → AreSlots slots → IsKeptReply (kept_of_reply r) → client < length slots → AreSlots (set slots client (Some r))
AreSlots-set slots client r h valid within = record {
  few = let l = h.few in omega (arith, length-set slots client (Some r));
  each = λ i. elim (cases_eq i client) [
    | inl same ↦ subst (λ o. IsReply (kept_if_any o)) (sym (ap (λ j. get_or (set slots client (Some r)) j None) same ∙ get_or-set_same slots client (Some r) None within)) valid
    | inr other ↦ subst (λ o. IsReply (kept_if_any o)) (sym (get_or-set_other slots client i (Some r) None other)) (h.each i)
  ];
}

pub AreReplies-padded : (slots : List (Option Reply)) → AreSlots slots → AreReplies (padded slots)
AreReplies-padded slots h = record {
  all = length-padded slots h.few;
  each = λ client. subst IsReply (sym (last-padded slots client)) (h.each client);
}

pub AreReplies-none : AreReplies no_replies
unfolding no_replies
AreReplies-none = record { all = length-replicate {A = Option Kept} 256 None; each = λ client. subst IsReply (sym (get_or-empty 256 client)) tt }

-- a property holds of each refusal too
pub on_err : {T E P : Type 0} (r : Result T E) → P → OnErr r P
on_err (Ok x) p = tt
on_err (Err e) p = p

pub kept-copied : (o : Option (Bor Reply)) (slot : Option Reply) → option_copied o ≡ slot → option_map (λ (r : Bor Reply). kept_of_reply r.now) o ≡ kept_if_any slot
kept-copied None slot e = ap kept_if_any e
kept-copied (Some r) slot e = ap kept_if_any e
