-- Steps of judging bytes in their place.
use Rattle.std.proofs.Common.{◌≡◌, ◌↔◌, ℕ, zero, suc, ◌+◌, ◌-◌, ◌<◌, ◌≤◌, Bool, true, false, ◌||◌, ◌&&◌, cond, List, [], ◌∷◌, ◌++◌, length, Option, Some, None, is_some, option_map, ap, sym, refl, ◌∙◌, arith}
use Rattle.std.proofs.lemmas.Bool.{ne_eqb, lt-leb}
use Rattle.std.specs.Bool.{then_some}
use lib.Dec.{eqb, leb}
use Rattle.tuple_tree.specs.Values.{AreBytes}
use Rattle.tuple_codec.specs.Operations.{Operation, IsOperation, Outcome, IsOutcome}
use Rattle.tuple_codec.specs.Spelling.{SpellsOperation, operation_spelling, SpellsOutcome, outcome_spelling}
use Rattle.tuple_tree.specs.Reading.{◌>>=◌, Reader, rest_of, byte_at, number_of}
use Rattle.tuple_codec.specs.Reading.{operation_at, outcome_at}
use Rattle.tuple_tree.proofs.Readers.{parts}
use Rattle.tuple_codec.proofs.OperationLaws.{operation_reads, outcome_reads}
use Rattle.terms.specs.declared.order.Mode.{Mode}
use Rattle.wire_format.specs.Messages.{MessageData, request, reply, page, BodyData, AuthenticatorData}
use Rattle.wire_format.specs.Spelling.{message_type, body_spelling, is_signed, sender_before}
use Rattle.wire_format.specs.Faults.{limit_at}
use Rattle.wire.specs.Headers.{HeaderData, header_of, asks}
use Rattle.wire.specs.Judging.{ends}
use Rattle.wire_format.specs.Reading.{passing, more_at, comes_after, anyhow, whole_value, authenticator_of, message_by, body_of, frame_read, piece_at, is_change, is_over, of_some, over_in, mode_at, client_at, digest_at, digest_list_at, batches_at, request_at, reply_at, page_at}
use Rattle.wire_format.proofs.Parts.{number_8_reads, mode_reads, piece_reads}
use Rattle.wire.proofs.Carrying.{is_none, whole_test}
use Rattle.wire_format.proofs.Plain.{client_reads}
use Rattle.wire_format.proofs.Carriers.{body_of_found, some_there}
use Rattle.wire.proofs.Whole.{no_piece, body_fails, authenticator_fails, all_there}
use Rattle.tuple_codec.specs.declared.bad.Bad.TheVariants as bad

-- ---- readers that end at the end of the bytes

at_end : {A : Type 0} (x : A) (rest : List ℕ) → eqb (length rest) 0 ≡ is_some (whole_value (Some (x, rest)))
at_end x [] = refl
at_end x (b ∷ bs) = ne_eqb (suc (length bs)) 0 (λ e. omega (arith, e))

pub whole : {A : Type 0} (at : Reader A) (bs : List ℕ) → ends (rest_of (at bs)) ≡ is_some (whole_value (at bs))
whole at bs = cases (at bs)
  where
    cases : {A : Type 0} (o : Option (A × List ℕ)) → ends (rest_of o) ≡ is_some (whole_value o)
    cases None = refl
    cases (Some x) = at_end x.0 x.1

-- ---- requests, replies and pages

-- the value x, read before, and the value that is read after it
abbrev behind : {A B : Type 0} → A → Option (B × List ℕ) → Option ((A × B) × List ℕ)
behind x o = o >>= λ y. Some ((x, y.0), y.1)

abbrev requested : Option ((ℕ × (Mode × Operation)) × List ℕ) → Option (MessageData × List ℕ)
requested o = o >>= λ p. Some (request p.0.0 p.0.1.0 p.0.1.1, p.1)

abbrev replied : Option ((ℕ × (ℕ × (Mode × (ℕ × Outcome)))) × List ℕ) → Option (MessageData × List ℕ)
replied o = o >>= λ p. Some (reply p.0.0 p.0.1.0 p.0.1.1.0 p.0.1.1.1.0 p.0.1.1.1.1, p.1)

pub request_no_time : (fs : List ℕ) → number_of 8 fs ≡ None → false ≡ is_some (whole_value (request_at fs))
unfolding request_at
request_no_time fs e = sym (rw e refl)

pub request_no_mode : (fs rest : List ℕ) (t : ℕ) → number_of 8 fs ≡ Some (t, rest) → mode_at rest ≡ None → false ≡ is_some (whole_value (request_at fs))
unfolding request_at
request_no_mode fs rest t e f = sym (rw (e, f) refl)

pub request_whole : (fs rest op : List ℕ) (t : ℕ) (m : Mode) (b : Bool) → AreBytes fs → number_of 8 fs ≡ Some (t, rest) → mode_at rest ≡ Some (m, op) → (b ≡ true) ↔ ((o : Operation) × SpellsOperation op o) → b ≡ is_some (whole_value (request_at fs))
unfolding request_at
request_whole fs rest op t m b h e f law =
    let r = number_8_reads.found fs rest t h e in
    let n = mode_reads.found rest op m r.0.bytes f in
    whole_test IsOperation operation_spelling operation_at operation_reads op b n.0.bytes law ∙ sym (rw (e, f) (cases (operation_at op)))
  where
    ended : (o : Operation) (rest : List ℕ) → is_some (whole_value (Some (request t m o, rest))) ≡ is_some (whole_value (Some (o, rest)))
    ended o [] = refl
    ended o (x ∷ xs) = refl

    cases : (o : Option (Operation × List ℕ)) → is_some (whole_value (requested (behind t (behind m o)))) ≡ is_some (whole_value o)
    cases None = refl
    cases (Some x) = ended x.0 x.1

pub reply_no_client : (fs : List ℕ) → client_at fs ≡ None → false ≡ is_some (whole_value (reply_at fs))
unfolding reply_at
reply_no_client fs e = sym (rw e refl)

module _ (fs r : List ℕ) (client : ℕ) (d : client_at fs ≡ Some (client, r)) where
  pub reply_no_time : number_of 8 r ≡ None → false ≡ is_some (whole_value (reply_at fs))
  unfolding reply_at
  reply_no_time e = sym (rw (d, e) refl)

  module _ (s : List ℕ) (t : ℕ) (e : number_of 8 r ≡ Some (t, s)) where
    pub reply_no_mode : mode_at s ≡ None → false ≡ is_some (whole_value (reply_at fs))
    unfolding reply_at
    reply_no_mode f = sym (rw (d, e, f) refl)

    module _ (u : List ℕ) (m : Mode) (f : mode_at s ≡ Some (m, u)) where
      pub reply_no_number : number_of 8 u ≡ None → false ≡ is_some (whole_value (reply_at fs))
      unfolding reply_at
      reply_no_number g = sym (rw (d, e, f, g) refl)

      pub reply_whole : AreBytes fs → (answer : List ℕ) (n : ℕ) (b : Bool) → number_of 8 u ≡ Some (n, answer) → (b ≡ true) ↔ ((o : Outcome) × SpellsOutcome answer o) → b ≡ is_some (whole_value (reply_at fs))
      unfolding reply_at
      reply_whole h answer n b g law =
          let c = client_reads.found fs r client h d in
          let v = number_8_reads.found r s t c.0.bytes e in
          let w = mode_reads.found s u m v.0.bytes f in
          let x = number_8_reads.found u answer n w.0.bytes g in
          whole_test IsOutcome outcome_spelling outcome_at outcome_reads answer b x.0.bytes law ∙ sym (rw (d, e, f, g) (cases (outcome_at answer)))
        where
          ended : (o : Outcome) (rest : List ℕ) → is_some (whole_value (Some (reply client t m n o, rest))) ≡ is_some (whole_value (Some (o, rest)))
          ended o [] = refl
          ended o (y ∷ ys) = refl

          cases : (o : Option (Outcome × List ℕ)) → is_some (whole_value (replied (behind client (behind t (behind m (behind n o)))))) ≡ is_some (whole_value o)
          cases None = refl
          cases (Some y) = ended y.0 y.1

pub page_uncounted : (fs : List ℕ) → number_of 8 fs ≡ None → false ≡ is_some (whole_value (page_at fs))
unfolding page_at
page_uncounted fs e = sym (rw e refl)

pub page_unplaced : (fs rest : List ℕ) (n : ℕ) → number_of 8 fs ≡ Some (n, rest) → number_of 2 rest ≡ None → false ≡ is_some (whole_value (page_at fs))
unfolding page_at
page_unplaced fs rest n e f = sym (rw (e, f) refl)

pub page_whole : (fs rest : List ℕ) (n i : ℕ) (text : List ℕ) → number_of 8 fs ≡ Some (n, rest) → number_of 2 rest ≡ Some (i, text) → leb i 1023 ≡ is_some (whole_value (page_at fs))
unfolding page_at
page_whole fs rest n i text e f = sym (rw (e, f) (cases (leb i 1023)))
  where
    placed : Option (ℕ × List ℕ) → Option ((ℕ × ℕ) × List ℕ)
    placed o = o >>= λ y. Some ((n, y.0), y.1)

    cases : (b : Bool) → is_some (whole_value (placed (then_some b (i, text)) >>= λ p. Some (page p.0.0 p.0.1 p.1, []))) ≡ b
    cases true = refl
    cases false = refl

-- ---- lists, whatever values were read before

module _ {A : Type 0} (at : Reader A) where
  pub skip_stops : (n i : ℕ) (bs : List ℕ) → i < n → at bs ≡ None → rest_of (more_at at anyhow (n - i) [] bs) ≡ None
  skip_stops n i bs p e = let s : n - i ≡ suc (n - (i + 1)) = omega arith in rw s (rw e refl)

  pub skip_ended : (n i : ℕ) (bs : List ℕ) → n ≤ i → rest_of (more_at at anyhow (n - i) [] bs) ≡ Some bs
  skip_ended n i bs p = let s : n - i ≡ 0 = omega arith in rw s refl

pub digests_are : (n : ℕ) (bs : List ℕ) → digest_list_at n bs ≡ more_at digest_at anyhow n [] bs
unfolding digest_list_at
digests_are n bs = refl

pub batches_uncounted : (bs : List ℕ) → byte_at bs ≡ None → batches_at bs ≡ None
unfolding batches_at
batches_uncounted bs e = rw e refl

pub batches_many : (bs front : List ℕ) (n : ℕ) → byte_at bs ≡ Some (n, front) → 32 < n → batches_at bs ≡ None
unfolding batches_at
batches_many bs front n e p = let l : leb n 32 ≡ false = lt-leb n 32 p in rw (e, l) refl

-- ---- view changes that are too long, if only the last one before is known

follows_end : {A : Type 0} (before : A → A → Bool) (xs : List A) (x y : A) → comes_after before (xs ++ x ∷ []) y ≡ before x y
follows_end before [] x y = refl
follows_end before (w ∷ []) x y = refl
follows_end before (w ∷ v ∷ ws) x y = follows_end before (v ∷ ws) x y

of_some_same : (f g : List ℕ × List ℕ → Bool) → ((y : List ℕ × List ℕ) → f y ≡ g y) → (o : Option (List ℕ × List ℕ)) → of_some f o ≡ of_some g o
of_some_same f g h None = refl
of_some_same f g h (Some y) = h y

abbrev next_in : ℕ → List (List ℕ) → List ℕ × List ℕ → Bool
next_in n xs y = comes_after sender_before xs y.0 && over_in n (xs ++ y.0 ∷ []) y.1

next_same : (n : ℕ) (xs ys : List (List ℕ)) (x : List ℕ) → ((xs ys : List (List ℕ)) (x bs : List ℕ) → over_in n (xs ++ x ∷ []) bs ≡ over_in n (ys ++ x ∷ []) bs)
    → (y : List ℕ × List ℕ) → next_in n (xs ++ x ∷ []) y ≡ next_in n (ys ++ x ∷ []) y
next_same n xs ys x h y =
    ap (λ b. b && over_in n ((xs ++ x ∷ []) ++ y.0 ∷ []) y.1) (follows_end sender_before xs x y.0 ∙ sym (follows_end sender_before ys x y.0))
    ∙ ap (λ b. comes_after sender_before (ys ++ x ∷ []) y.0 && b) (h (xs ++ x ∷ []) (ys ++ x ∷ []) y.0 y.1)

over_last : (n : ℕ) (xs ys : List (List ℕ)) (x bs : List ℕ) → over_in n (xs ++ x ∷ []) bs ≡ over_in n (ys ++ x ∷ []) bs
over_last zero xs ys x bs = refl
over_last (suc n) xs ys x bs =
    ap (λ b. cond (is_over bs) true b) (of_some_same (next_in n (xs ++ x ∷ [])) (next_in n (ys ++ x ∷ [])) (next_same n xs ys x (over_last n)) (passing is_change piece_at bs))

module _ (n i : ℕ) (xs : List (List ℕ)) (bs : List ℕ) (l : i < n) where
  turn : over_in (n - i) xs bs ≡ cond (is_over bs) true (of_some (λ x. comes_after sender_before xs x.0 && over_in (n - (i + 1)) (xs ++ x.0 ∷ []) x.1) (passing is_change piece_at bs))
  turn = let s : n - i ≡ suc (n - (i + 1)) = omega arith in ap (λ k. over_in k xs bs) s

  pub over_here : is_over bs ≡ true → over_in (n - i) xs bs ≡ true
  over_here e = turn ∙ rw e refl

  pub no_change : is_over bs ≡ false → passing is_change piece_at bs ≡ None → over_in (n - i) xs bs ≡ false
  no_change e f = turn ∙ rw (e, f) refl

  module _ (x after : List ℕ) (e : is_over bs ≡ false) (f : passing is_change piece_at bs ≡ Some (x, after)) where
    pub disorder : comes_after sender_before xs x ≡ false → over_in (n - i) xs bs ≡ false
    disorder g = turn ∙ rw (e, f, g) refl

    pub over_goes_on : comes_after sender_before xs x ≡ true → over_in (n - (i + 1)) (x ∷ []) after ≡ over_in (n - i) xs bs
    over_goes_on g = over_last (n - (i + 1)) [] xs x after ∙ sym (turn ∙ rw (e, f, g) refl)

pub over_done : (n i : ℕ) (xs : List (List ℕ)) (bs : List ℕ) → n ≤ i → over_in (n - i) xs bs ≡ false
over_done n i xs bs l = let s : n - i ≡ 0 = omega arith in rw s refl

-- ---- the header

pub from_sender : (s u : ℕ) (b : Bool) (t : List ℕ) (p : AuthenticatorData) → u ≡ s
    → ◌≡◌ {A = Option HeaderData} (Some (record { sender = s; is_request = b; text = t; authenticator = p })) (Some (record { sender = u; is_request = b; text = t; authenticator = p }))
from_sender s u b t p e = ap (λ n. made n b t p) (sym e)
  where
    made : ℕ → Bool → List ℕ → AuthenticatorData → Option HeaderData
    made n b t p = Some (record { sender = n; is_request = b; text = t; authenticator = p })

type_asks : (m : MessageData) → asks m ≡ eqb (message_type m) 0x41
type_asks (request timestamp mode operation) = refl
type_asks _ = refl

type_signed : (m : MessageData) → is_signed m ≡ (eqb (message_type m) 0x46 || eqb (message_type m) 0x47)
type_signed (request timestamp mode operation) = refl
type_signed _ = refl

abbrev none_of : (bs : List ℕ) → frame_read bs ≡ None → option_map header_of (frame_read bs) ≡ None
none_of bs e = ap (option_map header_of) e

pub no_text : (bs : List ℕ) → piece_at bs ≡ None → option_map header_of (frame_read bs) ≡ None
no_text bs e = none_of bs (no_piece bs e)

module _ (bs text authenticator : List ℕ) (e : piece_at bs ≡ Some (text, authenticator)) where
  no_body : body_of text ≡ None → option_map header_of (frame_read bs) ≡ None
  no_body f = none_of bs (body_fails bs text authenticator bad.Malformed e f)

  pub no_type : byte_at text ≡ None → option_map header_of (frame_read bs) ≡ None
  unfolding body_of
  no_type f = no_body (rw f refl)

  module _ (k : ℕ) (behind : List ℕ) (f : byte_at text ≡ Some (k, behind)) where
    pub no_sender : number_of 2 behind ≡ None → option_map header_of (frame_read bs) ≡ None
    unfolding body_of
    no_sender g = no_body (rw (f, g) refl)

    module _ (s : ℕ) (fields : List ℕ) (g : number_of 2 behind ≡ Some (s, fields)) where
      pub no_message : is_some (message_by k fields) ≡ false → option_map header_of (frame_read bs) ≡ None
      unfolding body_of
      no_message m = let none : message_by k fields ≡ None = is_none (message_by k fields) m in no_body (rw (f, g, none) refl)

      module _ (h : AreBytes bs) (m : is_some (message_by k fields) ≡ true) where
        abbrev message : MessageData
        message = (some_there (message_by k fields) m).0

        abbrev body : BodyData
        body = record { sender = s; message = message }

        body_there : body_of text ≡ Some body
        unfolding body_of
        body_there = let there : message_by k fields ≡ Some message = (some_there (message_by k fields) m).1 in rw (f, g, there) refl

        text_is : text ≡ body_spelling body
        text_is = let p = piece_reads.found bs authenticator text h e in (body_of_found text body p.1.1 body_there).spelled

        type_is : k ≡ message_type message
        type_is = (parts (sym f ∙ ap byte_at text_is)).0

        signed_is : (eqb k 0x46 || eqb k 0x47) ≡ is_signed message
        signed_is = ap (λ k. eqb k 0x46 || eqb k 0x47) type_is ∙ sym (type_signed message)

        pub no_authenticator : authenticator_of (eqb k 0x46 || eqb k 0x47) authenticator ≡ None → option_map header_of (frame_read bs) ≡ None
        no_authenticator q = none_of bs (authenticator_fails bs text authenticator body bad.Malformed e body_there (ap (λ b. authenticator_of b authenticator) (sym signed_is) ∙ q))

        pub header_there : (p : AuthenticatorData) → length bs ≤ limit_at bs → authenticator_of (eqb k 0x46 || eqb k 0x47) authenticator ≡ Some p
            → option_map header_of (frame_read bs) ≡ Some (record { sender = s; is_request = eqb k 0x41; text = text; authenticator = p })
        header_there p short q =
            let made : ℕ → Bool → List ℕ → AuthenticatorData → HeaderData = λ s b t p. record { sender = s; is_request = b; text = t; authenticator = p } in
            ap (option_map header_of) (all_there bs text authenticator body p h short e body_there (ap (λ b. authenticator_of b authenticator) (sym signed_is) ∙ q))
            ∙ ap (λ b. Some (made s b (body_spelling body) p)) (type_asks message ∙ ap (λ k. eqb k 0x41) (sym type_is))
            ∙ ap (λ t. Some (made s (eqb k 0x41) t p)) (sym text_is)
