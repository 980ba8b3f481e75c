-- The schedule that calls the operation and then delivers all frames feeds the first operation.
use Rattle.std.proofs.Common.{◌≡◌, ℕ, suc, Bool, true, false, not, cond, List, [], ◌∷◌, ◌++◌, refl, ap, ◌∙◌, ◌&&◌, Option, Some, None, eqb-true}
use Rattle.std.specs.Prelude.{◌==◌, is_none, map, slice_get, drop}
use Rattle.std.specs.List.{list_all}
use Rattle.std.specs.Option.{option_map_or, option_map}
use Rattle.std.proofs.lemmas.Bool.{and_parts}
use Rattle.std.proofs.lemmas.List.{append-nil}
use Rattle.std.proofs.lemmas.Option.{slice_get-map, slice_get_within}
use Rattle.tuple_codec.specs.Operations.{Operation}
use Rattle.quorum.specs.Votes.{or_else}
use Rattle.wire_format.specs.Messages.{FrameData as Frame, AuthenticatorData as Authenticator, MacData, macs, signature}
use Rattle.protocol.specs.System.Configuration.{Configuration, IsConfiguration, is_correct}
use Rattle.wire_format.specs.Words.{receivers_of}
use Rattle.protocol.specs.System.Trace.{Entry}
use Rattle.protocol.specs.System.Trace.Entry.{Invoke, Got, Executed, Sent}
use Rattle.protocol.specs.System.Schedule.{calls, flush, Made, meant_for, made_by, World, new_world, with_entry, is_delivered, next_receiver, next_pair, pending, StepsLead, Feeds}
use Rattle.protocol.specs.System.Schedule.StepsLead.{ends, gives, called, delivers, flushes, flushed}
use Rattle.evidence.specs.Examples.{four}
use Rattle.evidence.specs.FirstOperation.{FirstFrames, AreFirstFrames, IsFrameFrom, first_trace, FirstOperationIsFed}
use Rattle.evidence.proofs.FirstScheduleMoves.{is_known, known_correct, Row, Move, moves, row, entry_of, is_row, are_known}
use Rattle.evidence.proofs.FirstScheduleMoves.Move.{asks, sends, gets, runs, accepts}
use Rattle.wire_format.specs.Lists.{Each}

-- ---- what comes next if all receivers are correct

abbrev next_to : List (ℕ × ℕ) → ℕ → List ℕ → Option (ℕ × ℕ)
next_to delivered frame [] = None
next_to delivered frame (q ∷ receivers) = cond (not (is_delivered delivered frame q)) (Some (frame, q)) (next_to delivered frame receivers)

abbrev next_of : List (ℕ × ℕ) → ℕ → List Made → Option (ℕ × ℕ)
next_of delivered frame [] = None
next_of delivered frame (made ∷ frames) = or_else (next_to delivered frame made.receivers) (next_of delivered (suc frame) frames)

module _ (c : Configuration) (delivered : List (ℕ × ℕ)) (correct : (p : ℕ) → is_known p ≡ true → is_correct c p ≡ true) where
  next_to_known : (frame : ℕ) (receivers : List ℕ) → list_all is_known receivers ≡ true
      → next_receiver c delivered frame receivers ≡ next_to delivered frame receivers
  next_to_known frame [] h = refl
  next_to_known frame (q ∷ receivers) h =
      let k = and_parts (is_known q) (list_all is_known receivers) h in
      rw (correct q k.0, next_to_known frame receivers k.1) refl

  next_known : (frame : ℕ) (frames : List Made) → Each (λ made. list_all is_known made.receivers ≡ true) frames
      → next_pair c delivered frame frames ≡ next_of delivered frame frames
  next_known frame [] h = refl
  next_known frame (made ∷ frames) h = rw (next_to_known frame made.receivers h.0, next_known (suc frame) frames h.1) refl

-- ---- each frame that is made is for its receivers

meant : (c : Configuration) (sender : ℕ) (authenticator : Authenticator) (entries : List MacData) (receivers : List ℕ) → authenticator ≡ macs entries → receivers_of authenticator ≡ receivers
    → meant_for c sender authenticator ≡ receivers
meant c sender (macs entries) others receivers e h = h
meant c sender (signature s) others receivers e h = absurd cc

row_made : (c : Configuration) (r : Row) → IsFrameFrom c r.sender r.message r.receivers r.bytes
    → made_by c (Sent r.sender r.bytes) ≡ record { bytes = r.bytes; receivers = r.receivers } ∷ []
row_made c r from =
    ap (λ (rs : List ℕ). record { bytes = r.bytes; receivers = rs } ∷ [])
    (ap (λ (o : Option Frame). option_map_or (λ (f : Frame). meant_for c r.sender f.authenticator) o []) from.spells
    ∙ meant c r.sender from.frame.authenticator from.entries r.receivers from.has_macs from.is_for)

-- ---- the schedule

one_more : {A B : Type 0} (f : A → B) (xs : List A) (x : A) → map f xs ++ f x ∷ [] ≡ map f (xs ++ x ∷ [])
one_more f [] x = refl
one_more f (y ∷ xs) x = ap (λ zs. f y ∷ zs) (one_more f xs x)

abbrev is_delivery : ℕ → ℕ → Option (ℕ × ℕ) → Bool
is_delivery n p o = option_map_or (λ x. (x.0 == n) && (x.1 == p)) o false

delivery_is : (n p : ℕ) (o : Option (ℕ × ℕ)) → is_delivery n p o ≡ true → o ≡ Some (n, p)
delivery_is n p None h = absurd cc
delivery_is n p (Some x) h =
    let k = and_parts (x.0 == n) (x.1 == p) h in
    ap (λ i. Some (i, x.1)) (eqb-true x.0 n k.0) ∙ ap (λ q. Some (n, q)) (eqb-true x.1 p k.1)

abbrev is_number : ℕ → Option ℕ → Bool
is_number n o = option_map_or (λ m. m == n) o false

number_is : (n : ℕ) (o : Option ℕ) → is_number n o ≡ true → o ≡ Some n
number_is n None h = absurd cc
number_is n (Some m) h = ap Some (eqb-true m n h)

no_more : (o : Option (ℕ × ℕ)) → is_none o ≡ true → o ≡ None
no_more None h = refl
no_more (Some x) h = absurd cc

module _ (clients : ℕ) (seed : List ℕ) (op : Operation) (batch : List ℕ) (w : FirstFrames) (setting : IsConfiguration (four clients seed))
    (x : AreFirstFrames (four clients seed) op batch w) where
  abbrev c : Configuration
  c = four clients seed

  abbrev entry : Move → Entry
  entry = entry_of clients seed op batch w

  abbrev the : ℕ → Row
  the = row clients seed op batch w

  abbrev made : ℕ → Made
  made n = record { bytes = (the n).bytes; receivers = (the n).receivers }

  correct : (p : ℕ) → is_known p ≡ true → is_correct c p ≡ true
  correct = known_correct clients seed setting.some_clients

  known_frames : (ns : List ℕ) → Each (λ made. list_all is_known made.receivers ≡ true) (map made ns)
  known_frames [] = tt
  known_frames (n ∷ ns) = (are_known clients seed op batch w n, known_frames ns)

  made_is : (n : ℕ) → made_by c (Sent (the n).sender (the n).bytes) ≡ made n ∷ []
  made_is n = row_made c (the n) (is_row clients seed op batch w x n).from

  -- with frames of these numbers made and these deliveries done, frame n is the next, for p
  abbrev comes : List ℕ → List (ℕ × ℕ) → ℕ → ℕ → Bool
  comes ns delivered p n = is_delivery n p (next_of delivered 0 (map made ns)) && (is_number n (slice_get ns n) && is_known p)

  -- the moves are what a flush then goes through
  abbrev goes : List ℕ → List (ℕ × ℕ) → List Move → Bool
  goes ns delivered [] = is_none (next_of delivered 0 (map made ns))
  goes ns delivered (sends n ∷ ms) = goes (ns ++ n ∷ []) delivered ms
  goes ns delivered (gets p n ∷ ms) = comes ns delivered p n && goes ns ((n, p) ∷ delivered) ms
  goes ns delivered (runs r ∷ ms) = goes ns delivered ms
  goes ns delivered (accepts ∷ ms) = goes ns delivered ms
  goes ns delivered (asks ∷ ms) = false

  -- the pending frame is the next one among these frames
  pending_is : (ns : List ℕ) (delivered : List (ℕ × ℕ)) (u : World) → u.frames ≡ map made ns → u.delivered ≡ delivered
      → pending c u ≡ next_of delivered 0 (map made ns)
  pending_is ns delivered u f d = rw (f, d) (next_known c delivered correct 0 (map made ns) (known_frames ns))

  follow : (ms : List Move) (ns : List ℕ) (delivered : List (ℕ × ℕ)) → goes ns delivered ms ≡ true
      → (u : World) → u.frames ≡ map made ns → u.delivered ≡ delivered → (v : World) × StepsLead c u (flush ∷ []) (map entry ms) v
  follow [] ns delivered h u f d = (u, flushed tt (pending_is ns delivered u f d ∙ no_more (next_of delivered 0 (map made ns)) h) ends)
  follow (sends n ∷ ms) ns delivered h u f d =
      let e : Entry = entry (sends n) in
      let frames_are : u.frames ++ made_by c e ≡ map made (ns ++ n ∷ []) =
      ap (λ frames. frames ++ made_by c e) f ∙ ap (λ frames. map made ns ++ frames) (made_is n) ∙ one_more made ns n in
      let g = follow ms (ns ++ n ∷ []) delivered h (with_entry c u e) frames_are d in
      (g.0, gives refl g.1)
  follow (gets p n ∷ ms) ns delivered h u f d =
      let a = and_parts (comes ns delivered p n) (goes ns ((n, p) ∷ delivered) ms) h in
      let b = and_parts (is_delivery n p (next_of delivered 0 (map made ns))) (is_number n (slice_get ns n) && is_known p) a.0 in
      let k = and_parts (is_number n (slice_get ns n)) (is_known p) b.1 in
      let there : slice_get u.frames n ≡ Some (made n) =
      ap (λ frames. slice_get frames n) f ∙ slice_get-map made ns n ∙ ap (option_map made) (number_is n (slice_get ns n) k.0) in
      let next : pending c u ≡ Some (n, p) = pending_is ns delivered u f d ∙ delivery_is n p (next_of delivered 0 (map made ns)) b.0 in
      let after : World = record (with_entry c u (Got p (the n).bytes)) { delivered = (n, p) ∷ u.delivered } in
      let g = follow ms ns ((n, p) ∷ delivered) a.1 after (append-nil u.frames ∙ f) (ap (λ xs. (n, p) ∷ xs) d) in
      (g.0, flushes next (delivers {made = made n} (slice_get_within u.frames n (made n) there, correct p k.1) there g.1))
  follow (runs r ∷ ms) ns delivered h u f d =
      let g = follow ms ns delivered h (with_entry c u (Executed r 1 batch)) (append-nil u.frames ∙ f) d in
      (g.0, gives refl g.1)
  follow (accepts ∷ ms) ns delivered h u f d =
      let g = follow ms ns delivered h (with_entry c u (entry accepts)) (append-nil u.frames ∙ f) d in
      (g.0, gives refl g.1)
  follow (asks ∷ ms) ns delivered h u f d = absurd cc

  pub is_fed : Feeds c (calls 0 op ∷ flush ∷ []) (first_trace op batch w)
  is_fed =
      let g = follow (drop 1 moves) [] [] refl (with_entry c new_world (Invoke 0 1 op)) refl refl in
      (g.0, called (correct 256 refl, refl, x.operation) g.1)

pub first_operation_is_fed : FirstOperationIsFed
first_operation_is_fed clients seed op batch w setting x = is_fed clients seed op batch w setting x
