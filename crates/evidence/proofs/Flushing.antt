-- A flush delivers the first frame that is left to the first receiver that it is left for, and ends if none is left.
use Rattle.std.proofs.Common.{◌≡◌, ℕ, zero, suc, ◌+◌, ◌<◌, inl, inr, Bool, true, false, not, cond, List, [], ◌∷◌, slice_get, refl, sym, ap, ◌∙◌, subst, arith, ◌&&◌, Option, Some, None, eqb-true}
use Rattle.std.specs.Prelude.{◌==◌}
use Rattle.std.proofs.lemmas.Bool.{and_parts, eq-eqb, or_right}
use Rattle.std.proofs.lemmas.List.{append-nil}
use Rattle.std.proofs.lemmas.Option.{slice_get_within}
use Rattle.quorum.specs.Votes.{or_else}
use Rattle.protocol.specs.System.Configuration.{Configuration, is_correct}
use Rattle.protocol.specs.System.Trace.{Entry, is_output, Has}
use Rattle.protocol.specs.System.Trace.Entry.{Got}
use Rattle.protocol.specs.System.Schedule.{Step, Made, World, StepsLead, with_entry, is_delivered, next_receiver, next_pair, pending}
use Rattle.protocol.specs.System.Schedule.Step.{deliver, flush}
use Rattle.protocol.specs.System.Schedule.StepsLead.{ends, gives, delivers, flushes, flushed}
use Rattle.evidence.specs.Fed.{IsNextDelivery, with_delivery, FlushDeliversNext, FlushDeliversNoOther, FlushEnds}
use Rattle.protocol.proofs.Words.Options.{some_injective}
use Rattle.protocol.proofs.Words.Elements.{some_of_has}

-- ---- the test whether a delivery is left

abbrev pub left : Configuration → List (ℕ × ℕ) → ℕ → ℕ → Bool
left c d frame q = is_correct c q && not (is_delivered d frame q)

delivered_is : (d : List (ℕ × ℕ)) (frame q : ℕ) → Has (λ x. x ≡ (frame, q)) d → is_delivered d frame q ≡ true
delivered_is [] frame q h = absurd h
delivered_is (x ∷ d) frame q (inl h) =
    rw (eq-eqb x.0 frame (ap (λ (y : ℕ × ℕ). y.0) h), eq-eqb x.1 q (ap (λ (y : ℕ × ℕ). y.1) h)) refl
delivered_is (x ∷ d) frame q (inr h) = or_right ((x.0 == frame) && (x.1 == q)) (is_delivered d frame q) (delivered_is d frame q h)

was_delivered : (d : List (ℕ × ℕ)) (frame q : ℕ) → is_delivered d frame q ≡ true → Has (λ x. x ≡ (frame, q)) d
was_delivered d frame q h =
    let at = some_of_has (λ (x : ℕ × ℕ). (x.0 == frame) && (x.1 == q)) d h in
    let p = and_parts (at.0.0 == frame) (at.0.1 == q) at.2 in
    let same : at.0 ≡ (frame, q) = ap (λ i. (i, at.0.1)) (eqb-true at.0.0 frame p.0) ∙ ap (λ r. (frame, r)) (eqb-true at.0.1 q p.1) in
    subst (λ (y : ℕ × ℕ). Has (λ x. x ≡ y) d) same at.1

module _ (c : Configuration) (d : List (ℕ × ℕ)) where
  is_left : (frame q : ℕ) → left c d frame q ≡ true → ((is_correct c q ≡ true) × (Has (λ x. x ≡ (frame, q)) d → ⊥))
  is_left frame q h =
      let p = and_parts (is_correct c q) (not (is_delivered d frame q)) h in
      (p.0, λ has. let bad : false ≡ true = sym (ap not (delivered_is d frame q has)) ∙ p.1 in absurd cc)

  left_is : (frame q : ℕ) → ((is_correct c q ≡ true) × (Has (λ x. x ≡ (frame, q)) d → ⊥)) → left c d frame q ≡ true
  left_is frame q h = go (is_delivered d frame q) refl
    where
      go : (b : Bool) → is_delivered d frame q ≡ b → left c d frame q ≡ true
      go true e = absurd (h.1 (was_delivered d frame q e))
      go false e = rw (h.0, e) refl

  pub not_left : (frame q : ℕ) → (((is_correct c q ≡ true) × (Has (λ x. x ≡ (frame, q)) d → ⊥)) → ⊥) → left c d frame q ≡ false
  not_left frame q h = go (left c d frame q) refl
    where
      go : (b : Bool) → left c d frame q ≡ b → b ≡ false
      go true e = absurd (h (is_left frame q e))
      go false e = refl

-- ---- the first receiver

record First (c : Configuration) (d : List (ℕ × ℕ)) (frame : ℕ) (rs : List ℕ) (q : ℕ) : Type 0 where
  place : ℕ
  is : slice_get rs place ≡ Some q
  here : left c d frame q ≡ true
  before : (i r : ℕ) → i < place → slice_get rs i ≡ Some r → left c d frame r ≡ false

module _ (c : Configuration) (d : List (ℕ × ℕ)) (frame : ℕ) where
  one_earlier : (r : ℕ) (rs : List ℕ) (place : ℕ) → left c d frame r ≡ false → ((i s : ℕ) → i < place → slice_get rs i ≡ Some s → left c d frame s ≡ false)
      → (i s : ℕ) → i < suc place → slice_get (r ∷ rs) i ≡ Some s → left c d frame s ≡ false
  one_earlier r rs place e h zero s l is = subst (λ (x : ℕ). left c d frame x ≡ false) (some_injective r s is) e
  one_earlier r rs place e h (suc i) s l is = h i s (omega (arith, l)) is

  receiver_found : (rs : List ℕ) (x : ℕ × ℕ) → next_receiver c d frame rs ≡ Some x → (x.0 ≡ frame) × First c d frame rs x.1
  receiver_found [] x h = absurd cc
  receiver_found (r ∷ rs) x h = go (left c d frame r) refl h (receiver_found rs x)
    where
      go : (b : Bool) → left c d frame r ≡ b → cond b (Some (frame, r)) (next_receiver c d frame rs) ≡ Some x
          → (next_receiver c d frame rs ≡ Some x → (x.0 ≡ frame) × First c d frame rs x.1) → (x.0 ≡ frame) × First c d frame (r ∷ rs) x.1
      go true e k below =
          let same : (frame, r) ≡ x = some_injective (frame, r) x k in
          let party : r ≡ x.1 = ap (λ (y : ℕ × ℕ). y.1) same in
          (ap (λ (y : ℕ × ℕ). y.0) (sym same), record { place = 0; is = ap Some party; here = subst (λ (y : ℕ). left c d frame y ≡ true) party e; before = λ i s l is. absurd (none i l) })
        where
          none : (i : ℕ) → i < 0 → ⊥
          none i l = omega (arith, l)
      go false e k below = let b = below k in (b.0, record { place = suc b.1.place; is = b.1.is; here = b.1.here; before = one_earlier r rs b.1.place e b.1.before })

  receiver_at : (rs : List ℕ) (q place : ℕ) → slice_get rs place ≡ Some q → left c d frame q ≡ true
      → ((i r : ℕ) → i < place → slice_get rs i ≡ Some r → left c d frame r ≡ false) → next_receiver c d frame rs ≡ Some (frame, q)
  receiver_at [] q place is here before = absurd cc
  receiver_at (r ∷ rs) q zero is here before =
      let same : r ≡ q = some_injective r q is in
      ap (λ (b : Bool). cond b (Some (frame, r)) (next_receiver c d frame rs)) (ap (left c d frame) same ∙ here) ∙ ap (λ (x : ℕ). Some (frame, x)) same
  receiver_at (r ∷ rs) q (suc place) is here before =
      ap (λ (b : Bool). cond b (Some (frame, r)) (next_receiver c d frame rs)) (before 0 r (omega arith) refl)
      ∙ receiver_at rs q place is here (λ i s l at. before (suc i) s (omega (arith, l)) at)

  no_receiver : (rs : List ℕ) → ((r : ℕ) → Has (λ s. s ≡ r) rs → left c d frame r ≡ false) → next_receiver c d frame rs ≡ None
  no_receiver [] h = refl
  no_receiver (r ∷ rs) h =
      ap (λ (b : Bool). cond b (Some (frame, r)) (next_receiver c d frame rs)) (h r (inl refl)) ∙ no_receiver rs (λ s has. h s (inr has))

  none_left : (rs : List ℕ) (q : ℕ) → next_receiver c d frame rs ≡ None → Has (λ s. s ≡ q) rs → left c d frame q ≡ false
  none_left [] q h has = absurd has
  none_left (r ∷ rs) q h has = go (left c d frame r) refl h has (none_left rs q)
    where
      go : (b : Bool) → left c d frame r ≡ b → cond b (Some (frame, r)) (next_receiver c d frame rs) ≡ None → Has (λ s. s ≡ q) (r ∷ rs)
          → (next_receiver c d frame rs ≡ None → Has (λ s. s ≡ q) rs → left c d frame q ≡ false) → left c d frame q ≡ false
      go true e k has below = absurd cc
      go false e k (inl is) below = subst (λ (x : ℕ). left c d frame x ≡ false) is e
      go false e k (inr has) below = below k has

-- ---- the first frame; the frames are numbered from k on

record FirstFrame (c : Configuration) (d : List (ℕ × ℕ)) (k : ℕ) (frames : List Made) (number q : ℕ) (made : Made) : Type 0 where
  place : ℕ
  number_is : number ≡ k + place
  is : slice_get frames place ≡ Some made
  here : First c d number made.receivers q
  before : (m : ℕ) (other : Made) → m < place → slice_get frames m ≡ Some other → next_receiver c d (k + m) other.receivers ≡ None

module _ (c : Configuration) (d : List (ℕ × ℕ)) where
  one_before : (k : ℕ) (made : Made) (frames : List Made) (place : ℕ) → next_receiver c d k made.receivers ≡ None
      → ((m : ℕ) (other : Made) → m < place → slice_get frames m ≡ Some other → next_receiver c d (suc k + m) other.receivers ≡ None)
      → (m : ℕ) (other : Made) → m < suc place → slice_get (made ∷ frames) m ≡ Some other → next_receiver c d (k + m) other.receivers ≡ None
  one_before k made frames place e h zero other l is =
      let number : k ≡ k + 0 = omega arith in
      subst (λ (n : ℕ). next_receiver c d n other.receivers ≡ None) number (subst (λ (x : Made). next_receiver c d k x.receivers ≡ None) (some_injective made other is) e)
  one_before k made frames place e h (suc m) other l is =
      subst (λ (n : ℕ). next_receiver c d n other.receivers ≡ None) (omega arith) (h m other (omega (arith, l)) is)

  frame_found : (k : ℕ) (frames : List Made) (x : ℕ × ℕ) → next_pair c d k frames ≡ Some x → (made : Made) × FirstFrame c d k frames x.0 x.1 made
  frame_found k [] x h = absurd cc
  frame_found k (made ∷ frames) x h = go (next_receiver c d k made.receivers) refl h (frame_found (suc k) frames x)
    where
      go : (o : Option (ℕ × ℕ)) → next_receiver c d k made.receivers ≡ o → or_else o (next_pair c d (suc k) frames) ≡ Some x
          → (next_pair c d (suc k) frames ≡ Some x → (other : Made) × FirstFrame c d (suc k) frames x.0 x.1 other)
          → (other : Made) × FirstFrame c d k (made ∷ frames) x.0 x.1 other
      go (Some y) e h below =
          let found = receiver_found c d k made.receivers x (e ∙ h) in
          let number : x.0 ≡ k = found.0 in
          (made, record { place = 0; number_is = omega (arith, number); is = refl; here = subst (λ (n : ℕ). First c d n made.receivers x.1) (sym number) found.1; before = λ m other l is. absurd (none m l) })
        where
          none : (i : ℕ) → i < 0 → ⊥
          none i l = omega (arith, l)
      go None e h below =
          let b = below h in
          let number : x.0 ≡ suc k + b.1.place = b.1.number_is in
          (b.0, record { place = suc b.1.place; number_is = omega (arith, number); is = b.1.is; here = b.1.here; before = one_before k made frames b.1.place e b.1.before })

  frame_at : (k : ℕ) (frames : List Made) (q : ℕ) (made : Made) (place : ℕ) → slice_get frames place ≡ Some made → next_receiver c d (k + place) made.receivers ≡ Some (k + place, q)
      → ((m : ℕ) (other : Made) → m < place → slice_get frames m ≡ Some other → next_receiver c d (k + m) other.receivers ≡ None)
      → next_pair c d k frames ≡ Some (k + place, q)
  frame_at k [] q made place is here before = absurd cc
  frame_at k (x ∷ frames) q made zero is here before =
      let same : made ≡ x = sym (some_injective x made is) in
      let number : k + 0 ≡ k = omega arith in
      let first : next_receiver c d k x.receivers ≡ Some (k + 0, q) = subst (λ (n : ℕ). next_receiver c d n x.receivers ≡ Some (k + 0, q)) number (subst (λ (y : Made). next_receiver c d (k + 0) y.receivers ≡ Some (k + 0, q)) same here) in
      ap (λ (o : Option (ℕ × ℕ)). or_else o (next_pair c d (suc k) frames)) first
  frame_at k (x ∷ frames) q made (suc place) is here before =
      let number : k + suc place ≡ suc k + place = omega arith in
      let zeroth : k + 0 ≡ k = omega arith in
      let none : next_receiver c d k x.receivers ≡ None = subst (λ (n : ℕ). next_receiver c d n x.receivers ≡ None) zeroth (before 0 x (omega arith) refl) in
      let later : next_pair c d (suc k) frames ≡ Some (suc k + place, q) =
      frame_at (suc k) frames q made place is (subst (λ (n : ℕ). next_receiver c d n made.receivers ≡ Some (n, q)) number here)
      (λ m other l at. let more : k + suc m ≡ suc k + m = omega arith in subst (λ (n : ℕ). next_receiver c d n other.receivers ≡ None) more (before (suc m) other (omega (arith, l)) at)) in
      ap (λ (o : Option (ℕ × ℕ)). or_else o (next_pair c d (suc k) frames)) none ∙ later ∙ ap (λ (n : ℕ). Some (n, q)) (sym number)

  no_frame : (k : ℕ) (frames : List Made) → ((m : ℕ) (other : Made) → slice_get frames m ≡ Some other → next_receiver c d (k + m) other.receivers ≡ None)
      → next_pair c d k frames ≡ None
  no_frame k [] h = refl
  no_frame k (x ∷ frames) h =
      let zeroth : k + 0 ≡ k = omega arith in
      ap (λ (o : Option (ℕ × ℕ)). or_else o (next_pair c d (suc k) frames)) (subst (λ (n : ℕ). next_receiver c d n x.receivers ≡ None) zeroth (h 0 x refl))
      ∙ no_frame (suc k) frames (λ m other at. let more : k + suc m ≡ suc k + m = omega arith in subst (λ (n : ℕ). next_receiver c d n other.receivers ≡ None) more (h (suc m) other at))

-- ---- the pending frame is the next frame

pub pending_next : (c : Configuration) (w : World) (frame party : ℕ) → pending c w ≡ Some (frame, party) → (made : Made) × IsNextDelivery c w frame party made
pending_next c w frame party h =
    let f = frame_found c w.delivered 0 w.frames (frame, party) h in
    let number : frame ≡ 0 + f.1.place = f.1.number_is in
    let same : f.1.place ≡ frame = omega (arith, number) in (
      f.0,
      record {
        place = f.1.here.place;
        is_frame = subst (λ (n : ℕ). slice_get w.frames n ≡ Some f.0) same f.1.is;
        is_receiver = f.1.here.is;
        is_left = is_left c w.delivered frame party f.1.here.here;
        first_receiver = λ i q l at left. let bad : true ≡ false = sym (left_is c w.delivered frame q left) ∙ f.1.here.before i q l at in absurd cc;
        first_frame = λ n q other l at has left.
            let zeroth : 0 + n ≡ n = omega arith in
            let none : next_receiver c w.delivered n other.receivers ≡ None = subst (λ (m : ℕ). next_receiver c w.delivered m other.receivers ≡ None) zeroth (f.1.before n other (omega (arith, l, same)) at) in
            let bad : true ≡ false = sym (left_is c w.delivered n q left) ∙ none_left c w.delivered n other.receivers q none has in absurd cc;
      },
    )

next_pending : (c : Configuration) (w : World) (frame party : ℕ) (made : Made) → IsNextDelivery c w frame party made → pending c w ≡ Some (frame, party)
next_pending c w frame party made h =
    let zeroth : frame ≡ 0 + frame = omega arith in
    let here : next_receiver c w.delivered frame made.receivers ≡ Some (frame, party) =
    receiver_at c w.delivered frame made.receivers party h.place h.is_receiver (left_is c w.delivered frame party h.is_left)
    (λ i q l at. not_left c w.delivered frame q (h.first_receiver i q l at)) in
    let before : (m : ℕ) (other : Made) → m < frame → slice_get w.frames m ≡ Some other → next_receiver c w.delivered (0 + m) other.receivers ≡ None =
    λ m other l at. let same : m ≡ 0 + m = omega arith in
    subst (λ (n : ℕ). next_receiver c w.delivered n other.receivers ≡ None) same
    (no_receiver c w.delivered m other.receivers (λ q has. not_left c w.delivered m q (h.first_frame m q other l at has))) in
    frame_at c w.delivered 0 w.frames party made frame h.is_frame (subst (λ (n : ℕ). next_receiver c w.delivered n made.receivers ≡ Some (n, party)) zeroth here) before
    ∙ ap (λ (n : ℕ). Some (n, party)) (sym zeroth)

-- ---- the laws

same_frames : (c : Configuration) (w : World) (frame party : ℕ) (bytes : List ℕ)
    → record (with_entry c w (Got party bytes)) { delivered = (frame, party) ∷ w.delivered } ≡ with_delivery c w frame party bytes
same_frames c w frame party bytes = ap (λ (frames : List Made). record { frames = frames; delivered = (frame, party) ∷ w.delivered; past = Got party bytes ∷ w.past }) (append-nil w.frames)

pub flush_delivers_next : FlushDeliversNext
flush_delivers_next c w v frame party made steps entries h g =
    flushes (next_pending c w frame party made h)
    (delivers {made = made} (slice_get_within w.frames frame made h.is_frame, h.is_left.0) h.is_frame
    (subst (λ (u : World). StepsLead c u (flush ∷ steps) entries v) (sym (same_frames c w frame party made.bytes)) g))

pub flush_ends : FlushEnds
flush_ends c w h = flushed tt
    (no_frame c w.delivered 0 w.frames (λ m other at. let same : m ≡ 0 + m = omega arith in
    subst (λ (n : ℕ). next_receiver c w.delivered n other.receivers ≡ None) same
    (no_receiver c w.delivered m other.receivers (λ q has. not_left c w.delivered m q (h m q other at has)))))
    ends

module _ (c : Configuration) (v : World) (input : Entry) (more : List Entry) (fed : is_output input ≡ false) where
  not_output : (e : Entry) (entries : List Entry) → is_output e ≡ true → e ∷ entries ≡ input ∷ more → (X : Type 0) → X
  not_output e entries o is X =
      let same : e ≡ input = cc in
      let bad : false ≡ true = sym fed ∙ ap is_output (sym same) ∙ o in absurd cc

  -- no steps feed no input
  none_fed : (w : World) (steps : List Step) (entries : List Entry) → StepsLead c w steps entries v → steps ≡ [] → entries ≡ input ∷ more → ⊥
  none_fed w _ _ ends none is = absurd cc
  none_fed w _ _ (gives {entries = entries} {e = e} o g) none is = not_output e entries o is ⊥
  none_fed w _ _ _ none is = absurd cc

  -- what a delivery feeds
  abbrev Delivers : World → ℕ → ℕ → Type 0
  Delivers w frame party =
      (made : Made) × (slice_get w.frames frame ≡ Some made) × (input ≡ Got party made.bytes) × StepsLead c (with_delivery c w frame party made.bytes) (flush ∷ []) more v

  delivery_feeds : (w : World) (steps : List Step) (entries : List Entry) (frame party : ℕ) → StepsLead c w steps entries v
      → steps ≡ deliver frame party ∷ flush ∷ [] → entries ≡ input ∷ more → Delivers w frame party
  delivery_feeds w _ _ frame party ends steps_are is = absurd cc
  delivery_feeds w _ _ frame party (gives {entries = entries} {e = e} o g) steps_are is = not_output e entries o is (Delivers w frame party)
  delivery_feeds w _ _ frame party (delivers {steps = steps} {entries = entries} {frame = n} {party = q} {made = made} a s g) steps_are is =
      let number : n ≡ frame = cc in
      let to : q ≡ party = cc in
      let later : steps ≡ flush ∷ [] = cc in
      let first : Got q made.bytes ≡ input = cc in
      let rest : entries ≡ more = cc in
      let here : StepsLead c (with_delivery c w n q made.bytes) steps entries v = subst (λ (u : World). StepsLead c u steps entries v) (same_frames c w n q made.bytes) g in
      let moved : StepsLead c (with_delivery c w frame party made.bytes) steps entries v =
      subst (λ (p : ℕ). StepsLead c (with_delivery c w frame p made.bytes) steps entries v) to (subst (λ (i : ℕ). StepsLead c (with_delivery c w i q made.bytes) steps entries v) number here) in
      let ending : StepsLead c (with_delivery c w frame party made.bytes) (flush ∷ []) more v =
      subst (λ (xs : List Step). StepsLead c (with_delivery c w frame party made.bytes) xs more v) later (subst (λ (es : List Entry). StepsLead c (with_delivery c w frame party made.bytes) steps es v) rest moved) in
      (made, subst (λ (i : ℕ). slice_get w.frames i ≡ Some made) number s, sym first ∙ ap (λ (p : ℕ). Got p made.bytes) to, ending)
  delivery_feeds w _ _ frame party _ steps_are is = absurd cc

  abbrev DeliversNext : World → Type 0
  DeliversNext w =
      (frame : ℕ) × (party : ℕ) × (made : Made) × IsNextDelivery c w frame party made × (input ≡ Got party made.bytes) × StepsLead c (with_delivery c w frame party made.bytes) (flush ∷ []) more v

  flush_feeds : (w : World) (steps : List Step) (entries : List Entry) → StepsLead c w steps entries v → steps ≡ flush ∷ [] → entries ≡ input ∷ more → DeliversNext w
  flush_feeds w _ _ ends steps_are is = absurd cc
  flush_feeds w _ _ (gives {entries = entries} {e = e} o g) steps_are is = not_output e entries o is (DeliversNext w)
  flush_feeds w _ _ (flushes {steps = steps} {frame = frame} {party = party} p g) steps_are is =
      let x = delivery_feeds w (deliver frame party ∷ flush ∷ steps) _ frame party g (ap (λ (xs : List Step). deliver frame party ∷ flush ∷ xs) cc) is in
      let next = pending_next c w frame party p in
      let same : next.0 ≡ x.0 = some_injective next.0 x.0 (sym next.1.is_frame ∙ x.1) in
      (frame, party, x.0, subst (λ (m : Made). IsNextDelivery c w frame party m) same next.1, x.2, x.3)
  flush_feeds w _ _ (flushed {steps = steps} j p g) steps_are is = let none : steps ≡ [] = cc in absurd (none_fed w steps _ g none is)
  flush_feeds w _ _ _ steps_are is = absurd cc

pub flush_delivers_no_other : FlushDeliversNoOther
flush_delivers_no_other c w v input entries fed g = flush_feeds c v input entries fed w (flush ∷ []) (input ∷ entries) g refl refl
