-- The history keeps the stored view changes of others.
use Rattle.std.proofs.Common.{◌≡◌, ◌≢◌, ℕ, zero, suc, ◌≤◌, ◌<◌, ◌⊎◌, inl, inr, Bool, true, false, cond, ◌&&◌, not, List, [], ◌∷◌, length, replicate, max, Option, Some, None, slice_set, refl, sym, ap, ◌∙◌, subst, arith, eqb-true, eq-eqb}
use Rattle.std.specs.Prelude.{◌==◌, nat_lt}
use Rattle.std.specs.Option.{option_map_or}
use Rattle.std.proofs.lemmas.Bool.{and_parts, eqb-false, lt-ltb, ltb-true, ltb-false}
use Rattle.wire_format.specs.Messages.{ViewChangeData}
use Rattle.protocol.specs.System.Configuration.{Configuration, is_number}
use Rattle.protocol.specs.System.Trace.{Entry, Once}
use Rattle.protocol.specs.System.Trace.Entry.{Got, Sent}
use Rattle.protocol.specs.Replica.Selection.{is_within, signed_change}
use Rattle.protocol.specs.Replica.Certificates.{view, change_taken, change_at, latest_change}
use Rattle.protocol.specs.Replica.RightReplica.{HasSeen}
use Rattle.protocol.specs.Replica.Owed.{BringsChange}
use Rattle.protocol.proofs.Words.Options.{some_injective}
use Rattle.view_change.specs.declared.change_fault.ChangeFault.{ChangeFault}
use Rattle.view_change.specs.declared.change_fault.ChangeFault.TheVariants.{WrongView, OutOfBounds, Duplicate}
use Rattle.view_change.specs.ReceivedData.{HeldData, held_of, with_held}
use Rattle.view_change.proofs.Judging.{within_view}
use Rattle.replica_histories.specs.Received.{held_view, ReceivedBegin, ReceivedStays, SentBringNone, UnsignedBringNone, RefusedBringNone, ReceivedTakes, ReceivedOwn}

-- ---- places

pub none_held : (n s : ℕ) → held_of (replicate n None) s ≡ None
none_held zero s = refl
none_held (suc n) zero = refl
none_held (suc n) (suc s) = none_held n s

pub put_there : (held : List (Option HeldData)) (i : ℕ) (o : Option HeldData) → i < length held → held_of (slice_set held i o) i ≡ o
put_there [] i o l = absurd (omega arith)
put_there (x ∷ held) zero o l = refl
put_there (x ∷ held) (suc i) o l = put_there held i o (omega arith)

pub put_elsewhere : (held : List (Option HeldData)) (i s : ℕ) (o : Option HeldData) → (s ≡ i → ⊥) → held_of (slice_set held i o) s ≡ held_of held s
put_elsewhere [] i s o d = refl
put_elsewhere (x ∷ held) zero zero o d = absurd (d refl)
put_elsewhere (x ∷ held) zero (suc s) o d = refl
put_elsewhere (x ∷ held) (suc i) zero o d = refl
put_elsewhere (x ∷ held) (suc i) (suc s) o d = put_elsewhere held i s o (λ same. d (ap suc same))

-- ---- entries that bring none

pub received_begin : ReceivedBegin
received_begin c me n = record {
  latest = λ s other. ap (λ (o : Option HeldData). option_map_or (λ (h : HeldData). h.change.view) o 0) (sym (none_held n s));
  seen = λ s h is. absurd (let bad : None ≡ Some h = sym (none_held n s) ∙ is in cc);
  placed = λ s h is. absurd (let bad : None ≡ Some h = sym (none_held n s) ∙ is in cc);
  taken = λ x other once latest. absurd once;
}

pub sent_bring_none : SentBringNone
sent_bring_none c p s bytes past = omega arith

pub unsigned_bring_none : UnsignedBringNone
unsigned_bring_none c p s bytes past none =
    let taken : change_taken c (view c past) s bytes ≡ 0 =
    ap (λ (o : Option (ℕ × ViewChangeData)). option_map_or (λ (x : ℕ × ViewChangeData). cond ((x.0 == s) && nat_lt (view c past) x.1.view && is_within c x.1) x.1.view 0) o 0) none in
    omega arith

-- the view change that an entry brings of a replica
pub taken_is : (c : Configuration) (v s : ℕ) (bytes : List ℕ) (x : ℕ × ViewChangeData) → signed_change c bytes ≡ Some x → change_taken c v s bytes ≡ cond ((x.0 == s) && nat_lt v x.1.view && is_within c x.1) x.1.view 0
taken_is c v s bytes x signed = ap (λ (o : Option (ℕ × ViewChangeData)). option_map_or (λ (y : ℕ × ViewChangeData). cond ((y.0 == s) && nat_lt v y.1.view && is_within c y.1) y.1.view 0) o 0) signed

-- an entry brings each one that counts
pub brings_view : (c : Configuration) (x : ℕ × ViewChangeData) (past : List Entry) (e : Entry) → BringsChange c x past e → change_at c past e x.0 ≡ x.1.view
brings_view c x past (Got p bytes) h = taken_is c (view c past) x.0 bytes x h.0 ∙ rw (eq-eqb x.0 x.0 refl, lt-ltb (view c past) x.1.view h.1.0, h.1.1) refl
brings_view c x past _ h = absurd h

pub brings_newer : (c : Configuration) (x : ℕ × ViewChangeData) (past : List Entry) (e : Entry) → BringsChange c x past e → latest_change c past x.0 < x.1.view
brings_newer c x past (Got p bytes) h = h.1.2
brings_newer c x past _ h = absurd h

-- and the latest is no earlier
once_latest : (c : Configuration) (x : ℕ × ViewChangeData) (history : List Entry) → Once (BringsChange c x) history → x.1.view ≤ latest_change c history x.0
once_latest c x [] h = absurd h
once_latest c x (e ∷ past) (inl h) = let is = brings_view c x past e h in omega (arith, is)
once_latest c x (e ∷ past) (inr h) = let l = once_latest c x past h in omega (arith, l)

pub received_stays : ReceivedStays
received_stays c me past e held same f =
    record { latest = λ s other. same s other ∙ f.latest s other; seen = λ s h is. inr (f.seen s h is); placed = f.placed; taken = taken }
  where
    taken : (x : ℕ × ViewChangeData) → x.0 ≢ me → Once (BringsChange c x) (e ∷ past) → latest_change c (e ∷ past) x.0 ≡ x.1.view → (h : HeldData) × (held_of held x.0 ≡ Some h) × (h.change ≡ x.1)
    taken x other (inl b) latest = let stays = same x.0 other in let newer = brings_newer c x past e b in absurd (omega (arith, stays, newer, latest))
    taken x other (inr once) latest = f.taken x other once (sym (same x.0 other) ∙ latest)

-- the replica refuses it if one of its tests fails: the view is above, it is below 2^48, as each within the bounds is, the
-- view change is within them, and it is newer
refused_by : (a n b d : Bool) (fault : ChangeFault) → (b ≡ true → n ≡ true) → cond (not (a && n)) (Some WrongView) (cond (not b) (Some OutOfBounds) (cond (not d) (Some Duplicate) None)) ≡ Some fault
    → ((a && b) ≡ false) ⊎ (d ≡ false)
refused_by false n b d fault number h = inl refl
refused_by true n false d fault number h = inl refl
refused_by true n true false fault number h = inr refl
refused_by true false true true fault number h = absurd (let bad = number refl in cc)
refused_by true true true true fault number h = absurd cc

-- and takes it if all three pass
taken_by : (a b d : Bool) → cond (not a) (Some WrongView) (cond (not b) (Some OutOfBounds) (cond (not d) (Some Duplicate) None)) ≡ None → (a ≡ true) × (b ≡ true) × (d ≡ true)
taken_by false b d h = absurd cc
taken_by true false d h = absurd cc
taken_by true true false h = absurd cc
taken_by true true true h = (refl, refl, refl)

-- one that is not newer than the stored one is not above it
not_newer : (held : List (Option HeldData)) (s w : ℕ) → option_map_or (λ (h : HeldData). nat_lt h.change.view w) (held_of held s) true ≡ false → w ≤ held_view held s
not_newer held s w h = go (held_of held s) h
  where
    go : (o : Option HeldData) → option_map_or (λ (x : HeldData). nat_lt x.change.view w) o true ≡ false → w ≤ option_map_or (λ (x : HeldData). x.change.view) o 0
    go None k = absurd cc
    go (Some x) k = let l = ltb-false x.change.view w k in omega arith

newer : (held : List (Option HeldData)) (s w : ℕ) → option_map_or (λ (h : HeldData). nat_lt h.change.view w) (held_of held s) true ≡ true → held_view held s ≤ w
newer held s w h = go (held_of held s) h
  where
    go : (o : Option HeldData) → option_map_or (λ (x : HeldData). nat_lt x.change.view w) o true ≡ true → option_map_or (λ (x : HeldData). x.change.view) o 0 ≤ w
    go None k = omega arith
    go (Some x) k = let l = ltb-true x.change.view w k in omega arith

-- and one that is taken is above the stored one
above_held : (held : List (Option HeldData)) (s w : ℕ) → 0 < w → option_map_or (λ (h : HeldData). nat_lt h.change.view w) (held_of held s) true ≡ true → held_view held s < w
above_held held s w some h = go (held_of held s) h
  where
    go : (o : Option HeldData) → option_map_or (λ (x : HeldData). nat_lt x.change.view w) o true ≡ true → option_map_or (λ (x : HeldData). x.change.view) o 0 < w
    go None k = some
    go (Some x) k = ltb-true x.change.view w k

pub refused_bring_none : RefusedBringNone
refused_bring_none c me s bytes past held x fault signed refused other f =
    let is = taken_is c (view c past) s bytes x signed in
    let least = go (x.0 == s) refl in
    omega arith
  where
    by : ((nat_lt (view c past) x.1.view && is_within c x.1) ≡ false) ⊎ (option_map_or (λ (h : HeldData). nat_lt h.change.view x.1.view) (held_of held x.0) true ≡ false)
    by = refused_by (nat_lt (view c past) x.1.view) (is_number x.1.view) (is_within c x.1) (option_map_or (λ (h : HeldData). nat_lt h.change.view x.1.view) (held_of held x.0) true) fault (within_view c x.1) refused

    none : (a b : Bool) → (a && b) ≡ false → cond (a && b) x.1.view 0 ≡ 0
    none a b h = rw h refl

    at_most : x.0 ≡ s → ((nat_lt (view c past) x.1.view && is_within c x.1) ≡ false) ⊎ (option_map_or (λ (h : HeldData). nat_lt h.change.view x.1.view) (held_of held x.0) true ≡ false)
        → cond (nat_lt (view c past) x.1.view && is_within c x.1) x.1.view 0 ≤ latest_change c past s
    at_most same (inl h) = let z = none (nat_lt (view c past) x.1.view) (is_within c x.1) h in omega arith
    at_most same (inr h) =
        let l = not_newer held x.0 x.1.view h in
        let is : held_view held x.0 ≡ latest_change c past s = ap (held_view held) same ∙ sym (f.latest s other) in
        pick (nat_lt (view c past) x.1.view && is_within c x.1) (omega arith)
      where
        pick : (b : Bool) → x.1.view ≤ latest_change c past s → cond b x.1.view 0 ≤ latest_change c past s
        pick true l = l
        pick false l = omega arith

    go : (b : Bool) → (x.0 == s) ≡ b → cond ((x.0 == s) && nat_lt (view c past) x.1.view && is_within c x.1) x.1.view 0 ≤ latest_change c past s
    go false e = rw e (omega arith)
    go true e = rw e (at_most (eqb-true x.0 s e) by)

-- ---- one that is taken

pub received_takes : ReceivedTakes
received_takes c me s bytes past held vc signed taken l f = record { latest = latest; seen = seen; placed = placed; taken = came }
  where
    h : HeldData
    h = record { sender = s; change = vc; frame = bytes }

    tests : (nat_lt (view c past) vc.view ≡ true) × (is_within c vc ≡ true) × (option_map_or (λ (x : HeldData). nat_lt x.change.view vc.view) (held_of held s) true ≡ true)
    tests =
        let passed = taken_by (nat_lt (view c past) vc.view && is_number vc.view) (is_within c vc) (option_map_or (λ (x : HeldData). nat_lt x.change.view vc.view) (held_of held s) true) taken in
        ((and_parts (nat_lt (view c past) vc.view) (is_number vc.view) passed.0).0, passed.1, passed.2)

    latest : (r : ℕ) → r ≢ me → latest_change c (Got me bytes ∷ past) r ≡ held_view (with_held h held) r
    latest r other = go (s == r) refl
      where
        is : change_taken c (view c past) r bytes ≡ cond ((s == r) && nat_lt (view c past) vc.view && is_within c vc) vc.view 0
        is = taken_is c (view c past) r bytes (s, vc) signed

        was : latest_change c past r ≡ held_view held r
        was = f.latest r other

        go : (b : Bool) → (s == r) ≡ b → max (latest_change c past r) (change_taken c (view c past) r bytes) ≡ held_view (with_held h held) r
        go true e =
            let same : s ≡ r = eqb-true s r e in
            let brings : change_taken c (view c past) r bytes ≡ vc.view = is ∙ rw (e, tests.0, tests.1) refl in
            let most : held_view held r ≤ vc.view = subst (λ (y : ℕ). held_view held y ≤ vc.view) same (newer held s vc.view tests.2) in
            let put : held_view (with_held h held) r ≡ vc.view =
            subst (λ (y : ℕ). held_view (with_held h held) y ≡ vc.view) same (ap (λ (o : Option HeldData). option_map_or (λ (x : HeldData). x.change.view) o 0) (put_there held s (Some h) l)) in
            let w = was in
            omega arith
        go false e =
            let apart = eqb-false s r e in
            let brings : change_taken c (view c past) r bytes ≡ 0 = is ∙ rw e refl in
            let put : held_view (with_held h held) r ≡ held_view held r =
            ap (λ (o : Option HeldData). option_map_or (λ (x : HeldData). x.change.view) o 0) (put_elsewhere held s r (Some h) (λ same. apart (sym same))) in
            let w = was in
            omega arith

    seen : (r : ℕ) (x : HeldData) → held_of (with_held h held) r ≡ Some x → Once (HasSeen x.frame) (Got me bytes ∷ past)
    seen r x is = go (s == r) refl
      where
        go : (b : Bool) → (s == r) ≡ b → Once (HasSeen x.frame) (Got me bytes ∷ past)
        go true e =
            let same : s ≡ r = eqb-true s r e in
            let it : h ≡ x = some_injective h x (sym (put_there held s (Some h) l) ∙ ap (held_of (with_held h held)) same ∙ is) in
            inl (inl (ap (λ (y : HeldData). y.frame) it))
        go false e = let apart = eqb-false s r e in inr (f.seen r x (sym (put_elsewhere held s r (Some h) (λ same. apart (sym same))) ∙ is))

    placed : (r : ℕ) (x : HeldData) → held_of (with_held h held) r ≡ Some x → x.sender ≡ r
    placed r x is = go (s == r) refl
      where
        go : (b : Bool) → (s == r) ≡ b → x.sender ≡ r
        go true e =
            let same : s ≡ r = eqb-true s r e in
            let it : h ≡ x = some_injective h x (sym (put_there held s (Some h) l) ∙ ap (held_of (with_held h held)) same ∙ is) in
            sym (ap (λ (y : HeldData). y.sender) it) ∙ same
        go false e = let apart = eqb-false s r e in f.placed r x (sym (put_elsewhere held s r (Some h) (λ same. apart (sym same))) ∙ is)

    came : (x : ℕ × ViewChangeData) → x.0 ≢ me → Once (BringsChange c x) (Got me bytes ∷ past) → latest_change c (Got me bytes ∷ past) x.0 ≡ x.1.view
        → (k : HeldData) × (held_of (with_held h held) x.0 ≡ Some k) × (k.change ≡ x.1)
    came x other (inl b) is_latest =
        let same : ◌≡◌ {A = ℕ × ViewChangeData} (s, vc) x = some_injective (s, vc) x (sym signed ∙ b.0) in
        (h, ap (held_of (with_held h held)) (sym (ap (λ (y : ℕ × ViewChangeData). y.0) same)) ∙ put_there held s (Some h) l, ap (λ (y : ℕ × ViewChangeData). y.1) same)
    came x other (inr once) is_latest = go (s == x.0) refl
      where
        brought : change_taken c (view c past) x.0 bytes ≡ cond ((s == x.0) && nat_lt (view c past) vc.view && is_within c vc) vc.view 0
        brought = taken_is c (view c past) x.0 bytes (s, vc) signed

        go : (b : Bool) → (s == x.0) ≡ b → (k : HeldData) × (held_of (with_held h held) x.0 ≡ Some k) × (k.change ≡ x.1)
        go true e =
            let same : s ≡ x.0 = eqb-true s x.0 e in
            let brings : change_taken c (view c past) x.0 bytes ≡ vc.view = brought ∙ rw (e, tests.0, tests.1) refl in
            let later = ltb-true (view c past) vc.view tests.0 in
            let above : held_view held x.0 < vc.view = subst (λ (y : ℕ). held_view held y < vc.view) same (above_held held s vc.view (omega (arith, later)) tests.2) in
            let was = f.latest x.0 other in
            let least = once_latest c x past once in
            absurd (omega (arith, brings, above, was, least, is_latest))
        go false e =
            let apart = eqb-false s x.0 e in
            let brings : change_taken c (view c past) x.0 bytes ≡ 0 = brought ∙ rw e refl in
            let k = f.taken x other once (omega (arith, brings, is_latest)) in
            (k.0, put_elsewhere held s x.0 (Some h) (λ same. apart (sym same)) ∙ k.1, k.2)

pub received_own : ReceivedOwn
received_own c me past held h own l f = record { latest = latest; seen = seen; placed = placed; taken = came }
  where
    latest : (r : ℕ) → r ≢ me → latest_change c (Sent me h.frame ∷ past) r ≡ held_view (with_held h held) r
    latest r other =
        let was = f.latest r other in
        let put : held_view (with_held h held) r ≡ held_view held r =
        ap (λ (o : Option HeldData). option_map_or (λ (x : HeldData). x.change.view) o 0) (put_elsewhere held h.sender r (Some h) (λ same. other (same ∙ own))) in
        omega arith

    seen : (r : ℕ) (x : HeldData) → held_of (with_held h held) r ≡ Some x → Once (HasSeen x.frame) (Sent me h.frame ∷ past)
    seen r x is = go (h.sender == r) refl
      where
        go : (b : Bool) → (h.sender == r) ≡ b → Once (HasSeen x.frame) (Sent me h.frame ∷ past)
        go true e =
            let same : h.sender ≡ r = eqb-true h.sender r e in
            let it : h ≡ x = some_injective h x (sym (put_there held h.sender (Some h) (subst (λ (y : ℕ). y < length held) (sym own) l)) ∙ ap (held_of (with_held h held)) same ∙ is) in
            inl (inl (ap (λ (y : HeldData). y.frame) it))
        go false e = let apart = eqb-false h.sender r e in inr (f.seen r x (sym (put_elsewhere held h.sender r (Some h) (λ same. apart (sym same))) ∙ is))

    placed : (r : ℕ) (x : HeldData) → held_of (with_held h held) r ≡ Some x → x.sender ≡ r
    placed r x is = go (h.sender == r) refl
      where
        go : (b : Bool) → (h.sender == r) ≡ b → x.sender ≡ r
        go true e =
            let same : h.sender ≡ r = eqb-true h.sender r e in
            let it : h ≡ x = some_injective h x (sym (put_there held h.sender (Some h) (subst (λ (y : ℕ). y < length held) (sym own) l)) ∙ ap (held_of (with_held h held)) same ∙ is) in
            sym (ap (λ (y : HeldData). y.sender) it) ∙ same
        go false e = let apart = eqb-false h.sender r e in f.placed r x (sym (put_elsewhere held h.sender r (Some h) (λ same. apart (sym same))) ∙ is)

    came : (x : ℕ × ViewChangeData) → x.0 ≢ me → Once (BringsChange c x) (Sent me h.frame ∷ past) → latest_change c (Sent me h.frame ∷ past) x.0 ≡ x.1.view
        → (k : HeldData) × (held_of (with_held h held) x.0 ≡ Some k) × (k.change ≡ x.1)
    came x other (inl b) is_latest = absurd b
    came x other (inr once) is_latest =
        let k = f.taken x other once (omega (arith, is_latest)) in (k.0, put_elsewhere held h.sender x.0 (Some h) (λ same. other (same ∙ own)) ∙ k.1, k.2)
