-- The definitions refuse other checkpoints of a sender than the first of its three greatest numbers.
use Rattle.std.proofs.Common.{◌≡◌, ◌^◌, ℕ, zero, suc, ◌≤◌, ◌<◌, ◌⊎◌, inl, inr, Bool, true, false, cond, List, [], ◌∷◌, length, take, slice_get, refl, sym, ap, ◌∙◌, subst, arith, Option, Some, None, eqb-true, eq-eqb}
use Rattle.std.specs.Prelude.{◌==◌, option_and_then}
use Rattle.std.proofs.lemmas.Bool.{ltb-true, lt-ltb}
use Rattle.std.specs.Bool.{then_some}
use Rattle.protocol.specs.System.Configuration.{Configuration, is_number}
use Rattle.wire_format.specs.Messages.{MessageData as Message, CheckpointEntryData as CheckpointEntry, checkpoint as Checkpoint}
use Rattle.protocol.specs.System.Trace.{Entry, Once, Has}
use Rattle.protocol.specs.System.Trace.Entry.{Got, Sent}
use Rattle.protocol.specs.Replica.Certificates.{brought, checkpoint_from, checkpoint_in, insert_checkpoint, with_checkpoint, checkpoints_of}
use Rattle.evidence.specs.RefusedMarks.{BringsCheckpoint, FirstCheckpointCounts, NewCheckpointCounts, CheckpointsStay, CheckpointsAreFew, CheckpointsDescend, CheckpointsWereBrought}
use Rattle.protocol.proofs.Words.Options.{and_then_some, then_some_gives}
use Rattle.protocol.proofs.Agreement.Checkpoints.{IsBelow, Descends, Order, order, inserted_same, inserted_less, inserted_more, descends_inserted, checkpoints_with, no_checkpoints, descends_of, few_checkpoints, known_checkpoint}
use Rattle.protocol.proofs.Agreement.Checkpoints.Order.{same, less, more}
use Rattle.evidence.proofs.RefusingMarksLow.{entry_of}
use Rattle.wire_format.specs.Lists.{Each}

-- ---- lists that descend

below_has : (n : ℕ) (checkpoint : CheckpointEntry) (checkpoints : List CheckpointEntry) → IsBelow n checkpoints → Has (λ x. x ≡ checkpoint) checkpoints → checkpoint.number < n
below_has n checkpoint [] h has = absurd has
below_has n checkpoint (m ∷ checkpoints) h (inl is) = subst (λ (x : CheckpointEntry). x.number < n) is h.0
below_has n checkpoint (m ∷ checkpoints) h (inr has) = below_has n checkpoint checkpoints h.1 has

-- ---- insertion of a checkpoint

-- an inserted checkpoint is in the list if the list has a place for it
is_placed : (checkpoint : CheckpointEntry) (n : ℕ) (checkpoints : List CheckpointEntry) → (Has (λ (m : CheckpointEntry). m.number ≡ checkpoint.number) checkpoints → ⊥) → length checkpoints ≤ n → (length checkpoints < n) ⊎ Has (λ (m : CheckpointEntry). m.number < checkpoint.number) checkpoints
    → Has (λ x. x ≡ checkpoint) (take n (insert_checkpoint checkpoint checkpoints))
is_placed checkpoint zero [] none few (inl l) = absurd (omega arith)
is_placed checkpoint zero [] none few (inr has) = absurd has
is_placed checkpoint (suc n) [] none few place = inl refl
is_placed checkpoint zero (m ∷ checkpoints) none few place = absurd (omega arith)
is_placed checkpoint (suc n) (m ∷ checkpoints) none few place = go (order m.number checkpoint.number) (is_placed checkpoint n checkpoints (λ has. none (inr has)) (omega arith)) place
  where
    go : Order m.number checkpoint.number → ((length checkpoints < n) ⊎ Has (λ (x : CheckpointEntry). x.number < checkpoint.number) checkpoints → Has (λ x. x ≡ checkpoint) (take n (insert_checkpoint checkpoint checkpoints)))
        → (suc (length checkpoints) < suc n) ⊎ ((m.number < checkpoint.number) ⊎ Has (λ (x : CheckpointEntry). x.number < checkpoint.number) checkpoints) → Has (λ x. x ≡ checkpoint) (take (suc n) (insert_checkpoint checkpoint (m ∷ checkpoints)))
    go (same e s) below place = absurd (none (inl s))
    go (less e f s) below place = subst (λ (xs : List CheckpointEntry). Has (λ x. x ≡ checkpoint) (take (suc n) xs)) (sym (inserted_less checkpoint m checkpoints e f)) (inl refl)
    go (more e f s) below place = subst (λ (xs : List CheckpointEntry). Has (λ x. x ≡ checkpoint) (take (suc n) xs)) (sym (inserted_more checkpoint m checkpoints e f)) (inr (further place))
      where
        further : (suc (length checkpoints) < suc n) ⊎ ((m.number < checkpoint.number) ⊎ Has (λ (x : CheckpointEntry). x.number < checkpoint.number) checkpoints) → Has (λ x. x ≡ checkpoint) (take n (insert_checkpoint checkpoint checkpoints))
        further (inl l) = below (inl (omega arith))
        further (inr (inl l)) = absurd (omega arith)
        further (inr (inr has)) = below (inr has)

stays_inserted : (checkpoint old : CheckpointEntry) (checkpoints : List CheckpointEntry) → Has (λ x. x ≡ old) checkpoints → Has (λ x. x ≡ old) (insert_checkpoint checkpoint checkpoints)
stays_inserted checkpoint old [] h = absurd h
stays_inserted checkpoint old (m ∷ checkpoints) h = go (order m.number checkpoint.number) h (stays_inserted checkpoint old checkpoints)
  where
    go : Order m.number checkpoint.number → (m ≡ old) ⊎ Has (λ x. x ≡ old) checkpoints → (Has (λ x. x ≡ old) checkpoints → Has (λ x. x ≡ old) (insert_checkpoint checkpoint checkpoints))
        → Has (λ x. x ≡ old) (insert_checkpoint checkpoint (m ∷ checkpoints))
    go (same e s) has below = subst (λ (xs : List CheckpointEntry). Has (λ x. x ≡ old) xs) (sym (inserted_same checkpoint m checkpoints e)) has
    go (less e f s) has below = subst (λ (xs : List CheckpointEntry). Has (λ x. x ≡ old) xs) (sym (inserted_less checkpoint m checkpoints e f)) (inr has)
    go (more e f s) (inl is) below = subst (λ (xs : List CheckpointEntry). Has (λ x. x ≡ old) xs) (sym (inserted_more checkpoint m checkpoints e f)) (inl is)
    go (more e f s) (inr has) below = subst (λ (xs : List CheckpointEntry). Has (λ x. x ≡ old) xs) (sym (inserted_more checkpoint m checkpoints e f)) (inr (below has))

-- in a descending list, a checkpoint outside the first k has k checkpoints above it
taken_or_passed : (k : ℕ) (old : CheckpointEntry) (checkpoints : List CheckpointEntry) → Descends checkpoints → Has (λ x. x ≡ old) checkpoints
    → Has (λ x. x ≡ old) (take k checkpoints) ⊎ ((length (take k checkpoints) ≡ k) × Each (λ (m : CheckpointEntry). old.number < m.number) (take k checkpoints))
taken_or_passed zero old [] h has = absurd has
taken_or_passed (suc k) old [] h has = absurd has
taken_or_passed zero old (m ∷ checkpoints) h has = inr (refl, tt)
taken_or_passed (suc k) old (m ∷ checkpoints) h (inl is) = inl (inl is)
taken_or_passed (suc k) old (m ∷ checkpoints) h (inr has) = go (taken_or_passed k old checkpoints h.1 has)
  where
    go : Has (λ x. x ≡ old) (take k checkpoints) ⊎ ((length (take k checkpoints) ≡ k) × Each (λ (x : CheckpointEntry). old.number < x.number) (take k checkpoints))
        → ((m ≡ old) ⊎ Has (λ x. x ≡ old) (take k checkpoints)) ⊎ ((suc (length (take k checkpoints)) ≡ suc k) × ((old.number < m.number) × Each (λ (x : CheckpointEntry). old.number < x.number) (take k checkpoints)))
    go (inl there) = inl (inr there)
    go (inr passed) = inr (ap suc passed.0, (below_has m.number old checkpoints h.0 has, passed.1))

three_of : (P : CheckpointEntry → Type 0) (checkpoints : List CheckpointEntry) → length checkpoints ≡ 3 → Each P checkpoints → (x y z : CheckpointEntry) × (checkpoints ≡ x ∷ y ∷ z ∷ []) × P z
three_of P (x ∷ y ∷ z ∷ []) l h = let below = h.1 in let last = below.1 in (x, y, z, refl, last.0)
three_of P _ l h = absurd (omega arith)

has_of_inserted : (checkpoint old : CheckpointEntry) (checkpoints : List CheckpointEntry) → Has (λ x. x ≡ old) (insert_checkpoint checkpoint checkpoints) → (checkpoint ≡ old) ⊎ Has (λ x. x ≡ old) checkpoints
has_of_inserted checkpoint old [] (inl h) = inl h
has_of_inserted checkpoint old [] (inr h) = absurd h
has_of_inserted checkpoint old (m ∷ checkpoints) h = go (order m.number checkpoint.number) (has_of_inserted checkpoint old checkpoints)
  where
    go : Order m.number checkpoint.number → (Has (λ x. x ≡ old) (insert_checkpoint checkpoint checkpoints) → (checkpoint ≡ old) ⊎ Has (λ x. x ≡ old) checkpoints) → (checkpoint ≡ old) ⊎ ((m ≡ old) ⊎ Has (λ x. x ≡ old) checkpoints)
    go (same e s) below = inr (subst (λ (xs : List CheckpointEntry). Has (λ x. x ≡ old) xs) (inserted_same checkpoint m checkpoints e) h)
    go (less e f s) below = subst (λ (xs : List CheckpointEntry). Has (λ x. x ≡ old) xs) (inserted_less checkpoint m checkpoints e f) h
    go (more e f s) below = pick (subst (λ (xs : List CheckpointEntry). Has (λ x. x ≡ old) xs) (inserted_more checkpoint m checkpoints e f) h)
      where
        deeper : (checkpoint ≡ old) ⊎ Has (λ x. x ≡ old) checkpoints → (checkpoint ≡ old) ⊎ ((m ≡ old) ⊎ Has (λ x. x ≡ old) checkpoints)
        deeper (inl is) = inl is
        deeper (inr has) = inr (inr has)

        pick : (m ≡ old) ⊎ Has (λ x. x ≡ old) (insert_checkpoint checkpoint checkpoints) → (checkpoint ≡ old) ⊎ ((m ≡ old) ⊎ Has (λ x. x ≡ old) checkpoints)
        pick (inl is) = inr (inl is)
        pick (inr has) = deeper (below has)

has_of_take : (k : ℕ) (old : CheckpointEntry) (checkpoints : List CheckpointEntry) → Has (λ x. x ≡ old) (take k checkpoints) → Has (λ x. x ≡ old) checkpoints
has_of_take zero old [] h = h
has_of_take zero old (m ∷ checkpoints) h = absurd h
has_of_take (suc k) old [] h = h
has_of_take (suc k) old (m ∷ checkpoints) (inl h) = inl h
has_of_take (suc k) old (m ∷ checkpoints) (inr h) = inr (has_of_take k old checkpoints h)

-- ---- what an entry brings

brought_message : (c : Configuration) (s k : ℕ) (root : List ℕ) (e : Entry) → BringsCheckpoint c s k root e → brought c e ≡ Some (record { sender = s; message = Checkpoint k root })
brought_message c s k root (Got p bytes) h = h
brought_message c s k root (Sent p bytes) h = h
brought_message c s k root _ h = absurd h

brings_message : (c : Configuration) (s k : ℕ) (root : List ℕ) (e : Entry) → brought c e ≡ Some (record { sender = s; message = Checkpoint k root }) → BringsCheckpoint c s k root e
brings_message c s k root (Got p bytes) h = h
brings_message c s k root (Sent p bytes) h = h
brings_message c s k root _ h = absurd cc

given : (c : Configuration) (s k : ℕ) (root : List ℕ) (e : Entry) → BringsCheckpoint c s k root e → checkpoint_in c e ≡ then_some (is_number k) (s, entry_of k root)
given c s k root e h = ap (option_and_then checkpoint_from) (brought_message c s k root e h)

-- the sender's checkpoints after an entry that brings one
behind : (c : Configuration) (s k : ℕ) (root : List ℕ) (e : Entry) (past : List Entry) (b : Bool) → BringsCheckpoint c s k root e → is_number k ≡ b
    → checkpoints_of c (e ∷ past) s ≡ cond b (take 3 (insert_checkpoint (entry_of k root) (checkpoints_of c past s))) (checkpoints_of c past s)
behind c s k root e past true h is =
    checkpoints_with c e past s ∙ ap (λ (o : Option (ℕ × CheckpointEntry)). with_checkpoint s o (checkpoints_of c past s)) (given c s k root e h ∙ ap (λ (b : Bool). then_some b (s, entry_of k root)) is)
    ∙ ap (λ (b : Bool). cond b (take 3 (insert_checkpoint (entry_of k root) (checkpoints_of c past s))) (checkpoints_of c past s)) (eq-eqb s s refl)
behind c s k root e past false h is =
    checkpoints_with c e past s ∙ ap (λ (o : Option (ℕ × CheckpointEntry)). with_checkpoint s o (checkpoints_of c past s)) (given c s k root e h ∙ ap (λ (b : Bool). then_some b (s, entry_of k root)) is)

-- a checkpoint's number and root are its message's
record Gives (c : Configuration) (s : ℕ) (checkpoint : CheckpointEntry) (e : Entry) : Type 0 where
  number : checkpoint.number < 2 ^ 48
  brings : BringsCheckpoint c s checkpoint.number checkpoint.digest e

gives : (c : Configuration) (x : ℕ × CheckpointEntry) (e : Entry) → checkpoint_in c e ≡ Some x → Gives c x.0 x.1 e
gives c x e h =
    let r = and_then_some checkpoint_from (brought c e) x h in
    by r.0.sender r.0.message r.1 r.2
  where
    by : (sender : ℕ) (message : Message) → brought c e ≡ Some (record { sender = sender; message = message }) → checkpoint_from (record { sender = sender; message = message }) ≡ Some x → Gives c x.0 x.1 e
    by sender (Checkpoint number root) is from =
        let g = then_some_gives {A = ℕ × CheckpointEntry} (is_number number) (sender, entry_of number root) x from in
        subst (λ (y : ℕ × CheckpointEntry). Gives c y.0 y.1 e) g.1 (record { number = ltb-true number (2 ^ 48) g.0; brings = brings_message c sender number root e is })
    by sender _ is from = absurd cc

-- ---- the laws

pub checkpoints_are_few : CheckpointsAreFew
checkpoints_are_few c s past = few_checkpoints c s past

pub checkpoints_descend : CheckpointsDescend
checkpoints_descend c s i j a b past before first second = go (checkpoints_of c past s) (descends_of c s past) i j before first second
  where
    below_at : (n : ℕ) (checkpoints : List CheckpointEntry) → IsBelow n checkpoints → (j : ℕ) → slice_get checkpoints j ≡ Some b → b.number < n
    below_at n [] h j get = absurd cc
    below_at n (m ∷ checkpoints) h zero get = let is : m ≡ b = cc in subst (λ (x : CheckpointEntry). x.number < n) is h.0
    below_at n (m ∷ checkpoints) h (suc j) get = below_at n checkpoints h.1 j get

    go : (checkpoints : List CheckpointEntry) → Descends checkpoints → (i j : ℕ) → i < j → slice_get checkpoints i ≡ Some a → slice_get checkpoints j ≡ Some b → b.number < a.number
    go [] h i j before first second = absurd cc
    go (m ∷ checkpoints) h i zero before first second = absurd (omega arith)
    go (m ∷ checkpoints) h zero (suc j) before first second = let is : m ≡ a = cc in subst (λ (x : CheckpointEntry). b.number < x.number) is (below_at m.number checkpoints h.0 j second)
    go (m ∷ checkpoints) h (suc i) (suc j) before first second = go checkpoints h.1 i j (omega arith) first second

pub first_checkpoint_counts : FirstCheckpointCounts
first_checkpoint_counts c s k root e past brings has = go (is_number k) refl
  where
    go : (b : Bool) → is_number k ≡ b → checkpoints_of c (e ∷ past) s ≡ checkpoints_of c past s
    go true is = known_checkpoint c s (entry_of k root) e past (given c s k root e brings ∙ ap (λ (b : Bool). then_some b (s, entry_of k root)) is) has
    go false is = behind c s k root e past false brings is

pub new_checkpoint_counts : NewCheckpointCounts
new_checkpoint_counts c s k root e past brings number none place =
    let there = is_placed (entry_of k root) 3 (checkpoints_of c past s) none (checkpoints_are_few c s past) place in
    subst (λ (xs : List CheckpointEntry). Has (λ (m : CheckpointEntry). (m.number ≡ k) × (m.digest ≡ root)) xs) (sym (behind c s k root e past true brings (lt-ltb k (2 ^ 48) number)))
    (parts (take 3 (insert_checkpoint (entry_of k root) (checkpoints_of c past s))) there)
  where
    parts : (checkpoints : List CheckpointEntry) → Has (λ x. x ≡ entry_of k root) checkpoints → Has (λ (m : CheckpointEntry). (m.number ≡ k) × (m.digest ≡ root)) checkpoints
    parts [] h = h
    parts (m ∷ checkpoints) (inl is) = inl (ap (λ (x : CheckpointEntry). x.number) is, ap (λ (x : CheckpointEntry). x.digest) is)
    parts (m ∷ checkpoints) (inr h) = inr (parts checkpoints h)

pub checkpoints_stay : CheckpointsStay
checkpoints_stay c s checkpoint e past has =
    subst (λ (xs : List CheckpointEntry). Has (λ x. x ≡ checkpoint) xs ⊎ ((x y z : CheckpointEntry) × (xs ≡ x ∷ y ∷ z ∷ []) × (checkpoint.number < z.number))) (sym (checkpoints_with c e past s)) (go (checkpoint_in c e))
  where
    passed : (checkpoints : List CheckpointEntry) → Has (λ x. x ≡ checkpoint) checkpoints ⊎ ((length checkpoints ≡ 3) × Each (λ (m : CheckpointEntry). checkpoint.number < m.number) checkpoints)
        → Has (λ x. x ≡ checkpoint) checkpoints ⊎ ((x y z : CheckpointEntry) × (checkpoints ≡ x ∷ y ∷ z ∷ []) × (checkpoint.number < z.number))
    passed checkpoints (inl h) = inl h
    passed checkpoints (inr h) = inr (three_of (λ (m : CheckpointEntry). checkpoint.number < m.number) checkpoints h.0 h.1)

    go : (o : Option (ℕ × CheckpointEntry)) → Has (λ x. x ≡ checkpoint) (with_checkpoint s o (checkpoints_of c past s)) ⊎ ((x y z : CheckpointEntry) × (with_checkpoint s o (checkpoints_of c past s) ≡ x ∷ y ∷ z ∷ []) × (checkpoint.number < z.number))
    go None = inl has
    go (Some x) = pick (x.0 == s)
      where
        checkpoints : List CheckpointEntry
        checkpoints = insert_checkpoint x.1 (checkpoints_of c past s)

        pick : (b : Bool) → Has (λ y. y ≡ checkpoint) (cond b (take 3 checkpoints) (checkpoints_of c past s)) ⊎ ((u v w : CheckpointEntry) × (cond b (take 3 checkpoints) (checkpoints_of c past s) ≡ u ∷ v ∷ w ∷ []) × (checkpoint.number < w.number))
        pick true = passed (take 3 checkpoints) (taken_or_passed 3 checkpoint checkpoints (descends_inserted x.1 (checkpoints_of c past s) (descends_of c s past)) (stays_inserted x.1 checkpoint (checkpoints_of c past s) has))
        pick false = inl has

pub checkpoints_were_brought : CheckpointsWereBrought
checkpoints_were_brought c s checkpoint [] has = absurd (subst (λ (xs : List CheckpointEntry). Has (λ x. x ≡ checkpoint) xs) (no_checkpoints c s) has)
checkpoints_were_brought c s checkpoint (e ∷ past) has = go (checkpoint_in c e) refl (subst (λ (xs : List CheckpointEntry). Has (λ x. x ≡ checkpoint) xs) (checkpoints_with c e past s) has) (checkpoints_were_brought c s checkpoint past)
  where
    go : (o : Option (ℕ × CheckpointEntry)) → checkpoint_in c e ≡ o → Has (λ x. x ≡ checkpoint) (with_checkpoint s o (checkpoints_of c past s))
        → (Has (λ x. x ≡ checkpoint) (checkpoints_of c past s) → (checkpoint.number < 2 ^ 48) × Once (λ earlier e. BringsCheckpoint c s checkpoint.number checkpoint.digest e) past)
        → (checkpoint.number < 2 ^ 48) × Once (λ earlier e. BringsCheckpoint c s checkpoint.number checkpoint.digest e) (e ∷ past)
    go None is there below = ((below there).0, inr (below there).1)
    go (Some x) is there below = pick (x.0 == s) refl there
      where
        from : x.0 ≡ s → (x.1 ≡ checkpoint) ⊎ Has (λ y. y ≡ checkpoint) (checkpoints_of c past s) → (checkpoint.number < 2 ^ 48) × Once (λ earlier e. BringsCheckpoint c s checkpoint.number checkpoint.digest e) (e ∷ past)
        from own (inl here) =
            let g = subst (λ (m : CheckpointEntry). Gives c s m e) here (subst (λ (n : ℕ). Gives c n x.1 e) own (gives c x e is)) in
            (g.number, inl g.brings)
        from own (inr was) = ((below was).0, inr (below was).1)

        pick : (b : Bool) → (x.0 == s) ≡ b → Has (λ y. y ≡ checkpoint) (cond b (take 3 (insert_checkpoint x.1 (checkpoints_of c past s))) (checkpoints_of c past s))
            → (checkpoint.number < 2 ^ 48) × Once (λ earlier e. BringsCheckpoint c s checkpoint.number checkpoint.digest e) (e ∷ past)
        pick true own k = from (eqb-true x.0 s own) (has_of_inserted x.1 checkpoint (checkpoints_of c past s) (has_of_take 3 checkpoint (insert_checkpoint x.1 (checkpoints_of c past s)) k))
        pick false own k = ((below k).0, inr (below k).1)
