-- Only the checkpoint that an entry brings makes a quorum grow, and each quorum above the executed number is fetched.
use Rattle.std.proofs.Common.{◌≡◌, ℕ, zero, suc, ◌+◌, ◌*◌, ◌≤◌, ◌<◌, ◌⊎◌, inl, inr, Bool, true, false, cond, ◌||◌, List, [], ◌∷◌, ◌++◌, take, filter, refl, sym, ap, ◌∙◌, subst, arith, Option, Some, None, eqb-true}
use Rattle.std.specs.Prelude.{◌==◌, nat_lt, bytes_eq, option_and_then}
use Rattle.std.specs.Bool.{then_some}
use Rattle.std.specs.List.{list_any}
use Rattle.std.specs.Option.{option_map_or}
use Rattle.std.proofs.lemmas.Bool.{and_parts, ltb-false, leb-true, le-leb, or_left, or_right, or_cases}
use Rattle.std.proofs.lemmas.Slice.Eq.{bytes_eq-Decides}
use Rattle.quorum.proofs.Counting.{count_same, count_mono}
use Rattle.terms.specs.declared.state.Level.TheVariants as levels
use Rattle.wire_format.specs.Messages.{BodyData as Body, MessageData as Message, CheckpointEntryData as CheckpointEntry, checkpoint as Checkpoint, fetch as Fetch}
use Rattle.wire_format.specs.Words.{said}
use Rattle.protocol.specs.System.Configuration.{Configuration, replicas, is_number}
use Rattle.protocol.specs.System.Trace.{Entry, Has}
use Rattle.protocol.specs.System.Trace.Entry.{Sent}
use Rattle.protocol.specs.Replica.Selection.{is_quorum}
use Rattle.protocol.specs.Replica.Certificates.{checkpoint_from, checkpoint_in, insert_checkpoint, with_checkpoint, checkpoints_of, lists_checkpoint, count_checkpoints, taken}
use Rattle.protocol.specs.Replica.Transfers.{fetch_sent, fetching}
use Rattle.protocol.specs.Replica.Owed.{IsSending, SendsMessage, StartsAhead, has_number}
use Rattle.protocol.proofs.Agreement.Checkpoints.{known_checkpoint}
use Rattle.protocol.proofs.Words.Options.{then_some_gives}
use Rattle.protocol.proofs.Words.Elements.{has_of_any}
use Rattle.protocol.proofs.Agreement.States.{is_checkpoint}
use Rattle.replica_histories.specs.Events.{after_outputs, IsOnItsWay}
use Rattle.replica_histories.specs.Transfers.{HasQuorum}
use Rattle.replica_histories.specs.TransfersQuorums.{BringsRoot, IsToFetch, QuorumsGrow, CountsStay, UnchangedBringNone, QuorumsFirst, QuorumsStay, QuorumsBegin, QuorumsGoOn, QuorumsEnd}
use Rattle.replica_histories.proofs.Transfers.{number_of, no_quorum}

-- ---- one more checkpoint among a sender's

any_taken : {A : Type 0} (test : A → Bool) (n : ℕ) (xs : List A) → list_any test (take n xs) ≡ true → list_any test xs ≡ true
any_taken test zero xs h = absurd cc
any_taken test (suc n) [] h = absurd cc
any_taken test (suc n) (x ∷ xs) h = go (or_cases (test x) (list_any test (take n xs)) h) (any_taken test n xs)
  where
    go : (test x ≡ true) ⊎ (list_any test (take n xs) ≡ true) → (list_any test (take n xs) ≡ true → list_any test xs ≡ true) → (test x || list_any test xs) ≡ true
    go (inl k) more = or_left (test x) (list_any test xs) k
    go (inr k) more = or_right (test x) (list_any test xs) (more k)

any_inserted : (test : CheckpointEntry → Bool) (m : CheckpointEntry) (ms : List CheckpointEntry) → list_any test (insert_checkpoint m ms) ≡ true → (test m ≡ true) ⊎ (list_any test ms ≡ true)
any_inserted test m [] h = or_cases (test m) false h
any_inserted test m (x ∷ xs) h = go (x.number == m.number) (nat_lt x.number m.number) h (any_inserted test m xs)
  where
    more : (test m ≡ true) ⊎ (list_any test xs ≡ true) → (test m ≡ true) ⊎ ((test x || list_any test xs) ≡ true)
    more (inl l) = inl l
    more (inr l) = inr (or_right (test x) (list_any test xs) l)

    rest : (test x ≡ true) ⊎ (list_any test (insert_checkpoint m xs) ≡ true) → (list_any test (insert_checkpoint m xs) ≡ true → (test m ≡ true) ⊎ (list_any test xs ≡ true)) → (test m ≡ true) ⊎ ((test x || list_any test xs) ≡ true)
    rest (inl k) below = inr (or_left (test x) (list_any test xs) k)
    rest (inr k) below = more (below k)

    go : (a b : Bool) → list_any test (cond a (x ∷ xs) (cond b (m ∷ x ∷ xs) (x ∷ insert_checkpoint m xs))) ≡ true → (list_any test (insert_checkpoint m xs) ≡ true → (test m ≡ true) ⊎ (list_any test xs ≡ true))
        → (test m ≡ true) ⊎ ((test x || list_any test xs) ≡ true)
    go true b h below = inr h
    go false true h below = or_cases (test m) (test x || list_any test xs) h
    go false false h below = rest (or_cases (test x) (list_any test (insert_checkpoint m xs)) h) below

any_with : (test : CheckpointEntry → Bool) (s : ℕ) (o : Option (ℕ × CheckpointEntry)) (ms : List CheckpointEntry) → ((x : ℕ × CheckpointEntry) → o ≡ Some x → test x.1 ≡ false)
    → list_any test (with_checkpoint s o ms) ≡ true → list_any test ms ≡ true
any_with test s None ms not h = h
any_with test s (Some x) ms not h = go (x.0 == s) h
  where
    of : (test x.1 ≡ true) ⊎ (list_any test ms ≡ true) → list_any test ms ≡ true
    of (inl k) = absurd (let bad : true ≡ false = sym k ∙ not x refl in cc)
    of (inr k) = k

    go : (b : Bool) → list_any test (cond b (take 3 (insert_checkpoint x.1 ms)) ms) ≡ true → list_any test ms ≡ true
    go true h = of (any_inserted test x.1 ms (any_taken test 3 (insert_checkpoint x.1 ms) h))
    go false h = h

-- ---- quorums

-- if each sender says it no more than before
quorum_was : (c : Configuration) (past : List Entry) (e : Entry) (checkpoint : CheckpointEntry) → ((s : ℕ) → lists_checkpoint checkpoint (checkpoints_of c (e ∷ past) s) ≡ true → lists_checkpoint checkpoint (checkpoints_of c past s) ≡ true)
    → is_quorum c (count_checkpoints c (e ∷ past) checkpoint) ≡ true → is_quorum c (count_checkpoints c past checkpoint) ≡ true
quorum_was c past e checkpoint less h =
    let fewer = count_mono (λ s. lists_checkpoint checkpoint (checkpoints_of c (e ∷ past) s)) (λ s. lists_checkpoint checkpoint (checkpoints_of c past s)) (replicas c) (λ s l. less s) in
    let least = leb-true (2 * c.faults + 1) (count_checkpoints c (e ∷ past) checkpoint) h in
    le-leb (2 * c.faults + 1) (count_checkpoints c past checkpoint) (omega arith)

-- a checkpoint that says it has its number
number_said : (checkpoint : CheckpointEntry) (ms : List CheckpointEntry) → lists_checkpoint checkpoint ms ≡ true → has_number checkpoint.number ms ≡ true
number_said checkpoint [] h = absurd cc
number_said checkpoint (m ∷ ms) h = go (or_cases (is_checkpoint checkpoint m) (lists_checkpoint checkpoint ms) h) (number_said checkpoint ms)
  where
    go : (is_checkpoint checkpoint m ≡ true) ⊎ (lists_checkpoint checkpoint ms ≡ true) → (lists_checkpoint checkpoint ms ≡ true → has_number checkpoint.number ms ≡ true) → ((m.number == checkpoint.number) || has_number checkpoint.number ms) ≡ true
    go (inl k) more = or_left (m.number == checkpoint.number) (has_number checkpoint.number ms) (and_parts (m.number == checkpoint.number) (bytes_eq m.digest checkpoint.digest) k).0
    go (inr k) more = or_right (m.number == checkpoint.number) (has_number checkpoint.number ms) (more k)

module _ (c : Configuration) (past : List Entry) (e : Entry) (k : ℕ) (root : List ℕ) (h : HasQuorum c (e ∷ past) k root) where
  checkpoint : CheckpointEntry
  checkpoint = record { number = k; digest = root }

  abbrev Less : ℕ → Type 0
  Less s = lists_checkpoint checkpoint (checkpoints_of c (e ∷ past) s) ≡ true → lists_checkpoint checkpoint (checkpoints_of c past s) ≡ true

  -- another checkpoint makes no quorum of this one
  others : ((x : ℕ × CheckpointEntry) → checkpoint_in c e ≡ Some x → is_checkpoint checkpoint x.1 ≡ false) → (s : ℕ) → Less s
  unfolding checkpoints_of checkpoint
  others not s t = any_with (is_checkpoint checkpoint) s (checkpoint_in c e) (checkpoints_of c past s) not t

  -- nor does one that leaves its sender's checkpoints
  unmoved : (sender : ℕ) → checkpoint_in c e ≡ Some (sender, checkpoint) → Less sender → (s : ℕ) → Less s
  unfolding checkpoints_of
  unmoved sender is own s = go (sender == s) refl
    where
      with_it : checkpoints_of c (e ∷ past) s ≡ cond (sender == s) (take 3 (insert_checkpoint checkpoint (checkpoints_of c past s))) (checkpoints_of c past s)
      with_it = ap (λ (o : Option (ℕ × CheckpointEntry)). with_checkpoint s o (checkpoints_of c past s)) is

      go : (b : Bool) → (sender == s) ≡ b → Less s
      go true same = subst Less (eqb-true sender s same) own
      go false other = λ t. sym (ap (lists_checkpoint checkpoint) (with_it ∙ ap (λ (b : Bool). cond b (take 3 (insert_checkpoint checkpoint (checkpoints_of c past s))) (checkpoints_of c past s)) other)) ∙ t

  -- so it counts
  grows : HasQuorum c past k root ⊎ BringsRoot c past e k root
  unfolding checkpoint
  grows = go (checkpoint_in c e) refl
    where
      was : ((s : ℕ) → Less s) → HasQuorum c past k root
      was less = quorum_was c past e checkpoint less h

      counts : (sender : ℕ) → checkpoint_in c e ≡ Some (sender, checkpoint) → (first kept : Bool) → has_number k (checkpoints_of c past sender) ≡ first → has_number k (checkpoints_of c (e ∷ past) sender) ≡ kept
          → HasQuorum c past k root ⊎ BringsRoot c past e k root
      counts sender is true kept f g =
          let same = known_checkpoint c sender checkpoint e past is (has_of_any (λ (m : CheckpointEntry). m.number ≡ k) (λ m. m.number == k) (λ m t. eqb-true m.number k t) (checkpoints_of c past sender) f) in
          inl (was (unmoved sender is (λ t. sym (ap (lists_checkpoint checkpoint) same) ∙ t)))
      counts sender is false false f g = inl (was (unmoved sender is (λ t. absurd (let bad : false ≡ true = sym g ∙ number_said checkpoint (checkpoints_of c (e ∷ past) sender) t in cc))))
      counts sender is false true f g = inr (record { sender = sender; brings = is; first = f; kept = g })

      at : (s : ℕ) (m : CheckpointEntry) → checkpoint_in c e ≡ Some (s, m) → (b : Bool) → is_checkpoint checkpoint m ≡ b → HasQuorum c past k root ⊎ BringsRoot c past e k root
      at s m is true same =
          let p = and_parts (m.number == k) (bytes_eq m.digest root) same in
          let number_is : m.number ≡ k = eqb-true m.number k p.0 in
          let digest_is : m.digest ≡ root = (bytes_eq-Decides m.digest root).0 p.1 in
          let there : checkpoint_in c e ≡ Some (s, checkpoint) =
          is ∙ ap (λ (x : ℕ). Some (s, (let y : CheckpointEntry = record { number = x; digest = m.digest } in y))) number_is ∙ ap (λ (x : List ℕ). Some (s, (let y : CheckpointEntry = record { number = k; digest = x } in y))) digest_is in
          counts s there (has_number k (checkpoints_of c past s)) (has_number k (checkpoints_of c (e ∷ past) s)) refl refl
      at s m is false same = inl (was (others (λ x there. other x (sym is ∙ there))))
        where
          other : (x : ℕ × CheckpointEntry) → Some (s, m) ≡ Some x → is_checkpoint checkpoint x.1 ≡ false
          other x e = ap (λ (o : Option (ℕ × CheckpointEntry)). option_map_or (λ (y : ℕ × CheckpointEntry). is_checkpoint checkpoint y.1) o false) (sym e) ∙ same

      go : (o : Option (ℕ × CheckpointEntry)) → checkpoint_in c e ≡ o → HasQuorum c past k root ⊎ BringsRoot c past e k root
      go None is = inl (was (others (λ x there. absurd (let bad : None ≡ Some x = sym is ∙ there in cc))))
      go (Some x) is = at x.0 x.1 is (is_checkpoint checkpoint x.1) refl

pub quorums_grow : QuorumsGrow
quorums_grow c past e k root h = grows c past e k root h

pub counts_stay : CountsStay
unfolding checkpoints_of
counts_stay c past e checkpoint none =
    count_same (λ s. lists_checkpoint checkpoint (checkpoints_of c (e ∷ past) s)) (λ s. lists_checkpoint checkpoint (checkpoints_of c past s))
    (λ s. ap (λ (o : Option (ℕ × CheckpointEntry)). lists_checkpoint checkpoint (with_checkpoint s o (checkpoints_of c past s))) none) (replicas c)

any_filtered : (test f : CheckpointEntry → Bool) → ((m : CheckpointEntry) → test m ≡ true → f m ≡ true) → (ms : List CheckpointEntry) → list_any test (filter f ms) ≡ list_any test ms
any_filtered test f passes [] = refl
any_filtered test f passes (m ∷ ms) = go (f m) refl (test m) refl (any_filtered test f passes ms)
  where
    go : (b : Bool) → f m ≡ b → (t : Bool) → test m ≡ t → list_any test (filter f ms) ≡ list_any test ms → list_any test (cond b (m ∷ filter f ms) (filter f ms)) ≡ (test m || list_any test ms)
    go true e t is below = ap (λ (x : Bool). test m || x) below
    go false e true is below = absurd (let bad : false ≡ true = sym e ∙ passes m is in cc)
    go false e false is below = rw is below

pub unchanged_bring_none : UnchangedBringNone
unchanged_bring_none c mark past e k root same b = go (nat_lt mark k) refl
  where
    numbered : (ms : List CheckpointEntry) → nat_lt mark k ≡ true → list_any (λ (m : CheckpointEntry). m.number == k) (filter (λ (m : CheckpointEntry). nat_lt mark m.number) ms) ≡ has_number k ms
    numbered ms over = any_filtered (λ m. m.number == k) (λ m. nat_lt mark m.number) (λ m is. ap (nat_lt mark) (eqb-true m.number k is) ∙ over) ms

    go : (t : Bool) → nat_lt mark k ≡ t → k ≤ mark
    go true over =
        let bad : false ≡ true =
        sym b.first ∙ sym (numbered (checkpoints_of c past b.sender) over) ∙ sym (ap (list_any (λ (m : CheckpointEntry). m.number == k)) (same b.sender)) ∙ numbered (checkpoints_of c (e ∷ past) b.sender) over ∙ b.kept in
        absurd cc
    go false over = ltb-false mark k over

-- ---- the state of each quorum, and of each new view's start, is fetched

-- an entry that takes no new view starts none
pub none_starts : {A : Type 0} (c : Configuration) (past : List Entry) (e : Entry) (k : ℕ) → taken c past e ≡ None → StartsAhead c k past e → A
none_starts c past e k none h = absurd (let bad : None ≡ Some h.0 = sym none ∙ h.1 in cc)

pub quorums_first : QuorumsFirst
quorums_first c number k root (inl h) above = absurd (no_quorum c (record { number = k; digest = root }) h)
quorums_first c number k root (inr h) above = absurd h

pub quorums_stay : QuorumsStay
quorums_stay c number later past e grows new starts was k root h above = at h
  where
    before : IsToFetch c past k root → k ≤ fetching (e ∷ past)
    before t = let l = was k root t (omega arith) in omega arith

    go : HasQuorum c (e ∷ past) k root → HasQuorum c past k root ⊎ BringsRoot c past e k root → k ≤ fetching (e ∷ past)
    go q (inl earlier) = before (inl earlier)
    go q (inr b) = new k root b q above

    at : IsToFetch c (e ∷ past) k root → k ≤ fetching (e ∷ past)
    at (inl q) = go q (quorums_grow c past e k root q)
    at (inr (inl start)) = starts k start above
    at (inr (inr earlier)) = before (inr earlier)

pub quorums_begin : QuorumsBegin
quorums_begin c me s number due was new starts k root h above = all h
  where
    at : (k ≤ fetching s.before) ⊎ Has (λ x. x ≡ Fetch k levels.Root 0) due → (k ≤ fetching s.before) ⊎ IsOnItsWay me due [] (Fetch k levels.Root 0)
    at (inl l) = inl l
    at (inr d) = inr (inl d)

    go : HasQuorum c (s.input ∷ s.before) k root → HasQuorum c s.before k root ⊎ BringsRoot c s.before s.input k root → (k ≤ fetching s.before) ⊎ IsOnItsWay me due [] (Fetch k levels.Root 0)
    go q (inl earlier) = inl (was k root (inl earlier) above)
    go q (inr b) = at (new k root b q above)

    all : IsToFetch c (s.input ∷ s.before) k root → (k ≤ fetching s.before) ⊎ IsOnItsWay me due [] (Fetch k levels.Root 0)
    all (inl q) = go q (quorums_grow c s.before s.input k root q)
    all (inr (inl start)) = inr (inl (starts k start above))
    all (inr (inr earlier)) = inl (was k root (inr earlier) above)

pub quorums_go_on : QuorumsGoOn
quorums_go_on c me s number later due rest outputs e grows low starts paid f k root h above = all h
  where
    due_now : Has (λ x. x ≡ Fetch k levels.Root 0) rest ⊎ IsSending me (Fetch k levels.Root 0) e → IsOnItsWay me rest (e ∷ outputs) (Fetch k levels.Root 0)
    due_now (inl d) = inl d
    due_now (inr g) = inr (inl g)

    at : (k ≤ fetching s.before) ⊎ IsOnItsWay me due outputs (Fetch k levels.Root 0) → (k ≤ fetching s.before) ⊎ IsOnItsWay me rest (e ∷ outputs) (Fetch k levels.Root 0)
    at (inl l) = inl l
    at (inr (inl d)) = inr (due_now (paid (Fetch k levels.Root 0) d))
    at (inr (inr g)) = inr (inr (inr g))

    go : HasQuorum c (after_outputs s outputs) k root ⊎ BringsRoot c (after_outputs s outputs) e k root → (k ≤ fetching s.before) ⊎ IsOnItsWay me rest (e ∷ outputs) (Fetch k levels.Root 0)
    go (inl q) = at (f k root (inl q) (omega arith))
    go (inr b) = let most = low k root b in absurd (omega arith)

    all : IsToFetch c (e ∷ after_outputs s outputs) k root → (k ≤ fetching s.before) ⊎ IsOnItsWay me rest (e ∷ outputs) (Fetch k levels.Root 0)
    all (inl q) = go (quorums_grow c (after_outputs s outputs) e k root q)
    all (inr (inl start)) = inr (inl (starts k start above))
    all (inr (inr earlier)) = at (f k root (inr earlier) (omega arith))

fetching_grows : (outputs past : List Entry) → fetching past ≤ fetching (outputs ++ past)
fetching_grows [] past = omega arith
fetching_grows (e ∷ outputs) past = let l = fetching_grows outputs past in omega arith

-- the number of a fetch that the replica sends
pub says_number : (me k : ℕ) (e : Entry) → IsSending me (Fetch k levels.Root 0) e → fetch_sent e ≡ k
says_number me k (Sent p bytes) h = ap (λ (o : Option Body). option_map_or number_of o 0) h
says_number me k _ h = absurd h

given_fetched : (me k : ℕ) (outputs past : List Entry) → SendsMessage me (Fetch k levels.Root 0) outputs → k ≤ fetching (outputs ++ past)
given_fetched me k [] past h = absurd h
given_fetched me k (e ∷ outputs) past (inl h) = let is = says_number me k e h in omega arith
given_fetched me k (e ∷ outputs) past (inr h) = let l = given_fetched me k outputs past h in omega arith

pub quorums_end : QuorumsEnd
quorums_end c me s number outputs f = (λ k root h above. fetched k (f k root h above), λ k root h above fresh. given k fresh (f k root h above))
  where
    fetched : (k : ℕ) → (k ≤ fetching s.before) ⊎ IsOnItsWay me [] outputs (Fetch k levels.Root 0) → k ≤ fetching (after_outputs s outputs)
    fetched k (inl l) =
        let last : fetching s.before ≤ fetching (s.input ∷ s.before) = omega arith in
        let grows = fetching_grows outputs (s.input ∷ s.before) in
        omega arith
    fetched k (inr (inl d)) = absurd d
    fetched k (inr (inr g)) = given_fetched me k outputs (s.input ∷ s.before) g

    given : (k : ℕ) → fetching s.before < k → (k ≤ fetching s.before) ⊎ IsOnItsWay me [] outputs (Fetch k levels.Root 0) → SendsMessage me (Fetch k levels.Root 0) outputs
    given k fresh (inl l) = absurd (omega arith)
    given k fresh (inr (inl d)) = absurd d
    given k fresh (inr (inr g)) = g

-- ---- entries that bring none

-- a frame without a checkpoint brings no root
pub no_root : (c : Configuration) (past : List Entry) (bytes : List ℕ) (sender : ℕ) (message : Message) (number : ℕ) → said bytes ≡ Some (record { sender = sender; message = message })
    → checkpoint_from (record { sender = sender; message = message }) ≡ None → (k : ℕ) (root : List ℕ) → BringsRoot c past (Sent sender bytes) k root → k ≤ number
no_root c past bytes sender message number says none k root b =
    absurd (let bad : None ≡ Some (b.sender, (let x : CheckpointEntry = record { number = k; digest = root } in x)) = sym (ap (option_and_then checkpoint_from) says ∙ none) ∙ b.brings in cc)

-- a frame with a checkpoint brings its root alone
pub own_root : (c : Configuration) (past : List Entry) (bytes : List ℕ) (sender i : ℕ) (digest : List ℕ) (number : ℕ) → said bytes ≡ Some (record { sender = sender; message = Checkpoint i digest }) → i ≤ number
    → (k : ℕ) (root : List ℕ) → BringsRoot c past (Sent sender bytes) k root → k ≤ number
own_root c past bytes sender i digest number says least k root b = subst (λ (x : ℕ). x ≤ number) same least
  where
    from : then_some (is_number i) (let x : ℕ × CheckpointEntry = (sender, record { number = i; digest = digest }) in x) ≡ Some (b.sender, record { number = k; digest = root })
    from = sym (ap (option_and_then checkpoint_from) says) ∙ b.brings

    same : i ≡ k
    same = ap (λ (x : ℕ × CheckpointEntry). x.1.number) (then_some_gives {A = ℕ × CheckpointEntry} (is_number i) (sender, record { number = i; digest = digest }) (b.sender, record { number = k; digest = root }) from).1
