-- The definitions accept a replica that joins the view changes of two others in the beginning.
use Rattle.std.proofs.Common.{◌≡◌, ◌≢◌, ℕ, zero, suc, ◌≤◌, ◌<◌, max, inl, inr, Bool, true, false, IsTrue, not, cond, ◌&&◌, ◌||◌, eqb-true, eq-eqb, List, [], ◌∷◌, refl, sym, ap, ◌∙◌, subst, arith, Option, Some, None}
use Rattle.std.specs.Prelude.{◌==◌, nat_lt, option_and_then, All}
use Rattle.std.specs.Option.{option_map_or}
use Rattle.std.proofs.lemmas.Bool.{and_parts, le-leb, leb-true, ltb-true, ne_eqb}
use Rattle.quorum.specs.Quorum.{count_below}
use Rattle.quorum.proofs.Counting.{count_mono, count_with}
use Rattle.std.specs.Bool.{then_some}
use Rattle.wire_format.specs.Messages.{BodyData as Body, FrameData as Frame, AuthenticatorData as Authenticator, ViewChangeData, NewViewData, macs, signature, pre_prepare as PrePrepare, view_change as ViewChange}
use Rattle.wire_format.specs.Spelling.{body_spelling}
use Rattle.wire_format.proofs.Saying.{reads_frames}
use Rattle.authenticator.specs.Authentic.{mac_of}
use Rattle.authenticator.specs.Membership.{has_sender}
use Rattle.signing.specs.Publics.{public_of}
use Rattle.signing.specs.AuthenticBody.{signs, has_signature, authentic, signed_body}
use Rattle.signing.proofs.AuthenticBody.{signed_was_signed}
use Rattle.protocol.specs.System.Configuration.{Configuration, primary, members, signers}
use Rattle.wire_format.specs.Words.{frame_of, said}
use Rattle.protocol.specs.System.Frames.{IsSealed}
use Rattle.protocol.specs.System.Trace.{Entry, Has}
use Rattle.protocol.specs.System.Trace.Entry.{Got, Sent}
use Rattle.protocol.specs.Replica.Selection.{is_within, change_in}
use Rattle.protocol.specs.Replica.Certificates.{view, target, change_from, change_taken, latest_change, taken, is_later, new_view_from, checkpoint_from, checkpoints_of, logged, Prepared}
use Rattle.protocol.specs.Replica.RightReplica.{first_point, IsPreparedList, IsPrePreparedList, IsNewViewChange, IsAddressed, SentBefore, Executes, MaySend, IsStep, sought_view, is_ahead, JoinsOthers}
use Rattle.protocol.specs.Replica.Owed.{Owes, HasToMove, IsReplica, NumbersOnce}
use Rattle.evidence.specs.Examples.{four}
use Rattle.evidence.specs.ExamplesOfChanges.{beginning_change, ChangesInBeginning, ViewChangesAreJoined}
use Rattle.evidence.proofs.FirstBatch.{Still, still}
use Rattle.evidence.proofs.Knowing.{signed_is_heard}
use Rattle.protocol.proofs.Words.Linking.{signed_said}
use Rattle.protocol.proofs.Words.Moving.{no_time}
use Rattle.protocol.proofs.Words.Options.{some_injective}
use Rattle.evidence.proofs.JoiningChangesOwing.{IsOfChange, Due, owes, none_logged, same_checkpoints, logs_nothing, moves_nothing}
use Rattle.protocol.proofs.Words.Plain.{Plain, low_same, taken_none}
use Rattle.protocol.proofs.Agreement.Checkpoints.{no_checkpoints}

-- ---- a signed frame is sealed, and for all

-- the condition on one authenticator of a sealed frame
abbrev pub IsSealedBy : Configuration → Frame → Authenticator → Type 0
IsSealedBy c frame (macs entries) = All (λ x. x.mac ≡ mac_of (members c frame.body.sender).keys x.receiver frame.body) entries
IsSealedBy c frame (signature s) = has_signature c.publics frame ≡ true

pub signed_is_sealed : (c : Configuration) (me : ℕ) (past : List Entry) (bytes : List ℕ) (body : Body) (frame : Frame) → signed_body (signers c) bytes ≡ Some body → frame_of bytes ≡ Some frame
    → IsSealed c frame × IsAddressed c me past body.message frame.authenticator
signed_is_sealed c me past bytes body frame h is = let r = by frame.authenticator own in (r.0, r.1)
  where
    own : has_signature c.publics frame ≡ true
    own =
        let signed = signed_was_signed (signers c) bytes body h in
        let same : signed.frame ≡ frame = some_injective signed.frame frame (sym ((reads_frames bytes signed.frame).1 signed.spelled) ∙ is) in
        subst (λ (f : Frame). has_signature c.publics f ≡ true) same signed.signed

    by : (authenticator : Authenticator) → signs (public_of c.publics frame.body.sender) (body_spelling frame.body) authenticator ≡ true → IsSealedBy c frame authenticator × IsAddressed c me past body.message authenticator
    by (macs entries) h = absurd cc
    by (signature s) h = (own, tt)

-- ---- what passes for one alone is counted once

count_only : (p : ℕ → Bool) (a n : ℕ) → ((k : ℕ) → p k ≡ true → k ≡ a) → (count_below p n ≤ 1) × (n ≤ a → count_below p n ≡ 0)
count_only p a zero only = (omega arith, λ l. refl)
count_only p a (suc n) only = go (p n) refl (count_only p a n only)
  where
    go : (b : Bool) → p n ≡ b → (count_below p n ≤ 1) × (n ≤ a → count_below p n ≡ 0) → (cond b (suc (count_below p n)) (count_below p n) ≤ 1) × (suc n ≤ a → cond b (suc (count_below p n)) (count_below p n) ≡ 0)
    go true is rest =
        let here : n ≡ a = only n is in
        (omega (arith, rest.1 (omega (arith, here))), λ l. absurd (omega (arith, here, l)))
    go false is rest = (rest.0, λ l. rest.1 (omega (arith, l)))

-- ---- the history

module _ (clients : ℕ) (seed : List ℕ) (me one other : ℕ) (first second own : List ℕ) where
  abbrev c : Configuration
  c = four clients seed

  abbrev pub changing : ℕ → Body
  changing s = record { sender = s; message = ViewChange beginning_change }

  abbrev h1 : List Entry
  h1 = Got me first ∷ []

  abbrev h2 : List Entry
  h2 = Got me second ∷ h1

  abbrev now : List Entry
  now = Sent me own ∷ h2

  module _ (differ : one ≢ other) (first_other : one ≢ me) (second_other : other ≢ me) (x : ChangesInBeginning c one first) (y : ChangesInBeginning c other second) (z : ChangesInBeginning c me own) where
    pub receives : (s : ℕ) (bytes : List ℕ) → s ≢ me → ChangesInBeginning c s bytes → authentic (members c me) me bytes ≡ Some (changing s)
    receives s bytes other is = signed_is_heard c me bytes (changing s) is other

    pub says : said own ≡ Some (changing me)
    says = signed_said c own (changing me) z

    -- a view change that the replica receives changes neither view nor low mark
    plain : (past : List Entry) (s : ℕ) (bytes : List ℕ) → s ≢ me → ChangesInBeginning c s bytes → Plain c past (Got me bytes)
    plain past s bytes other is = record {
      view = ap (option_and_then (new_view_from c)) (receives s bytes other is);
      change = refl;
      checkpoint = ap (option_and_then checkpoint_from) (receives s bytes other is);
      installed = refl;
    }

    pub still1 : Still c me h1
    still1 = still c me h1 (plain [] one first first_other x, tt)

    pub still2 : Still c me h2
    still2 = still c me h2 (plain h1 other second second_other y, (plain [] one first first_other x, tt))

    -- ---- nothing is logged

    logs1 : (v i : ℕ) → logged c me h1 v i ≡ None
    logs1 v i = logs_nothing c me [] (Got me first) (changing one) (receives one first first_other x) tt (taken_none c [] (Got me first) (plain [] one first first_other x)) v i ∙ none_logged c me v i

    logs2 : (v i : ℕ) → logged c me h2 v i ≡ None
    logs2 v i = logs_nothing c me h1 (Got me second) (changing other) (receives other second second_other y) tt (taken_none c h1 (Got me second) (plain h1 other second second_other y)) v i ∙ logs1 v i

    pub takes_own : taken c h2 (Sent me own) ≡ None
    takes_own = ap (option_and_then (λ (new : NewViewData). then_some (is_later (view c h2) (target h2) new) new)) (ap (option_and_then (new_view_from c)) says)

    pub logs3 : (v i : ℕ) → logged c me now v i ≡ None
    logs3 v i = logs_nothing c me h2 (Sent me own) (changing me) says tt takes_own v i ∙ logs2 v i

    unprepared : (past : List Entry) → ((v i : ℕ) → logged c me past v i ≡ None) → (v i : ℕ) (batch : List ℕ) → Prepared c me past v i batch → ⊥
    unprepared past none v i batch p = absurd (let bad : None ≡ Some batch = sym (none v i) ∙ p.logged in cc)

    checks1 : (s : ℕ) → checkpoints_of c h1 s ≡ []
    checks1 s = same_checkpoints c [] (Got me first) (changing one) (receives one first first_other x) tt s ∙ no_checkpoints c s

    checks2 : (s : ℕ) → checkpoints_of c h2 s ≡ []
    checks2 s = same_checkpoints c h1 (Got me second) (changing other) (receives other second second_other y) tt s ∙ checks1 s

    pub checks3 : (s : ℕ) → checkpoints_of c now s ≡ []
    checks3 s = same_checkpoints c h2 (Sent me own) (changing me) says tt s ∙ checks2 s

    -- ---- the second view change counts

    not_of_other : (v : ℕ) → change_taken c v other first ≡ 0
    not_of_other v =
        ap (λ (o : Option (ℕ × ViewChangeData)). option_map_or (λ (p : ℕ × ViewChangeData). cond ((p.0 == other) && nat_lt v p.1.view && is_within c p.1) p.1.view 0) o 0) (ap (option_and_then change_in) x)
        ∙ ap (λ (b : Bool). cond (b && nat_lt v 1 && is_within c beginning_change) 1 0) (ne_eqb one other differ)

    pub latest : latest_change c h1 other ≡ 0
    latest = ap (max 0) (not_of_other (view c []))

    pub counts : (view c h1 < 1) × (is_within c beginning_change ≡ true) × (latest_change c h1 other < 1)
    counts = (subst (λ (n : ℕ). n < 1) (sym still1.view_is) (omega arith), refl, subst (λ (n : ℕ). n < 1) (sym latest) (omega arith))

    -- ---- nothing is executed or numbered

    none_executed : (k : ℕ) → Has (λ e. Executes k [] e) (Sent me own ∷ []) → ⊥
    none_executed k (inl h) = h
    none_executed k (inr h) = h

    pub numbers_none : NumbersOnce c me h2 (Sent me own)
    numbers_none v i batch is fresh = absurd (
        subst (λ (b : Body). IsOfChange b.message) (some_injective (changing me) (record { sender = me; message = PrePrepare v i batch }) (sym says ∙ is)) tt)

    -- ---- what the replica sends

    no_batch_entries : IsPreparedList c me h2 []
    no_batch_entries = record {
      listed = λ batch_entry h. absurd h;
      all = λ v i batch marks p. absurd (unprepared h2 logs2 v i batch p);
      ascending = λ i j d less within. absurd (omega arith);
    }

    no_proposals : IsPrePreparedList c me h2 []
    no_proposals = record {
      listed = λ batch_entry h. absurd h;
      all = λ v i batch marks is. absurd (let bad : None ≡ Some batch = sym (logs2 v i) ∙ is in cc);
      differ = λ i j d less within. absurd (omega arith);
    }

    -- ---- the two others are ahead

    below : (s : ℕ) (bytes : List ℕ) → ChangesInBeginning c s bytes → s < 4
    below s bytes is =
        let signed = signed_was_signed (signers c) bytes (changing s) is in
        ltb-true s 4 (subst (λ (b : Body). IsTrue (has_sender (signers c) b)) signed.body_is signed.sender)

    taken_of : (v s r : ℕ) (bytes : List ℕ) → ChangesInBeginning c r bytes → change_taken c v s bytes ≡ cond ((r == s) && nat_lt v 1 && is_within c beginning_change) 1 0
    taken_of v s r bytes is =
        ap (λ (o : Option (ℕ × ViewChangeData)). option_map_or (λ (p : ℕ × ViewChangeData). cond ((p.0 == s) && nat_lt v p.1.view && is_within c p.1) p.1.view 0) o 0) (ap (option_and_then change_in) is)

    one_or_none : (b : Bool) → cond b 1 0 ≤ 1
    one_or_none true = omega arith
    one_or_none false = omega arith

    -- theirs are for view 1, and nobody's is for a later one
    changes_of : (s : ℕ) → latest_change c h2 s ≡ max (max 0 (change_taken c (view c []) s first)) (change_taken c (view c h1) s second)
    changes_of s = refl

    at_most_one : (s : ℕ) → latest_change c h2 s ≤ 1
    at_most_one s =
        let a = taken_of (view c []) s one first x in
        let b = taken_of (view c h1) s other second y in
        let l = one_or_none ((one == s) && nat_lt (view c []) 1 && is_within c beginning_change) in
        let m = one_or_none ((other == s) && nat_lt (view c h1) 1 && is_within c beginning_change) in
        let is = changes_of s in
        omega arith

    first_view : view c [] ≡ 0
    unfolding view
    first_view = refl

    pub of_first : latest_change c h2 one ≡ 1
    of_first =
        let a : change_taken c (view c []) one first ≡ 1 = taken_of (view c []) one one first x ∙ rw (eq-eqb one one refl, first_view) refl in
        let most = at_most_one one in
        let is = changes_of one in
        omega arith

    pub of_second : latest_change c h2 other ≡ 1
    of_second =
        let b : change_taken c (view c h1) other second ≡ 1 = taken_of (view c h1) other other second y ∙ rw (eq-eqb other other refl, still1.view_is) refl in
        let most = at_most_one other in
        let is = changes_of other in
        omega arith

    sought : sought_view c h2 ≡ 0
    sought = rw (still2.view_is, still2.target_is) refl

    ahead : (s : ℕ) → s ≢ me → latest_change c h2 s ≡ 1 → is_ahead c me h2 s ≡ true
    ahead s other latest = rw (ne_eqb s me other, sought, latest) refl

    abbrev both : ℕ → Bool
    both s = (s == one) || (s == other)

    are_ahead : (s : ℕ) → s < 4 → both s ≡ true → is_ahead c me h2 s ≡ true
    are_ahead s within h = go (s == one) refl (s == other) refl h
      where
        go : (a : Bool) → (s == one) ≡ a → (b : Bool) → (s == other) ≡ b → (a || b) ≡ true → is_ahead c me h2 s ≡ true
        go true is b also h = let same : s ≡ one = eqb-true s one is in subst (λ (n : ℕ). is_ahead c me h2 n ≡ true) (sym same) (ahead one first_other of_first)
        go false is true also h = let same : s ≡ other = eqb-true s other also in subst (λ (n : ℕ). is_ahead c me h2 n ≡ true) (sym same) (ahead other second_other of_second)
        go false is false also h = absurd cc

    -- they are two
    second_alone : (s : ℕ) → s < 4 → ((s == other) || false) ≡ true → (not (s == one) && (s == other)) ≡ true
    second_alone s within h = go (s == other) refl h
      where
        go : (b : Bool) → (s == other) ≡ b → (b || false) ≡ true → (not (s == one) && b) ≡ true
        go true is h = let same : s ≡ other = eqb-true s other is in rw (ne_eqb s one (λ (again : s ≡ one). differ (sym again ∙ same))) refl
        go false is h = absurd cc

    two : 2 ≤ count_below (is_ahead c me h2) 4
    two =
        let single = count_with (λ s. false) other 4 (below other second y) in
        let alone = count_mono (λ s. (s == other) || false) (λ s. not (s == one) && (s == other)) 4 second_alone in
        let pair = count_with (λ s. s == other) one 4 (below one first x) in
        let all = count_mono both (is_ahead c me h2) 4 are_ahead in
        omega arith

    joins : JoinsOthers c me h2 1
    joins = record {
      enough = le-leb 2 (count_below (is_ahead c me h2) 4) two;
      of_one = (one, below one first x, ahead one first_other of_first, of_first);
      least = λ s within is.
          let p = and_parts (not (s == me)) (nat_lt (sought_view c h2) (latest_change c h2 s)) is in
          let above = ltb-true (sought_view c h2) (latest_change c h2 s) p.1 in
          omega arith;
    }

    -- ---- what the replica owes

    -- one alone is not enough
    only_one : (s : ℕ) → is_ahead c me h1 s ≡ true → s ≡ one
    only_one s is = go (one == s) refl
      where
        above : sought_view c h1 < latest_change c h1 s
        above = ltb-true (sought_view c h1) (latest_change c h1 s) (and_parts (not (s == me)) (nat_lt (sought_view c h1) (latest_change c h1 s)) is).1

        go : (b : Bool) → (one == s) ≡ b → s ≡ one
        go true e = sym (eqb-true one s e)
        go false e =
            let none : change_taken c (view c []) s first ≡ 0 = taken_of (view c []) s one first x ∙ ap (λ (b : Bool). cond (b && nat_lt (view c []) 1 && is_within c beginning_change) 1 0) e in
            let latest_is : latest_change c h1 s ≡ max 0 (change_taken c (view c []) s first) = refl in
            absurd (omega (arith, none, latest_is, above))

    no_reason_alone : (v : ℕ) → HasToMove c me [] (Got me first) [] v → ⊥
    no_reason_alone v (inl t) = no_time c me me [] first [] v t
    no_reason_alone v (inr (taken, joined)) =
        let few = (count_only (is_ahead c me h1) one 4 only_one).0 in
        absurd (omega (arith, leb-true 2 (count_below (is_ahead c me h1) 4) joined.enough, few))

    pub target_one : target now ≡ 1
    target_one = let was = still2.target_is in let sent : target now ≡ max 1 (target h2) = ap (λ (o : Option Body). max (option_map_or change_from o 0) (target h2)) says in omega (arith, was, sent)

    -- both move the replica to view 1, for which it has sent its view change
    pub moved : (v : ℕ) → HasToMove c me h1 (Got me second) [] v → v ≤ target now
    moved v (inl t) = absurd (no_time c me me h1 second [] v t)
    moved v (inr (taken, joined)) =
        let s = joined.of_one in
        omega (arith, s.3, at_most_one s.0, ap (λ (o : Option Body). max (option_map_or change_from o 0) (target h2)) says)

    due1 : Due c me [] first [] h1
    due1 = record {
      body = changing one;
      receives = receives one first first_other x;
      of_change = tt;
      checkpoints_are = checks1;
      low_is = still1.low_is;
      unprepared = unprepared h1 logs1;
      numbers_once = tt;
      prepares = λ v i batch none some active backup. absurd (let bad : None ≡ Some batch = sym (logs1 v i) ∙ some in cc);
      none_executed = λ k h. h;
      view_changes = λ v moves. absurd (no_reason_alone v moves);
      no_view = λ new can. let left = can.left in let sent = still1.target_is in omega (arith, left, sent);
      dropped = λ drops. refl;
    }

    due2 : me ≢ 1 → Due c me h1 second (Sent me own ∷ []) now
    due2 backup = record {
      body = changing other;
      receives = receives other second second_other y;
      of_change = tt;
      checkpoints_are = checks3;
      low_is = low_same c me h2 (Sent me own) (ap (option_and_then checkpoint_from) says) refl (ap (option_and_then (new_view_from c)) says) ∙ still2.low_is;
      unprepared = unprepared now logs3;
      numbers_once = (numbers_none, tt);
      prepares = λ v i batch none some active backup. absurd (let bad : None ≡ Some batch = sym (logs3 v i) ∙ some in cc);
      none_executed = none_executed;
      view_changes = λ v moves. moved v moves;
      no_view = λ new can. backup (sym can.primary ∙ ap (primary c) (can.view ∙ target_one));
      dropped = λ drops. absurd (drops (changing other) (receives other second second_other y) counts);
    }

    pub owes1 : Owes c me [] (Got me first) [] h1 first_point first_point
    owes1 = owes clients seed me [] first [] h1 due1

    owes2 : me ≢ 1 → Owes c me h1 (Got me second) (Sent me own ∷ []) now first_point first_point
    owes2 backup = owes clients seed me h1 second (Sent me own ∷ []) now (due2 backup)

    is_new : IsNewViewChange c me h2 first_point beginning_change
    is_new = record {
      above = subst (λ (n : ℕ). n < 1) (sym still2.view_is) (omega arith);
      newer = subst (λ (n : ℕ). n < 1) (sym still2.target_is) (omega arith);
      is_view = refl;
      low = sym still2.low_is;
      checkpoints = refl;
      prepared = no_batch_entries;
      proposed = no_proposals;
      reason = inr joins;
    }

    none_sent : (sent : List ℕ) → SentBefore sent h2 → ⊥
    none_sent sent (inl h) = h
    none_sent sent (inr (inl h)) = h
    none_sent sent (inr (inr h)) = h

    may : MaySend c me h2 first_point (Sent me own) own
    may = record {
      body = changing me;
      says = says;
      own = refl;
      seen = tt;
      allowed = inl is_new;
      is_sealed = λ frame is. signed_is_sealed c me h2 own (changing me) frame z is;
      leaf = λ leaf sent is was before. absurd (none_sent sent before);
      once = λ here. here;
    }

    pub gets1 : IsStep c me [] first_point (Got me first) first_point
    gets1 = record { own = refl; may = tt; moves = moves_nothing c me first (changing one) (receives one first first_other x) tt }

    pub gets2 : IsStep c me h1 first_point (Got me second) first_point
    gets2 = record { own = refl; may = tt; moves = moves_nothing c me second (changing other) (receives other second second_other y) tt }

    pub sends : IsStep c me h2 first_point (Sent me own) first_point
    sends = record { own = refl; may = may; moves = refl }

    is_right : me ≢ 1 → IsReplica c me now
    is_right backup = inl (first_point, (first_point, sends, (first_point, gets2, (owes2 backup, (first_point, gets1, (owes1, (refl, refl)))))))

pub view_changes_are_joined : ViewChangesAreJoined
view_changes_are_joined clients seed me one other first second own differ first_other second_other backup x y z =
    is_right clients seed me one other first second own differ first_other second_other x y z backup
