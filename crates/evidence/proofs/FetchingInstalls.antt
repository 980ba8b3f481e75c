-- The replica that fetched the pages of a state installs it.
use Rattle.std.proofs.Common.{◌≡◌, ℕ, suc, ◌+◌, ◌/◌, ◌≤◌, ◌<◌, ◌⊎◌, inl, inr, Bool, true, false, cond, List, [], ◌∷◌, length, refl, sym, ap, ◌∙◌, subst, arith, Option, Some, None, eqb-true}
use Rattle.std.specs.Prelude.{◌==◌, nat_lt}
use Rattle.std.proofs.lemmas.Bool.{cases_lt, false_from_ne_true}
use Rattle.quorum.specs.Votes.{or_else}
use Rattle.quorum.proofs.Counting.{count_same}
use Rattle.partition_tree.specs.Digests.{root_of as root_of_pages}
use Rattle.terms.specs.declared.order.Mode.TheVariants as modes
use Rattle.terms.specs.declared.state.Level.TheVariants as levels
use Rattle.wire_format.specs.Messages.{BodyData as Body, CheckpointEntryData as CheckpointEntry, request as Request, view_change as ViewChange, fetch as Fetch, meta as Meta, page as Page}
use Rattle.signing.specs.AuthenticBody.{authentic}
use Rattle.protocol.specs.System.Configuration.{Configuration, members}
use Rattle.protocol.specs.System.Trace.{Entry, history_of, Once, Has}
use Rattle.protocol.specs.System.Trace.Entry.{Got, Installed}
use Rattle.protocol.specs.Replica.Selection.{is_quorum}
use Rattle.protocol.specs.Replica.Certificates.{target, low, is_in_marks, logged, proposal, checkpoints_of, lists_checkpoint, count_checkpoints}
use Rattle.protocol.specs.Replica.State.{State, IsReplicatedState, opening, root_of, all_pages, page_text}
use Rattle.protocol.specs.Replica.Transfers.{in_place}
use Rattle.protocol.specs.Replica.RightReplica.{Point, first_point, Executes, IsInstalled, IsStep}
use Rattle.protocol.specs.Replica.Owed.{IsDropped, StartsAhead, TransferGoesOn, Owes, IsPromptReplica}
use Rattle.protocol.specs.Space.Linear.{reached}
use Rattle.protocol.specs.System.Run.{IsRun}
use Rattle.evidence.specs.Examples.{four}
use Rattle.evidence.specs.Listed.{state_at, texts_added}
use Rattle.evidence.specs.Fetched.{FetchFrames, AreFetchFrames, with_first, AreDifferentPages, fetching_pages, FetchedAreInstalled}
use Rattle.protocol.proofs.Words.Moving.{no_reason}
use Rattle.protocol.proofs.Words.Starts.{starts_low}
use Rattle.protocol.proofs.Words.Options.{some_injective}
use Rattle.protocol.proofs.Words.Taking.{same_all}
use Rattle.protocol.proofs.Agreement.Checkpoints.{checkpoints_with}
use Rattle.evidence.proofs.TransferringStages.{or_nothing, and_one, agreed}
use Rattle.evidence.proofs.TransferringEvents.{IsGiven, IsPartOf, gets}
use Rattle.evidence.proofs.Listing.{unders_count}
use Rattle.evidence.proofs.Fetching.{Ready, not_below, page_first, own_last, here, ready_page, all_asked, gets_own, all_own, run_alone}
use Rattle.evidence.proofs.FetchingTexts.{grows, got_grows, all_counted}

abbrev nothing : Option (List ℕ)
nothing = None

nothing_assigned : (b : Bool) → or_else (cond b nothing nothing) nothing ≡ nothing
nothing_assigned true = refl
nothing_assigned false = refl

module _ (clients : ℕ) (seed : List ℕ) (st : State) (w : FetchFrames) (n : ℕ) (small : n < 1024) (is_state : IsReplicatedState st) (number : st.number ≡ 16) (differ : AreDifferentPages (page_text st) n)
    (own : (i : ℕ) → n < i → i < 1024 → page_text st i ≡ page_text opening i) (f : AreFetchFrames (four clients seed) (page_text st) w) where
  abbrev c : Configuration
  c = four clients seed

  abbrev page : ℕ → List ℕ
  page = page_text st

  abbrev p3 : ℕ → Bool
  p3 = and_one (and_one (and_one (λ s. false) 1) 2) 3

  abbrev before : List Entry
  before = fetching_pages w n

  abbrev past : List Entry
  past = Got 0 (w.page n) ∷ before

  abbrev installs : Entry
  installs = Installed 0 16 (root_of st)

  abbrev now : List Entry
  now = installs ∷ past

  ready : Ready clients seed page w f (suc n) before (w.page n)
  ready = ready_page clients seed page w f n before small (all_asked clients seed page w f n small differ)

  -- ---- the state

  held : (i : ℕ) → i < 1024 → in_place c 0 16 past opening i ≡ page i
  held i l = here clients seed page w f (suc n) past ready.taken i ∙ go (cases_lt i (suc n))
    where
      go : (i < suc n) ⊎ (suc n ≤ i) → with_first page (suc n) i ≡ page i
      go (inl m) = page_first page (suc n) i m
      go (inr m) = own_last page (suc n) i m ∙ sym (own i (omega arith) l)

  same_root : root_of_pages (all_pages (in_place c 0 16 past opening)) ≡ root_of st
  same_root = ap root_of_pages (same_all (in_place c 0 16 past opening) page held)

  abbrev last_point : Point
  last_point = record first_point { state = st; snapshots = st ∷ opening ∷ [] }

  installed : IsInstalled c 0 past first_point 16 (root_of st) last_point
  installed = record { is_state = is_state; number = number; root_is = refl; pages = λ i l. sym (held i l); snapshots = refl; ran = refl; waiting = refl }

  step : IsStep c 0 past first_point installs last_point
  step = record { own = refl; may = (omega arith, inl (inr ready.quorum)); moves = installed }

  -- ---- what it certifies

  log_with : (v i : ℕ) → logged c 0 now v i ≡ or_else (logged c 0 past v i) (proposal c 0 past installs v i)
  unfolding logged
  log_with v i = refl

  none_logged : (v i : ℕ) (batch : List ℕ) → logged c 0 now v i ≡ Some batch → ⊥
  none_logged v i batch h =
      let none = log_with v i ∙ or_nothing (logged c 0 past v i) (proposal c 0 past installs v i) (ready.stage.logged_is v i) (nothing_assigned (is_in_marks c (low c 0 now) i)) in
      absurd (let bad : None ≡ Some batch = sym none ∙ h in cc)

  same_count : (m : CheckpointEntry) → count_checkpoints c now m ≡ count_checkpoints c past m
  same_count m =
      count_same (λ s. lists_checkpoint m (checkpoints_of c now s)) (λ s. lists_checkpoint m (checkpoints_of c past s))
      (λ s. ap (lists_checkpoint m) (checkpoints_with c installs past s)) 4

  no_newer : (k : ℕ) (digest : List ℕ) → is_quorum c (count_checkpoints c now (record { number = k; digest = digest })) ≡ true → st.number < k → ⊥
  no_newer k digest quorum above =
      let m : CheckpointEntry = record { number = k; digest = digest } in
      let is = (agreed clients seed (root_of st) past p3 ready.asked 16 ready.stage m (subst (λ (x : ℕ). is_quorum c x ≡ true) (same_count m) quorum)).0 in
      omega (arith, is, above, number)

  -- no new view starts above the state
  no_start : (k : ℕ) → Once (StartsAhead c k) now → st.number < k → ⊥
  no_start k (inl h) above = absurd (let bad : None ≡ Some h.0 = h.1 in cc)
  no_start k (inr h) above = let most = starts_low c 0 k past h in let low = ready.stage.low_is in omega (arith, most, low, above)

  -- ---- what it owes

  given_is : (other : Body) → authentic (members c 0) 0 (w.page n) ≡ Some other → IsGiven other.message
  given_is other h = subst (λ (x : Body). IsGiven x.message) (some_injective ready.body other (sym ready.receives ∙ h)) ready.given

  of_16 : (k : ℕ) (other : Body) → authentic (members c 0) 0 (w.page n) ≡ Some other → IsPartOf k other.message → 16 ≡ k
  of_16 k other h part = ready.of_16 k (subst (λ (x : Body). IsPartOf k x.message) (some_injective other ready.body (sym h ∙ ready.receives)) part)

  no_execution : (k : ℕ) → Has (λ e. Executes k [] e) (installs ∷ []) → ⊥
  no_execution k (inl h) = h
  no_execution k (inr h) = h

  abbrev GoesOn : ℕ → Type 0
  GoesOn k = TransferGoesOn c 0 past first_point (installs ∷ []) st.number k

  goes_on : (k : ℕ) → 16 ≡ k → GoesOn k
  goes_on k is =
      subst (λ (m : ℕ). GoesOn m) is (inr (root_of st, (inl (inr ready.quorum), same_root), λ can. omega (arith, number)))

  owes : Owes c 0 before (Got 0 (w.page n)) (installs ∷ []) now first_point last_point
  owes = record {
    numbers = λ v i call active is_primary waits free. absurd waits;
    numbers_once = (tt, tt);
    prepares = λ v i batch none some active backup. absurd (none_logged v i batch some);
    commits = λ v i batch none some active. absurd (none_logged v i batch some.logged);
    executes = λ v batch h. none_logged v (suc st.number) batch h.prepared.logged;
    replies = λ ran h. absurd h;
    checkpoints = λ k h multiple. absurd (no_execution k h);
    again = λ k t op kept asks there same. absurd (given_is (record { sender = 256 + k; message = Request t modes.Ordered op }) asks);
    says_again = λ r. absurd r.1;
    reads = λ s t op asks is. absurd (given_is (record { sender = s; message = Request t modes.ReadOnly op }) asks);
    fetched_digests = λ s k index level children asks state kept. absurd (given_is (record { sender = s; message = Fetch k level index }) asks);
    fetched_page = λ s k index asks state kept. absurd (given_is (record { sender = s; message = Fetch k levels.Page index }) asks);
    fetches = λ k digest quorum above later. absurd (no_newer k digest quorum above);
    goes_on_by_digests = λ s k index level digests brings awaited. goes_on k (of_16 k (record { sender = s; message = Meta k level index digests }) brings refl);
    goes_on_by_page = λ s k index text brings awaited. goes_on k (of_16 k (record { sender = s; message = Page k index text }) brings refl);
    fetches_start = λ k starts above later. absurd (no_start k starts above);
    fetches_again = λ k index level tick was above. absurd tick;
    view_changes = λ vc other moves may within says. absurd (no_reason c 0 before (w.page n) [] vc.view (λ s x asks. given_is (record { sender = s; message = ViewChange x }) asks) moves);
    new_views = λ new can. absurd (let left = can.left in let sent = ready.stage.target_is in let same : target now ≡ target past = omega arith in omega (arith, left, sent, same));
    dropped = λ other is drops. absurd (subst (λ (bytes : List ℕ). IsDropped c 0 before first_point bytes) (sym (same_bytes other is)) drops ready.body ready.receives ready.counts);
  }
    where
      same_bytes : (other : List ℕ) → Got 0 (w.page n) ≡ Got 0 other → w.page n ≡ other
      same_bytes other is = cc

  pub prompt : IsPromptReplica c 0 now
  prompt = (last_point, (first_point, step, (first_point, gets clients seed (root_of st) before (w.page n) ready.body ready.receives ready.given, (owes, ready.proceeds))))

  pub counted : length (texts_added c now now) ≡ n + n / 32 + 1094
  counted =
      let last = grows c now installs past 33 (unders_count (in_place c 0 16 (history_of 0 past) (state_at c now (reached past 0)))) in
      let got = got_grows c now (w.page n) (record { sender = 1; message = Page 16 n (page n) }) before 1 (f.gives_page n small).says refl in
      let all = all_counted clients seed page w f now n small in
      omega arith

  pub is_run : IsRun c now
  is_run = run_alone clients seed now ((refl, λ output. refl), gets_own before (w.page n) (all_own w n)) prompt

-- ---- the pages of a state

-- a state has no page after its header
none_behind : (st : State) (i : ℕ) → 512 < i → page_text st i ≡ []
unfolding page_text
none_behind st i l =
    let a : nat_lt i 256 ≡ false = not_below i 256 (omega arith) in
    let b : nat_lt i 512 ≡ false = not_below i 512 (omega arith) in
    let d : (i == 512) ≡ false = false_from_ne_true (i == 512) (λ h. let same : i ≡ 512 = eqb-true i 512 h in absurd (omega arith)) in
    rw (a, b, d) refl

pub fetched_are_installed : FetchedAreInstalled
fetched_are_installed clients seed st w is_state number differ f = (
  is_run clients seed st w 512 small is_state number differ own f,
  prompt clients seed st w 512 small is_state number differ own f,
  (let exact = counted clients seed st w 512 small is_state number differ own f in omega arith),
)
  where
    small : 512 < 1024
    small = omega arith

    own : (i : ℕ) → 512 < i → i < 1024 → page_text st i ≡ page_text opening i
    own i l m = none_behind st i l ∙ sym (none_behind opening i l)
