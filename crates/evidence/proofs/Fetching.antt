-- The definitions accept an out-of-date replica that fetches page after page, and the replica takes each page.
use Rattle.std.proofs.Common.{◌≡◌, ◌≢◌, ℕ, zero, suc, ◌+◌, ◌*◌, ◌/◌, ◌%◌, ◌≤◌, ◌<◌, ◌⊎◌, inl, inr, Bool, true, false, cond, List, [], ◌∷◌, map, refl, sym, ap, ◌∙◌, subst, arith, Option, Some, None, slice_get, eqb-true, eq-eqb}
use Rattle.std.specs.Prelude.{◌==◌, nat_lt}
use Rattle.std.specs.Bool.{then_some}
use Rattle.std.specs.List.{range_with_len}
use Rattle.std.specs.Option.{option_map_or}
use Rattle.std.proofs.lemmas.Bool.{cases_lt, ltb-true, lt-ltb, false_from_ne_true, eqb-false}
use Rattle.sha2.specs.Sha256.{sha256}
use Rattle.partition_tree.specs.Digests.{digest_of_children, page_digests, inner_digest, inner_digests, root_of as root_of_pages}
use Rattle.protocol.specs.System.Configuration.{Configuration, is_correct_client, is_correct, members}
use Rattle.terms.specs.declared.state.Level.{Level}
use Rattle.terms.specs.declared.state.Level.TheVariants as levels
use Rattle.wire_format.specs.Messages.{BodyData as Body, CheckpointEntryData as CheckpointEntry, checkpoint as Checkpoint, fetch as Fetch, meta as Meta, page as Page}
use Rattle.signing.specs.AuthenticBody.{authentic}
use Rattle.protocol.specs.System.Trace.{Entry, party_of, history_of, Once, Always, Receives}
use Rattle.protocol.specs.System.Trace.Entry.{Got, Sent}
use Rattle.protocol.specs.Replica.State.{opening, all_pages, page_text}
use Rattle.protocol.specs.Replica.Transfers.{fetching, took, in_place, DiffersFirst}
use Rattle.protocol.specs.Replica.RightReplica.{first_point, others, HadQuorum, MayFetch}
use Rattle.protocol.specs.Replica.Owed.{has_number, Counts, HistoryIsPrompt, IsPromptReplica, IsReplica}
use Rattle.protocol.specs.Client.RightClient.{IsClient}
use Rattle.protocol.specs.System.Run.{OutputFollows, IsRun}
use Rattle.evidence.specs.Examples.{four}
use Rattle.evidence.specs.FirstOperation.{IsFrameFrom}
use Rattle.evidence.specs.Fetched.{FetchFrames, AreFetchFrames, with_first, AreDifferentPages, fetching_page, fetching_pages, FetchingIsRun, FetchedAreTaken}
use Rattle.protocol.proofs.Words.Options.{some_injective}
use Rattle.protocol.proofs.Words.Taking.{same_on_range}
use Rattle.protocol.proofs.Words.Roots.{pages_part}
use Rattle.protocol.proofs.Words.Transfers as Taken
use Rattle.evidence.proofs.Placing.{pages_same, others_take_none}
use Rattle.evidence.proofs.TransferringStages.{and_one, Stage, first_stage, stage_checkpoint, stage_meta, stage_page, stage_fetch, quorum_here}
use Rattle.evidence.proofs.TransferringEvents.{IsGiven, IsPartOf, goes_quiet, goes_on}

-- ---- on lists and tests

slice_of_range : {A : Type 0} (g : ℕ → A) (a n k : ℕ) → k < n → slice_get (map g (range_with_len a n)) k ≡ Some (g (a + k))
slice_of_range g a zero k l = absurd (omega arith)
slice_of_range g a (suc n) zero l = let e : a ≡ a + 0 = omega arith in ap (λ (i : ℕ). Some (g i)) e
slice_of_range g a (suc n) (suc k) l =
    slice_of_range g (a + 1) n k (omega arith) ∙ ap (λ (i : ℕ). Some (g i)) (omega arith)

pub not_below : (i n : ℕ) → n ≤ i → nat_lt i n ≡ false
not_below i n l = false_from_ne_true (nat_lt i n) (λ h. let m : i < n = ltb-true i n h in absurd (omega arith))

either_text : (b : Bool) (x y : List ℕ) → option_map_or (λ text. text) (then_some b x) y ≡ cond b x y
either_text true x y = refl
either_text false x y = refl

-- ---- the digests of pages

inner_at : (pages : List (List ℕ)) (j : ℕ) → j < 32 → slice_get (inner_digests pages) j ≡ Some (inner_digest pages j)
unfolding inner_digests
inner_at pages j l = let e : 0 + j ≡ j = omega arith in slice_of_range (inner_digest pages) 0 32 j l ∙ ap (λ (i : ℕ). Some (inner_digest pages i)) e

page_at : (page : ℕ → List ℕ) (j r : ℕ) → j < 32 → r < 32 → slice_get (page_digests (all_pages page) j) r ≡ Some (sha256 (page (32 * j + r)))
page_at page j r l m = ap (λ (xs : List (List ℕ)). slice_get xs r) (pages_part page j l) ∙ slice_of_range (λ i. sha256 (page i)) (32 * j) 32 r m

module _ (page : ℕ → List ℕ) where
  pub page_first : (n i : ℕ) → i < n → with_first page n i ≡ page i
  page_first n i l = ap (λ (b : Bool). cond b (page i) (page_text opening i)) (lt-ltb i n l)

  pub own_last : (n i : ℕ) → n ≤ i → with_first page n i ≡ page_text opening i
  own_last n i l = ap (λ (b : Bool). cond b (page i) (page_text opening i)) (not_below i n l)

  -- the parts whose pages all came
  part_same : (n k : ℕ) → n < 1024 → k < n / 32 → page_digests (all_pages page) k ≡ page_digests (all_pages (with_first page n)) k
  part_same n k small l =
      let m : k < 32 = omega arith in
      pages_part page k m
      ∙ same_on_range (λ i. sha256 (page i)) (λ i. sha256 (with_first page n i)) (32 * k) 32 (λ i a b. let below : i < n = omega arith in ap sha256 (sym (page_first n i below)))
      ∙ sym (pages_part (with_first page n) k m)

  -- a page differs by its digest, and its inner part too once the pages before it came
  page_differs : (n : ℕ) → AreDifferentPages page n → sha256 (page n) ≢ sha256 (page_text opening n)
  page_differs n differ e = differ.differ n (omega arith) (differ.pages_apart n (omega arith) e)

  inner_differs : (n : ℕ) → n < 1024 → AreDifferentPages page n → inner_digest (all_pages page) (n / 32) ≢ inner_digest (all_pages (with_first page n)) (n / 32)
  inner_differs n small differ e = page_differs n differ
      (some_injective (sha256 (page n)) (sha256 (page_text opening n))
      (ap (λ (i : ℕ). Some (sha256 (page i))) (sym (omega arith))
      ∙ sym (page_at page (n / 32) (n % 32) low (omega arith))
      ∙ ap (λ (ds : List (List ℕ)). slice_get ds (n % 32)) (differ.parts_apart n (omega arith) e)
      ∙ page_at (with_first page n) (n / 32) (n % 32) low (omega arith)
      ∙ ap (λ (i : ℕ). Some (sha256 (with_first page n i))) (omega arith)
      ∙ ap (λ (text : List ℕ). Some (sha256 text)) (own_last n n (omega arith))))
    where
      low : n / 32 < 32
      low = omega arith

module _ (clients : ℕ) (seed : List ℕ) (page : ℕ → List ℕ) (w : FetchFrames) (f : AreFetchFrames (four clients seed) page w) where
  abbrev c : Configuration
  c = four clients seed

  abbrev root : List ℕ
  root = root_of_pages (all_pages page)

  abbrev checkpoint : CheckpointEntry
  checkpoint = record { number = 16; digest = root }

  abbrev checkpoint_of : ℕ → Body
  checkpoint_of r = record { sender = r; message = Checkpoint 16 root }

  abbrev root_given : Body
  root_given = record { sender = 1; message = Meta 16 levels.Root 0 (inner_digests (all_pages page)) }

  abbrev inner_given : ℕ → Body
  inner_given j = record { sender = 1; message = Meta 16 levels.Inner j (page_digests (all_pages page) j) }

  abbrev page_given : ℕ → Body
  page_given i = record { sender = 1; message = Page 16 i (page i) }

  abbrev p1 : ℕ → Bool
  p1 = and_one (λ s. false) 1

  abbrev p2 : ℕ → Bool
  p2 = and_one p1 2

  abbrev p3 : ℕ → Bool
  p3 = and_one p2 3

  abbrev At : List Entry → Option (ℕ × (Level × ℕ)) → ℕ → Type 0
  At past asked k = Stage clients seed root past p3 asked k

  -- The facts after the replica asks for page n.
  pub record Asks (n : ℕ) (past : List Entry) : Type 0 where
    pub stage : At past (Some (16, (levels.Page, n))) 16
    pub proceeds : HistoryIsPrompt c 0 past [] first_point first_point
    pub quorum : HadQuorum c checkpoint past
    pub root_got : Once (Receives c 0 root_given) past
    pub inner_got : Once (Receives c 0 (inner_given (n / 32))) past
    pub taken : (next : Option ℕ) (i : ℕ) → took c 0 next past i ≡ then_some (nat_lt i n) (page i)

  -- The facts before the replica receives a part that counts.
  pub record Ready (n : ℕ) (before : List Entry) (bytes : List ℕ) : Type 0 where
    pub body : Body
    pub receives : authentic (members c 0) 0 bytes ≡ Some body
    pub given : IsGiven body.message
    pub of_16 : (m : ℕ) → IsPartOf m body.message → 16 ≡ m
    pub counts : Counts c 0 before first_point bytes body.sender body.message
    pub asked : Option (ℕ × (Level × ℕ))
    pub stage : At (Got 0 bytes ∷ before) asked 16
    pub is_fetching : fetching before ≡ 16
    pub proceeds : HistoryIsPrompt c 0 before [] first_point first_point
    pub quorum : HadQuorum c checkpoint before
    pub root_got : Once (Receives c 0 root_given) (Got 0 bytes ∷ before)
    pub taken : (i : ℕ) → took c 0 (Some 16) (Got 0 bytes ∷ before) i ≡ then_some (nat_lt i n) (page i)

  -- ---- the pages in place

  pub here : (n : ℕ) (past : List Entry) → ((i : ℕ) → took c 0 (Some 16) past i ≡ then_some (nat_lt i n) (page i)) → (i : ℕ) → in_place c 0 16 past opening i ≡ with_first page n i
  here n past taken i =
      ap (λ (o : Option (List ℕ)). option_map_or (λ text. text) o (page_text opening i)) (taken i)
      ∙ either_text (nat_lt i n) (page i) (page_text opening i)

  -- the inner part of the page n is the first that differs
  abbrev part_differs : (n : ℕ) (past : List Entry) → n < 1024 → AreDifferentPages page n → ((i : ℕ) → took c 0 (Some 16) past i ≡ then_some (nat_lt i n) (page i)) → Once (Receives c 0 root_given) past
      → DiffersFirst c 0 past (in_place c 0 16 past opening) root (n / 32)
  part_differs n past small differ taken got = record {
    digests = inner_digests (all_pages page);
    got = (refl, (1, 16, got));
    first = record {
      before = λ k l.
          inner_at (all_pages page) k (omega arith)
          ∙ ap (λ (ds : List (List ℕ)). Some (digest_of_children ds)) (part_same page n k small l)
          ∙ ap (λ (ps : List (List ℕ)). Some (inner_digest ps k)) (sym same);
      digest = inner_digest (all_pages page) (n / 32);
      wants = inner_at (all_pages page) (n / 32) (omega arith);
      differs = λ e. inner_differs page n small differ (e ∙ ap (λ (ps : List (List ℕ)). inner_digest ps (n / 32)) same);
    };
  }
    where
      same : all_pages (in_place c 0 16 past opening) ≡ all_pages (with_first page n)
      same = pages_same (in_place c 0 16 past opening) (with_first page n) (here n past taken)

  -- ---- what may be asked for

  fetches_inner : (n : ℕ) (before : List Entry) (bytes : List ℕ) → n < 1024 → AreDifferentPages page n → Ready n before bytes → MayFetch c 0 (Got 0 bytes ∷ before) first_point 16 levels.Inner (n / 32)
  fetches_inner n before bytes small differ r = record {
    root = root;
    may = (omega arith, inl (inr r.quorum));
    newest = let was = r.stage.fetching_is in omega arith;
    next = inl (tt, part_differs n (Got 0 bytes ∷ before) small differ r.taken r.root_got);
  }

  fetches_page : (n : ℕ) (before : List Entry) (bytes : List ℕ) → n < 1024 → AreDifferentPages page n → Ready n before bytes → Once (Receives c 0 (inner_given (n / 32))) (Got 0 bytes ∷ before)
      → MayFetch c 0 (Got 0 bytes ∷ before) first_point 16 levels.Page n
  fetches_page n before bytes small differ r got = record {
    root = root;
    may = (omega arith, inl (inr r.quorum));
    newest = let was = r.stage.fetching_is in omega arith;
    next = inl (
      tt,
      part_differs n (Got 0 bytes ∷ before) small differ r.taken r.root_got,
      page_digests (all_pages page) (n / 32),
      (refl, (1, 16, got)),
      record {
        before = λ k l.
            page_at page (n / 32) k (omega arith) (omega arith)
            ∙ ap (λ (text : List ℕ). Some (sha256 text))
            (sym (here n (Got 0 bytes ∷ before) r.taken (32 * (n / 32) + k) ∙ page_first page n (32 * (n / 32) + k) (omega arith)));
        digest = sha256 (page n);
        wants = page_at page (n / 32) (n % 32) (omega arith) (omega arith) ∙ ap (λ (i : ℕ). Some (sha256 (page i))) place;
        differs = λ e.
            page_differs page n differ
            (e ∙ ap sha256 (here n (Got 0 bytes ∷ before) r.taken (32 * (n / 32) + n % 32) ∙ ap (with_first page n) place ∙ own_last page n n (omega arith)));
      },
    );
  }
    where
      place : 32 * (n / 32) + n % 32 ≡ n
      place = omega arith

  -- ---- from one part to the next

  asks_page : (n : ℕ) (before : List Entry) (bytes : List ℕ) → n < 1024 → AreDifferentPages page n → Ready n before bytes → Once (Receives c 0 (inner_given (n / 32))) (Got 0 bytes ∷ before)
      → Asks n (Sent 0 (w.fetch_page n) ∷ Got 0 bytes ∷ before)
  asks_page n before bytes small differ r got = record {
    stage = stage;
    proceeds = goes_on clients seed root before bytes (w.fetch_page n) r.body n levels.Page p3 r.receives r.given r.of_16 (f.asks_page n small) stage (fetches_page n before bytes small differ r got) (inl r.is_fetching) r.counts r.proceeds;
    quorum = inr (inr r.quorum);
    root_got = inr r.root_got;
    inner_got = inr got;
    taken = λ next i. Taken.fetches_tell c 0 16 n i levels.Page next (Got 0 bytes ∷ before) (w.fetch_page n) (f.asks_page n small).says ∙ r.taken i;
  }
    where
      stage : At (Sent 0 (w.fetch_page n) ∷ Got 0 bytes ∷ before) (Some (16, (levels.Page, n))) 16
      stage = stage_fetch clients seed root (Got 0 bytes ∷ before) (w.fetch_page n) n levels.Page p3 r.asked 16 r.stage refl (omega arith) (f.asks_page n small).says

  ready_inner : (n : ℕ) (before : List Entry) (bytes : List ℕ) → n < 1024 → AreDifferentPages page n → Ready n before bytes → Ready n (Sent 0 (w.fetch_inner (n / 32)) ∷ Got 0 bytes ∷ before) (w.below_inner (n / 32))
  ready_inner n before bytes small differ r = record {
    body = inner_given (n / 32);
    receives = receives;
    given = tt;
    of_16 = λ m part. part;
    counts = (stage.asked_is, omega arith, (root, inner_digests (all_pages page), inl (inr (inr r.quorum)), (refl, (1, 16, inr r.root_got)), inner_at (all_pages page) (n / 32) low));
    asked = Some (16, (levels.Inner, n / 32));
    stage = stage_meta clients seed root past (w.below_inner (n / 32)) 1 16 (n / 32) levels.Inner (page_digests (all_pages page) (n / 32)) p3 (Some (16, (levels.Inner, n / 32))) 16 stage refl receives;
    is_fetching = stage.fetching_is;
    proceeds = goes_on clients seed root before bytes (w.fetch_inner (n / 32)) r.body (n / 32) levels.Inner p3 r.receives r.given r.of_16 asks stage (fetches_inner n before bytes small differ r) (inl r.is_fetching) r.counts r.proceeds;
    quorum = inr (inr r.quorum);
    root_got = inr (inr r.root_got);
    taken = λ i.
        others_take_none c 0 16 i past (w.below_inner (n / 32)) (inner_given (n / 32)) receives tt
        ∙ Taken.fetches_tell c 0 16 (n / 32) i levels.Inner None (Got 0 bytes ∷ before) (w.fetch_inner (n / 32)) asks.says
        ∙ r.taken i;
  }
    where
      low : n / 32 < 32
      low = omega arith

      past : List Entry
      past = Sent 0 (w.fetch_inner (n / 32)) ∷ Got 0 bytes ∷ before

      asks : IsFrameFrom c 0 (Fetch 16 levels.Inner (n / 32)) (others c 0) (w.fetch_inner (n / 32))
      asks = f.asks_inner (n / 32) low

      receives : authentic (members c 0) 0 (w.below_inner (n / 32)) ≡ Some (inner_given (n / 32))
      receives = (f.gives_inner (n / 32) low).is_authentic_to 0 (inl refl)

      stage : At past (Some (16, (levels.Inner, n / 32))) 16
      stage = stage_fetch clients seed root (Got 0 bytes ∷ before) (w.fetch_inner (n / 32)) (n / 32) levels.Inner p3 r.asked 16 r.stage refl (omega arith) asks.says

  -- the fetch of a page, with that of its inner part before it if it is its first
  asks : (n : ℕ) (before : List Entry) (bytes : List ℕ) → n < 1024 → AreDifferentPages page n → Ready n before bytes → ((n % 32 == 0) ≡ false → Once (Receives c 0 (inner_given (n / 32))) (Got 0 bytes ∷ before))
      → Asks n (fetching_page w (Got 0 bytes ∷ before) n)
  asks n before bytes small differ r got = go (n % 32 == 0) refl
    where
      receives : authentic (members c 0) 0 (w.below_inner (n / 32)) ≡ Some (inner_given (n / 32))
      receives = (f.gives_inner (n / 32) (omega arith)).is_authentic_to 0 (inl refl)

      go : (b : Bool) → (n % 32 == 0) ≡ b
          → Asks n (Sent 0 (w.fetch_page n) ∷ cond b (Got 0 (w.below_inner (n / 32)) ∷ Sent 0 (w.fetch_inner (n / 32)) ∷ Got 0 bytes ∷ before) (Got 0 bytes ∷ before))
      go true is = asks_page n (Sent 0 (w.fetch_inner (n / 32)) ∷ Got 0 bytes ∷ before) (w.below_inner (n / 32)) small differ (ready_inner n before bytes small differ r) (inl receives)
      go false is = asks_page n before bytes small differ r (got is)

  -- a page that was asked for comes
  pub ready_page : (n : ℕ) (past : List Entry) → n < 1024 → Asks n past → Ready (suc n) past (w.page n)
  ready_page n past small a = record {
    body = page_given n;
    receives = receives;
    given = tt;
    of_16 = λ m part. part;
    counts = (
      a.stage.asked_is,
      omega arith,
      (
        inner_digest (all_pages page) (n / 32),
        page_digests (all_pages page) (n / 32),
        (root, inner_digests (all_pages page), inl a.quorum, (refl, (1, 16, a.root_got)), inner_at (all_pages page) (n / 32) (omega arith)),
        (refl, (1, 16, a.inner_got)),
        page_at page (n / 32) (n % 32) (omega arith) (omega arith) ∙ ap (λ (i : ℕ). Some (sha256 (page i))) place,
      ),
    );
    asked = Some (16, (levels.Page, n));
    stage = stage_page clients seed root past (w.page n) 1 16 n (page n) p3 (Some (16, (levels.Page, n))) 16 a.stage refl receives;
    is_fetching = a.stage.fetching_is;
    proceeds = a.proceeds;
    quorum = a.quorum;
    root_got = inr a.root_got;
    taken = λ i. go i (n == i) refl;
  }
    where
      place : 32 * (n / 32) + n % 32 ≡ n
      place = omega arith

      receives : authentic (members c 0) 0 (w.page n) ≡ Some (page_given n)
      receives = (f.gives_page n small).is_authentic_to 0 (inl refl)

      go : (i : ℕ) (b : Bool) → (n == i) ≡ b → took c 0 (Some 16) (Got 0 (w.page n) ∷ past) i ≡ then_some (nat_lt i (suc n)) (page i)
      go i true is =
          subst (λ (k : ℕ). took c 0 (Some 16) (Got 0 (w.page n) ∷ past) k ≡ then_some (nat_lt k (suc n)) (page k)) (eqb-true n i is)
          (Taken.answers_are_taken c 0 1 16 n past (w.page n) (page n) receives a.stage.asked_is
          ∙ ap (λ (b : Bool). then_some b (page n)) (sym (lt-ltb n (suc n) (omega arith))))
      go i false is =
          Taken.others_are_left c 0 16 i past (w.page n)
          (λ sender text says asked. other (ap (λ (o : Option (ℕ × (Level × ℕ))). option_map_or (λ (x : ℕ × (Level × ℕ)). x.1.1) o 0) (sym a.stage.asked_is ∙ asked)))
          ∙ a.taken None i
          ∙ ap (λ (b : Bool). then_some b (page i)) (below (cases_lt i n))
        where
          other : n ≡ i → ⊥
          other = eqb-false n i is

          below : (i < n) ⊎ (n ≤ i) → nat_lt i n ≡ nat_lt i (suc n)
          below (inl l) = lt-ltb i n l ∙ sym (lt-ltb i (suc n) (omega arith))
          below (inr l) = not_below i n l ∙ sym (not_below i (suc n) (omega (arith, other)))

  -- ---- how the transfer begins

  abbrev h1 : List Entry
  h1 = Got 0 (w.checkpoint 1) ∷ []

  abbrev h2 : List Entry
  h2 = Got 0 (w.checkpoint 2) ∷ h1

  abbrev h3 : List Entry
  h3 = Got 0 (w.checkpoint 3) ∷ h2

  abbrev h4 : List Entry
  h4 = Sent 0 w.fetch_root ∷ h3

  hears_1 : authentic (members c 0) 0 (w.checkpoint 1) ≡ Some (checkpoint_of 1)
  hears_1 = (f.checkpoints 1 (omega arith) (omega arith)).is_authentic_to 0 (inl refl)

  hears_2 : authentic (members c 0) 0 (w.checkpoint 2) ≡ Some (checkpoint_of 2)
  hears_2 = (f.checkpoints 2 (omega arith) (omega arith)).is_authentic_to 0 (inl refl)

  hears_3 : authentic (members c 0) 0 (w.checkpoint 3) ≡ Some (checkpoint_of 3)
  hears_3 = (f.checkpoints 3 (omega arith) (omega arith)).is_authentic_to 0 (inl refl)

  hears_root : authentic (members c 0) 0 w.below_root ≡ Some root_given
  hears_root = f.gives_root.is_authentic_to 0 (inl refl)

  s1 : Stage clients seed root h1 p1 None 0
  s1 = stage_checkpoint clients seed root [] (w.checkpoint 1) 1 (λ s. false) None 0 (first_stage clients seed root) refl hears_1

  s2 : Stage clients seed root h2 p2 None 0
  s2 = stage_checkpoint clients seed root h1 (w.checkpoint 2) 2 p1 None 0 s1 refl hears_2

  s3 : At h3 None 0
  s3 = stage_checkpoint clients seed root h2 (w.checkpoint 3) 3 p2 None 0 s2 refl hears_3

  s4 : At h4 (Some (16, (levels.Root, 0))) 16
  s4 = stage_fetch clients seed root h3 w.fetch_root 0 levels.Root p3 None 0 s3 refl (omega arith) f.asks_root.says

  quorum_at_3 : HadQuorum c checkpoint h3
  quorum_at_3 = inl (quorum_here clients seed root h3 p3 None 0 s3 refl)

  fetches_root : MayFetch c 0 h3 first_point 16 levels.Root 0
  fetches_root = record {
    root = root;
    may = (omega arith, inl quorum_at_3);
    newest = let was = s3.fetching_is in omega arith;
    next = inl (let was = s3.fetching_is in omega arith);
  }

  counts_checkpoint : Counts c 0 h2 first_point (w.checkpoint 3) 3 (Checkpoint 16 root)
  counts_checkpoint = (let was = s2.low_is in omega arith, refl, ap (has_number 16) (s2.checkpoints_are 3), ap (has_number 16) (s3.checkpoints_are 3))

  to_second : HistoryIsPrompt c 0 h2 [] first_point first_point
  to_second =
      goes_quiet clients seed root h1 (w.checkpoint 2) (checkpoint_of 2) p2 None 0 hears_2 tt (λ n part. part) s2 refl
      (goes_quiet clients seed root [] (w.checkpoint 1) (checkpoint_of 1) p1 None 0 hears_1 tt (λ n part. part) s1 refl (refl, refl))

  to_root : HistoryIsPrompt c 0 h4 [] first_point first_point
  to_root = goes_on clients seed root h2 (w.checkpoint 3) w.fetch_root (checkpoint_of 3) 0 levels.Root p3 hears_3 tt (λ n part. absurd part) f.asks_root s4 fetches_root (inr (refl, refl)) counts_checkpoint to_second

  none_at_3 : (i : ℕ) → took c 0 (Some 16) h3 i ≡ None
  unfolding took
  none_at_3 i = others_take_none c 0 16 i h2 (w.checkpoint 3) (checkpoint_of 3) hears_3 tt

  ready_first : Ready 0 h4 w.below_root
  ready_first = record {
    body = root_given;
    receives = hears_root;
    given = tt;
    of_16 = λ m part. part;
    counts = (s4.asked_is, omega arith, inl (inr quorum_at_3));
    asked = Some (16, (levels.Root, 0));
    stage = stage_meta clients seed root h4 w.below_root 1 16 0 levels.Root (inner_digests (all_pages page)) p3 (Some (16, (levels.Root, 0))) 16 s4 refl hears_root;
    is_fetching = s4.fetching_is;
    proceeds = to_root;
    quorum = inr quorum_at_3;
    root_got = inl hears_root;
    taken = λ i.
        others_take_none c 0 16 i h4 w.below_root root_given hears_root tt
        ∙ Taken.fetches_tell c 0 16 0 i levels.Root None h3 w.fetch_root f.asks_root.says
        ∙ none_at_3 i
        ∙ ap (λ (b : Bool). then_some b (page i)) (sym (not_below i 0 (omega arith)));
  }

  -- ---- each page

  fewer : (n : ℕ) → AreDifferentPages page (suc n) → AreDifferentPages page n
  fewer n differ = record { differ = λ i l. differ.differ i (omega arith); pages_apart = λ i l. differ.pages_apart i (omega arith); parts_apart = λ i l. differ.parts_apart i (omega arith) }

  -- the page after the last page of an inner part is the first page of the next part
  same_part : (n : ℕ) → (suc n % 32 == 0) ≡ false → n / 32 ≡ suc n / 32
  same_part n other = let inside : suc n % 32 ≡ 0 → ⊥ = eqb-false (suc n % 32) 0 other in omega (arith, inside)

  pub all_asked : (n : ℕ) → n < 1024 → AreDifferentPages page n → Asks n (fetching_pages w n)
  all_asked zero small differ = asks 0 h4 w.below_root small differ ready_first (λ other. absurd cc)
  all_asked (suc n) small differ =
      let was = all_asked n (omega arith) (fewer n differ) in
      asks (suc n) (fetching_pages w n) (w.page n) small differ (ready_page n (fetching_pages w n) (omega arith) was)
      (λ other. inr (subst (λ (j : ℕ). Once (Receives c 0 (inner_given j)) (fetching_pages w n)) (same_part n other) was.inner_got))

-- ---- the history is a replica's, and alone it is a run

-- an entry of replica 0 that follows its input
abbrev pub IsOwn : List Entry → Entry → Type 0
IsOwn past e = (party_of e ≡ 0) × OutputFollows past e

input_follows : (past : List Entry) (bytes : List ℕ) → OutputFollows past (Got 0 bytes)
input_follows [] bytes = refl
input_follows (before ∷ past) bytes = λ output. absurd (let bad : false ≡ true = output in cc)

pub gets_own : (past : List Entry) (bytes : List ℕ) → Always IsOwn past → Always IsOwn (Got 0 bytes ∷ past)
gets_own past bytes own = ((refl, input_follows past bytes), own)

asks_own : (w : FetchFrames) (past : List Entry) (bytes : List ℕ) (i : ℕ) → Always IsOwn past → Always IsOwn (fetching_page w (Got 0 bytes ∷ past) i)
asks_own w past bytes i own = go (i % 32 == 0)
  where
    got : Always IsOwn (Got 0 bytes ∷ past)
    got = gets_own past bytes own

    go : (b : Bool) → Always IsOwn (Sent 0 (w.fetch_page i) ∷ cond b (Got 0 (w.below_inner (i / 32)) ∷ Sent 0 (w.fetch_inner (i / 32)) ∷ Got 0 bytes ∷ past) (Got 0 bytes ∷ past))
    go true = ((refl, λ output. refl), gets_own (Sent 0 (w.fetch_inner (i / 32)) ∷ Got 0 bytes ∷ past) (w.below_inner (i / 32)) ((refl, λ output. refl), got))
    go false = ((refl, λ output. refl), got)

pub all_own : (w : FetchFrames) (n : ℕ) → Always IsOwn (fetching_pages w n)
all_own w zero =
    asks_own w (Sent 0 w.fetch_root ∷ Got 0 (w.checkpoint 3) ∷ Got 0 (w.checkpoint 2) ∷ Got 0 (w.checkpoint 1) ∷ []) w.below_root 0 (
      (refl, λ output. refl),
      gets_own (Got 0 (w.checkpoint 2) ∷ Got 0 (w.checkpoint 1) ∷ []) (w.checkpoint 3)
          (gets_own (Got 0 (w.checkpoint 1) ∷ []) (w.checkpoint 2) (gets_own [] (w.checkpoint 1) tt)),
    )
all_own w (suc n) = asks_own w (fetching_pages w n) (w.page n) (suc n) (all_own w n)

-- it is the whole of its trace, and no other party has entries
own_history : (trace : List Entry) → Always IsOwn trace → history_of 0 trace ≡ trace
own_history [] own = refl
own_history (e ∷ past) own =
    ap (λ (b : Bool). cond b (e ∷ history_of 0 past) (history_of 0 past)) (eq-eqb (party_of e) 0 own.0.0)
    ∙ ap (λ (xs : List Entry). e ∷ xs) (own_history past own.1)

no_history : (p : ℕ) (trace : List Entry) → (0 ≡ p → ⊥) → Always IsOwn trace → history_of p trace ≡ []
no_history p [] other own = refl
no_history p (e ∷ past) other own =
    ap (λ (b : Bool). cond b (e ∷ history_of p past) (history_of p past)) (false_from_ne_true (party_of e == p) (λ is. other (sym own.0.0 ∙ eqb-true (party_of e) p is)))
    ∙ no_history p past other own.1

is_replica_if_prompt : (c : Configuration) (me : ℕ) (history : List Entry) → IsPromptReplica c me history → IsReplica c me history
is_replica_if_prompt c me [] prompt = tt
is_replica_if_prompt c me (e ∷ past) prompt = inl prompt

-- so it is a run, if it is a replica's
pub run_alone : (clients : ℕ) (seed : List ℕ) (trace : List Entry) → Always IsOwn trace → IsPromptReplica (four clients seed) 0 trace → IsRun (four clients seed) trace
run_alone clients seed trace own prompt = record {
  replicas = λ p correct. replica p (0 == p) refl;
  clients = λ p correct. subst (IsClient c p) (sym (no_history p trace (λ is. other p correct is) own)) tt;
  parties = parties trace own;
  events = events trace own;
}
  where
    c : Configuration
    c = four clients seed

    replica : (p : ℕ) (b : Bool) → (0 == p) ≡ b → IsReplica c p (history_of p trace)
    replica p true is = subst (λ (q : ℕ). IsReplica c q (history_of q trace)) (eqb-true 0 p is) (subst (IsReplica c 0) (sym (own_history trace own)) (is_replica_if_prompt c 0 trace prompt))
    replica p false is = subst (IsReplica c p) (sym (no_history p trace (eqb-false 0 p is) own)) tt

    -- replica 0 is no client
    other : (p : ℕ) → is_correct_client c p ≡ true → 0 ≡ p → ⊥
    other p correct is = let h = subst (λ (q : ℕ). is_correct_client c q ≡ true) (sym is) correct in let bad : false ≡ true = h in absurd cc

    parties : (xs : List Entry) → Always IsOwn xs → Always (λ past e. is_correct c (party_of e) ≡ true) xs
    parties [] h = tt
    parties (e ∷ past) h = (subst (λ (p : ℕ). is_correct c p ≡ true) (sym h.0.0) refl, parties past h.1)

    events : (xs : List Entry) → Always IsOwn xs → Always OutputFollows xs
    events [] h = tt
    events (e ∷ past) h = (h.0.1, events past h.1)

pub fetching_is_run : FetchingIsRun
fetching_is_run clients seed page w n small differ f =
    let prompt : IsPromptReplica (four clients seed) 0 (fetching_pages w n) = (first_point, (all_asked clients seed page w f n small differ).proceeds) in
    (run_alone clients seed (fetching_pages w n) (all_own w n) prompt, prompt)

pub fetched_are_taken : FetchedAreTaken
fetched_are_taken clients seed page w n small differ f i l =
    (all_asked clients seed page w f n small differ).taken None i ∙ ap (λ (b : Bool). then_some b (page i)) (lt-ltb i n l)
