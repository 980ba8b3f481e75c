-- The definitions accept an out-of-date replica that begins to fetch the others' state.
use Rattle.std.proofs.Common.{◌≡◌, ◌≢◌, ℕ, zero, suc, ◌+◌, ◌*◌, ◌/◌, ◌<◌, inl, inr, Bool, false, List, [], ◌∷◌, refl, sym, ap, ◌∙◌, arith, Option, Some, None, slice_get}
use Rattle.sha2.specs.Sha256.{sha256}
use Rattle.partition_tree.specs.Digests.{digest_of_children, inner_digest}
use Rattle.protocol.specs.System.Configuration.{Configuration, members}
use Rattle.terms.specs.declared.state.Level.{Level}
use Rattle.terms.specs.declared.state.Level.TheVariants as levels
use Rattle.wire_format.specs.Messages.{BodyData as Body, MessageData as Message, checkpoint as Checkpoint, meta as Meta, page as Page}
use Rattle.signing.specs.AuthenticBody.{authentic}
use Rattle.protocol.specs.System.Trace.{Entry, Once, Receives}
use Rattle.protocol.specs.System.Trace.Entry.{Got, Sent}
use Rattle.protocol.specs.Replica.State.{opening, all_pages, page_text}
use Rattle.protocol.specs.Replica.Transfers.{took, in_place, DiffersFirst}
use Rattle.protocol.specs.Replica.RightReplica.{first_point, IsRootWanted, MayFetch}
use Rattle.protocol.specs.Replica.Owed.{has_number, Counts, IsInnerWanted, HistoryIsPrompt, IsReplica}
use Rattle.evidence.specs.Examples.{four}
use Rattle.evidence.specs.ExamplesOfTransfer.{Parts, with_page_0, AreDifferentParts, digests_of_pages, digests_of_inner_parts, root_of_parts, TransferFrames, AreTransferFrames, transfer, TransferBegins}
use Rattle.evidence.proofs.TransferringStages.{and_one, Stage, first_stage, stage_checkpoint, stage_meta, stage_page, stage_fetch, quorum_here}
use Rattle.protocol.proofs.Words.Options.{some_injective}
use Rattle.protocol.proofs.Words.Transfers as Taken
use Rattle.evidence.proofs.Placing.{pages_same, others_take_none, own_in_place, taken_in_place}
use Rattle.evidence.proofs.TransferringEvents.{goes_quiet, goes_on}

module _ (clients : ℕ) (seed : List ℕ) (x : Parts) (w : TransferFrames) (differ : AreDifferentParts x) (f : AreTransferFrames (four clients seed) x w) where
  abbrev c : Configuration
  c = four clients seed

  abbrev root : List ℕ
  root = root_of_parts x

  abbrev h1 : List Entry
  h1 = Got 0 (w.checkpoint 1) ∷ []

  abbrev h2 : List Entry
  h2 = Got 0 (w.checkpoint 2) ∷ h1

  abbrev h3 : List Entry
  h3 = Got 0 (w.checkpoint 3) ∷ h2

  abbrev h4 : List Entry
  h4 = Sent 0 w.fetch_root ∷ h3

  abbrev h5 : List Entry
  h5 = Got 0 w.below_root ∷ h4

  abbrev h6 : List Entry
  h6 = Sent 0 w.fetch_inner ∷ h5

  abbrev h7 : List Entry
  h7 = Got 0 w.below_inner ∷ h6

  abbrev h8 : List Entry
  h8 = Sent 0 w.fetch_page ∷ h7

  abbrev h9 : List Entry
  h9 = Got 0 w.page ∷ h8

  -- ---- what the replica receives

  abbrev checkpoint_of : ℕ → Body
  checkpoint_of r = record { sender = r; message = Checkpoint 16 root }

  abbrev root_given : Body
  root_given = record { sender = 1; message = Meta 16 levels.Root 0 (digests_of_inner_parts x) }

  abbrev inner_given : Body
  inner_given = record { sender = 1; message = Meta 16 levels.Inner 0 (digests_of_pages x) }

  abbrev page_given : Body
  page_given = record { sender = 1; message = Page 16 0 x.text }

  hears1 : authentic (members c 0) 0 (w.checkpoint 1) ≡ Some (checkpoint_of 1)
  hears1 = (f.checkpoints 1 (omega arith) (omega arith)).is_authentic_to 0 (inl refl)

  hears2 : authentic (members c 0) 0 (w.checkpoint 2) ≡ Some (checkpoint_of 2)
  hears2 = (f.checkpoints 2 (omega arith) (omega arith)).is_authentic_to 0 (inl refl)

  hears3 : authentic (members c 0) 0 (w.checkpoint 3) ≡ Some (checkpoint_of 3)
  hears3 = (f.checkpoints 3 (omega arith) (omega arith)).is_authentic_to 0 (inl refl)

  hears_root : authentic (members c 0) 0 w.below_root ≡ Some root_given
  hears_root = f.gives_root.is_authentic_to 0 (inl refl)

  hears_inner : authentic (members c 0) 0 w.below_inner ≡ Some inner_given
  hears_inner = f.gives_inner.is_authentic_to 0 (inl refl)

  hears_page : authentic (members c 0) 0 w.page ≡ Some page_given
  hears_page = f.gives_page.is_authentic_to 0 (inl refl)

  -- ---- whose checkpoints there are

  abbrev p0 : ℕ → Bool
  p0 s = false

  abbrev p1 : ℕ → Bool
  p1 = and_one p0 1

  abbrev p2 : ℕ → Bool
  p2 = and_one p1 2

  abbrev p3 : ℕ → Bool
  p3 = and_one p2 3

  abbrev At : List Entry → (ℕ → Bool) → Option (ℕ × (Level × ℕ)) → ℕ → Type 0
  At past p asked k = Stage clients seed root past p asked k

  abbrev asked : Level → ℕ → Option (ℕ × (Level × ℕ))
  asked level index = Some (16, (level, index))

  s1 : At h1 p1 None 0
  s1 = stage_checkpoint clients seed root [] (w.checkpoint 1) 1 p0 None 0 (first_stage clients seed root) refl hears1

  s2 : At h2 p2 None 0
  s2 = stage_checkpoint clients seed root h1 (w.checkpoint 2) 2 p1 None 0 s1 refl hears2

  s3 : At h3 p3 None 0
  s3 = stage_checkpoint clients seed root h2 (w.checkpoint 3) 3 p2 None 0 s2 refl hears3

  s4 : At h4 p3 (asked levels.Root 0) 16
  s4 = stage_fetch clients seed root h3 w.fetch_root 0 levels.Root p3 None 0 s3 refl (omega arith) f.asks_root.says

  s5 : At h5 p3 (asked levels.Root 0) 16
  s5 = stage_meta clients seed root h4 w.below_root 1 16 0 levels.Root (digests_of_inner_parts x) p3 (asked levels.Root 0) 16 s4 refl hears_root

  s6 : At h6 p3 (asked levels.Inner 0) 16
  s6 = stage_fetch clients seed root h5 w.fetch_inner 0 levels.Inner p3 (asked levels.Root 0) 16 s5 refl (omega arith) f.asks_inner.says

  s7 : At h7 p3 (asked levels.Inner 0) 16
  s7 = stage_meta clients seed root h6 w.below_inner 1 16 0 levels.Inner (digests_of_pages x) p3 (asked levels.Inner 0) 16 s6 refl hears_inner

  s8 : At h8 p3 (asked levels.Page 0) 16
  s8 = stage_fetch clients seed root h7 w.fetch_page 0 levels.Page p3 (asked levels.Inner 0) 16 s7 refl (omega arith) f.asks_page.says

  s9 : At h9 p3 (asked levels.Page 0) 16
  s9 = stage_page clients seed root h8 w.page 1 16 0 x.text p3 (asked levels.Page 0) 16 s8 refl hears_page

  s10 : At (transfer w) p3 (asked levels.Page 1) 16
  s10 = stage_fetch clients seed root h9 w.fetch_next 1 levels.Page p3 (asked levels.Page 0) 16 s9 refl (omega arith) f.asks_next.says

  -- ---- the pages in place

  none_at_3 : (i : ℕ) → took c 0 (Some 16) h3 i ≡ None
  unfolding took
  none_at_3 i = others_take_none c 0 16 i h2 (w.checkpoint 3) (checkpoint_of 3) hears3 tt

  none_at_5 : (i : ℕ) → took c 0 (Some 16) h5 i ≡ None
  none_at_5 i = others_take_none c 0 16 i h4 w.below_root root_given hears_root tt ∙ Taken.fetches_tell c 0 16 0 i levels.Root None h3 w.fetch_root f.asks_root.says ∙ none_at_3 i

  none_at_7 : (i : ℕ) → took c 0 (Some 16) h7 i ≡ None
  none_at_7 i = others_take_none c 0 16 i h6 w.below_inner inner_given hears_inner tt ∙ Taken.fetches_tell c 0 16 0 i levels.Inner None h5 w.fetch_inner f.asks_inner.says ∙ none_at_5 i

  abbrev page_index : Message → ℕ
  page_index message = elim message [ Page k j text ↦ j | _ ↦ 0 ]

  here_at_5 : (i : ℕ) → in_place c 0 16 h5 opening i ≡ page_text opening i
  here_at_5 i = own_in_place c 0 16 i h5 opening (none_at_5 i)

  here_at_7 : (i : ℕ) → in_place c 0 16 h7 opening i ≡ page_text opening i
  here_at_7 i = own_in_place c 0 16 i h7 opening (none_at_7 i)

  here_at_9 : (i : ℕ) → in_place c 0 16 h9 opening i ≡ with_page_0 x i
  here_at_9 zero = taken_in_place c 0 16 0 h9 opening x.text (Taken.answers_are_taken c 0 1 16 0 h8 w.page x.text hears_page s8.asked_is)
  here_at_9 (suc i) = own_in_place c 0 16 (suc i) h9 opening
      (Taken.others_are_left c 0 16 (suc i) h8 w.page
      (λ sender text receives asked. absurd (let index : 0 ≡ suc i = ap (λ (b : Body). page_index b.message) (some_injective page_given (record { sender = sender; message = Page 16 (suc i) text }) (sym hears_page ∙ receives)) in omega arith))
      ∙ Taken.fetches_tell c 0 16 0 (suc i) levels.Page None h7 w.fetch_page f.asks_page.says ∙ none_at_7 (suc i))

  -- inner part 0 is the first that differs
  abbrev part_differs : (past : List Entry) (pages : ℕ → List ℕ) → (digest_of_children (digests_of_pages x) ≢ inner_digest (all_pages pages) 0) → (here : (i : ℕ) → in_place c 0 16 past opening i ≡ pages i) → Once (Receives c 0 root_given) past
      → DiffersFirst c 0 past (in_place c 0 16 past opening) root 0
  part_differs past pages other here got = record {
    digests = digests_of_inner_parts x;
    got = (refl, (1, 16, got));
    first = record {
      before = λ k l. absurd (omega arith);
      digest = digest_of_children (digests_of_pages x);
      wants = refl;
      differs = λ same. other (same ∙ ap (λ (ps : List (List ℕ)). inner_digest ps 0) (pages_same (in_place c 0 16 past opening) pages here));
    };
  }

  fetches_root : MayFetch c 0 h3 first_point 16 levels.Root 0
  fetches_root = record {
    root = root;
    may = (omega arith, inl (inl (quorum_here clients seed root h3 p3 None 0 s3 refl)));
    newest = let was = s3.fetching_is in omega arith;
    next = inl (let was = s3.fetching_is in omega arith);
  }

  fetches_inner : MayFetch c 0 h5 first_point 16 levels.Inner 0
  fetches_inner = record {
    root = root;
    may = (omega arith, inl (inl (quorum_here clients seed root h5 p3 (asked levels.Root 0) 16 s5 refl)));
    newest = let was = s5.fetching_is in omega arith;
    next = inl (tt, part_differs h5 (page_text opening) differ.part here_at_5 (inl hears_root));
  }

  fetches_page : MayFetch c 0 h7 first_point 16 levels.Page 0
  fetches_page = record {
    root = root;
    may = (omega arith, inl (inl (quorum_here clients seed root h7 p3 (asked levels.Inner 0) 16 s7 refl)));
    newest = let was = s7.fetching_is in omega arith;
    next = inl (
      tt,
      part_differs h7 (page_text opening) differ.part here_at_7 (inr (inr (inl hears_root))),
      digests_of_pages x,
      (refl, (1, 16, inl hears_inner)),
      record { before = λ k l. absurd (omega arith); digest = sha256 x.text; wants = refl; differs = λ same. differ.page (same ∙ ap sha256 (here_at_7 0)) },
    );
  }

  fetches_next : MayFetch c 0 h9 first_point 16 levels.Page 1
  fetches_next = record {
    root = root;
    may = (omega arith, inl (inl (quorum_here clients seed root h9 p3 (asked levels.Page 0) 16 s9 refl)));
    newest = let was = s9.fetching_is in omega arith;
    next = inl (
      tt,
      part_differs h9 (with_page_0 x) differ.part_still here_at_9 (inr (inr (inr (inr (inl hears_root))))),
      digests_of_pages x,
      (refl, (1, 16, inr (inr (inl hears_inner)))),
      record { before = before; digest = x.next_digest; wants = refl; differs = λ same. differ.next (same ∙ ap sha256 (here_at_9 1)) },
    );
  }
    where
      before : (k : ℕ) → k < 1 → slice_get (digests_of_pages x) k ≡ Some (sha256 (in_place c 0 16 h9 opening (32 * (1 / 32) + k)))
      before zero l = ap (λ (text : List ℕ). Some (sha256 text)) (sym (here_at_9 0))
      before (suc k) l = absurd (omega arith)

  -- ---- each event

  counts_checkpoint : Counts c 0 h2 first_point (w.checkpoint 3) 3 (Checkpoint 16 root)
  counts_checkpoint = (let was = s2.low_is in omega arith, refl, ap (has_number 16) (s2.checkpoints_are 3), ap (has_number 16) (s3.checkpoints_are 3))

  counts_root : Counts c 0 h4 first_point w.below_root 1 (Meta 16 levels.Root 0 (digests_of_inner_parts x))
  counts_root = (s4.asked_is, omega arith, inl (inl (quorum_here clients seed root h4 p3 (asked levels.Root 0) 16 s4 refl)))

  -- the received digests of the root give the digest of inner part 0
  wanted_inner : (past : List Entry) → IsRootWanted c past 16 root → Once (Receives c 0 root_given) past → IsInnerWanted c 0 past 16 0 (digest_of_children (digests_of_pages x))
  wanted_inner past is got = (root, digests_of_inner_parts x, is, (refl, (1, 16, got)), refl)

  counts_inner : Counts c 0 h6 first_point w.below_inner 1 (Meta 16 levels.Inner 0 (digests_of_pages x))
  counts_inner = (s6.asked_is, omega arith, wanted_inner h6 (inl (inl (quorum_here clients seed root h6 p3 (asked levels.Inner 0) 16 s6 refl))) (inr (inl hears_root)))

  -- and the received digests of inner part 0 give the digest of page 0
  counts_page : Counts c 0 h8 first_point w.page 1 (Page 16 0 x.text)
  counts_page = (
    s8.asked_is,
    omega arith,
    (
      digest_of_children (digests_of_pages x),
      digests_of_pages x,
      wanted_inner h8 (inl (inl (quorum_here clients seed root h8 p3 (asked levels.Page 0) 16 s8 refl))) (inr (inr (inr (inl hears_root)))),
      (refl, (1, 16, inr (inl hears_inner))),
      refl,
    ),
  )

  to_second : HistoryIsPrompt c 0 h2 [] first_point first_point
  to_second =
      goes_quiet clients seed root h1 (w.checkpoint 2) (checkpoint_of 2) p2 None 0 hears2 tt (λ n part. part) s2 refl
      (goes_quiet clients seed root [] (w.checkpoint 1) (checkpoint_of 1) p1 None 0 hears1 tt (λ n part. part) s1 refl (refl, refl))

  to_root : HistoryIsPrompt c 0 h4 [] first_point first_point
  to_root = goes_on clients seed root h2 (w.checkpoint 3) w.fetch_root (checkpoint_of 3) 0 levels.Root p3 hears3 tt (λ n part. absurd part) f.asks_root s4 fetches_root (inr (refl, refl)) counts_checkpoint to_second

  to_inner : HistoryIsPrompt c 0 h6 [] first_point first_point
  to_inner = goes_on clients seed root h4 w.below_root w.fetch_inner root_given 0 levels.Inner p3 hears_root tt (λ n part. part) f.asks_inner s6 fetches_inner (inl s4.fetching_is) counts_root to_root

  to_page : HistoryIsPrompt c 0 h8 [] first_point first_point
  to_page = goes_on clients seed root h6 w.below_inner w.fetch_page inner_given 0 levels.Page p3 hears_inner tt (λ n part. part) f.asks_page s8 fetches_page (inl s6.fetching_is) counts_inner to_inner

  begins : IsReplica c 0 (transfer w)
  begins = inl (first_point, goes_on clients seed root h8 w.page w.fetch_next page_given 1 levels.Page p3 hears_page tt (λ n part. part) f.asks_next s10 fetches_next (inl s8.fetching_is) counts_page to_page)

pub transfer_begins : TransferBegins
transfer_begins clients seed x w differ f = begins clients seed x w differ f
