-- The definitions accept an out-of-date replica that installs the others' state.
use Rattle.std.proofs.Common.{◌≡◌, ℕ, inl, inr, Bool, true, false, List, [], ◌∷◌, refl, sym, ap, ◌∙◌, subst, arith, Option, Some, None, eqb-true}
use Rattle.std.specs.Prelude.{◌==◌, option_and_then}
use Rattle.sha2.specs.Sha256.{sha256}
use Rattle.partition_tree.specs.Digests.{inner_digest}
use Rattle.std.specs.Bool.{then_some}
use Rattle.std.specs.Option.{option_map_or}
use Rattle.std.proofs.lemmas.Bool.{eqb-false, false_from_ne_true}
use Rattle.quorum.specs.Votes.{or_else}
use Rattle.terms.specs.declared.state.Level.{Level}
use Rattle.terms.specs.declared.state.Level.TheVariants as levels
use Rattle.protocol.specs.Replica.Transfers.{place_from, asked_last, took, in_place, DiffersFirst}
use Rattle.protocol.proofs.Words.Paging.{header_at}
use Rattle.protocol.specs.System.Configuration.{Configuration, members}
use Rattle.wire_format.specs.Messages.{BodyData as Body, checkpoint as Checkpoint, meta as Meta, page as Page}
use Rattle.space.specs.Pages.{header_text}
use Rattle.signing.specs.AuthenticBody.{authentic}
use Rattle.protocol.specs.System.Trace.{Entry, Once, Receives}
use Rattle.protocol.specs.System.Trace.Entry.{Got, Installed, Sent}
use Rattle.protocol.specs.Replica.State.{IsReplicatedState, opening, root_of, page_text, all_pages, pages_of}
use Rattle.protocol.specs.Replica.RightReplica.{Point, first_point, HistoryReaches, IsStep, IsInstalled, MayFetch, digests_at}
use Rattle.evidence.specs.Examples.{four}
use Rattle.evidence.specs.ExamplesOfInstalling.{later_state, InstallFrames, AreInstallFrames, IsHeaderFirst, installation, StateIsInstalled}
use Rattle.protocol.proofs.Words.Leaving.{opening_is}
use Rattle.evidence.proofs.TransferringStages.{and_one, Stage, first_stage, stage_checkpoint, stage_meta, stage_fetch, quorum_here}
use Rattle.protocol.proofs.Words.Transfers as Taken
use Rattle.evidence.proofs.Placing.{pages_same, others_take_none, own_in_place}
use Rattle.evidence.proofs.TransferringEvents.{gets, fetch_sends}

module _ (clients : ℕ) (seed : List ℕ) (w : InstallFrames) (differ : IsHeaderFirst) (f : AreInstallFrames (four clients seed) w) where
  abbrev c : Configuration
  c = four clients seed

  abbrev root : List ℕ
  root = root_of later_state

  abbrev h1 : List Entry
  h1 = Got 0 (w.checkpoint 1) ∷ []

  abbrev h2 : List Entry
  h2 = Got 0 (w.checkpoint 2) ∷ h1

  abbrev h3 : List Entry
  h3 = Got 0 (w.checkpoint 3) ∷ h2

  abbrev h4 : List Entry
  h4 = Sent 0 w.fetch_root ∷ h3

  abbrev h5 : List Entry
  h5 = Got 0 w.below_root ∷ h4

  abbrev h6 : List Entry
  h6 = Sent 0 w.fetch_inner ∷ h5

  abbrev h7 : List Entry
  h7 = Got 0 w.below_inner ∷ h6

  abbrev h8 : List Entry
  h8 = Sent 0 w.fetch_header ∷ h7

  abbrev h9 : List Entry
  h9 = Got 0 w.header ∷ h8

  abbrev checkpoint_of : ℕ → Body
  checkpoint_of r = record { sender = r; message = Checkpoint 16 root }

  abbrev root_digests : List (List ℕ)
  root_digests = digests_at later_state levels.Root 0

  abbrev page_digests : List (List ℕ)
  page_digests = digests_at later_state levels.Inner 16

  abbrev root_given : Body
  root_given = record { sender = 1; message = Meta 16 levels.Root 0 root_digests }

  abbrev inner_given : Body
  inner_given = record { sender = 1; message = Meta 16 levels.Inner 16 page_digests }

  hears1 : authentic (members c 0) 0 (w.checkpoint 1) ≡ Some (checkpoint_of 1)
  hears1 = f.checkpoints 1 (omega arith) (omega arith)

  -- ---- whose checkpoints there are

  abbrev p1 : ℕ → Bool
  p1 = and_one (λ s. false) 1

  abbrev p2 : ℕ → Bool
  p2 = and_one p1 2

  abbrev p3 : ℕ → Bool
  p3 = and_one p2 3

  s1 : Stage clients seed root h1 p1 None 0
  s1 = stage_checkpoint clients seed root [] (w.checkpoint 1) 1 (λ s. false) None 0 (first_stage clients seed root) refl hears1

  s2 : Stage clients seed root h2 p2 None 0
  s2 = stage_checkpoint clients seed root h1 (w.checkpoint 2) 2 p1 None 0 s1 refl (f.checkpoints 2 (omega arith) (omega arith))

  s3 : Stage clients seed root h3 p3 None 0
  s3 = stage_checkpoint clients seed root h2 (w.checkpoint 3) 3 p2 None 0 s2 refl (f.checkpoints 3 (omega arith) (omega arith))

  -- ---- the state

  is_state : IsReplicatedState later_state
  is_state = record { space = record { state = opening_is.space.state; births = omega arith; few = omega arith }; replies = opening_is.replies }

  -- the header was taken, and no other page
  none_at_3 : (i : ℕ) → took c 0 (Some 16) h3 i ≡ None
  unfolding took
  none_at_3 i = others_take_none c 0 16 i h2 (w.checkpoint 3) (checkpoint_of 3) (f.checkpoints 3 (omega arith) (omega arith)) tt

  none_at_5 : (i : ℕ) → took c 0 (Some 16) h5 i ≡ None
  none_at_5 i = others_take_none c 0 16 i h4 w.below_root root_given f.gives_root tt ∙ Taken.fetches_tell c 0 16 0 i levels.Root None h3 w.fetch_root f.asks_root.says ∙ none_at_3 i

  none_at_7 : (i : ℕ) → took c 0 (Some 16) h7 i ≡ None
  none_at_7 i = others_take_none c 0 16 i h6 w.below_inner inner_given f.gives_inner tt ∙ Taken.fetches_tell c 0 16 16 i levels.Inner None h5 w.fetch_inner f.asks_inner.says ∙ none_at_5 i

  asked : asked_last h8 ≡ Some (16, (levels.Page, 512))
  asked = ap (λ (o : Option Body). or_else (option_and_then place_from o) (asked_last h7)) f.asks_header.says

  taken : (i : ℕ) → took c 0 (Some 16) h9 i ≡ then_some (512 == i) (header_text later_state.space 16)
  taken i = at (512 == i) refl
    where
      at : (b : Bool) → (512 == i) ≡ b → took c 0 (Some 16) h9 i ≡ then_some b (header_text later_state.space 16)
      at true e = subst (λ (n : ℕ). took c 0 (Some 16) h9 n ≡ Some (header_text later_state.space 16)) (eqb-true 512 i e)
          (Taken.answers_are_taken c 0 1 16 512 h8 w.header (header_text later_state.space 16) f.gives_header asked)
      at false e =
          Taken.others_are_left c 0 16 i h8 w.header
          (λ sender text receives place. absurd (eqb-false 512 i e (ap (λ (o : Option (ℕ × (Level × ℕ))). option_map_or (λ (x : ℕ × (Level × ℕ)). x.1.1) o 0) (sym asked ∙ place))))
          ∙ Taken.fetches_tell c 0 16 512 i levels.Page None h7 w.fetch_header f.asks_header.says
          ∙ none_at_7 i

  other : (i : ℕ) → (i == 512) ≡ false → page_text later_state i ≡ page_text opening i
  unfolding page_text
  other i e = rw e refl

  held : (i : ℕ) → page_text later_state i ≡ in_place c 0 16 h9 opening i
  held i = go (512 == i) refl ∙ sym (ap (λ (o : Option (List ℕ)). option_map_or (λ x. x) o (page_text opening i)) (taken i))
    where
      go : (b : Bool) → (512 == i) ≡ b → page_text later_state i ≡ option_map_or (λ x. x) (then_some b (header_text later_state.space 16)) (page_text opening i)
      go true e = subst (λ (n : ℕ). page_text later_state n ≡ header_text later_state.space 16) (eqb-true 512 i e) (header_at later_state)
      go false e = other i (false_from_ne_true (i == 512) (λ is. eqb-false 512 i e (sym (eqb-true i 512 is))))

  abbrev last_point : Point
  last_point = record first_point { state = later_state; snapshots = later_state ∷ opening ∷ [] }

  installed : IsInstalled c 0 h9 first_point 16 root last_point
  installed = record { is_state = is_state; number = refl; root_is = refl; pages = λ i l. held i; snapshots = refl; ran = refl; waiting = refl }

  -- ---- what the replica asks for

  s4 : Stage clients seed root h4 p3 (Some (16, (levels.Root, 0))) 16
  s4 = stage_fetch clients seed root h3 w.fetch_root 0 levels.Root p3 None 0 s3 refl (omega arith) f.asks_root.says

  s5 : Stage clients seed root h5 p3 (Some (16, (levels.Root, 0))) 16
  s5 = stage_meta clients seed root h4 w.below_root 1 16 0 levels.Root root_digests p3 (Some (16, (levels.Root, 0))) 16 s4 refl f.gives_root

  s6 : Stage clients seed root h6 p3 (Some (16, (levels.Inner, 16))) 16
  s6 = stage_fetch clients seed root h5 w.fetch_inner 16 levels.Inner p3 (Some (16, (levels.Root, 0))) 16 s5 refl (omega arith) f.asks_inner.says

  s7 : Stage clients seed root h7 p3 (Some (16, (levels.Inner, 16))) 16
  s7 = stage_meta clients seed root h6 w.below_inner 1 16 16 levels.Inner page_digests p3 (Some (16, (levels.Inner, 16))) 16 s6 refl f.gives_inner

  -- part 16 is the first that differs
  abbrev part_differs : (past : List Entry) → ((i : ℕ) → took c 0 (Some 16) past i ≡ None) → Once (Receives c 0 root_given) past → DiffersFirst c 0 past (in_place c 0 16 past opening) root 16
  part_differs past none got = record {
    digests = root_digests;
    got = (refl, (1, 16, got));
    first = record {
      before = λ k l. differ.part.before k l ∙ ap (λ (ps : List (List ℕ)). Some (inner_digest ps k)) (sym same);
      digest = differ.part.digest;
      wants = differ.part.wants;
      differs = λ e. differ.part.differs (e ∙ ap (λ (ps : List (List ℕ)). inner_digest ps 16) same);
    };
  }
    where
      same : all_pages (in_place c 0 16 past opening) ≡ pages_of opening
      same = pages_same (in_place c 0 16 past opening) (page_text opening) (λ i. own_in_place c 0 16 i past opening (none i))

  fetches_root : MayFetch c 0 h3 first_point 16 levels.Root 0
  fetches_root = record {
    root = root;
    may = (omega arith, inl (inl (quorum_here clients seed root h3 p3 None 0 s3 refl)));
    newest = let was = s3.fetching_is in omega arith;
    next = inl (let was = s3.fetching_is in omega arith);
  }

  fetches_inner : MayFetch c 0 h5 first_point 16 levels.Inner 16
  fetches_inner = record {
    root = root;
    may = (omega arith, inl (inl (quorum_here clients seed root h5 p3 (Some (16, (levels.Root, 0))) 16 s5 refl)));
    newest = let was = s5.fetching_is in omega arith;
    next = inl (tt, part_differs h5 none_at_5 (inl f.gives_root));
  }

  fetches_header : MayFetch c 0 h7 first_point 16 levels.Page 512
  fetches_header = record {
    root = root;
    may = (omega arith, inl (inl (quorum_here clients seed root h7 p3 (Some (16, (levels.Inner, 16))) 16 s7 refl)));
    newest = let was = s7.fetching_is in omega arith;
    next = inl (
      tt,
      part_differs h7 none_at_7 (inr (inr (inl f.gives_root))),
      page_digests,
      (sym differ.own, (1, 16, inl f.gives_inner)),
      record {
        before = λ k l. absurd (omega arith);
        digest = differ.page.digest;
        wants = differ.page.wants;
        differs = λ e. differ.page.differs (e ∙ ap sha256 (own_in_place c 0 16 512 h7 opening (none_at_7 512)));
      },
    );
  }

  -- ---- the history

  installs : IsStep c 0 h9 first_point (Installed 0 16 root) last_point
  installs = record { own = refl; may = (omega arith, inl (inr (inr (inr (inr (inr (inr (inl (quorum_here clients seed root h3 p3 None 0 s3 refl))))))))); moves = installed }

  at_3 : HistoryReaches c 0 h3 first_point
  at_3 = (
    first_point,
    (
      first_point,
      (first_point, refl, gets clients seed root [] (w.checkpoint 1) (checkpoint_of 1) hears1 tt),
      gets clients seed root h1 (w.checkpoint 2) (checkpoint_of 2) (f.checkpoints 2 (omega arith) (omega arith)) tt,
    ),
    gets clients seed root h2 (w.checkpoint 3) (checkpoint_of 3) (f.checkpoints 3 (omega arith) (omega arith)) tt,
  )

  at_5 : HistoryReaches c 0 h5 first_point
  at_5 = (
    first_point,
    (first_point, at_3, fetch_sends clients seed root h3 w.fetch_root 0 levels.Root fetches_root f.asks_root (λ here. here)),
    gets clients seed root h4 w.below_root root_given f.gives_root tt,
  )

  at_7 : HistoryReaches c 0 h7 first_point
  at_7 = (
    first_point,
    (first_point, at_5, fetch_sends clients seed root h5 w.fetch_inner 16 levels.Inner fetches_inner f.asks_inner (λ here. here)),
    gets clients seed root h6 w.below_inner inner_given f.gives_inner tt,
  )

  at_9 : HistoryReaches c 0 h9 first_point
  at_9 = (
    first_point,
    (first_point, at_7, fetch_sends clients seed root h7 w.fetch_header 512 levels.Page fetches_header f.asks_header (λ here. here)),
    gets clients seed root h8 w.header (record { sender = 1; message = Page 16 512 (header_text later_state.space 16) }) f.gives_header tt,
  )

  is_installed : (point : Point) × HistoryReaches c 0 (installation w) point × (point.state ≡ later_state)
  is_installed = (last_point, (first_point, at_9, installs), refl)

pub state_is_installed : StateIsInstalled
state_is_installed clients seed w differ f = is_installed clients seed w differ f
