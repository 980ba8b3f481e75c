-- There are frames of a replica that fetches, whatever the pages, if each fits a frame.
use Rattle.std.proofs.Common.{◌≡◌, ℕ, ◌*◌, ◌<◌, List, [], ◌∷◌, length, map, refl, sym, subst, arith, length-append}
use Rattle.std.specs.List.{concat, range_with_len}
use Rattle.std.proofs.lemmas.Bool.{lt-ltb}
use Rattle.std.proofs.lemmas.List.FromFn.{length-map-range_with_len}
use Rattle.sha2.specs.Sha256.{sha256}
use Rattle.sha2.proofs.Facts256.{length-sha256}
use Rattle.partition_tree.specs.Digests.{page_digests, inner_digests, root_of as root_of_pages}
use Rattle.terms.specs.declared.state.Level.TheVariants as levels
use Rattle.wire_format.specs.Lists.{Each, each_spelling}
use Rattle.wire_format.specs.Messages.{BodyData as Body, MessageData as Message, checkpoint as Checkpoint, fetch as Fetch, meta as Meta, page as Page}
use Rattle.wire_format.specs.Spelling.{IsDigest, body_spelling}
use Rattle.protocol.specs.System.Configuration.{Configuration}
use Rattle.protocol.specs.Replica.State.{all_pages}
use Rattle.protocol.specs.Replica.RightReplica.{others}
use Rattle.protocol.specs.System.Schedule.{sealed_bytes}
use Rattle.evidence.specs.Examples.{four}
use Rattle.evidence.specs.Fetched.{FetchFrames, AreFetchFrames, FitFrames, FetchFramesExist}
use Rattle.protocol.proofs.Words.Roots.{inner_is, pages_part}
use Rattle.evidence.proofs.FirstFrames.{AreFew, is_digest, may_seal, others_exchange, others_few}
use Rattle.evidence.proofs.Knowing.{DoExchange}
use Rattle.evidence.proofs.FirstFramesSealed.{MaySeal, sealed_is_authentic}

-- ---- 32 digests

-- digests, and how long they are one after another
record AreDigests (digests : List (List ℕ)) : Type 0 where
  pub count : length digests ≡ 32
  pub each : Each IsDigest digests

made_digests : (f : ℕ → List ℕ) (xs : List ℕ) → Each IsDigest (map (λ j. sha256 (f j)) xs)
made_digests f [] = tt
made_digests f (x ∷ xs) = (is_digest (f x), made_digests f xs)

are_digests : (f : ℕ → List ℕ) (a : ℕ) → AreDigests (map (λ j. sha256 (f j)) (range_with_len a 32))
are_digests f a = record { count = length-map-range_with_len (λ j. sha256 (f j)) a 32; each = made_digests f (range_with_len a 32) }

digests_length : (digests : List (List ℕ)) → Each IsDigest digests → length (each_spelling (λ d. d) digests) ≡ 32 * length digests
digests_length [] h = refl
digests_length (d ∷ digests) h =
    let sum = length-append d (each_spelling (λ x. x) digests) in
    let here = h.0.whole in
    let below = digests_length digests h.1 in
    omega arith

-- ---- the frames

module _ (clients : ℕ) (seed : List ℕ) (page : ℕ → List ℕ) (fit : FitFrames page) where
  abbrev c : Configuration
  c = four clients seed

  abbrev root : List ℕ
  root = root_of_pages (all_pages page)

  abbrev by : ℕ → Message → Body
  by sender message = record { sender = sender; message = message }

  abbrev made : ℕ → Message → List ℕ → List ℕ
  made sender message receivers = sealed_bytes c sender receivers (body_spelling (by sender message))

  one_few : AreFew (0 ∷ [])
  one_few = record { some = omega arith; few = omega arith; ascend = refl; parties = (omega arith, tt) }

  one_exchanges : Each (DoExchange c 1) (0 ∷ [])
  one_exchanges = ((refl, refl), tt)

  abbrev root_digests : List (List ℕ)
  root_digests = inner_digests (all_pages page)

  abbrev part_digests : ℕ → List (List ℕ)
  part_digests j = page_digests (all_pages page) j

  lists_checkpoint : (r : ℕ) → r < 4 → MaySeal c (by r (Checkpoint 16 root)) (others c r)
  lists_checkpoint r below =
      let l = length-sha256 (concat root_digests) in
      may_seal c r (Checkpoint 16 root) (others c r) (omega arith) (lt-ltb r 4 below) (omega arith, is_digest (concat root_digests)) refl (others_few clients seed r below) (others_exchange clients seed r below) refl (omega arith)

  asks_root : MaySeal c (by 0 (Fetch 16 levels.Root 0)) (others c 0)
  asks_root = may_seal c 0 (Fetch 16 levels.Root 0) (others c 0) (omega arith) refl (omega arith, omega arith) refl (others_few clients seed 0 (omega arith)) (others_exchange clients seed 0 (omega arith)) refl (omega arith)

  asks_inner : (j : ℕ) → j < 32 → MaySeal c (by 0 (Fetch 16 levels.Inner j)) (others c 0)
  asks_inner j l = may_seal c 0 (Fetch 16 levels.Inner j) (others c 0) (omega arith) refl (omega arith, omega arith) refl (others_few clients seed 0 (omega arith)) (others_exchange clients seed 0 (omega arith)) refl (omega arith)

  asks_page : (i : ℕ) → i < 1024 → MaySeal c (by 0 (Fetch 16 levels.Page i)) (others c 0)
  asks_page i l = may_seal c 0 (Fetch 16 levels.Page i) (others c 0) (omega arith) refl (omega arith, omega arith) refl (others_few clients seed 0 (omega arith)) (others_exchange clients seed 0 (omega arith)) refl (omega arith)

  gives_root : MaySeal c (by 1 (Meta 16 levels.Root 0 root_digests)) (0 ∷ [])
  gives_root =
      let are = subst AreDigests (sym (inner_is (all_pages page))) (are_digests (λ j. concat (page_digests (all_pages page) j)) 0) in
      let n = digests_length root_digests are.each in
      let count = are.count in
      may_seal c 1 (Meta 16 levels.Root 0 root_digests) (0 ∷ []) (omega arith) refl (omega arith, refl, omega arith, are.count, are.each) refl one_few one_exchanges refl (omega arith)

  gives_inner : (j : ℕ) → j < 32 → MaySeal c (by 1 (Meta 16 levels.Inner j (part_digests j))) (0 ∷ [])
  gives_inner j l =
      let are = subst AreDigests (sym (pages_part page j l)) (are_digests page (32 * j)) in
      let n = digests_length (part_digests j) are.each in
      let count = are.count in
      may_seal c 1 (Meta 16 levels.Inner j (part_digests j)) (0 ∷ []) (omega arith) refl (omega arith, refl, omega arith, are.count, are.each) refl one_few one_exchanges refl (omega arith)

  gives_page : (i : ℕ) → i < 1024 → MaySeal c (by 1 (Page 16 i (page i))) (0 ∷ [])
  gives_page i l =
      let short = (fit i l).1 in
      may_seal c 1 (Page 16 i (page i)) (0 ∷ []) (omega arith) refl (omega arith, omega arith, (fit i l).0) refl one_few one_exchanges refl (omega arith)

  abbrev frames : FetchFrames
  frames = record {
    checkpoint = λ r. made r (Checkpoint 16 root) (others c r);
    fetch_root = made 0 (Fetch 16 levels.Root 0) (others c 0);
    below_root = made 1 (Meta 16 levels.Root 0 root_digests) (0 ∷ []);
    fetch_inner = λ j. made 0 (Fetch 16 levels.Inner j) (others c 0);
    below_inner = λ j. made 1 (Meta 16 levels.Inner j (part_digests j)) (0 ∷ []);
    fetch_page = λ i. made 0 (Fetch 16 levels.Page i) (others c 0);
    page = λ i. made 1 (Page 16 i (page i)) (0 ∷ []);
  }

  are_frames : AreFetchFrames c page frames
  are_frames = record {
    checkpoints = λ r some l. sealed_is_authentic c (by r (Checkpoint 16 root)) (others c r) (lists_checkpoint r l);
    asks_root = sealed_is_authentic c (by 0 (Fetch 16 levels.Root 0)) (others c 0) asks_root;
    gives_root = sealed_is_authentic c (by 1 (Meta 16 levels.Root 0 root_digests)) (0 ∷ []) gives_root;
    asks_inner = λ j l. sealed_is_authentic c (by 0 (Fetch 16 levels.Inner j)) (others c 0) (asks_inner j l);
    gives_inner = λ j l. sealed_is_authentic c (by 1 (Meta 16 levels.Inner j (part_digests j))) (0 ∷ []) (gives_inner j l);
    asks_page = λ i l. sealed_is_authentic c (by 0 (Fetch 16 levels.Page i)) (others c 0) (asks_page i l);
    gives_page = λ i l. sealed_is_authentic c (by 1 (Page 16 i (page i))) (0 ∷ []) (gives_page i l);
  }

  pub exist : (w : FetchFrames) × AreFetchFrames c page w
  exist = (frames, are_frames)

pub fetch_frames_exist : FetchFramesExist
fetch_frames_exist clients seed page fit = exist clients seed page fit
