-- Each page that a replica fetches adds only itself to the texts whose digests must differ.
-- So does each page that the replica receives after any trace.
use Rattle.std.proofs.Common.{◌≡◌, ℕ, zero, suc, ◌+◌, ◌/◌, ◌%◌, ◌<◌, ◌⊎◌, inl, inr, Bool, true, false, cond, List, [], ◌∷◌, ◌++◌, length, refl, sym, ap, ◌∙◌, subst, arith, Option, Some, None, eqb-true}
use Rattle.std.specs.Prelude.{◌==◌}
use Rattle.std.specs.Option.{option_map_or}
use Rattle.std.proofs.lemmas.List.{length-append}
use Rattle.std.proofs.lemmas.Bool.{eqb-false}
use Rattle.partition_tree.specs.Digests.{page_digests, inner_digests, root_of as root_of_pages}
use Rattle.protocol.specs.System.Configuration.{Configuration}
use Rattle.terms.specs.declared.state.Level.TheVariants as levels
use Rattle.wire_format.specs.Messages.{BodyData as Body, MessageData as Message, checkpoint as Checkpoint, fetch as Fetch, meta as Meta, page as Page}
use Rattle.wire_format.specs.Words.{said}
use Rattle.protocol.specs.System.Trace.{Entry, Has}
use Rattle.protocol.specs.System.Trace.Entry.{Got, Sent}
use Rattle.protocol.specs.Replica.State.{all_pages}
use Rattle.protocol.specs.System.Texts.{IsText, batches_of, parts_of, first_batch, AreFirstBatches}
use Rattle.protocol.specs.System.Texts.IsText.{null, batch, part, page_of, under, installed}
use Rattle.evidence.specs.Examples.{four}
use Rattle.evidence.specs.Fetched.{FetchFrames, AreFetchFrames, fetching_page, fetching_pages, FetchedAddThemselves, PagesAddThemselves}
use Rattle.evidence.specs.Listed.{texts_at, texts_added}
use Rattle.protocol.proofs.Words.Options.{some_injective, or_else_alone}
use Rattle.evidence.proofs.Listing.{first_count}

-- ---- what the history adds

module _ (c : Configuration) (trace : List Entry) where
  abbrev pub count : List Entry → ℕ
  count xs = length (texts_added c trace xs)

  pub grows : (e : Entry) (past : List Entry) (k : ℕ) → length (texts_at c trace past e) ≡ k → count (e ∷ past) ≡ k + count past
  grows e past k is = let sum = length-append (texts_at c trace past e) (texts_added c trace past) in omega arith

  abbrev pub number_in : Option Body → ℕ
  number_in o = length (option_map_or (λ body. batches_of body.message) o [] ++ option_map_or (λ body. parts_of body.message) o [])

  pub got_grows : (bytes : List ℕ) (body : Body) (past : List Entry) (k : ℕ) → said bytes ≡ Some body → number_in (Some body) ≡ k → count (Got 0 bytes ∷ past) ≡ k + count past
  got_grows bytes body past k says is = grows (Got 0 bytes) past k (ap number_in says ∙ is)

  abbrev batches_in : Option Body → ℕ
  batches_in o = length (option_map_or (λ body. batches_of body.message) o [])

  sent_grows : (bytes : List ℕ) (body : Body) (past : List Entry) → said bytes ≡ Some body → batches_in (Some body) ≡ 0 → count (Sent 0 bytes ∷ past) ≡ 0 + count past
  sent_grows bytes body past says is = grows (Sent 0 bytes) past 0 (ap batches_in says ∙ is)

module _ (clients : ℕ) (seed : List ℕ) (page : ℕ → List ℕ) (w : FetchFrames) (f : AreFetchFrames (four clients seed) page w) (trace : List Entry) where
  abbrev pub configuration : Configuration
  configuration = four clients seed

  abbrev pub counted : List Entry → ℕ
  counted xs = count configuration trace xs

  abbrev whole_body : (sender : ℕ) → Message → Body
  whole_body sender message = record { sender = sender; message = message }

  -- a page that is asked for adds nothing yet, and its inner part one text of digests
  asked_count : (past : List Entry) (i : ℕ) → i < 1024 → (k : ℕ) → (((i % 32 == 0) ≡ true) × (k ≡ 1)) ⊎ (((i % 32 == 0) ≡ false) × (k ≡ 0)) → counted (fetching_page w past i) ≡ k + counted past
  asked_count past i small k ways =
      go (i % 32 == 0) refl ways
    where
      low : i / 32 < 32
      low = omega arith

      digests : List (List ℕ)
      digests = page_digests (all_pages page) (i / 32)

      go : (b : Bool) → (i % 32 == 0) ≡ b → (((i % 32 == 0) ≡ true) × (k ≡ 1)) ⊎ (((i % 32 == 0) ≡ false) × (k ≡ 0))
          → counted (Sent 0 (w.fetch_page i) ∷ cond b (Got 0 (w.below_inner (i / 32)) ∷ Sent 0 (w.fetch_inner (i / 32)) ∷ past) past) ≡ k + counted past
      go true is (inl h) =
          let x = sent_grows configuration trace (w.fetch_page i) (whole_body 0 (Fetch 16 levels.Page i)) (Got 0 (w.below_inner (i / 32)) ∷ Sent 0 (w.fetch_inner (i / 32)) ∷ past) (f.asks_page i small).says refl in
          let y = got_grows configuration trace (w.below_inner (i / 32)) (whole_body 1 (Meta 16 levels.Inner (i / 32) digests)) (Sent 0 (w.fetch_inner (i / 32)) ∷ past) 1 (f.gives_inner (i / 32) low).says refl in
          let z = sent_grows configuration trace (w.fetch_inner (i / 32)) (whole_body 0 (Fetch 16 levels.Inner (i / 32))) past (f.asks_inner (i / 32) low).says refl in
          let one : k ≡ 1 = h.1 in
          omega arith
      go true is (inr h) = let bad : true ≡ false = sym is ∙ h.0 in absurd cc
      go false is (inl h) = let bad : false ≡ true = sym is ∙ h.0 in absurd cc
      go false is (inr h) =
          let x = sent_grows configuration trace (w.fetch_page i) (whole_body 0 (Fetch 16 levels.Page i)) past (f.asks_page i small).says refl in
          let none : k ≡ 0 = h.1 in
          omega arith

  -- what the pages below n, the inner parts of the pages up to n and the root add to the opening state's
  pub all_counted : (n : ℕ) → n < 1024 → counted (fetching_pages w n) ≡ n + n / 32 + 1060
  all_counted zero small =
      let root = got_grows configuration trace w.below_root (whole_body 1 (Meta 16 levels.Root 0 (inner_digests (all_pages page)))) h4 1 f.gives_root.says refl in
      let asks = sent_grows configuration trace w.fetch_root (whole_body 0 (Fetch 16 levels.Root 0)) h3 f.asks_root.says refl in
      let third = got_grows configuration trace (w.checkpoint 3) (checkpoint 3) (Got 0 (w.checkpoint 2) ∷ h1) 0 (f.checkpoints 3 (omega arith) (omega arith)).says refl in
      let second = got_grows configuration trace (w.checkpoint 2) (checkpoint 2) h1 0 (f.checkpoints 2 (omega arith) (omega arith)).says refl in
      let first = got_grows configuration trace (w.checkpoint 1) (checkpoint 1) [] 0 (f.checkpoints 1 (omega arith) (omega arith)).says refl in
      let none = first_count configuration trace in
      let inner = asked_count (Got 0 w.below_root ∷ h4) 0 small 1 (inl (refl, refl)) in
      omega arith
    where
      checkpoint : ℕ → Body
      checkpoint r = whole_body r (Checkpoint 16 (root_of_pages (all_pages page)))

      h1 : List Entry
      h1 = Got 0 (w.checkpoint 1) ∷ []

      h3 : List Entry
      h3 = Got 0 (w.checkpoint 3) ∷ Got 0 (w.checkpoint 2) ∷ h1

      h4 : List Entry
      h4 = Sent 0 w.fetch_root ∷ h3
  all_counted (suc n) small =
      let below = all_counted n (omega arith) in
      let got = got_grows configuration trace (w.page n) (whole_body 1 (Page 16 n (page n))) (fetching_pages w n) 1 (f.gives_page n (omega arith)).says refl in
      go (suc n % 32 == 0) refl below got
    where
      go : (b : Bool) → (suc n % 32 == 0) ≡ b → counted (fetching_pages w n) ≡ n + n / 32 + 1060 → counted (Got 0 (w.page n) ∷ fetching_pages w n) ≡ 1 + counted (fetching_pages w n)
          → counted (fetching_pages w (suc n)) ≡ suc n + suc n / 32 + 1060
      go true is below got =
          let add = asked_count (Got 0 (w.page n) ∷ fetching_pages w n) (suc n) small 1 (inl (is, refl)) in
          let at : suc n % 32 ≡ 0 = eqb-true (suc n % 32) 0 is in
          omega arith
      go false is below got =
          let add = asked_count (Got 0 (w.page n) ∷ fetching_pages w n) (suc n) small 0 (inr (is, refl)) in
          omega (arith, eqb-false (suc n % 32) 0 is)

pub fetched_add_themselves : FetchedAddThemselves
fetched_add_themselves clients seed page w n small differ f =
    let exact = all_counted clients seed page w f (fetching_pages w n) n small in omega arith

-- ---- what a page adds to any trace

module _ (c : Configuration) (p : ℕ) (bytes : List ℕ) (trace : List Entry) where
  still_first : (k : ℕ) (batches : List (List ℕ)) → AreFirstBatches c trace k batches → AreFirstBatches c (Got p bytes ∷ trace) k batches
  still_first k [] h = tt
  still_first k (b ∷ batches) h = ((or_else_alone (first_batch c trace k) None refl) ∙ h.0, still_first (k + 1) batches h.1)

  were_first : (k : ℕ) (batches : List (List ℕ)) → AreFirstBatches c (Got p bytes ∷ trace) k batches → AreFirstBatches c trace k batches
  were_first k [] h = tt
  were_first k (b ∷ batches) h = (sym (or_else_alone (first_batch c trace k) None refl) ∙ h.0, were_first (k + 1) batches h.1)

  -- an earlier text stays a text
  still_text : (x : List ℕ) → IsText c trace x → IsText c (Got p bytes ∷ trace) x
  still_text _ null = null
  still_text x (batch _ h) = batch x (inr h)
  still_text x (part _ h) = part x (inr h)
  still_text _ (page_of batches i l h) = page_of batches i l (still_first 1 batches h)
  still_text x (under batches _ h u) = under batches x (still_first 1 batches h) u
  still_text x (installed batches _ h u) = installed batches x (still_first 1 batches h) (inr u)

  module _ (sender k i : ℕ) (text : List ℕ) (says : said bytes ≡ Some (record { sender = sender; message = Page k i text })) where
    abbrev given : Body
    given = record { sender = sender; message = Page k i text }

    no_batch : (x : List ℕ) (body : Body) → said bytes ≡ Some body → Has (λ y. y ≡ x) (batches_of body.message) → ⊥
    no_batch x body is has = subst (λ (b : Body). Has (λ y. y ≡ x) (batches_of b.message)) (some_injective body given (sym is ∙ says)) has

    one_part : (x : List ℕ) (body : Body) → said bytes ≡ Some body → Has (λ y. y ≡ x) (parts_of body.message) → x ≡ text
    one_part x body is has = go (subst (λ (b : Body). Has (λ y. y ≡ x) (parts_of b.message)) (some_injective body given (sym is ∙ says)) has)
      where
        go : (text ≡ x) ⊎ ⊥ → x ≡ text
        go (inl same) = sym same
        go (inr none) = absurd none

    was_text : (x : List ℕ) → IsText c (Got p bytes ∷ trace) x → (x ≡ text) ⊎ IsText c trace x
    was_text _ null = inr null
    was_text x (batch _ (inl (body, is, has))) = absurd (no_batch x body is has)
    was_text x (batch _ (inr h)) = inr (batch x h)
    was_text x (part _ (inl (body, is, has))) = inl (one_part x body is has)
    was_text x (part _ (inr h)) = inr (part x h)
    was_text _ (page_of batches j l h) = inr (page_of batches j l (were_first 1 batches h))
    was_text x (under batches _ h u) = inr (under batches x (were_first 1 batches h) u)
    was_text x (installed batches _ h (inl u)) = absurd u
    was_text x (installed batches _ h (inr u)) = inr (installed batches x (were_first 1 batches h) u)

    is_text : (x : List ℕ) → (x ≡ text) ⊎ IsText c trace x → IsText c (Got p bytes ∷ trace) x
    is_text x (inl same) = part x (inl (given, says, inl (sym same)))
    is_text x (inr h) = still_text x h

pub pages_add_themselves : PagesAddThemselves
pages_add_themselves c trace p sender k i bytes text says x = (was_text c p bytes trace sender k i text says x, is_text c p bytes trace sender k i text says x)
