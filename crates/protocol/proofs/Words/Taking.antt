-- Laws of the pages that a transfer took, and of the pages in place.
use Rattle.std.proofs.Common.{◌≡◌, ℕ, zero, suc, ◌+◌, ◌≤◌, ◌<◌, ◌⊎◌, inl, inr, Bool, true, false, cond, List, [], ◌∷◌, map, refl, sym, ap, ap₂, ◌∙◌, subst, arith, ◌&&◌, Option, Some, None, eqb-true}
use Rattle.std.specs.Prelude.{◌==◌, nat_le}
use Rattle.std.specs.List.{concat, range_with_len}
use Rattle.std.specs.Option.{option_map_or}
use Rattle.std.proofs.lemmas.Bool.{and_parts}
use Rattle.quorum.specs.Votes.{or_else}
use Rattle.partition_tree.specs.Digests.{inner_digests, page_digests}
use Rattle.protocol.specs.System.Configuration.{Configuration, members}
use Rattle.wire_format.specs.Messages.{BodyData as Body, MessageData as Message, page as Page}
use Rattle.signing.specs.AuthenticBody.{authentic}
use Rattle.protocol.specs.System.Trace.{Entry, Once}
use Rattle.protocol.specs.System.Trace.Entry.{Invoke, Got, Tick, Executed, Installed, Sent, Accepted}
use Rattle.protocol.specs.Replica.State.{State, page_text, all_pages}
use Rattle.protocol.specs.Replica.Transfers.{fetching, number_asked, is_page_asked, text_given, answer, took, in_place}
use Rattle.protocol.specs.Replica.RightReplica.{GetsPage}
use Rattle.protocol.specs.System.Texts.{IsUnder}
use Rattle.protocol.specs.System.Texts.IsUnder.{inner, top}
use Rattle.protocol.proofs.Words.Options.{or_else_cases, and_then_some, then_some_gives}

-- ---- pages that were taken were received

given_page : (past : List Entry) (k i sender : ℕ) (message : Message) (text : List ℕ) → text_given past k i (record { sender = sender; message = message }) ≡ Some text
    → (number : ℕ) × (message ≡ Page number i text)
given_page past k i sender (Page number index t) text h =
    let g = then_some_gives ((number == k) && ((index == i) && is_page_asked past k i)) t text h in
    let both = and_parts (number == k) ((index == i) && is_page_asked past k i) g.0 in
    let at = and_parts (index == i) (is_page_asked past k i) both.1 in
    (number, ap₂ (λ (x : ℕ) (y : List ℕ). Page number x y) (eqb-true index i at.0) g.1)
given_page past k i sender _ text h = absurd cc

answered : (c : Configuration) (me i : ℕ) (next : Option ℕ) (past : List Entry) (text bytes : List ℕ) → answer c me next past i bytes ≡ Some text
    → (sender number : ℕ) × (authentic (members c me) me bytes ≡ Some (record { sender = sender; message = Page number i text }))
answered c me i None past text bytes h = absurd cc
answered c me i (Some k) past text bytes h =
    let a = and_then_some (text_given past k i) (authentic (members c me) me bytes) text h in
    let g = given_page past k i a.0.sender a.0.message text a.2 in
    (a.0.sender, g.0, a.1 ∙ ap (λ (m : Message). let body : Body = record { sender = a.0.sender; message = m } in Some body) g.1)

pub took_got : (c : Configuration) (me i : ℕ) (next : Option ℕ) (past : List Entry) (text : List ℕ) → took c me next past i ≡ Some text → Once (GetsPage c me i text) past
unfolding took
took_got c me i next [] text h = absurd cc
took_got c me i next (Got p bytes ∷ past) text h = go (or_else_cases (answer c me next past i bytes) (took c me None past i) text h) (took_got c me i None past text)
  where
    go : (answer c me next past i bytes ≡ Some text) ⊎ (took c me None past i ≡ Some text) → (took c me None past i ≡ Some text → Once (GetsPage c me i text) past)
        → Once (GetsPage c me i text) (Got p bytes ∷ past)
    go (inl here) below = inl (answered c me i next past text bytes here)
    go (inr there) below = inr (below there)
took_got c me i next (Tick p ∷ past) text h = inr (took_got c me i None past text h)
took_got c me i next (Sent p bytes ∷ past) text h = inr (took_got c me i (or_else (number_asked bytes) next) past text h)
took_got c me i next (Executed r number batch ∷ past) text h = inr (go (nat_le (fetching past) number) h (took_got c me i next past text))
  where
    go : (b : Bool) → cond b None (took c me next past i) ≡ Some text → (took c me next past i ≡ Some text → Once (GetsPage c me i text) past) → Once (GetsPage c me i text) past
    go true x below = absurd cc
    go false x below = below x
took_got c me i next (Installed r number root ∷ past) text h = absurd cc
took_got c me i next (Invoke x y z ∷ past) text h = inr (took_got c me i next past text h)
took_got c me i next (Accepted x y z ∷ past) text h = inr (took_got c me i next past text h)

-- a page in place is the state's own, or was received for its place
pub is_own_or_got : (c : Configuration) (me k i : ℕ) (past : List Entry) (st : State) (text : List ℕ) → text ≡ in_place c me k past st i
    → (text ≡ page_text st i) ⊎ Once (GetsPage c me i text) past
is_own_or_got c me k i past st text is = go (took c me (Some k) past i) refl is
  where
    go : (o : Option (List ℕ)) → took c me (Some k) past i ≡ o → text ≡ option_map_or (λ x. x) o (page_text st i) → (text ≡ page_text st i) ⊎ Once (GetsPage c me i text) past
    go None taken same = inl same
    go (Some x) taken same = inr (subst (λ (y : List ℕ). Once (GetsPage c me i y) past) (sym same) (took_got c me i (Some k) past x taken))

-- ---- texts under pages

pub same_on_range : (g h : ℕ → List ℕ) (a n : ℕ) → ((i : ℕ) → a ≤ i → i < a + n → g i ≡ h i) → map g (range_with_len a n) ≡ map h (range_with_len a n)
same_on_range g h a zero same = refl
same_on_range g h a (suc n) same =
    let l : a ≤ a = omega arith in
    let m : a < a + suc n = omega arith in
    ap₂ (λ (x : List ℕ) (xs : List (List ℕ)). x ∷ xs) (same a l m)
    (same_on_range g h (a + 1) n (λ i j k. let l : a ≤ i = omega arith in let m : i < a + suc n = omega arith in same i l m))

pub same_all : (g h : ℕ → List ℕ) → ((i : ℕ) → i < 1024 → g i ≡ h i) → all_pages g ≡ all_pages h
unfolding all_pages
same_all g h same = same_on_range g h 0 1024 (λ i l m. same i m)

-- the same pages have the same texts under them
pub under_same : (g h : ℕ → List ℕ) (text : List ℕ) → ((i : ℕ) → i < 1024 → g i ≡ h i) → IsUnder g text → IsUnder h text
under_same g h _ same (inner j l) =
    subst (λ (pages : List (List ℕ)). IsUnder h (concat (page_digests pages j))) (sym (same_all g h same)) (inner j l)
under_same g h _ same top = subst (λ (pages : List (List ℕ)). IsUnder h (concat (inner_digests pages))) (sym (same_all g h same)) top
