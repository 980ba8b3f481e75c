-- The pages that a transfer has fetched are those that its replica's history took.
use Rattle.std.proofs.Common.{◌≡◌, ◌≢◌, ℕ, zero, suc, ◌≤◌, ◌<◌, ◌⊎◌, inl, inr, Bool, true, false, cond, List, [], ◌∷◌, length, replicate, get_or, refl, sym, ap, ap₂, ◌∙◌, subst, arith, Option, Some, None, eqb-true}
use Rattle.std.specs.Prelude.{◌==◌, nat_le, option_and_then, slice_index_or, ⊤}
use Rattle.std.specs.Bool.{then_some}
use Rattle.std.specs.Option.{option_map_or}
use Rattle.std.proofs.lemmas.Bool.{eqb-false}
use Rattle.std.proofs.lemmas.List.{get_or-set_same, get_or-set_other}
use Rattle.quorum.specs.Votes.{or_else}
use Rattle.terms.specs.declared.state.Level.{Level}
use Rattle.terms.specs.declared.state.Level.TheVariants as levels
use Rattle.wire_format.specs.Messages.{BodyData as Body, MessageData as Message, fetch as Fetch, meta as Meta, page as Page}
use Rattle.wire_format.specs.Words.{said}
use Rattle.signing.specs.AuthenticBody.{authentic}
use Rattle.protocol.specs.System.Configuration.{Configuration, members}
use Rattle.protocol.specs.System.Trace.{Entry}
use Rattle.protocol.specs.System.Trace.Entry.{Invoke, Got, Tick, Executed, Installed, Sent, Accepted}
use Rattle.protocol.specs.Replica.State.{State, page_text}
use Rattle.protocol.specs.Replica.Transfers.{place_from, number_asked, fetching, asked_last, took, in_place}
use Rattle.protocol.proofs.Words.Options.{some_injective, or_else_cases}
use Rattle.protocol.proofs.Words.Transfers as Taken
use Rattle.state_transfer.specs.Transfer.{TransferData, none_fetched, new_transfer, with_digests, with_page, RestsOn as IsRested}
use Rattle.replica_histories.specs.Transfers.{page_held, is_fetched, place_sent, LeavesState, AreTaken, NoneTaken}

-- ---- a number for which nothing was fetched

place_number : (body : Body) (n : ℕ) (place : Level × ℕ) → place_from body ≡ Some (n, place) → elim body.message [ Fetch k level index ↦ k | _ ↦ 0 ] ≡ n
place_number body n place h = go body.message h
  where
    go : (m : Message) → place_from (record { sender = body.sender; message = m }) ≡ Some (n, place) → elim m [ Fetch k level index ↦ k | _ ↦ 0 ] ≡ n
    go (Fetch k level index) g = ap (λ (o : Option (ℕ × (Level × ℕ))). option_map_or (λ x. x.0) o 0) g
    go _ g = absurd cc

-- the last asked place has a number for which something was fetched
pub asked_at_most : (past : List Entry) (n : ℕ) (place : Level × ℕ) → asked_last past ≡ Some (n, place) → n ≤ fetching past
asked_at_most [] n place h = absurd cc
asked_at_most (Sent p bytes ∷ past) n place h = go (said bytes) refl (asked_at_most past n place) (or_else_cases (option_and_then place_from (said bytes)) (asked_last past) (n, place) h)
  where
    go : (o : Option Body) → said bytes ≡ o → (asked_last past ≡ Some (n, place) → n ≤ fetching past) → (option_and_then place_from (said bytes) ≡ Some (n, place)) ⊎ (asked_last past ≡ Some (n, place)) → n ≤ fetching (Sent p bytes ∷ past)
    go o is least (inr below) = let l = least below in omega arith
    go None is least (inl here) = absurd (let bad : None ≡ Some (n, place) = sym (ap (option_and_then place_from) is) ∙ here in cc)
    go (Some body) is least (inl here) =
        let own = place_number body n place (sym (ap (option_and_then place_from) is) ∙ here) in
        let sent = ap (λ (o : Option Body). option_map_or (λ (b : Body). elim b.message [ Fetch k level index ↦ k | _ ↦ 0 ]) o 0) is ∙ own in
        omega arith
asked_at_most (_ ∷ past) n place h = let least = asked_at_most past n place h in omega arith

-- An event that goes on for a number for which nothing was fetched takes nothing.
pub newer_takes_nothing : (c : Configuration) (me k i : ℕ) (past : List Entry) → fetching past < k → took c me (Some k) past i ≡ took c me None past i
unfolding took
newer_takes_nothing c me k i [] l = refl
newer_takes_nothing c me k i (Got p bytes ∷ past) l =
    Taken.others_are_left c me k i past bytes (λ sender text receives asked. let least = asked_at_most past k (levels.Page, i) asked in absurd (omega arith))
newer_takes_nothing c me k i (Tick p ∷ past) l = refl
newer_takes_nothing c me k i (Sent p bytes ∷ past) l = go (number_asked bytes) (newer_takes_nothing c me k i past (omega arith))
  where
    go : (o : Option ℕ) → took c me (Some k) past i ≡ took c me None past i → took c me (or_else o (Some k)) past i ≡ took c me (or_else o None) past i
    go None same = same
    go (Some n) same = refl
newer_takes_nothing c me k i (Executed r n batch ∷ past) l = ap (λ (o : Option (List ℕ)). cond (nat_le (fetching past) n) None o) (newer_takes_nothing c me k i past (omega arith))
newer_takes_nothing c me k i (Installed r n root ∷ past) l = refl
newer_takes_nothing c me k i (Invoke x y z ∷ past) l = newer_takes_nothing c me k i past (omega arith)
newer_takes_nothing c me k i (Accepted x y z ∷ past) l = newer_takes_nothing c me k i past (omega arith)

pub newer_taken : (c : Configuration) (me k : ℕ) (t : TransferData) (past : List Entry) → fetching past < k → AreTaken c me None t past → AreTaken c me (Some k) t past
newer_taken c me k t past l taken i within = newer_takes_nothing c me k i past l ∙ taken i within

-- ---- from one entry to the next

-- a taken page stays taken
pub took_stays : (c : Configuration) (me i : ℕ) (past : List Entry) (e : Entry) → place_sent e ≡ None → LeavesState e → took c me None (e ∷ past) i ≡ took c me None past i
unfolding took
took_stays c me i past (Sent p bytes) none leaves = Taken.outputs_tell_nothing c me p i None past bytes none
took_stays c me i past (Executed r n batch) none leaves = absurd leaves
took_stays c me i past (Installed r n root) none leaves = absurd leaves
took_stays c me i past _ none leaves = refl

pub nothing_at_first : (c : Configuration) (me : ℕ) → NoneTaken c me None []
unfolding took
nothing_at_first c me i l = refl

-- ---- the transfer alone

pub all_default : {A : Type 0} (n i : ℕ) (d : A) → get_or (replicate n d) i d ≡ d
all_default zero i d = refl
all_default (suc n) zero d = refl
all_default (suc n) (suc i) d = all_default n i d

pub started_taken : (c : Configuration) (me k : ℕ) (next : Option ℕ) (root : List ℕ) (pages : List (List ℕ)) (history : List Entry) → NoneTaken c me next history → AreTaken c me next (new_transfer k root pages) history
unfolding none_fetched
started_taken c me k next root pages history none i l = none i l ∙ ap (λ (b : Bool). then_some b (slice_index_or pages i [])) (sym (all_default 1024 i false))

digests_at : (c : Configuration) (me : ℕ) (next : Option ℕ) (level : Level) (index : ℕ) (digests : List (List ℕ)) (t : TransferData) (history : List Entry) → AreTaken c me next t history
    → AreTaken c me next (with_digests t (record { level = level; index = index }) digests) history
digests_at c me next levels.Root index digests t history h i l = h i l
digests_at c me next _ index digests t history h i l = h i l

pub digests_taken : (c : Configuration) (me : ℕ) (next : Option ℕ) (level : Level) (index : ℕ) (digests : List (List ℕ)) (t : TransferData) (history : List Entry) → AreTaken c me next t history
    → AreTaken c me next (with_digests t (record { level = level; index = index }) digests) history
digests_taken c me next level index digests t history h = digests_at c me next level index digests t history h

pub rested_taken : (c : Configuration) (me : ℕ) (next : Option ℕ) (pages : List (List ℕ)) (old new : TransferData) (history : List Entry) → IsRested old pages new → AreTaken c me next old history → AreTaken c me next new history
rested_taken c me next pages old new history r h i l =
    h i l ∙ go (is_fetched old i) refl ∙ ap (λ (b : Bool). then_some b (page_held new i)) (sym (ap (λ (x : TransferData). is_fetched x i) r.same))
  where
    go : (b : Bool) → is_fetched old i ≡ b → then_some b (page_held old i) ≡ then_some b (page_held new i)
    go true e = ap Some (sym (r.fetched i l e))
    go false e = refl

-- ---- inputs

-- the page that was asked for last
pub page_taken : (c : Configuration) (me sender index : ℕ) (t : TransferData) (past : List Entry) (bytes text : List ℕ) → authentic (members c me) me bytes ≡ Some (record { sender = sender; message = Page t.number index text })
    → asked_last past ≡ Some (t.number, (levels.Page, index)) → length t.held ≡ 1024 → length t.fetched ≡ 1024 → index < 1024 → AreTaken c me None t past → AreTaken c me (Some t.number) (with_page t index text) (Got me bytes ∷ past)
page_taken c me sender index t past bytes text says asked long known within h i l = at (i == index) refl
  where
    held_long : index < length t.held
    held_long = omega arith

    fetched_long : index < length t.fetched
    fetched_long = omega arith

    here : took c me (Some t.number) (Got me bytes ∷ past) index ≡ then_some (is_fetched (with_page t index text) index) (page_held (with_page t index text) index)
    here =
        Taken.answers_are_taken c me sender t.number index past bytes text says asked
        ∙ sym (ap₂ (λ (b : Bool) (x : List ℕ). then_some b x) (get_or-set_same t.fetched index true false fetched_long) (get_or-set_same t.held index text [] held_long))

    at : (b : Bool) → (i == index) ≡ b → took c me (Some t.number) (Got me bytes ∷ past) i ≡ then_some (is_fetched (with_page t index text) i) (page_held (with_page t index text) i)
    at true e = subst (λ (j : ℕ). took c me (Some t.number) (Got me bytes ∷ past) j ≡ then_some (is_fetched (with_page t index text) j) (page_held (with_page t index text) j)) (sym (eqb-true i index e)) here
    at false e =
        let other : i ≢ index = eqb-false i index e in
        Taken.others_are_left c me t.number i past bytes (λ s x receives place. other (same_place (sym place ∙ asked)))
        ∙ h i l
        ∙ sym (ap₂ (λ (b : Bool) (x : List ℕ). then_some b x) (get_or-set_other t.fetched index i true false other) (get_or-set_other t.held index i text [] other))
      where
        same_place : ◌≡◌ {A = Option (ℕ × (Level × ℕ))} (Some (t.number, (levels.Page, i))) (Some (t.number, (levels.Page, index))) → i ≡ index
        same_place q = ap (λ (o : Option (ℕ × (Level × ℕ))). option_map_or (λ x. x.1.1) o 0) q

-- digests are no page
pub meta_taken : (c : Configuration) (me k s n index : ℕ) (level : Level) (digests : List (List ℕ)) (t : TransferData) (past : List Entry) (bytes : List ℕ)
    → authentic (members c me) me bytes ≡ Some (record { sender = s; message = Meta n level index digests }) → AreTaken c me None t past → AreTaken c me (Some k) t (Got me bytes ∷ past)
meta_taken c me k s n index level digests t past bytes says h i l = Taken.others_are_left c me k i past bytes (λ sender text receives asked. absurd (other sender text (some_injective _ _ (sym says ∙ receives)))) ∙ h i l
  where
    IsMeta : Message → Type 0
    IsMeta m = elim m [ Meta number level index digests ↦ ⊤ | _ ↦ ⊥ ]

    other : (sender : ℕ) (text : List ℕ) → ◌≡◌ {A = Body} (record { sender = s; message = Meta n level index digests }) (record { sender = sender; message = Page k i text }) → ⊥
    other sender text e = subst IsMeta (ap (λ (b : Body). b.message) e) tt

pub tick_taken : (c : Configuration) (me : ℕ) (next : Option ℕ) (t : TransferData) (past : List Entry) → AreTaken c me None t past → AreTaken c me next t (Tick me ∷ past)
tick_taken c me next t past h i l = Taken.ticks_take_nothing c me me i next past ∙ h i l

-- ---- outputs

-- a fetch of its number
pub fetch_taken : (c : Configuration) (me index : ℕ) (level : Level) (next : Option ℕ) (t : TransferData) (past : List Entry) (bytes : List ℕ) → said bytes ≡ Some (record { sender = me; message = Fetch t.number level index })
    → AreTaken c me (Some t.number) t past → AreTaken c me next t (Sent me bytes ∷ past)
fetch_taken c me index level next t past bytes says h i l = Taken.fetches_tell c me t.number index i level next past bytes says ∙ h i l

pub execution_leaves : (c : Configuration) (me n : ℕ) (next : Option ℕ) (batch : List ℕ) (t : TransferData) (past : List Entry) → n < fetching past → AreTaken c me next t past → AreTaken c me next t (Executed me n batch ∷ past)
execution_leaves c me n next batch t past below h i l = Taken.executions_leave c me me n i next batch past below ∙ h i l

pub execution_ends : (c : Configuration) (me n : ℕ) (next : Option ℕ) (batch : List ℕ) (past : List Entry) → fetching past ≤ n → NoneTaken c me next (Executed me n batch ∷ past)
execution_ends c me n next batch past reached i l = Taken.executions_end c me me n i next batch past reached

pub installation_ends : (c : Configuration) (me n : ℕ) (next : Option ℕ) (root : List ℕ) (past : List Entry) → NoneTaken c me next (Installed me n root ∷ past)
installation_ends c me n next root past i l = Taken.installations_end c me me n i next root past

-- ---- the installed state

-- The pages that the transfer holds are those in place.
pub held_in_place : (c : Configuration) (me : ℕ) (t : TransferData) (past : List Entry) (old : State) → AreTaken c me (Some t.number) t past
    → ((i : ℕ) → i < 1024 → is_fetched t i ≡ false → page_held t i ≡ page_text old i) → (i : ℕ) → i < 1024 → page_held t i ≡ in_place c me t.number past old i
held_in_place c me t past old taken own i l = go (is_fetched t i) refl ∙ sym (ap (λ (o : Option (List ℕ)). option_map_or (λ x. x) o (page_text old i)) (taken i l))
  where
    go : (b : Bool) → is_fetched t i ≡ b → page_held t i ≡ option_map_or (λ x. x) (then_some b (page_held t i)) (page_text old i)
    go true e = refl
    go false e = own i l e

-- A state whose pages they are has the pages that are in place.
pub installed_in_place : (c : Configuration) (me : ℕ) (t : TransferData) (past : List Entry) (old st : State) → AreTaken c me (Some t.number) t past
    → ((i : ℕ) → i < 1024 → is_fetched t i ≡ false → page_held t i ≡ page_text old i) → ((i : ℕ) → i < 1024 → page_held t i ≡ page_text st i)
    → (i : ℕ) → i < 1024 → page_text st i ≡ in_place c me t.number past old i
installed_in_place c me t past old st taken own is i l = sym (is i l) ∙ held_in_place c me t past old taken own i l
