-- A transfer wants and has what its replica's history says.
use Rattle.std.proofs.Common.{◌≡◌, ℕ, zero, suc, ◌+◌, ◌*◌, ◌/◌, ◌%◌, ◌≤◌, ◌<◌, ◌⊎◌, inl, inr, Bool, true, false, List, [], ◌∷◌, set, get_or, refl, sym, ap, ◌∙◌, subst, arith, Option, Some, None, slice_get}
use Rattle.std.specs.Prelude.{nat_lt, bytes_eq, option_and_then}
use Rattle.std.specs.Bool.{then_some}
use Rattle.std.specs.Option.{option_map_or}
use Rattle.std.proofs.lemmas.Bool.{ltb-true, ltb-false, leb-true}
use Rattle.std.proofs.lemmas.Slice.Eq.{bytes_eq-Decides}
use Rattle.sha2.specs.Sha256.{sha256}
use Rattle.quorum.specs.Quorum.{count_below}
use Rattle.quorum.specs.Votes.{or_else}
use Rattle.quorum.proofs.Counting.{count_none}
use Rattle.terms.specs.declared.state.Level.{Level}
use Rattle.terms.specs.declared.state.Level.TheVariants as levels
use Rattle.partition_tree.specs.Digests.{digest_of_children}
use Rattle.wire_format.specs.Messages.{BodyData as Body, MessageData as Message, CheckpointEntryData as CheckpointEntry, fetch as Fetch, meta as Meta, page as Page}
use Rattle.wire_format.specs.Spelling.{IsMessage}
use Rattle.wire_format.specs.Words.{said}
use Rattle.wire_format.proofs.Saying.{says_what_is_spelled}
use Rattle.signing.specs.AuthenticBody.{authentic}
use Rattle.protocol.specs.System.Configuration.{Configuration, members, replicas}
use Rattle.protocol.specs.System.Trace.{Entry}
use Rattle.protocol.specs.System.Trace.Entry.{Got, Tick, Executed, Sent}
use Rattle.protocol.specs.Replica.Selection.{is_quorum}
use Rattle.protocol.specs.Replica.Certificates.{checkpoints_of, lists_checkpoint, count_checkpoints}
use Rattle.protocol.specs.Replica.RightReplica.{IsRootWanted}
use Rattle.protocol.specs.Replica.Transfers.{place_from, fetch_sent, fetching, asked_last, GotBelow}
use Rattle.protocol.specs.Replica.Owed.{IsInnerWanted, IsPageWanted}
use Rattle.protocol.proofs.Words.Options.{some_injective, and_then_some, or_else_second}
use Rattle.protocol.proofs.Words.Linking.{heard_said}
use Rattle.state_transfer.specs.declared.place.Place.{Place}
use Rattle.state_transfer.specs.Transfer.{TransferData, none_told, new_transfer, moved_to, asking, fitting_children, digest_of_part, pages_of_part, digest_of_page, wanted_at, with_part_digests, with_page_digests, with_digests, with_page}
use Rattle.replica_histories.specs.Transfers.{known_below, TransferAims, FitsTransfer, TransferMayAsk, FitsStateTransfer, AreTaken, open_number, place_sent, WantedByHistory, DigestsCount, PagesCount, AimsStay, AskedStays, OpenStays, OpenExecutes, DigestsTaken, DigestsOpen, DigestsMayAsk, PagesMayAsk, TicksMayAsk, PagesGiveBack, PagesRested, QuorumsWant, TransfersStart, TransfersMove, QuorumsOpen, LowerAreFetched, MayAskAny, TransfersMayFetch, TransfersAsk}
use Rattle.replica_histories.proofs.TransfersTaking.{newer_takes_nothing, newer_taken, took_stays, started_taken, rested_taken, page_taken, meta_taken, tick_taken, fetch_taken, execution_leaves, execution_ends, all_default}
use Rattle.replica_histories.proofs.TransfersTaking as Taking
use Rattle.replica_histories.proofs.Words.{passed}

-- ---- lists

-- a list after a change: the new item at its place, or the old one
pub set_cases : {A : Type 0} (xs : List A) (i j : ℕ) (x d : A) → ((j ≡ i) × (get_or (set xs i x) j d ≡ x)) ⊎ (get_or (set xs i x) j d ≡ get_or xs j d)
set_cases [] i j x d = inr refl
set_cases (y ∷ ys) zero zero x d = inl (refl, refl)
set_cases (y ∷ ys) zero (suc j) x d = inr refl
set_cases (y ∷ ys) (suc i) zero x d = inr refl
set_cases (y ∷ ys) (suc i) (suc j) x d = go (set_cases ys i j x d)
  where
    go : ((j ≡ i) × (get_or (set ys i x) j d ≡ x)) ⊎ (get_or (set ys i x) j d ≡ get_or ys j d) → ((suc j ≡ suc i) × (get_or (set ys i x) j d ≡ x)) ⊎ (get_or (set ys i x) j d ≡ get_or ys j d)
    go (inl h) = inl (ap suc h.0, h.1)
    go (inr h) = inr h

-- ---- wanted digests

part_wanted : (c : Configuration) (me : ℕ) (t : TransferData) (history : List Entry) (j : ℕ) (digest : List ℕ) → TransferAims c me t history → digest_of_part t j ≡ Some digest → IsInnerWanted c me history t.number j digest
part_wanted c me t history j digest a h =
    let w = and_then_some (λ digests. slice_get digests j) t.part_digests digest h in
    (t.root, w.0, a.root_wanted, a.inner w.0 w.1, w.2)

-- fitting digests were received below the place
pub fitting_got : (c : Configuration) (me : ℕ) (history : List Entry) (j : ℕ) (digest : List ℕ) (o : Option (List (List ℕ))) (digests : List (List ℕ)) → ((others : List (List ℕ)) → o ≡ Some others → GotBelow c me history levels.Inner j (digest_of_children others) others)
    → fitting_children digest o ≡ Some digests → GotBelow c me history levels.Inner j digest digests
fitting_got c me history j digest None digests got h = absurd cc
fitting_got c me history j digest (Some others) digests got h =
    let p = passed (bytes_eq (digest_of_children others) digest) (Some others) digests h in
    let same : digest_of_children others ≡ digest = (bytes_eq-Decides (digest_of_children others) digest).0 p.0 in
    subst (λ (x : List (List ℕ)). GotBelow c me history levels.Inner j digest x) (some_injective others digests p.1)
    (subst (λ (x : List ℕ). GotBelow c me history levels.Inner j x others) same (got others refl))

page_wanted : (c : Configuration) (me : ℕ) (t : TransferData) (history : List Entry) (i : ℕ) (digest : List ℕ) → TransferAims c me t history → digest_of_page t i ≡ Some digest → IsPageWanted c me history t.number i digest
page_wanted c me t history i digest a h =
    let w = and_then_some (λ digests. slice_get digests (i % 32)) (pages_of_part t (i / 32)) digest h in
    let v = and_then_some (λ inner. fitting_children inner (known_below t (i / 32))) (digest_of_part t (i / 32)) w.0 w.1 in
    (v.0, w.0, part_wanted c me t history (i / 32) v.0 a v.1, fitting_got c me history (i / 32) v.0 (known_below t (i / 32)) w.0 (a.parts (i / 32)) v.2, w.2)

pub wanted_by_history : WantedByHistory
wanted_by_history c me t history levels.Root index digest a h = subst (λ (x : List ℕ). IsRootWanted c history t.number x) (some_injective t.root digest h) a.root_wanted
wanted_by_history c me t history levels.Inner index digest a h = part_wanted c me t history index digest a h
wanted_by_history c me t history levels.Page index digest a h = page_wanted c me t history index digest a h

-- ---- which parts count

pub digests_count : DigestsCount
digests_count c me t history point bytes s place digests asks is f =
    (f.0.asked ∙ ap (λ (x : Place). Some (t.number, (x.level, x.index))) asks, f.1, wanted_by_history c me t history place.level place.index (digest_of_children digests) f.0.aims is)

pub pages_count : PagesCount
pages_count c me t history point bytes s index text asks is f =
    (f.0.asked ∙ ap (λ (x : Place). Some (t.number, (x.level, x.index))) asks, f.1, wanted_by_history c me t history levels.Page index (sha256 text) f.0.aims is)

-- ---- from one entry to the next

pub root_later : (c : Configuration) (k : ℕ) (root : List ℕ) (past : List Entry) (e : Entry) → IsRootWanted c past k root → IsRootWanted c (e ∷ past) k root
root_later c k root past e (inl h) = inl (inr h)
root_later c k root past e (inr h) = inr (inr h)

below_later : (c : Configuration) (me : ℕ) (past : List Entry) (e : Entry) (level : Level) (index : ℕ) (digest : List ℕ) (digests : List (List ℕ)) → GotBelow c me past level index digest digests → GotBelow c me (e ∷ past) level index digest digests
below_later c me past e level index digest digests h = (h.0, (h.1.0, h.1.1, inr h.1.2))

pub aims_stay : AimsStay
aims_stay c me t past e a = record {
  root_wanted = root_later c t.number t.root past e a.root_wanted;
  inner = λ digests h. below_later c me past e levels.Root 0 t.root digests (a.inner digests h);
  parts = λ j digests h. below_later c me past e levels.Inner j (digest_of_children digests) digests (a.parts j digests h);
}

-- an entry that asks for no place has no number of a fetch
abbrev pub number_of : Body → ℕ
number_of body = elim body.message [ Fetch k level index ↦ k | _ ↦ 0 ]

no_number : (sender : ℕ) (message : Message) → place_from (record { sender = sender; message = message }) ≡ None → number_of (record { sender = sender; message = message }) ≡ 0
no_number sender (Fetch k level index) h = absurd cc
no_number sender _ h = refl

none_from : (o : Option Body) → option_and_then place_from o ≡ None → option_map_or number_of o 0 ≡ 0
none_from None h = refl
none_from (Some body) h = no_number body.sender body.message h

fetches_none : (e : Entry) → place_sent e ≡ None → fetch_sent e ≡ 0
fetches_none (Sent p bytes) h = none_from (said bytes) h
fetches_none _ h = refl

last_same : (past : List Entry) (e : Entry) → place_sent e ≡ None → asked_last (e ∷ past) ≡ asked_last past
last_same past (Sent p bytes) h = or_else_second (option_and_then place_from (said bytes)) (asked_last past) h
last_same past _ h = refl

pub asked_stays : AskedStays
asked_stays past e h = (let none = fetches_none e h in omega arith, last_same past e h)

pub open_stays : OpenStays
open_stays c me None number past e h l f = let same = (asked_stays past e h).0 in let most = f.0 in (omega arith, λ i within. took_stays c me i past e h l ∙ f.1 i within)
open_stays c me (Some t) number past e h l f =
    let same = asked_stays past e h in
    (record { aims = aims_stay c me t past e f.0.aims; asked = same.1 ∙ f.0.asked; newest = same.0 ∙ f.0.newest; taken = λ i within. took_stays c me i past e h l ∙ f.0.taken i within }, f.1)

pub open_executes : OpenExecutes
open_executes c me None number later past batch grows f = let most = f.0 in (omega arith, execution_ends c me later None batch past (omega arith))
open_executes c me (Some t) number later past batch grows f = go (nat_lt later t.number) refl
  where
    go : (b : Bool) → nat_lt later t.number ≡ b → FitsStateTransfer c me (then_some b t) later (Executed me later batch ∷ past)
    go true e =
        let above = ltb-true later t.number e in
        let newest = f.0.newest in (
          record {
            aims = aims_stay c me t past (Executed me later batch) f.0.aims;
            asked = f.0.asked;
            newest = omega arith;
            taken = execution_leaves c me later None batch t past (omega arith) f.0.taken;
          },
          above,
        )
    go false e =
        let least = ltb-false later t.number e in
        let newest = f.0.newest in
        (omega arith, execution_ends c me later None batch past (omega arith))

-- ---- parts that a transfer takes

-- a received message may be sent
pub heard_valid : (c : Configuration) (me : ℕ) (bytes : List ℕ) (body : Body) → authentic (members c me) me bytes ≡ Some body → IsMessage body.message
heard_valid c me bytes body h =
    let w = (says_what_is_spelled bytes body).0 (heard_said c me bytes body h) in
    subst (λ (b : Body). IsMessage b.message) w.2 w.1.valid.message

-- digests of the root's children
parts_told : (c : Configuration) (me : ℕ) (t : TransferData) (past : List Entry) (bytes : List ℕ) (s n index : ℕ) (digests : List (List ℕ)) → authentic (members c me) me bytes ≡ Some (record { sender = s; message = Meta n levels.Root index digests })
    → Some t.root ≡ Some (digest_of_children digests) → TransferAims c me t past → TransferAims c me (with_part_digests t digests) (Got me bytes ∷ past)
parts_told c me t past bytes s n index digests receives is a = record {
  root_wanted = later.root_wanted;
  inner = λ others same. subst (λ (x : List (List ℕ)). GotBelow c me (Got me bytes ∷ past) levels.Root 0 t.root x) (some_injective digests others same)
      (sym (some_injective t.root (digest_of_children digests) is), (s, n, inl (subst (λ (x : ℕ). authentic (members c me) me bytes ≡ Some (record { sender = s; message = Meta n levels.Root x digests })) first receives)));
  parts = later.parts;
}
  where
    later : TransferAims c me t (Got me bytes ∷ past)
    later = aims_stay c me t past (Got me bytes) a

    first : index ≡ 0
    first = let valid = heard_valid c me bytes (record { sender = s; message = Meta n levels.Root index digests }) receives in let most : index ≤ 0 = valid.2 in omega arith

-- and of an inner part's pages
pages_told : (c : Configuration) (me : ℕ) (t : TransferData) (past : List Entry) (bytes : List ℕ) (s n index : ℕ) (digests : List (List ℕ)) → authentic (members c me) me bytes ≡ Some (record { sender = s; message = Meta n levels.Inner index digests })
    → TransferAims c me t past → TransferAims c me (with_page_digests t index digests) (Got me bytes ∷ past)
pages_told c me t past bytes s n index digests receives a = record {
  root_wanted = later.root_wanted;
  inner = later.inner;
  parts = λ j others same. put j others (set_cases t.page_digests index j (Some digests) None) same;
}
  where
    later : TransferAims c me t (Got me bytes ∷ past)
    later = aims_stay c me t past (Got me bytes) a

    put : (j : ℕ) (others : List (List ℕ)) → ((j ≡ index) × (get_or (set t.page_digests index (Some digests)) j None ≡ Some digests)) ⊎ (get_or (set t.page_digests index (Some digests)) j None ≡ get_or t.page_digests j None)
        → get_or (set t.page_digests index (Some digests)) j None ≡ Some others → GotBelow c me (Got me bytes ∷ past) levels.Inner j (digest_of_children others) others
    put j others (inl k) same =
        subst (λ (x : List (List ℕ)). GotBelow c me (Got me bytes ∷ past) levels.Inner j (digest_of_children x) x) (some_injective digests others (sym k.1 ∙ same))
        (refl, (s, n, inl (subst (λ (x : ℕ). authentic (members c me) me bytes ≡ Some (record { sender = s; message = Meta n levels.Inner x digests })) (sym k.0) receives)))
    put j others (inr k) same = later.parts j others (sym k ∙ same)

taken_at : (c : Configuration) (me : ℕ) (t : TransferData) (past : List Entry) (bytes : List ℕ) (s n : ℕ) (level : Level) (index : ℕ) (digests : List (List ℕ))
    → authentic (members c me) me bytes ≡ Some (record { sender = s; message = Meta n level index digests }) → wanted_at t level index ≡ Some (digest_of_children digests) → TransferAims c me t past
    → TransferAims c me (with_digests t (record { level = level; index = index }) digests) (Got me bytes ∷ past)
taken_at c me t past bytes s n levels.Root index digests receives is a = parts_told c me t past bytes s n index digests receives is a
taken_at c me t past bytes s n levels.Inner index digests receives is a = pages_told c me t past bytes s n index digests receives a
taken_at c me t past bytes s n levels.Page index digests receives is a = aims_stay c me t past (Got me bytes) a

pub digests_taken : DigestsTaken
digests_taken c me t past bytes s n place digests receives is a = taken_at c me t past bytes s n place.level place.index digests receives is a

-- the same transfer with more to it
more_fits : (c : Configuration) (me : ℕ) (t new : TransferData) (past : List Entry) (e : Entry) → place_sent e ≡ None → new.number ≡ t.number → new.asked ≡ t.asked → TransferAims c me new (e ∷ past) → AreTaken c me None new (e ∷ past) → FitsTransfer c me t past → FitsTransfer c me new (e ∷ past)
more_fits c me t new past e none number place a taken f = let same = asked_stays past e none in record {
  aims = a;
  asked = same.1 ∙ f.asked ∙ ap (λ (n : ℕ). Some (n, (t.asked.level, t.asked.index))) (sym number) ∙ ap (λ (x : Place). Some (new.number, (x.level, x.index))) (sym place);
  newest = same.0 ∙ f.newest ∙ sym number;
  taken = taken;
}

-- which digests it has changes neither its number nor its place
pub digests_keep : (t : TransferData) (level : Level) (index : ℕ) (digests : List (List ℕ))
    → ((with_digests t (record { level = level; index = index }) digests).number ≡ t.number) × ((with_digests t (record { level = level; index = index }) digests).asked ≡ t.asked)
digests_keep t levels.Root index digests = (refl, refl)
digests_keep t _ index digests = (refl, refl)

pub digests_open : DigestsOpen
digests_open c me t number past bytes s n place digests receives is f =
    let keep = digests_keep t place.level place.index digests in
    let above = f.1 in
    let own = keep.0 in (
      more_fits c me t (with_digests t place digests) past (Got me bytes) refl keep.0 keep.1 (digests_taken c me t past bytes s n place digests receives is f.0.aims)
          (Taking.digests_taken c me None place.level place.index digests t (Got me bytes ∷ past) (λ i within. took_stays c me i past (Got me bytes) refl tt ∙ f.0.taken i within)) f.0,
      subst (λ (x : ℕ). number < x) (sym own) above,
    )

pub digests_may_ask : DigestsMayAsk
digests_may_ask c me t number past bytes s n place digests receives is f =
    let own = (digests_keep t place.level place.index digests).0 in
    let newest = f.0.newest in
    let above = f.1 in
    record {
      aims = digests_taken c me t past bytes s n place digests receives is f.0.aims;
      newest = omega arith;
      ahead = omega arith;
      taken = Taking.digests_taken c me (Some (with_digests t place digests).number) place.level place.index digests t (Got me bytes ∷ past)
          (meta_taken c me (with_digests t place digests).number s n place.index place.level digests t past bytes receives f.0.taken);
    }

-- the same of a transfer with other pages
aims_alike : (c : Configuration) (me : ℕ) (t new : TransferData) (history : List Entry) → new.number ≡ t.number → new.root ≡ t.root → new.part_digests ≡ t.part_digests → new.page_digests ≡ t.page_digests → TransferAims c me t history → TransferAims c me new history
aims_alike c me t new history number root parts pages a = record {
  root_wanted = rw (number, root) a.root_wanted;
  inner = λ digests is. rw root (a.inner digests (sym parts ∙ is));
  parts = λ j digests is. a.parts j digests (ap (λ (xs : List (Option (List (List ℕ)))). get_or xs j None) (sym pages) ∙ is);
}

pub pages_may_ask : PagesMayAsk
pages_may_ask c me t number past bytes s index text receives asks long known f =
    let newest = f.0.newest in
    let above = f.1 in
    record {
      aims = aims_alike c me t (with_page t index text) (Got me bytes ∷ past) refl refl refl refl (aims_stay c me t past (Got me bytes) f.0.aims);
      newest = omega arith;
      ahead = above;
      taken = page_taken c me s index t past bytes text receives (f.0.asked ∙ ap (λ (x : Place). Some (t.number, (x.level, x.index))) asks) long known within f.0.taken;
    }
  where
    within : index < 1024
    within = let valid = heard_valid c me bytes (record { sender = s; message = Page t.number index text }) receives in let most : index ≤ 1023 = valid.1 in omega arith

pub ticks_may_ask : TicksMayAsk
ticks_may_ask c me t number st past f =
    let newest = f.0.newest in
    let above = f.1 in (
      record { aims = aims_stay c me t past (Tick me) f.0.aims; newest = omega arith; ahead = above; taken = tick_taken c me (Some t.number) t past f.0.taken },
      inr (f.0.asked, tt, tt),
    )

put_back : (xs : List Bool) (i : ℕ) → set (set xs i true) i (get_or xs i false) ≡ xs
put_back [] i = refl
put_back (x ∷ xs) zero = refl
put_back (x ∷ xs) (suc i) = ap (λ (ys : List Bool). x ∷ ys) (put_back xs i)

pub pages_give_back : PagesGiveBack
pages_give_back t index text = ap (λ (xs : List Bool). let new : TransferData = record t { fetched = xs } in new) (put_back t.fetched index)

pub pages_rested : PagesRested
pages_rested c me pages old new number history r = (open_one, ask)
  where
    open_one : FitsStateTransfer c me (Some old) number history → FitsStateTransfer c me (Some new) number history
    open_one f = subst (λ (x : TransferData). FitsTransfer c me x history × (number < x.number)) (sym r.same) (
      record {
        aims = record { root_wanted = f.0.aims.root_wanted; inner = f.0.aims.inner; parts = f.0.aims.parts };
        asked = f.0.asked;
        newest = f.0.newest;
        taken = subst (λ (x : TransferData). AreTaken c me None x history) r.same (rested_taken c me None pages old new history r f.0.taken);
      },
      f.1,
    )

    ask : TransferMayAsk c me old number history → TransferMayAsk c me new number history
    ask m = subst (λ (x : TransferData). TransferMayAsk c me x number history) (sym r.same) (record {
      aims = record { root_wanted = m.aims.root_wanted; inner = m.aims.inner; parts = m.aims.parts };
      newest = m.newest;
      ahead = m.ahead;
      taken = subst (λ (x : TransferData). AreTaken c me (Some old.number) x history) r.same (rested_taken c me (Some old.number) pages old new history r m.taken);
    })

-- ---- a transfer starts, moves, and asks

-- at first there is no quorum
pub no_quorum : (c : Configuration) (checkpoint : CheckpointEntry) → is_quorum c (count_checkpoints c [] checkpoint) ≡ true → ⊥
unfolding checkpoints_of
no_quorum c checkpoint h =
    let none = count_none (λ s. lists_checkpoint checkpoint []) (replicas c) (λ s. refl) in
    let most = leb-true (2 * c.faults + 1) (count_below (λ s. lists_checkpoint checkpoint []) (replicas c)) h in
    omega arith

pub quorums_want : QuorumsWant
quorums_want c [] k root h = absurd (no_quorum c (record { number = k; digest = root }) h)
quorums_want c (e ∷ past) k root h = inl (inl h)

pub transfers_start : TransfersStart
unfolding none_told
transfers_start c me k root pages history w = record {
  root_wanted = w;
  inner = λ digests is. absurd cc;
  parts = λ j digests is. absurd (let bad : None ≡ Some digests = sym (all_default 32 j None) ∙ is in cc);
}

pub transfers_move : TransfersMove
transfers_move c me k root t history w a = record { root_wanted = w; inner = λ digests is. absurd cc; parts = a.parts }

-- above all that was fetched a transfer may start, and the open one may move
pub start_may_ask : (c : Configuration) (me number k : ℕ) (root : List ℕ) (pages : List (List ℕ)) (history : List Entry) → IsRootWanted c history k root → number < k → FitsStateTransfer c me None number history → TransferMayAsk c me (new_transfer k root pages) number history
start_may_ask c me number k root pages history w above f = let most = f.0 in record {
  aims = transfers_start c me k root pages history w;
  newest = omega arith;
  ahead = above;
  taken = started_taken c me k (Some k) root pages history (λ i within. newer_takes_nothing c me k i history (omega arith) ∙ f.1 i within);
}

pub move_may_ask : (c : Configuration) (me number k : ℕ) (root : List ℕ) (t : TransferData) (history : List Entry) → IsRootWanted c history k root → t.number < k → FitsStateTransfer c me (Some t) number history → TransferMayAsk c me (moved_to t k root) number history
move_may_ask c me number k root t history w above f = let newest = f.0.newest in let own = f.1 in record {
  aims = transfers_move c me k root t history w f.0.aims;
  newest = omega arith;
  ahead = omega arith;
  taken = newer_taken c me k t history (omega arith) f.0.taken;
}

pub quorums_open : QuorumsOpen
quorums_open c me None number k root pages st history q above f =
    let most = f.0 in (start_may_ask c me number k root pages history (quorums_want c history k root q) above f, inl (omega arith))
quorums_open c me (Some t) number k root pages st history q above f =
    let newest = f.0.newest in (move_may_ask c me number k root t history (quorums_want c history k root q) above f, inl (omega arith))

pub lower_are_fetched : LowerAreFetched
lower_are_fetched c me None number k history above l f = absurd (omega arith)
lower_are_fetched c me (Some t) number k history above l f = let newest = f.0.newest in omega arith

pub may_ask_any : MayAskAny
may_ask_any c me t None number history m = m
may_ask_any c me t (Some place) number history m = record {
  aims = aims_alike c me t (asking (Some place) t) history refl refl refl refl m.aims;
  newest = m.newest;
  ahead = m.ahead;
  taken = m.taken;
}

pub transfers_may_fetch : TransfersMayFetch
transfers_may_fetch c me t past point m next = record { root = t.root; may = (m.ahead, m.aims.root_wanted); newest = m.newest; next = next }

pub transfers_ask : TransfersAsk
transfers_ask c me t number past bytes says m = (
  record {
    aims = aims_stay c me t past (Sent me bytes) m.aims;
    asked = ap (λ (o : Option Body). or_else (option_and_then place_from o) (asked_last past)) says;
    newest = let sent : fetch_sent (Sent me bytes) ≡ t.number = ap (λ (o : Option Body). option_map_or number_of o 0) says in let most = m.newest in omega arith;
    taken = fetch_taken c me t.asked.index t.asked.level None t past bytes says m.taken;
  },
  m.ahead,
)

-- ---- the number of the open transfer

-- is at least the executed one
pub open_above : (c : Configuration) (me : ℕ) (open_one : Option TransferData) (number : ℕ) (history : List Entry) → FitsStateTransfer c me open_one number history → number ≤ open_number number open_one
open_above c me None number history f = omega arith
open_above c me (Some t) number history f = let above = f.1 in omega arith

-- and nothing above it was fetched
pub fetched_most : (c : Configuration) (me : ℕ) (open_one : Option TransferData) (number : ℕ) (history : List Entry) → FitsStateTransfer c me open_one number history → fetching history ≤ open_number number open_one
fetched_most c me None number history f = f.0
fetched_most c me (Some t) number history f = let newest = f.0.newest in omega arith

-- a frame that asks for no part
pub asks_none : (bytes : List ℕ) (sender : ℕ) (message : Message) → said bytes ≡ Some (record { sender = sender; message = message }) → place_from (record { sender = sender; message = message }) ≡ None → place_sent (Sent sender bytes) ≡ None
asks_none bytes sender message says none = ap (option_and_then place_from) says ∙ none
