-- How an orderer logs batches, puts them into Q, enters a new view with them, and makes its own.
use Rattle.std.proofs.Common.{◌≡◌, ℕ, List, ◌∷◌, ap, ◌∙◌, subst, suc, ◌+◌, ◌≤◌, ◌<◌, ◌⊎◌, inl, inr, Bool, true, false, cond, [], refl, sym, arith, ◌==◌, eqb-true, ◌++◌, length, map, Vec, Option, Some, None, Result, Ok, Err, IfOk, IfSome, IfNone, MatchOption}
use Rattle.wire_format.specs.Lists.{Each}
use Rattle.ordering.specs.Log.{with_batch, Row, LogData, is_in_marks}
use Rattle.pq_sets.specs.PqSetsView.{PqSetsData, pq_entry_of, IsAmongTexts, digests_of}
use Rattle.pq_sets.specs.Recording.{with_logged, with_all}
use Rattle.orderer.specs.State.{OrdererData}
use Rattle.orderer.specs.PqSets.{LogsBatch, MaySign, MulticastsFrame}
use Rattle.std.specs.Arc.{arc_value}
use Rattle.std.specs.declared.sync.Arc.{Arc}
use Rattle.std.specs.declared.alloc.Global.{Global}
use Rattle.std.proofs.lemmas.Bool.{eqb-false}
use Rattle.wire_format.specs.Messages.{BatchEntryData as PqEntry, BodyData as Body, MessageData as Message, NewViewData, ViewChangeData, new_view as NewView}
use Rattle.events.specs.declared.output.Output.{Output}
use Rattle.view_change.specs.Sets.{texts_of, sized}
use Rattle.protocol.proofs.Words.Elements.{each_has, each_weaker}
use Rattle.replica_histories.specs.Changes.{AddsLogged, pq_entries_from, texts_in_marks, KeepsChanges, IsOwnView}
use Rattle.replica_histories.specs.Views.{with_batches}
use Rattle.desk.specs.Waiting.{texts}
use Rattle.orderer.specs.Going.{NoVoteIsDue}
use Rattle.orderer.specs.Multicasting.{MulticastsVotes, OutputsHaveFrame, OutputsHaveNewView, MulticastsAlso}
use Rattle.orderer.specs.EnterView.{LogsBatches, MulticastsVotesOf, HasNoSelection, IsSelection, MaySignView, new_view_of}
use Rattle.orderer.proofs.Parties.{same_orderer, orderers_twice, same_log}
use Rattle.orderer.proofs.Voting.{goes_twice}
use Rattle.std.specs.Option.{option_map_or}
use Rattle.std.proofs.lemmas.List.{append-nil}
use Rattle.sha2.specs.Sha256.{sha256}
use Rattle.wire_format.specs.Spelling.{IsNewView}
use Rattle.wire_format.specs.Views.{batch_text}
use Rattle.wire_format.specs.declared.messages.Batch.{Batch}
use Rattle.frame_endpoint.specs.Endpoint.{IsOwnSigned, SignedExceeds, says as of_party}
use Rattle.frame_endpoint.proofs.Fitting.{new_views_fit}
use Rattle.ordering.specs.Log as logs
use Rattle.view_change.specs.declared.changes.Selection.{Selection}
use Rattle.view_change.specs.declared.changes.Sizes.{Sizes}
use Rattle.view_change.specs.ReceivedData.{pairs_for}
use Rattle.view_change.specs.ReceivedView.{judging_configuration}
use Rattle.view_change.specs.Selecting.{NothingSelects, SelectsNewView}
use Rattle.protocol.specs.System.Configuration.{Configuration}
use Rattle.protocol.specs.System.Trace.{Entry}
use Rattle.protocol.specs.System.Trace.Entry.{Sent}
use Rattle.protocol.specs.Replica.Certificates.{view}
use Rattle.protocol.specs.Replica.Selection.{may_select}
use Rattle.protocol.proofs.Words.Options.{some_injective}
use Rattle.replica_histories.specs.Events.{after_outputs}
use Rattle.replica_histories.specs.Numbers.{is_pre_prepare}
use Rattle.replica_histories.proofs.Changing.{new_views_go_again}
use Rattle.replica_histories.proofs.ChangesKept.{sent_keep}
use Rattle.orderer.specs.Fitting.{given}
use Rattle.replica_histories.proofs.Primaries.{q_selects_nothing}
use Rattle.orderer.proofs.Again.{frame_now, nothing_again, never_said, one_below}
use Rattle.orderer.proofs.Staying.{EmitsOne, emits_one, IsBeside, fits_on}

pub logs_batch : (number view : ℕ) (text noted : List ℕ) (inside old new : OrdererData) (pq_sets : PqSetsData) → inside ≡ old → view ≡ inside.log.view → noted ≡ text
    → pq_sets.prepared ≡ inside.pq_sets.prepared → pq_sets.logged ≡ with_logged (pq_entry_of number view noted) inside.pq_sets.logged → Each (IsAmongTexts (noted ∷ inside.pq_sets.texts)) pq_sets.texts
    → new ≡ record inside { log = with_batch inside.log number text; pq_sets = pq_sets } → LogsBatch number text old new
logs_batch number view text noted inside old new pq_sets same at read prepared logged texts is = subst (λ (o : OrdererData). LogsBatch number text o new) same (
  pq_sets,
  record {
    prepared = prepared;
    logged = logged ∙ ap (λ (v : ℕ). with_logged (pq_entry_of number v noted) inside.pq_sets.logged) at ∙ ap (λ (t : List ℕ). with_logged (pq_entry_of number inside.log.view t) inside.pq_sets.logged) read;
    texts = subst (λ (t : List ℕ). Each (IsAmongTexts (t ∷ inside.pq_sets.texts)) pq_sets.texts) read texts;
  },
  is,
)

-- ---- votes

pub no_votes : (start : ℕ) (o : OrdererData) (outs : List Output) → MulticastsVotesOf start start o outs o outs
no_votes start o outs = record {
  goes = λ c s desk w due known f. f;
  same = same_orderer o;
  low = refl;
  used = refl;
  voted = λ i is. go i is;
}
  where
    go : (i : ℕ) → ((start < i) × (i ≤ start)) ⊎ NoVoteIsDue o.log i → NoVoteIsDue o.log i
    go i (inl within) = let over = within.0 in let up = within.1 in absurd (omega (arith, over, up))
    go i (inr v) = v

pub one_voted : (start last : ℕ) (a b d : OrdererData) (x y z : List Output) → MulticastsVotesOf start last a x b y → MulticastsVotes (last + 1) b y d z → MulticastsVotesOf start (last + 1) a x d z
one_voted start last a b d x y z p q = record {
  goes = goes_twice a b d x y z p.same.endpoint p.goes q.says.goes;
  same = orderers_twice a b d p.same q.says.same;
  low = q.says.low ∙ p.low;
  used = q.says.used ∙ p.used;
  voted = λ i is. go i is (i == last + 1) refl;
}
  where
    before : (i : ℕ) → (i == last + 1) ≡ false → ((start < i) × (i ≤ last + 1)) ⊎ NoVoteIsDue a.log i → ((start < i) × (i ≤ last)) ⊎ NoVoteIsDue a.log i
    before i e (inl within) = let other = eqb-false i (last + 1) e in let up = within.1 in inl (within.0, omega (arith, other, up))
    before i e (inr v) = inr v

    go : (i : ℕ) → ((start < i) × (i ≤ last + 1)) ⊎ NoVoteIsDue a.log i → (t : Bool) → (i == last + 1) ≡ t → NoVoteIsDue d.log i
    go i is true e = subst (NoVoteIsDue d.log) (sym (eqb-true i (last + 1) e)) q.said
    go i is false e = q.says.others i (eqb-false i (last + 1) e) (p.voted i (before i e is))

-- ---- batches that are logged

pq_sets_same : (m : LogData) (rows : List Row) (v i : ℕ) (texts : List (List ℕ)) → pq_entries_from (record m { rows = rows }) v i texts ≡ pq_entries_from m v i texts
pq_sets_same m rows v i [] = refl
pq_sets_same m rows v i (text ∷ texts) =
    ap (λ (cs : List PqEntry). cond (is_in_marks m i) (pq_entry_of i v text ∷ cs) cs) (pq_sets_same m rows v (suc i) texts)

texts_same : (m : LogData) (rows : List Row) (i : ℕ) (texts : List (List ℕ)) → texts_in_marks (record m { rows = rows }) i texts ≡ texts_in_marks m i texts
texts_same m rows i [] = refl
texts_same m rows i (text ∷ texts) = ap (λ (ts : List (List ℕ)). cond (is_in_marks m i) (text ∷ ts) ts) (texts_same m rows (suc i) texts)

all_among : (xs ys : List (List ℕ)) → ((t : List ℕ) → IsAmongTexts ys t → IsAmongTexts xs t) → Each (λ t. IsAmongTexts xs t ⊎ IsAmongTexts [] t) ys
all_among xs [] f = tt
all_among xs (y ∷ ys) f = (inl (f y (inl refl)), all_among xs ys (λ t h. f t (inr h)))

pub logs_none : (k : ℕ) (o : OrdererData) → LogsBatches k [] o o
logs_none k o = (o.pq_sets, record { prepared = refl; logged = refl; texts = all_among o.pq_sets.texts o.pq_sets.texts (λ t h. h) }, refl)

module _ (k : ℕ) (text : List ℕ) (texts : List (List ℕ)) (a d : OrdererData) where
  -- the batch is within the marks
  within_then : (pq_sets : PqSetsData) → is_in_marks a.log k ≡ true → AddsLogged k a.log.view text a.pq_sets pq_sets
      → LogsBatches (suc k) texts (record a { log = with_batch a.log k text; pq_sets = pq_sets }) d → LogsBatches k (text ∷ texts) a d
  within_then pq_sets w one rest = (
    rest.0,
    record {
      prepared = rest.1.prepared ∙ one.prepared;
      logged = rest.1.logged
          ∙ ap (λ (cs : List PqEntry). with_all with_logged (pq_entries_from (with_batch a.log k text) a.log.view (suc k) texts) cs) one.logged
          ∙ ap (λ (cs : List PqEntry). with_all with_logged cs (with_logged (pq_entry_of k a.log.view text) a.pq_sets.logged)) (pq_sets_same a.log (with_batch a.log k text).rows a.log.view (suc k) texts)
          ∙ ap (λ (t : Bool). with_all with_logged (cond t (pq_entry_of k a.log.view text ∷ pq_entries_from a.log a.log.view (suc k) texts) (pq_entries_from a.log a.log.view (suc k) texts)) a.pq_sets.logged) (sym w);
      texts = each_weaker (λ t. IsAmongTexts pq_sets.texts t ⊎ IsAmongTexts (texts_in_marks (with_batch a.log k text) (suc k) texts) t) (λ t. IsAmongTexts a.pq_sets.texts t ⊎ IsAmongTexts (texts_in_marks a.log k (text ∷ texts)) t) among rest.0.texts rest.1.texts;
    },
    rest.2 ∙ ap (λ (t : Bool). record a { log = with_batches (cond t (with_batch a.log k text) a.log) (suc k) texts; pq_sets = rest.0 }) (sym w),
  )
    where
      here : (t : List ℕ) → IsAmongTexts (text ∷ texts_in_marks a.log (suc k) texts) t → IsAmongTexts (texts_in_marks a.log k (text ∷ texts)) t
      here t h = subst (λ (b : Bool). IsAmongTexts (cond b (text ∷ texts_in_marks a.log (suc k) texts) (texts_in_marks a.log (suc k) texts)) t) (sym w) h

      among : (t : List ℕ) → IsAmongTexts pq_sets.texts t ⊎ IsAmongTexts (texts_in_marks (with_batch a.log k text) (suc k) texts) t → IsAmongTexts a.pq_sets.texts t ⊎ IsAmongTexts (texts_in_marks a.log k (text ∷ texts)) t
      among t (inr h) = inr (here t (inr (subst (λ (ts : List (List ℕ)). IsAmongTexts ts t) (texts_same a.log (with_batch a.log k text).rows (suc k) texts) h)))
      among t (inl h) = go (each_has (IsAmongTexts (text ∷ a.pq_sets.texts)) pq_sets.texts t one.texts h)
        where
          go : IsAmongTexts (text ∷ a.pq_sets.texts) t → IsAmongTexts a.pq_sets.texts t ⊎ IsAmongTexts (texts_in_marks a.log k (text ∷ texts)) t
          go (inl same) = inr (here t (inl same))
          go (inr old) = inl old

  pub logs_within : (b : OrdererData) → is_in_marks a.log k ≡ true → LogsBatch k text a b → LogsBatches (suc k) texts b d → LogsBatches k (text ∷ texts) a d
  logs_within b w one rest = within_then one.0 w one.1 (subst (λ (x : OrdererData). LogsBatches (suc k) texts x d) one.2 rest)

  -- it is not
  pub logs_beyond : is_in_marks a.log k ≡ false → LogsBatches (suc k) texts a d → LogsBatches k (text ∷ texts) a d
  logs_beyond w rest = (
    rest.0,
    record {
      prepared = rest.1.prepared;
      logged = rest.1.logged
          ∙ ap (λ (t : Bool). with_all with_logged (cond t (pq_entry_of k a.log.view text ∷ pq_entries_from a.log a.log.view (suc k) texts) (pq_entries_from a.log a.log.view (suc k) texts)) a.pq_sets.logged) (sym w);
      texts = subst (λ (b : Bool). Each (λ t. IsAmongTexts a.pq_sets.texts t ⊎ IsAmongTexts (cond b (text ∷ texts_in_marks a.log (suc k) texts) (texts_in_marks a.log (suc k) texts)) t) rest.0.texts) (sym w) rest.1.texts;
    },
    rest.2 ∙ ap (λ (t : Bool). record a { log = with_batches (cond t (with_batch a.log k text) a.log) (suc k) texts; pq_sets = rest.0 }) (sym w),
  )

-- logging the rest leads to the end of the whole
abbrev pub LogsLeft : ℕ → List (List ℕ) → OrdererData → ℕ → List (List ℕ) → OrdererData → Type 0
LogsLeft first texts old k left now = (new : OrdererData) → LogsBatches k left now new → LogsBatches first texts old new

next_one : (n : ℕ) → n + 1 ≡ suc n
next_one n = omega arith

module _ (first : ℕ) (texts : List (List ℕ)) (old now : OrdererData) (n : ℕ) (items rest : List (Arc (List ℕ) Global)) (b : Arc (List ℕ) Global) (are : items ≡ b ∷ rest) (left : LogsLeft first texts old (suc n) (texts_of items) now) where
  from_here : (new : OrdererData) → LogsBatches (suc n) (arc_value b ∷ texts_of rest) now new → LogsBatches first texts old new
  from_here new h = left new (subst (λ (xs : List (Arc (List ℕ) Global)). LogsBatches (suc n) (texts_of xs) now new) (sym are) h)

  pub log_passed : is_in_marks now.log (n + 1) ≡ false → LogsLeft first texts old (suc (n + 1)) (texts_of rest) now
  log_passed w new h =
      from_here new (logs_beyond (suc n) (arc_value b) (texts_of rest) now new (subst (λ (k : ℕ). is_in_marks now.log k ≡ false) (next_one n) w)
      (subst (λ (k : ℕ). LogsBatches (suc k) (texts_of rest) now new) (next_one n) h))

  pub log_added : (mid : OrdererData) → is_in_marks now.log (n + 1) ≡ true → LogsBatch (n + 1) (arc_value b) now mid → LogsLeft first texts old (suc (n + 1)) (texts_of rest) mid
  log_added mid w one new h =
      from_here new (logs_within (suc n) (arc_value b) (texts_of rest) now new mid (subst (λ (k : ℕ). is_in_marks now.log k ≡ true) (next_one n) w)
      (subst (λ (k : ℕ). LogsBatch k (arc_value b) now mid) (next_one n) one)
      (subst (λ (k : ℕ). LogsBatches (suc k) (texts_of rest) mid new) (next_one n) h))

pub all_logged : (first : ℕ) (texts : List (List ℕ)) (old now : OrdererData) (n : ℕ) (items : List (Arc (List ℕ) Global)) → items ≡ [] → LogsLeft first texts old (suc n) (texts_of items) now → LogsBatches first texts old now
all_logged first texts old now n items none left =
    left now (subst (λ (xs : List (Arc (List ℕ) Global)). LogsBatches (suc n) (texts_of xs) now now) (sym none) (logs_none (suc n) now))

pub no_view_again : (o : OrdererData) (outs : List Output) → o.new_view ≡ None → MulticastsAlso 0 1 OutputsHaveNewView o outs o outs
no_view_again o outs none = (nothing_again 0 1 o outs (omega arith), λ frame is. absurd (let bad : None ≡ Some frame = sym none ∙ is in cc))

-- the replica takes no second new view of its view
module _ (c : Configuration) (me v : ℕ) (past : List Entry) (frame : List ℕ) (own : IsOwnView c me v past frame) (here : view c past ≡ v) where
  keeps_all : KeepsChanges c me past (Sent me frame)
  keeps_all = sent_keep c me past (NewView own.new) frame own.is_outgoing.says (let a = own.view in let b = here in omega (arith, a, b)) (λ signed. own.sent)

  is_beside : IsBeside c me past (Sent me frame)
  is_beside = record {
    here = refl;
    none = keeps_all.views.none;
    sends = ap (λ (o : Option Body). option_map_or (λ (b : Body). is_pre_prepare b.message) o false) own.is_outgoing.says;
  }

pub view_again : (frame : List ℕ) (o : OrdererData) (before after : List Output) → o.new_view ≡ Some frame → MulticastsFrame o frame before after → MulticastsAlso 0 1 OutputsHaveNewView o before o after
view_again frame o before after there says = (
  record {
    goes = λ active c s desk w known below f.
        let me : ℕ = o.endpoint.me in
        let past : List Entry = after_outputs s (given me before) in
        let own : IsOwnView c me o.log.view past frame = f.changes.own_view frame there in
        let is : EmitsOne c me before after (Sent me frame) =
        emits_one c me before after says.output (Sent me frame) says.given_is says.sends.sends (says.sends.meant c (NewView own.new) known own.is_outgoing) in (
          fits_on c me s o o desk w [] [] before after (Sent me frame) is
              (is_beside c me o.log.view past frame own f.fits.of_log.view) (keeps_all c me o.log.view past frame own f.fits.of_log.view)
              (same_log o.log) refl refl refl refl f
              (new_views_go_again c me s desk o.log [] (given me before) own.new frame active own.view own.primary own.sent
              (never_said me 0 (NewView own.new) (given me before) (λ l. absurd (omega (arith, l))) below) own.is_outgoing f.fits),
          one_below me 0 1 (NewView own.new) frame (given me before) (given me after) is.is own.is_outgoing.says (omega arith) (omega arith) below,
        );
    same = refl;
    more = says.output ∷ [];
    given_is = says.given_is;
  },
  λ other is_it. subst (λ (b : List ℕ). OutputsHaveFrame o b after) (some_injective frame other (sym there ∙ is_it)) (frame_now o frame before after says),
)

-- ---- a selection

abbrev SelectsSome : (N : Type 0) → Sizes → ℕ → List (ℕ × ViewChangeData) → List (List ℕ) → Option Selection → Type 0
SelectsSome N sizes view set texts x = MatchOption x N (λ s. SelectsNewView (sized sizes) view set texts s.start.0 s.root (texts_of s.batches.items))

is_selection : {E : Type 0} (N : Type 0) (o : OrdererData) (r : Result (Option Selection) E) → o.log.active ≡ false → logs.primary o.log o.target ≡ o.log.me
    → IfOk r (SelectsSome N o.received.sizes o.target (pairs_for o.target o.received.held) o.pq_sets.texts)
    → IfOk r (λ x. IfSome x (λ s. IsSelection o s.start.0 s.root (texts_of s.batches.items)))
is_selection N o (Err e) inactive primary h = h
is_selection N o (Ok None) inactive primary h = tt
is_selection N o (Ok (Some s)) inactive primary h = record { inactive = inactive; primary = primary; meets = h.meets; from = h.from }

-- over the stored view changes
pub held_selects : {E : Type 0} (N : Type 0) (o : OrdererData) (r : Result (Option Selection) E) (sizes : Sizes) (set : List (ℕ × ViewChangeData)) (texts : List (List ℕ)) → o.log.active ≡ false → logs.primary o.log o.target ≡ o.log.me
    → sizes ≡ o.received.sizes → set ≡ pairs_for o.target o.received.held → texts ≡ o.pq_sets.texts → IfOk r (SelectsSome N sizes o.target set texts)
    → IfOk r (λ x. IfSome x (λ s. IsSelection o s.start.0 s.root (texts_of s.batches.items)))
held_selects N o r sizes set texts inactive primary size_is set_is texts_are h =
    is_selection N o r inactive primary
    (subst (λ (ts : List (List ℕ)). IfOk r (SelectsSome N o.received.sizes o.target (pairs_for o.target o.received.held) ts)) texts_are
    (subst (λ (xs : List (ℕ × ViewChangeData)). IfOk r (SelectsSome N o.received.sizes o.target xs texts)) set_is
    (subst (λ (x : Sizes). IfOk r (SelectsSome N x o.target set texts)) size_is h)))

-- or none exists
no_selection : {E : Type 0} (o : OrdererData) (r : Result (Option Selection) E) → map sha256 o.pq_sets.texts ≡ digests_of o.pq_sets.logged
    → IfOk r (SelectsSome (NothingSelects (sized o.received.sizes) o.target (pairs_for o.target o.received.held) o.pq_sets.texts) o.received.sizes o.target (pairs_for o.target o.received.held) o.pq_sets.texts)
    → IfOk r (λ x. IfNone x (HasNoSelection o))
no_selection o (Err e) named h = h
no_selection o (Ok None) named h = λ off own. q_selects_nothing (sized o.received.sizes) o.target o.received.held o.pq_sets named h
no_selection o (Ok (Some s)) named h = tt

pub none_selects : {E : Type 0} (o : OrdererData) (r : Result (Option Selection) E) (sizes : Sizes) (set : List (ℕ × ViewChangeData)) (texts : List (List ℕ)) → map sha256 o.pq_sets.texts ≡ digests_of o.pq_sets.logged
    → sizes ≡ o.received.sizes → set ≡ pairs_for o.target o.received.held → texts ≡ o.pq_sets.texts → IfOk r (SelectsSome (NothingSelects (sized sizes) o.target set texts) sizes o.target set texts)
    → IfOk r (λ x. IfNone x (HasNoSelection o))
none_selects o r sizes set texts named size_is set_is texts_are h =
    no_selection o r named
    (subst (λ (ts : List (List ℕ)). IfOk r (SelectsSome (NothingSelects (sized o.received.sizes) o.target (pairs_for o.target o.received.held) ts) o.received.sizes o.target (pairs_for o.target o.received.held) ts)) texts_are
    (subst (λ (xs : List (ℕ × ViewChangeData)). IfOk r (SelectsSome (NothingSelects (sized o.received.sizes) o.target xs texts) o.received.sizes o.target xs texts)) set_is
    (subst (λ (x : Sizes). IfOk r (SelectsSome (NothingSelects (sized x) o.target set texts) x o.target set texts)) size_is h)))

-- ---- all are hashed

none_left : (items : List Batch) → length items ≡ 0 → items ≡ []
none_left [] h = refl
none_left (x ∷ xs) h = absurd (omega (arith, h))

pub all_hashed : (old : List (Arc (List ℕ) Global)) (items first batches : List Batch) → length items ≡ 0 → first ≡ batches → texts_of old ++ map batch_text items ≡ map batch_text first → texts_of old ≡ map batch_text batches
all_hashed old items first batches none is left =
    sym (append-nil (texts_of old)) ∙ ap (λ (xs : List Batch). texts_of old ++ map batch_text xs) (sym (none_left items none)) ∙ left ∙ ap (map batch_text) is

-- ---- a selection is signed

pub signs_view : {E : Type 0} (o later : OrdererData) (start : ℕ) (root : List ℕ) (texts : List (List ℕ)) (message : Message) (made : NewViewData) (r : Result (Option (Vec ℕ Global)) E) → made ≡ new_view_of o start root texts → IsNewView made
    → may_select (judging_configuration o.received) made ≡ true → message ≡ NewView made → IfOk r (MaySign message o later)
    → IfOk r (MaySignView (new_view_of o start root texts) o later)
signs_view o later start root texts message made (Err e) is said right says h = h
signs_view o later start root texts message made (Ok None) is said right says h = (h.0, go h.1)
  where
    go : (o.spent ≡ 64) ⊎ SignedExceeds (of_party o.endpoint.me message) → o.spent ≡ 64
    go (inl spent) = spent
    go (inr exceeds) = absurd (new_views_fit o.endpoint.me made said (subst (λ (m : Message). SignedExceeds (of_party o.endpoint.me m)) says exceeds))
signs_view o later start root texts message made (Ok (Some frame)) is said right says h = (
  record {
    signed = subst (λ (m : Message). IsOwnSigned o.endpoint m frame.items) (says ∙ ap NewView is) h.0;
    by_leaf = h.1;
    right = subst (λ (n : NewViewData). may_select (judging_configuration o.received) n ≡ true) is right;
  },
  h.2,
)
