-- Courses over records, one after another.
use Rattle.std.proofs.Common.{◌≡◌, ℕ, List, [], ◌∷◌, ◌++◌, Option, Some, refl, sym, ap, subst, ◌∙◌, arith, append_assoc, append-nil}
use Rattle.std.proofs.KnownBytes.{Appends-nil, Appends-trans}
use Rattle.wire_format.specs.Lists.{Each}
use Rattle.wire_format.specs.Spelling.{piece}
use Rattle.protocol.specs.System.Configuration.{Configuration}
use Rattle.protocol.specs.System.Trace.{Entry}
use Rattle.protocol.specs.Replica.Owed.{IsPromptReplica}
use Rattle.events.specs.Outputs.{after_entries}
use Rattle.party_runs.specs.Interleavings.{IsEventOf, trace_after}
use Rattle.records.specs.Records.{NoticeData, TellsNotice, TellsNothing, TellNotices, tells, passes, ends as bytes_end, IsPartial, TakesRecord}
use Rattle.records.proofs.Framing.{is_short}
use Rattle.records.proofs.Telling.{kept_tell_the_same}
use Rattle.patience.specs.Moments.{Moment}
use Rattle.replica_process.specs.Serving.{Serves, ends}
use Rattle.replica_process.specs.Endings.{ServesBytes, WritesFront}
use Rattle.replica_process.specs.Texts.{Along, HasServed, FrontIsWritten}

each_append : {A : Type 0} (P : A → Type 0) (xs ys : List A) → Each P xs → Each P ys → Each P (xs ++ ys)
each_append P [] ys h k = k
each_append P (x ∷ xs) ys h k = (h.0, each_append P xs ys h.1 k)

trace_append : (past : List Entry) (xs ys : List (List Entry)) → trace_after past (xs ++ ys) ≡ trace_after (trace_after past xs) ys
trace_append past [] ys = refl
trace_append past (event ∷ xs) ys = trace_append (after_entries event past) xs ys

pub none_partial : IsPartial []
none_partial = is_short [] (omega arith)

-- Nothing is read yet.
pub begins : (c : Configuration) (p needed : ℕ) (bytes : List ℕ) (known written : Option (List ℕ)) (pending : List ℕ)
    → known ≡ Some bytes → pending ≡ [] → Along c p needed bytes known written written [] [] pending
begins c p needed bytes known written pending known_is none = record {
  front = [];
  rest = bytes;
  split = refl;
  known_is = known_is;
  events = [];
  done = [];
  wrote = Appends-nil written;
  history_is = refl;
  each = tt;
  leads = λ more notices later text told serves.
      (notices, told, subst (λ l. Serves c p needed [] [] notices later (l ++ text)) (sym none) serves);
}

module _ (c : Configuration) (p needed : ℕ) (bytes : List ℕ) (known old new : Option (List ℕ)) (history : List Entry) (past : List Moment) (pending : List ℕ) (along : Along c p needed bytes known old new history past pending) where
  -- ---- the next record

  module _ (left : Option (List ℕ)) (kept : List ℕ) (takes : TakesRecord along.rest left kept) where
    abbrev longer : List ℕ
    longer = along.front ++ piece takes.body

    split_longer : bytes ≡ longer ++ takes.rest
    split_longer = along.split ∙ ap (λ l. along.front ++ l) takes.split ∙ sym (append_assoc along.front (piece takes.body) takes.rest)

    regroup : (more : List ℕ) → along.front ++ (piece takes.body ++ more) ≡ longer ++ more
    regroup more = sym (append_assoc along.front (piece takes.body) more)

    -- It tells nothing.
    pub past_nothing : TellsNothing kept → Along c p needed bytes left old new history past pending
    past_nothing nothing = record {
      front = longer;
      rest = takes.rest;
      split = split_longer;
      known_is = takes.left_is;
      events = along.events;
      done = along.done;
      wrote = along.wrote;
      history_is = along.history_is;
      each = along.each;
      leads = λ more notices later written told serves.
          let whole = along.leads (piece takes.body ++ more) notices later written
          (passes takes.is_body ((kept_tell_the_same takes.body).1 (subst TellsNothing takes.kept_is nothing)) told) serves in
          (whole.0, subst (λ l. TellNotices l whole.0) (regroup more) whole.1, whole.2);
    }

    -- It tells this, for which the replica has these events, and this text is added.
    pub past_notice : (notice : NoticeData) → TellsNotice kept notice → (events : List (List Entry)) (now : List Moment) (added still : List ℕ)
        → Each (IsEventOf p) events → still ≡ pending ++ added
        → ((notices : List NoticeData) (later : List (List Entry)) (written : List ℕ)
        → Serves c p needed (trace_after history events) now notices later written
        → Serves c p needed history past (notice ∷ notices) (events ++ later) (added ++ written))
        → Along c p needed bytes left old new (trace_after history events) now still
    past_notice notice told_so events now added still each is_still step = record {
      front = longer;
      rest = takes.rest;
      split = split_longer;
      known_is = takes.left_is;
      events = along.events ++ events;
      done = along.done;
      wrote = along.wrote;
      history_is = ap (λ h. trace_after h events) along.history_is ∙ sym (trace_append [] along.events events);
      each = each_append (IsEventOf p) along.events events along.each each;
      leads = λ more notices later written told serves.
          let whole = along.leads (piece takes.body ++ more) (notice ∷ notices) (events ++ later) (added ++ written)
          (tells takes.is_body ((kept_tell_the_same takes.body).0 notice (subst (λ l. TellsNotice l notice) takes.kept_is told_so)) told)
          (step notices later written serves) in
          let text : (along.done ++ pending) ++ (added ++ written) ≡ (along.done ++ still) ++ written =
          sym (append_assoc (along.done ++ pending) added written)
          ∙ ap (λ l. l ++ written) (append_assoc along.done pending added ∙ ap (λ l. along.done ++ l) (sym is_still)) in (
            whole.0,
            subst (λ l. TellNotices l whole.0) (regroup more) whole.1,
            subst (λ e. Serves c p needed [] [] whole.0 e ((along.done ++ still) ++ written)) (sym (append_assoc along.events events later))
                (subst (λ t. Serves c p needed [] [] whole.0 (along.events ++ (events ++ later)) t) text whole.2),
          );
    }

  -- ---- some of the text is written

  pub moved : (written : Option (List ℕ)) (still : List ℕ) → FrontIsWritten new written pending still
      → Along c p needed bytes known old written history past still
  moved written still moves = record {
    front = along.front;
    rest = along.rest;
    split = along.split;
    known_is = along.known_is;
    events = along.events;
    done = along.done ++ moves.front;
    wrote = Appends-trans old new written along.done moves.front along.wrote moves.wrote;
    history_is = along.history_is;
    each = along.each;
    leads = λ more notices later text told serves.
        let whole = along.leads more notices later text told serves in
        let same : along.done ++ pending ≡ (along.done ++ moves.front) ++ still =
        ap (λ l. along.done ++ l) (sym moves.split) ∙ sym (append_assoc along.done moves.front still) in
        (whole.0, whole.1, subst (λ t. Serves c p needed [] [] whole.0 (along.events ++ later) (t ++ text)) same whole.2);
  }

  -- ---- the end

  -- the bytes up to here and some more, which tell nothing, are served
  up_to : (more : List ℕ) → IsPartial more → IsPromptReplica c p history → ServesBytes c p needed (along.front ++ more) along.events (along.done ++ pending)
  up_to more partial right =
      let whole = along.leads more [] [] [] (bytes_end partial) ends in
      record {
        notices = whole.0;
        told = whole.1;
        serves =
            subst (λ t. Serves c p needed [] [] whole.0 along.events t) (append-nil (along.done ++ pending))
            (subst (λ e. Serves c p needed [] [] whole.0 e ((along.done ++ pending) ++ [])) (append-nil along.events) whole.2);
        each = along.each;
        right = subst (λ h. IsPromptReplica c p h) along.history_is right;
      }

  pub all_served : IsPartial along.rest → IsPromptReplica c p history → HasServed c p needed bytes old new pending
  all_served partial right =
      (along.events, along.done, subst (λ l. ServesBytes c p needed l along.events (along.done ++ pending)) (sym along.split) (up_to along.rest partial right), along.wrote)

  front_served : IsPromptReplica c p history → ServesBytes c p needed along.front along.events (along.done ++ pending)
  front_served right =
      subst (λ l. ServesBytes c p needed l along.events (along.done ++ pending)) (append-nil along.front) (up_to [] none_partial right)

  pub stopped_here : IsPromptReplica c p history → (front left : List ℕ) × (bytes ≡ front ++ left) × HasServed c p needed front old new pending
  stopped_here right = (along.front, along.rest, along.split, (along.events, along.done, front_served right, along.wrote))

  -- writing failed behind a front of the text
  pub failed_here : IsPromptReplica c p history → (written : Option (List ℕ)) (left : List ℕ) → FrontIsWritten new written pending left
      → WritesFront c p needed bytes old written
  failed_here right written left moves = (
    along.front,
    along.rest,
    along.events,
    along.done ++ moves.front,
    left,
    along.split,
    subst (λ t. ServesBytes c p needed along.front along.events t)
        (ap (λ l. along.done ++ l) (sym moves.split) ∙ sym (append_assoc along.done moves.front left)) (front_served right),
    Appends-trans old new written along.done moves.front along.wrote moves.wrote,
  )
