-- Courses over lines and records, one after another.
use Rattle.std.proofs.Common.{◌≡◌, ℕ, List, [], ◌∷◌, ◌++◌, Option, Some, refl, sym, ap, subst, ◌∙◌, arith, append_assoc, append-nil}
use Rattle.std.specs.Str.Lines.{lines}
use Rattle.std.proofs.KnownBytes.{Appends-nil, Appends-trans}
use Rattle.wire_format.specs.Lists.{Each}
use Rattle.wire_format.specs.Spelling.{piece}
use Rattle.protocol.specs.System.Trace.{Entry}
use Rattle.events.specs.Outputs.{after_entries}
use Rattle.party_runs.specs.Interleavings.{IsEventOf, trace_after}
use Rattle.records.specs.Records.{NoticeData, TellsNotice, TellsNothing, TellNotices, tells, passes, ends as bytes_end, IsPartial, TakesRecord}
use Rattle.records.proofs.Framing.{is_short}
use Rattle.records.proofs.Telling.{kept_tell_the_same}
use Rattle.client_process.specs.Clients.{IsPromptLife}
use Rattle.client_process.specs.Serving.{Ending, complete, unanswered, cut_short, Turn, idle, waits, Serves, ends, waits_on, stops}
use Rattle.client_process.specs.Endings.{Converses, Scene, Writes, WritesFronts}
use Rattle.client_process.specs.Texts.{FrontIsWritten, Opening, Along, BringsLine}
use Rattle.client_process.specs.declared.timer.Timer.{Timer}

each_append : {A : Type 0} (P : A → Type 0) (xs ys : List A) → Each P xs → Each P ys → Each P (xs ++ ys)
each_append P [] ys h k = k
each_append P (x ∷ xs) ys h k = (h.0, each_append P xs ys h.1 k)

trace_append : (past : List Entry) (xs ys : List (List Entry)) → trace_after past (xs ++ ys) ≡ trace_after (trace_after past xs) ys
trace_append past [] ys = refl
trace_append past (event ∷ xs) ys = trace_append (after_entries event past) xs ys

none_partial : IsPartial []
none_partial = is_short [] (omega arith)

some_is : {A : Type 0} (x y : A) → Some x ≡ Some y → x ≡ y
some_is x y e = cc

regrouped : (done pending added later : List ℕ) → (done ++ pending) ++ (added ++ later) ≡ (done ++ (pending ++ added)) ++ later
regrouped done pending added later =
    sym (append_assoc (done ++ pending) added later) ∙ ap (λ l. l ++ later) (append_assoc done pending added)

-- Nothing is read yet.
pub begins : (o : Opening) (unread known : Option (List ℕ)) (unsent untold : List ℕ) → unread ≡ Some o.script → known ≡ Some o.records
    → unsent ≡ [] → untold ≡ [] → Along o [] (idle 0) 1 unread known o.start unsent untold
begins o unread known unsent untold unread_is known_is no_sent no_told = record {
  script = o.script;
  unread_is = unread_is;
  front = [];
  rest = o.records;
  split = refl;
  known_is = known_is;
  events = [];
  sent = [];
  told = [];
  wrote_records = Appends-nil o.start.sent;
  wrote_results = Appends-nil o.start.told;
  history_is = refl;
  each = tt;
  leads = λ more notices later sent_later told_later ending told_so serves. (
    notices,
    told_so,
    subst (λ l. Serves o.c o.me (idle 0) 1 (lines o.script) notices later (l ++ sent_later) (untold ++ told_later) ending) (sym no_sent)
        (subst (λ l. Serves o.c o.me (idle 0) 1 (lines o.script) notices later sent_later (l ++ told_later) ending) (sym no_told) serves),
  );
}

module _ (o : Opening) (history : List Entry) (turn : Turn) (n : ℕ) (unread known : Option (List ℕ)) (now : Scene) (unsent untold : List ℕ) (along : Along o history turn n unread known now unsent untold) where
  -- ---- the next line

  -- It has these events, and these texts are added.
  pub past_line : (l : List ℕ) (rest : Option (List ℕ)) → BringsLine l unread rest → (after : Turn) (m : ℕ) (events : List (List Entry)) (sent told still_sent still_told : List ℕ)
      → Each (IsEventOf o.me) events → still_sent ≡ unsent ++ sent → still_told ≡ untold ++ told
      → ((ls : List (List ℕ)) (notices : List NoticeData) (later : List (List Entry)) (sent_later told_later : List ℕ) (ending : Ending)
      → Serves o.c o.me after m ls notices later sent_later told_later ending
      → Serves o.c o.me turn n (l ∷ ls) notices (events ++ later) (sent ++ sent_later) (told ++ told_later) ending)
      → Along o (trace_after history events) after m rest known now still_sent still_told
  past_line l rest brings after m events sent told still_sent still_told each sends tells_so step =
      let same : along.script ≡ brings.0 = some_is along.script brings.0 (sym along.unread_is ∙ brings.1) in
      record {
        script = brings.2.rest;
        unread_is = brings.2.left_is;
        front = along.front;
        rest = along.rest;
        split = along.split;
        known_is = along.known_is;
        events = along.events ++ events;
        sent = along.sent;
        told = along.told;
        wrote_records = along.wrote_records;
        wrote_results = along.wrote_results;
        history_is = ap (λ h. trace_after h events) along.history_is ∙ sym (trace_append [] along.events events);
        each = each_append (IsEventOf o.me) along.events events along.each each;
        leads = λ more notices later sent_later told_later ending told_so serves.
            let one = step (lines brings.2.rest) notices later sent_later told_later ending serves in
            let whole =
            along.leads more notices (events ++ later) (sent ++ sent_later) (told ++ told_later) ending told_so
            (subst (λ ls. Serves o.c o.me turn n ls notices (events ++ later) (sent ++ sent_later) (told ++ told_later) ending) (sym (ap lines same ∙ brings.2.split)) one) in (
              whole.0,
              whole.1,
              subst (λ e. Serves o.c o.me (idle 0) 1 (lines o.script) whole.0 e ((along.sent ++ still_sent) ++ sent_later) ((along.told ++ still_told) ++ told_later) ending)
                  (sym (append_assoc along.events events later))
                  (subst (λ t. Serves o.c o.me (idle 0) 1 (lines o.script) whole.0 (along.events ++ (events ++ later)) t ((along.told ++ still_told) ++ told_later) ending)
                  (regrouped along.sent unsent sent sent_later ∙ ap (λ x. (along.sent ++ x) ++ sent_later) (sym sends))
                  (subst (λ t. Serves o.c o.me (idle 0) 1 (lines o.script) whole.0 (along.events ++ (events ++ later)) ((along.sent ++ unsent) ++ (sent ++ sent_later)) t ending)
                  (regrouped along.told untold told told_later ∙ ap (λ x. (along.told ++ x) ++ told_later) (sym tells_so)) whole.2)),
            );
      }

  -- ---- the next record

  module _ (left : Option (List ℕ)) (kept : List ℕ) (taken : TakesRecord along.rest left kept) where
    abbrev longer : List ℕ
    longer = along.front ++ piece taken.body

    split_longer : o.records ≡ longer ++ taken.rest
    split_longer = along.split ∙ ap (λ l. along.front ++ l) taken.split ∙ sym (append_assoc along.front (piece taken.body) taken.rest)

    regroup : (more : List ℕ) → along.front ++ (piece taken.body ++ more) ≡ longer ++ more
    regroup more = sym (append_assoc along.front (piece taken.body) more)

    -- It tells nothing.
    pub past_nothing : TellsNothing kept → Along o history turn n unread left now unsent untold
    past_nothing nothing = record {
      script = along.script;
      unread_is = along.unread_is;
      front = longer;
      rest = taken.rest;
      split = split_longer;
      known_is = taken.left_is;
      events = along.events;
      sent = along.sent;
      told = along.told;
      wrote_records = along.wrote_records;
      wrote_results = along.wrote_results;
      history_is = along.history_is;
      each = along.each;
      leads = λ more notices later sent_later told_later ending told_so serves.
          let whole = along.leads (piece taken.body ++ more) notices later sent_later told_later ending
          (passes taken.is_body ((kept_tell_the_same taken.body).1 (subst TellsNothing taken.kept_is nothing)) told_so) serves in
          (whole.0, subst (λ l. TellNotices l whole.0) (regroup more) whole.1, whole.2);
    }

    -- It tells this, for which the client has these events, and these texts are added.
    pub past_notice : (notice : NoticeData) → TellsNotice kept notice → (after : Turn) (events : List (List Entry)) (sent told still_sent still_told : List ℕ)
        → Each (IsEventOf o.me) events → still_sent ≡ unsent ++ sent → still_told ≡ untold ++ told
        → ((ls : List (List ℕ)) (notices : List NoticeData) (later : List (List Entry)) (sent_later told_later : List ℕ) (ending : Ending)
        → Serves o.c o.me after n ls notices later sent_later told_later ending
        → Serves o.c o.me turn n ls (notice ∷ notices) (events ++ later) (sent ++ sent_later) (told ++ told_later) ending)
        → Along o (trace_after history events) after n unread left now still_sent still_told
    past_notice notice tells_it after events sent told still_sent still_told each sends tells_so step = record {
      script = along.script;
      unread_is = along.unread_is;
      front = longer;
      rest = taken.rest;
      split = split_longer;
      known_is = taken.left_is;
      events = along.events ++ events;
      sent = along.sent;
      told = along.told;
      wrote_records = along.wrote_records;
      wrote_results = along.wrote_results;
      history_is = ap (λ h. trace_after h events) along.history_is ∙ sym (trace_append [] along.events events);
      each = each_append (IsEventOf o.me) along.events events along.each each;
      leads = λ more notices later sent_later told_later ending told_so serves.
          let whole = along.leads (piece taken.body ++ more) (notice ∷ notices) (events ++ later) (sent ++ sent_later) (told ++ told_later) ending
          (tells taken.is_body ((kept_tell_the_same taken.body).0 notice (subst (λ l. TellsNotice l notice) taken.kept_is tells_it)) told_so)
          (step (lines along.script) notices later sent_later told_later ending serves) in (
            whole.0,
            subst (λ l. TellNotices l whole.0) (regroup more) whole.1,
            subst (λ e. Serves o.c o.me (idle 0) 1 (lines o.script) whole.0 e ((along.sent ++ still_sent) ++ sent_later) ((along.told ++ still_told) ++ told_later) ending)
                (sym (append_assoc along.events events later))
                (subst (λ t. Serves o.c o.me (idle 0) 1 (lines o.script) whole.0 (along.events ++ (events ++ later)) t ((along.told ++ still_told) ++ told_later) ending)
                (regrouped along.sent unsent sent sent_later ∙ ap (λ x. (along.sent ++ x) ++ sent_later) (sym sends))
                (subst (λ t. Serves o.c o.me (idle 0) 1 (lines o.script) whole.0 (along.events ++ (events ++ later)) ((along.sent ++ unsent) ++ (sent ++ sent_later)) t ending)
                (regrouped along.told untold told told_later ∙ ap (λ x. (along.told ++ x) ++ told_later) (sym tells_so)) whole.2)),
          );
    }

  -- ---- some of the texts is written

  pub moved : (later : Scene) (still_sent still_told : List ℕ) → FrontIsWritten now.sent later.sent unsent still_sent → FrontIsWritten now.told later.told untold still_told
      → Along o history turn n unread known later still_sent still_told
  moved later still_sent still_told sends tells_so = record {
    script = along.script;
    unread_is = along.unread_is;
    front = along.front;
    rest = along.rest;
    split = along.split;
    known_is = along.known_is;
    events = along.events;
    sent = along.sent ++ sends.front;
    told = along.told ++ tells_so.front;
    wrote_records = Appends-trans o.start.sent now.sent later.sent along.sent sends.front along.wrote_records sends.wrote;
    wrote_results = Appends-trans o.start.told now.told later.told along.told tells_so.front along.wrote_results tells_so.wrote;
    history_is = along.history_is;
    each = along.each;
    leads = λ more notices events sent_later told_later ending told_so serves.
        let whole = along.leads more notices events sent_later told_later ending told_so serves in (
          whole.0,
          whole.1,
          subst (λ t. Serves o.c o.me (idle 0) 1 (lines o.script) whole.0 (along.events ++ events) (t ++ sent_later) (((along.told ++ tells_so.front) ++ still_told) ++ told_later) ending)
              (part along.sent sends.front still_sent unsent sends.split)
              (subst (λ t. Serves o.c o.me (idle 0) 1 (lines o.script) whole.0 (along.events ++ events) ((along.sent ++ unsent) ++ sent_later) (t ++ told_later) ending)
              (part along.told tells_so.front still_told untold tells_so.split) whole.2),
        );
  }
    where
      part : (done front left whole : List ℕ) → front ++ left ≡ whole → done ++ whole ≡ (done ++ front) ++ left
      part done front left whole e = ap (λ l. done ++ l) (sym e) ∙ sym (append_assoc done front left)

  -- ---- the end

  -- The course so far, up to this ending.
  up_to : (ending : Ending) → (ending ≡ unanswered → IsPartial along.rest) → IsPromptLife o.c o.me o.above history
      → Serves o.c o.me turn n (lines along.script) [] [] [] [] ending
      → Converses o.c o.me o.above o.script o.records ending (along.sent ++ unsent) (along.told ++ untold)
  up_to ending none right over =
      let whole = along.leads [] [] [] [] [] ending (bytes_end none_partial) over in
      record {
        events = along.events;
        front = along.front;
        left = along.rest;
        split = along.split;
        notices = whole.0;
        said = subst (λ l. TellNotices l whole.0) (append-nil along.front) whole.1;
        none_left = none;
        serves =
            subst (λ t. Serves o.c o.me (idle 0) 1 (lines o.script) whole.0 along.events t (along.told ++ untold) ending) (append-nil (along.sent ++ unsent))
            (subst (λ t. Serves o.c o.me (idle 0) 1 (lines o.script) whole.0 along.events ((along.sent ++ unsent) ++ []) t ending) (append-nil (along.told ++ untold))
            (subst (λ e. Serves o.c o.me (idle 0) 1 (lines o.script) whole.0 e ((along.sent ++ unsent) ++ []) ((along.told ++ untold) ++ []) ending) (append-nil along.events) whole.2));
        each = along.each;
        right = subst (λ h. IsPromptLife o.c o.me o.above h) along.history_is right;
      }

  -- nothing is left to write
  all_written : (ending : Ending) → unsent ≡ [] → untold ≡ [] → Converses o.c o.me o.above o.script o.records ending (along.sent ++ unsent) (along.told ++ untold)
      → Writes o.c o.me o.above o.script o.records ending o.start now
  all_written ending no_sent no_told converses = record {
    sent = along.sent;
    told = along.told;
    converses =
        subst (λ t. Converses o.c o.me o.above o.script o.records ending t along.told) (ap (λ l. along.sent ++ l) no_sent ∙ append-nil along.sent)
        (subst (λ t. Converses o.c o.me o.above o.script o.records ending (along.sent ++ unsent) t) (ap (λ l. along.told ++ l) no_told ∙ append-nil along.told) converses);
    wrote_records = along.wrote_records;
    wrote_results = along.wrote_results;
  }

  pub stops_here : unsent ≡ [] → untold ≡ [] → IsPromptLife o.c o.me o.above history → Writes o.c o.me o.above o.script o.records cut_short o.start now
  stops_here no_sent no_told right = all_written cut_short no_sent no_told (up_to cut_short (λ e. absurd cc) right stops)

  -- writing failed behind fronts of the texts
  pub fails_here : (later : Scene) (left_sent left_told : List ℕ) → FrontIsWritten now.sent later.sent unsent left_sent → FrontIsWritten now.told later.told untold left_told
      → IsPromptLife o.c o.me o.above history → WritesFronts o.c o.me o.above o.script o.records o.start later
  fails_here later left_sent left_told sends tells_so right = record {
    sent = along.sent ++ sends.front;
    told = along.told ++ tells_so.front;
    unsent = left_sent;
    untold = left_told;
    converses =
        subst (λ t. Converses o.c o.me o.above o.script o.records cut_short t ((along.told ++ tells_so.front) ++ left_told)) (part along.sent sends.front left_sent unsent sends.split)
        (subst (λ t. Converses o.c o.me o.above o.script o.records cut_short (along.sent ++ unsent) t) (part along.told tells_so.front left_told untold tells_so.split)
        (up_to cut_short (λ e. absurd cc) right stops));
    wrote_records = Appends-trans o.start.sent now.sent later.sent along.sent sends.front along.wrote_records sends.wrote;
    wrote_results = Appends-trans o.start.told now.told later.told along.told tells_so.front along.wrote_results tells_so.wrote;
  }
    where
      part : (done front left whole : List ℕ) → front ++ left ≡ whole → done ++ whole ≡ (done ++ front) ++ left
      part done front left whole e = ap (λ l. done ++ l) (sym e) ∙ sym (append_assoc done front left)

-- the whole script was served
pub ends_here : (o : Opening) (history : List Entry) (number n : ℕ) (unread known : Option (List ℕ)) (now : Scene) (unsent untold : List ℕ)
    (along : Along o history (idle number) n unread known now unsent untold) → lines along.script ≡ [] → unsent ≡ [] → untold ≡ [] → IsPromptLife o.c o.me o.above history
    → Writes o.c o.me o.above o.script o.records complete o.start now
ends_here o history number n unread known now unsent untold along none no_sent no_told right =
    all_written o history (idle number) n unread known now unsent untold along complete no_sent no_told
    (up_to o history (idle number) n unread known now unsent untold along complete (λ e. absurd cc) right
    (subst (λ ls. Serves o.c o.me (idle number) n ls [] [] [] [] complete) (sym none) ends))

-- no record is left, and the call is open
pub waits_here : (o : Opening) (history : List Entry) (timer : Timer) (n : ℕ) (unread known : Option (List ℕ)) (now : Scene) (unsent untold : List ℕ)
    (along : Along o history (waits timer) n unread known now unsent untold) → IsPartial along.rest → unsent ≡ [] → untold ≡ [] → IsPromptLife o.c o.me o.above history
    → Writes o.c o.me o.above o.script o.records unanswered o.start now
waits_here o history timer n unread known now unsent untold along partial no_sent no_told right =
    all_written o history (waits timer) n unread known now unsent untold along unanswered no_sent no_told
    (up_to o history (waits timer) n unread known now unsent untold along unanswered (λ e. partial) right waits_on)
