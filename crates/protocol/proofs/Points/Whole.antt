-- The points of a run are those of one sequential tuple space.
use Rattle.std.proofs.Common.{◌≡◌, ℕ, ◌+◌, ◌-◌, ◌≤◌, ◌⊎◌, inl, inr, Bool, true, false, not, cond, List, [], ◌∷◌, ◌++◌, length, map, filter, refl, sym, ap, ◌∙◌, subst, arith, ◌&&◌, ◌||◌, eqb-true, eq-eqb}
use Rattle.std.specs.Prelude.{◌==◌}
use Rattle.std.proofs.lemmas.Bool.{and_parts}
use Rattle.protocol.proofs.Words.Options
use Rattle.protocol.proofs.Agreement.States
use Rattle.protocol.specs.System.Configuration.{Configuration, IsConfiguration, is_correct_client}
use Rattle.terms.specs.declared.order.Mode.{Mode}
use Rattle.terms.specs.declared.order.Mode.TheVariants as modes
use Rattle.protocol.specs.System.Trace.{Entry, party_of, history_of, Once, Always, Unforged, Has}
use Rattle.protocol.specs.System.Trace.Entry.{Invoke, Accepted}
use Rattle.space.specs.Applying.{no_tuples, tuples_after}
use Rattle.space.proofs.Keeping.{read_same}
use Rattle.protocol.specs.Replica.State.{opening}
use Rattle.protocol.specs.Client.RightClient.{OpenCall, Vote}
use Rattle.protocol.specs.System.Texts.{NoCollision}
use Rattle.protocol.specs.Space.Linear.{Item, Placing, Legal, IsLinear, Invokes, Accepts, EntryAsks, first_position, read_points, is_double, sorted, insert_point, comes_before, points}
use Rattle.protocol.specs.Laws.Histories.{LinearOfSafe, IsSafeTrace}
use Rattle.protocol.proofs.Words.Temporal.{once_weaker, once_in_history}
use Rattle.protocol.proofs.Points.Legality.{legal_ordered}
use Rattle.protocol.proofs.Points.Running.{Run, run_earlier}
use Rattle.protocol.proofs.Points.Sorting.{AllOf, all_weaker, all_both, all_append, all_filter, all_has, sorted_all, Changes, IsOrdered, Stands, IsRight, sorted_legal, sorted_never_fall}
use Rattle.protocol.proofs.Points.Ran.{Source, ordered_sources, source_ordered, points_ascend, points_from, has_map_all}
use Rattle.protocol.proofs.Points.Keeping.{IsRanPoint, Differ, AllDiffer, differ_filter, differ_append, differ_sorted, differ_same, none_twice, points_differ, opening_full}
use Rattle.protocol.proofs.Points.Invoking.{run_part, once_split, one_invocation, ran_asked, ran_invoked}
use Rattle.protocol.proofs.Points.Accepting.{Accepting, accepting, Answers, accepted_place, accepted_level, read_before}
use Rattle.protocol.proofs.Points.Readings.{read_of, MadeAt, ModeAt, reads_made, made_read, made_mode, one_mode, reads_differ, all_ordered, ReadFacts, read_facts, read_bound, ordered_has}
use Rattle.protocol.specs.Space.Linear.{last_executed}
use Rattle.tuple_codec.specs.Operations.{Operation, Outcome}
use Rattle.protocol.specs.System.Run.{IsRun, IsRunOfLives}
use Rattle.protocol.specs.Laws.Runs.{PointsAreLinear, RunsAreLinear, RunsAreOfLives, AcceptedAtLevels, LevelsOfSafe, AtItsLevel}
use Rattle.protocol.proofs.Words.Reacting.{is_replica_right, are_lives_right, one_life}
use Rattle.protocol.proofs.Words.Elements.{has_left, has_some, has_right}

-- ---- lists

has_insert : (P : Placing → Type 0) (x : Placing) (ys : List Placing) → P x ⊎ Has P ys → Has P (insert_point x ys)
has_insert P x [] (inl h) = inl h
has_insert P x [] (inr h) = absurd h
has_insert P x (y ∷ ys) h = go (comes_before x y) h (has_insert P x ys)
  where
    go : (b : Bool) → P x ⊎ (P y ⊎ Has P ys) → (P x ⊎ Has P ys → Has P (insert_point x ys)) → Has P (cond b (x ∷ y ∷ ys) (y ∷ insert_point x ys))
    go true k below = k
    go false (inl k) below = inr (below (inl k))
    go false (inr (inl k)) below = inl k
    go false (inr (inr k)) below = inr (below (inr k))

has_sorted : (P : Placing → Type 0) (xs : List Placing) → Has P xs → Has P (sorted xs)
has_sorted P [] h = h
has_sorted P (x ∷ xs) (inl h) = has_insert P x (sorted xs) (inl h)
has_sorted P (x ∷ xs) (inr h) = has_insert P x (sorted xs) (inr (has_sorted P xs h))

pub has_items : (P : Item → Type 0) (xs : List Placing) → Has (λ x. P x.item) xs → Has P (map (λ (x : Placing). x.item) xs)
has_items P [] h = h
has_items P (x ∷ xs) (inl h) = inl h
has_items P (x ∷ xs) (inr h) = inr (has_items P xs h)

pub has_at : (P : Placing → Type 0) (xs : List Placing) (x : Placing) → Has (λ y. y ≡ x) xs → P x → Has P xs
has_at P [] x h p = h
has_at P (y ∷ ys) x (inl h) p = inl (subst P (sym h) p)
has_at P (y ∷ ys) x (inr h) p = inr (has_at P ys x h p)

has_filter : (keep : Placing → Bool) (xs : List Placing) (x : Placing) → Has (λ y. y ≡ x) xs → keep x ≡ true → Has (λ y. y ≡ x) (filter keep xs)
has_filter keep [] x h k = h
has_filter keep (y ∷ ys) x h k = go (keep y) refl h (has_filter keep ys x)
  where
    go : (b : Bool) → keep y ≡ b → (y ≡ x) ⊎ Has (λ z. z ≡ x) ys → (Has (λ z. z ≡ x) ys → keep x ≡ true → Has (λ z. z ≡ x) (filter keep ys)) → Has (λ z. z ≡ x) (cond b (y ∷ filter keep ys) (filter keep ys))
    go true e (inl h) below = inl h
    go true e (inr h) below = inr (below h k)
    go false e (inl h) below = absurd (let bad : false ≡ true = sym e ∙ ap keep h ∙ k in cc)
    go false e (inr h) below = below h k

kept_all : (keep : Placing → Bool) (xs : List Placing) → AllOf (λ x. keep x ≡ true) (filter keep xs)
kept_all keep [] = tt
kept_all keep (x ∷ xs) = go (keep x) refl (kept_all keep xs)
  where
    go : (b : Bool) → keep x ≡ b → AllOf (λ x. keep x ≡ true) (filter keep xs) → AllOf (λ x. keep x ≡ true) (cond b (x ∷ filter keep xs) (filter keep xs))
    go true e below = (e, below)
    go false e below = below

not_double : (ys : List Placing) (x : Placing) → is_double ys x ≡ false → AllOf (Differ x) ys
not_double [] x h = tt
not_double (y ∷ ys) x h = go ((y.item.client == x.item.client) && (y.item.timestamp == x.item.timestamp)) refl h (not_double ys x)
  where
    go : (b : Bool) → ((y.item.client == x.item.client) && (y.item.timestamp == x.item.timestamp)) ≡ b → (b || is_double ys x) ≡ false → (is_double ys x ≡ false → AllOf (Differ x) ys) → AllOf (Differ x) (y ∷ ys)
    go true e k below = absurd cc
    go false e k below = (
      λ same time. let a = eq-eqb y.item.client x.item.client (sym same) in let b = eq-eqb y.item.timestamp x.item.timestamp (sym time) in
          let both : ((y.item.client == x.item.client) && (y.item.timestamp == x.item.timestamp)) ≡ true = rw a b in absurd (let bad : true ≡ false = sym both ∙ e in cc),
      below k,
    )

double_has : (ys : List Placing) (x : Placing) → is_double ys x ≡ true → (y : Placing) × Has (λ z. z ≡ y) ys × (y.item.client ≡ x.item.client) × (y.item.timestamp ≡ x.item.timestamp)
double_has [] x h = absurd cc
double_has (y ∷ ys) x h = go ((y.item.client == x.item.client) && (y.item.timestamp == x.item.timestamp)) refl h (double_has ys x)
  where
    go : (b : Bool) → ((y.item.client == x.item.client) && (y.item.timestamp == x.item.timestamp)) ≡ b → (b || is_double ys x) ≡ true
        → (is_double ys x ≡ true → (z : Placing) × Has (λ w. w ≡ z) ys × (z.item.client ≡ x.item.client) × (z.item.timestamp ≡ x.item.timestamp))
        → (z : Placing) × Has (λ w. w ≡ z) (y ∷ ys) × (z.item.client ≡ x.item.client) × (z.item.timestamp ≡ x.item.timestamp)
    go true e k below = let p = and_parts (y.item.client == x.item.client) (y.item.timestamp == x.item.timestamp) e in (y, inl refl, eqb-true y.item.client x.item.client p.0, eqb-true y.item.timestamp x.item.timestamp p.1)
    go false e k below = let r = below k in (r.0, inr r.1, r.2, r.3)

all_of : (P : Placing → Type 0) (xs : List Placing) → ((x : Placing) → Has (λ y. y ≡ x) xs → P x) → AllOf P xs
all_of P [] f = tt
all_of P (x ∷ xs) f = (f x (inl refl), all_of P xs (λ y h. f y (inr h)))

always_split : (Q : List Entry → Entry → Type 0) (xs : List Entry) → ((later past : List Entry) (e : Entry) → xs ≡ later ++ e ∷ past → Q past e) → Always Q xs
always_split Q [] f = tt
always_split Q (e ∷ past) f = (f [] past e refl, always_split Q past (λ later past' e' is. f (e ∷ later) past' e' (ap (λ t. e ∷ t) is)))

invoked_in_history : (p t : ℕ) (op : Operation) (xs : List Entry) → Once (Invokes p t op) xs → Once (Invokes p t op) (history_of p xs)
invoked_in_history p t op xs h = once_in_history (Invokes p t op) p xs (once_weaker (Invokes p t op) (λ past e. (party_of e ≡ p) × Invokes p t op (history_of p past) e) own xs h)
  where
    own : (past : List Entry) (e : Entry) → Invokes p t op past e → (party_of e ≡ p) × Invokes p t op (history_of p past) e
    own past (Invoke x y z) h = (h.0, h)
    own past _ h = absurd h

-- ---- the points

-- an item's conditions, but for those on acceptances
pub record ItemFacts (c : Configuration) (trace : List Entry) (item : Item) : Type 0 where
  pub invoked : is_correct_client c item.client ≡ true → Once (λ past e. Invokes item.client item.timestamp item.op past e × (length past ≤ item.position)) trace
  pub asked : is_correct_client c item.client ≡ false → Once (λ past e. EntryAsks c item.client item.timestamp item.op past e × (length past ≤ item.position)) trace

module _ (c : Configuration) (trace : List Entry) (run : Run c trace) where
  abbrev reads : List Placing
  reads = read_points c trace trace

  abbrev keep : Placing → Bool
  keep x = not (is_double reads x)

  abbrev kept : List Placing
  kept = filter keep (all_ordered c trace)

  abbrev all_points : List Placing
  all_points = kept ++ reads

  -- the ordered ones
  sources : AllOf (λ x. Source c trace x × (1 ≤ x.number)) (all_ordered c trace)
  sources = all_both (Source c trace) (λ x. 1 ≤ x.number) (all_ordered c trace) (ordered_sources c trace opening 1 (last_executed trace)) (points_from c trace opening 1 (last_executed trace))

  -- the reads
  read_made : (y : Placing) → Once (MadeAt c trace y) trace → ReadFacts c trace y
  read_made y h =
      let at = once_split (MadeAt c trace y) trace h in
      go at.later at.past at.entry at.is at.holds
    where
      go : (later past : List Entry) (e : Entry) → trace ≡ later ++ e ∷ past → MadeAt c trace y past e → ReadFacts c trace y
      go later past (Accepted cl t a) is m =
          let x = accepting c past cl t a (run_part c later (Accepted cl t a ∷ past) (subst (Run c) is run)) in
          let call = Options.some_injective x.call m.0 (sym x.opened ∙ m.2) in
          let vote = Options.some_injective x.vote m.1 (sym x.newest ∙ m.3) in
          let in_mode : x.vote.mode ≡ modes.ReadOnly = ap (λ (v : Vote). v.mode) vote ∙ m.4 in
          let same : read_of c trace (256 + cl) x.call a past x.vote ≡ y =
          ap (λ (o : OpenCall). read_of c trace (256 + cl) o a past x.vote) call ∙ ap (λ (v : Vote). read_of c trace (256 + cl) m.0 a past v) vote ∙ m.5 in
          subst (ReadFacts c trace) same (read_facts c trace run later past (Accepted cl t a) is (256 + cl) t a x in_mode)
      go later past (Invoke x z w) is m = absurd m
      go later past _ is m = absurd m

  facts : AllOf (ReadFacts c trace) reads
  facts = all_weaker (λ y. Once (MadeAt c trace y) trace) (ReadFacts c trace) read_made reads (reads_made c trace trace)

  -- an ordered request that is left out changes nothing
  dropped : AllOf (λ o. keep o ≡ false → Changes o) (all_ordered c trace)
  dropped = all_weaker (λ x. Source c trace x × (1 ≤ x.number)) (λ o. keep o ≡ false → Changes o) one (all_ordered c trace) sources
    where
      one : (o : Placing) → Source c trace o × (1 ≤ o.number) → keep o ≡ false → Changes o
      one o s k ts =
          let d = double_has reads o (double (is_double reads o) k) in
          let y = all_has (ReadFacts c trace) reads d.0 facts d.1 in
          let client : is_correct_client c o.item.client ≡ true = subst (λ (i : ℕ). is_correct_client c i ≡ true) d.2 y.client in
          let mine = ran_invoked c trace run o s.0 s.1 client in
          let own : Once (Invokes o.item.client o.item.timestamp o.item.op) trace =
          once_weaker (λ past e. Invokes o.item.client o.item.timestamp o.item.op past e × (length past ≤ o.item.position)) (Invokes o.item.client o.item.timestamp o.item.op) (λ past e u. u.0) trace mine in
          let other : Once (Invokes d.0.item.client d.0.item.timestamp d.0.item.op) trace =
          once_weaker (λ past e. Invokes d.0.item.client d.0.item.timestamp d.0.item.op past e × (length past ≤ d.0.item.position)) (Invokes d.0.item.client d.0.item.timestamp d.0.item.op) (λ past e u. u.0) trace y.invoked in
          let moved : Once (Invokes o.item.client o.item.timestamp d.0.item.op) trace =
          subst (λ (i : ℕ). Once (Invokes o.item.client i d.0.item.op) trace) d.3 (subst (λ (i : ℕ). Once (Invokes i d.0.item.timestamp d.0.item.op) trace) d.2 other) in
          let same : o.item.op ≡ d.0.item.op =
          one_invocation c o.item.client o.item.timestamp o.item.op d.0.item.op (history_of o.item.client trace) (run.runs.clients o.item.client client)
          (invoked_in_history o.item.client o.item.timestamp o.item.op trace own) (invoked_in_history o.item.client o.item.timestamp d.0.item.op trace moved) in
          ap (tuples_after ts (o.item.client - 256)) same ∙ read_same ts (o.item.client - 256) d.0.item.op y.right.is_read
        where
          double : (b : Bool) → not b ≡ false → b ≡ true
          double true e = refl
          double false e = absurd cc

  legal : Legal (map (λ (x : Placing). x.item) (sorted all_points))
  legal = sorted_legal (first_position c trace) keep (all_ordered c trace) reads no_tuples
      (all_weaker (Source c trace) (IsOrdered (first_position c trace)) (source_ordered c trace) (all_ordered c trace) (ordered_sources c trace opening 1 (last_executed trace)))
      (points_ascend c trace opening 1 (last_executed trace)) dropped
      (all_weaker (ReadFacts c trace) (Stands (first_position c trace)) (λ y f. f.stands) reads facts)
      (legal_ordered c trace opening 1 (last_executed trace) refl)
      (all_weaker (ReadFacts c trace) (IsRight no_tuples (all_ordered c trace)) (λ y f. f.right) reads facts)

  differ : AllDiffer all_points
  differ = differ_append kept reads (differ_filter keep (all_ordered c trace) (points_differ c run.setting trace opening 1 (last_executed trace) refl opening_full).1) (reads_differ c trace trace run)
      (all_weaker (λ x. keep x ≡ true) (λ x. AllOf (Differ x) reads) (λ x k. not_double reads x (single (is_double reads x) k)) kept (kept_all keep (all_ordered c trace)))
    where
      single : (b : Bool) → not b ≡ true → b ≡ false
      single false e = refl
      single true e = absurd cc

  item_facts : AllOf (λ x. ItemFacts c trace x.item) all_points
  item_facts = all_append (λ x. ItemFacts c trace x.item) kept reads
      (all_filter (λ x. ItemFacts c trace x.item) keep (all_ordered c trace)
      (all_weaker (λ x. Source c trace x × (1 ≤ x.number)) (λ x. ItemFacts c trace x.item) (λ x s. record { invoked = ran_invoked c trace run x s.0 s.1; asked = λ other. ran_asked c trace run x s.0 s.1 }) (all_ordered c trace) sources))
      (all_weaker (ReadFacts c trace) (λ x. ItemFacts c trace x.item) (λ y f. record { invoked = λ client. f.invoked; asked = λ other. absurd (let bad : true ≡ false = sym f.client ∙ other in cc) }) reads facts)

  -- ---- acceptances

  -- the point of an acceptance
  record Shown (p t : ℕ) (a : Outcome) (past : List Entry) : Type 0 where
    point : Placing
    is_there : Has (λ x. x ≡ point) all_points
    client : point.item.client ≡ p
    time : point.item.timestamp ≡ t
    answer : point.item.answer ≡ a
    bound : point.item.position ≤ length past

  shown : (later past : List Entry) (cl t : ℕ) (a : Outcome) → trace ≡ later ++ Accepted cl t a ∷ past → Shown (256 + cl) t a past
  shown later past cl t a is = go x.vote.mode refl
    where
      x : Accepting c past (256 + cl) t a
      x = accepting c past cl t a (run_part c later (Accepted cl t a ∷ past) (subst (Run c) is run))

      whole : (Q : List Entry → Entry → Type 0) → Q past (Accepted cl t a) → Once Q trace
      whole Q h = subst (λ (ys : List Entry). Once Q ys) (sym is) (States.once_append Q later (Accepted cl t a ∷ past) (inl h))

      go : (mode : Mode) → x.vote.mode ≡ mode → Shown (256 + cl) t a past
      go modes.ReadOnly in_mode = record {
        point = read_of c trace (256 + cl) x.call a past x.vote;
        is_there = has_right (λ z. z ≡ read_of c trace (256 + cl) x.call a past x.vote) kept reads
            (made_read c trace (read_of c trace (256 + cl) x.call a past x.vote) trace (whole (MadeAt c trace (read_of c trace (256 + cl) x.call a past x.vote)) (x.call, x.vote, x.opened, x.newest, in_mode, refl)));
        client = refl;
        time = x.time;
        answer = refl;
        bound = read_bound c trace run later past (Accepted cl t a) is (256 + cl) t a x;
      }
      go modes.Ordered in_mode =
          let r = has_some (IsRanPoint c trace (Answers (256 + cl) t x.vote.number x.vote.answer)) (all_ordered c trace) (ordered_has c trace run later past (Accepted cl t a) is (256 + cl) t a x in_mode) in
          let q = accepted_place c trace later past (Accepted cl t a) (256 + cl) t a is x in
          let f = r.2 in
          let client : r.0.item.client ≡ 256 + cl = ap (λ (z : Placing). z.item.client) f.is ∙ f.holds.0 in
          let time : r.0.item.timestamp ≡ t = ap (λ (z : Placing). z.item.timestamp) f.is ∙ f.holds.1 in
          let position : r.0.item.position ≡ f.position = ap (λ (z : Placing). z.item.position) f.is in
          let place : f.position ≡ q.0 = Options.some_injective f.position q.0 (sym f.place ∙ ap (first_position c trace) (sym f.holds.3) ∙ q.1) in
          let l = q.2 in
          record {
            point = r.0;
            is_there = has_left (λ z. z ≡ r.0) kept reads (has_filter keep (all_ordered c trace) r.0 r.1 (single r.0 client time (is_double reads r.0) refl));
            client = client;
            time = time;
            answer = ap (λ (z : Placing). z.item.answer) f.is ∙ f.holds.2 ∙ x.answer;
            bound = omega arith;
          }
        where
          single : (z : Placing) → z.item.client ≡ 256 + cl → z.item.timestamp ≡ t → (b : Bool) → is_double reads z ≡ b → not (is_double reads z) ≡ true
          single z client time false e = rw e refl
          single z client time true e =
              let d = double_has reads z e in
              let made = all_has (λ y. Once (MadeAt c trace y) trace) reads d.0 (reads_made c trace trace) d.1 in
              let read = made_mode c trace d.0 trace run made in
              let moved : Once (ModeAt c modes.ReadOnly (256 + cl) t) trace = subst (λ (i : ℕ). Once (ModeAt c modes.ReadOnly (256 + cl) i) trace) (d.3 ∙ time) (subst (λ (i : ℕ). Once (ModeAt c modes.ReadOnly i d.0.item.timestamp) trace) (d.2 ∙ client) read) in
              absurd (one_mode c (256 + cl) t trace run moved (whole (ModeAt c modes.Ordered (256 + cl) t) (refl, refl, (x.vote, x.newest, in_mode))))

  accepted_there : (p t : ℕ) (a : Outcome) → is_correct_client c p ≡ true → Once (Accepts p t a) trace
      → Has (λ item. (item.client ≡ p) × (item.timestamp ≡ t) × (item.answer ≡ a) × Once (Invokes p t item.op) trace) (map (λ (x : Placing). x.item) (sorted all_points))
  accepted_there p t a client h =
      let at = once_split (Accepts p t a) trace h in
      go at.later at.past at.entry at.is at.holds
    where
      make : (past : List Entry) → Shown p t a past → Has (λ item. (item.client ≡ p) × (item.timestamp ≡ t) × (item.answer ≡ a) × Once (Invokes p t item.op) trace) (map (λ (x : Placing). x.item) (sorted all_points))
      make past s =
          let f = all_has (λ x. ItemFacts c trace x.item) all_points s.point item_facts s.is_there in
          let right : is_correct_client c s.point.item.client ≡ true = subst (λ (i : ℕ). is_correct_client c i ≡ true) (sym s.client) client in
          let own : Once (Invokes s.point.item.client s.point.item.timestamp s.point.item.op) trace =
          once_weaker (λ past e. Invokes s.point.item.client s.point.item.timestamp s.point.item.op past e × (length past ≤ s.point.item.position)) (Invokes s.point.item.client s.point.item.timestamp s.point.item.op) (λ past e u. u.0) trace (f.invoked right) in
          let moved : Once (Invokes p t s.point.item.op) trace =
          subst (λ (i : ℕ). Once (Invokes p i s.point.item.op) trace) s.time (subst (λ (i : ℕ). Once (Invokes i s.point.item.timestamp s.point.item.op) trace) s.client own) in
          has_items (λ item. (item.client ≡ p) × (item.timestamp ≡ t) × (item.answer ≡ a) × Once (Invokes p t item.op) trace) (sorted all_points)
          (has_sorted (λ x. (x.item.client ≡ p) × (x.item.timestamp ≡ t) × (x.item.answer ≡ a) × Once (Invokes p t x.item.op) trace) all_points
          (has_at (λ x. (x.item.client ≡ p) × (x.item.timestamp ≡ t) × (x.item.answer ≡ a) × Once (Invokes p t x.item.op) trace) all_points s.point s.is_there (s.client, s.time, s.answer, moved)))

      go : (later past : List Entry) (e : Entry) → trace ≡ later ++ e ∷ past → Accepts p t a past e → Has (λ item. (item.client ≡ p) × (item.timestamp ≡ t) × (item.answer ≡ a) × Once (Invokes p t item.op) trace) (map (λ (x : Placing). x.item) (sorted all_points))
      go later past (Accepted cl time answer) is k =
          make past (subst (λ (i : ℕ). Shown i t a past) k.0 (subst (λ (i : ℕ). Shown (256 + cl) i a past) k.1 (subst (λ (b : Outcome). Shown (256 + cl) time b past) k.2 (shown later past cl time answer is))))
      go later past (Invoke x z w) is m = absurd m
      go later past _ is m = absurd m

  -- no point of an accepted call is after its acceptance
  before_accepted : (x : Placing) → Has (λ y. y ≡ x) all_points → (a : Outcome) → Always (λ past e. Accepts x.item.client x.item.timestamp a past e → x.item.position ≤ length past) trace
  before_accepted x has a = always_split (λ past e. Accepts x.item.client x.item.timestamp a past e → x.item.position ≤ length past) trace go
    where
      go : (later past : List Entry) (e : Entry) → trace ≡ later ++ e ∷ past → Accepts x.item.client x.item.timestamp a past e → x.item.position ≤ length past
      go later past (Accepted cl time answer) is k =
          let s = shown later past cl time answer is in
          let same : s.point ≡ x = differ_same all_points differ s.point x s.is_there has (s.client ∙ k.0) (s.time ∙ k.1) in
          subst (λ (y : Placing). y.item.position ≤ length past) same s.bound
      go later past (Invoke y z w) is m = absurd m
      go later past _ is m = absurd m

  -- ---- together

  item_has : (P : Item → Type 0) → AllOf (λ x. P x.item) all_points → (item : Item) → Has (λ y. y ≡ item) (map (λ (x : Placing). x.item) (sorted all_points)) → P item
  item_has P all item h = all_has P (map (λ (x : Placing). x.item) (sorted all_points)) item (has_map_all P (λ (x : Placing). x.item) (sorted all_points) (sorted_all (λ x. P x.item) all_points all)) h

  linear : IsLinear c (map (λ (x : Placing). x.item) (sorted all_points)) trace
  linear = record {
    legal = legal;
    covers = record {
      accepted = accepted_there;
      invoked = λ item h client. let f = item_has (ItemFacts c trace) item_facts item h in
          once_weaker (λ past e. Invokes item.client item.timestamp item.op past e × (length past ≤ item.position)) (Invokes item.client item.timestamp item.op) (λ past e u. u.0) trace (f.invoked client);
      asked = λ item h other. (item_has (ItemFacts c trace) item_facts item h).asked other;
      once = none_twice (sorted all_points) (differ_sorted all_points differ);
    };
    placed = record {
      in_order = sorted_never_fall all_points;
      after = λ item h client. (item_has (ItemFacts c trace) item_facts item h).invoked client;
      before = λ item a h client. item_has (λ i. (a : Outcome) → Always (λ past e. Accepts i.client i.timestamp a past e → i.position ≤ length past) trace) (all_of (λ x. (a : Outcome) → Always (λ past e. Accepts x.item.client x.item.timestamp a past e → x.item.position ≤ length past) trace) all_points before_accepted) item h a;
    };
  }

  pub points_linear : IsLinear c (points c trace) trace
  unfolding points
  points_linear = linear

pub safe_run : (c : Configuration) → IsConfiguration c → (trace : List Entry) → IsSafeTrace c trace → Unforged c trace → NoCollision c trace → Run c trace
safe_run c setting trace right unforged apart = record {
  setting = setting;
  runs = record { unforged = unforged; replicas = right.replicas; clients = right.clients };
  apart = apart;
  parties = right.parties;
}

pub linear_of_right : LinearOfSafe
linear_of_right c setting trace right unforged apart = points_linear c trace (safe_run c setting trace right unforged apart)

-- a run in which each client has one life is one of lives
pub runs_are_of_lives : RunsAreOfLives
runs_are_of_lives c trace run = record {
  replicas = run.replicas;
  clients = λ p correct. one_life c p (history_of p trace) (run.clients p correct);
  parties = run.parties;
  events = run.events;
}

-- the histories of a run are safe
run_is_safe : (c : Configuration) (trace : List Entry) → IsRunOfLives c trace → IsSafeTrace c trace
run_is_safe c trace run = record {
  replicas = λ p correct. is_replica_right c p (history_of p trace) (run.replicas p correct);
  clients = λ p correct. are_lives_right c p (history_of p trace) (run.clients p correct);
  parties = run.parties;
}

pub points_are_linear : PointsAreLinear
points_are_linear c setting trace run unforged apart = linear_of_right c setting trace (run_is_safe c trace run) unforged apart

pub runs_are_linear : RunsAreLinear
runs_are_linear c setting trace run unforged apart = (points c trace, points_are_linear c setting trace run unforged apart)

pub levels_of_safe : LevelsOfSafe
levels_of_safe c setting trace right unforged apart = each trace (safe_run c setting trace right unforged apart)
  where
    at : (past : List Entry) (e : Entry) → Run c (e ∷ past) → AtItsLevel c past e
    at past (Accepted k t a) run =
        let x = accepting c past k t a run in (x.vote, x.newest, accepted_level c past (256 + k) t a x, λ in_mode n above. read_before c past (256 + k) t a x in_mode n above)
    at past (Invoke x y z) run = tt
    at past _ run = tt

    each : (xs : List Entry) → Run c xs → Always (AtItsLevel c) xs
    each [] run = tt
    each (e ∷ past) run = (at past e run, each past (run_earlier c e past run))

pub accepted_at_levels : AcceptedAtLevels
accepted_at_levels c setting trace run unforged apart = levels_of_safe c setting trace (run_is_safe c trace run) unforged apart
