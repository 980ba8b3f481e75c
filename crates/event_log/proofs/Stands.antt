-- A log that stands, one event on and one group on.
use Rattle.std.proofs.Common.{◌≡◌, Bool, IsTrue, ℕ, ◌+◌, ◌<◌, ◌≤◌, ◌^◌, List, [], ◌∷◌, ◌++◌, length, refl, sym, ◌∙◌, ap, subst, arith, length-append}
use Rattle.std.proofs.lemmas.List.{append-nil, length_push, nil_from_length}
use Rattle.sqlite_disk.specs.Disk.{Holds, Torn, Follows, Only}
use Rattle.event_log.specs.Events.{event_bytes}
use Rattle.event_log.specs.Groups.{framed_bytes, group_bytes, IsGroup}
use Rattle.event_log.specs.Logs.{header_bytes, log_bytes, BeginsWith, IsLast, no_group, behind, Keeps}
use Rattle.event_log.specs.Standing.{Stands, GathersMore}
use Rattle.event_log.specs.declared.owner.Owner.{Owner}
use Rattle.event_log.specs.declared.log.Log.{Log}
use Rattle.event_log.specs.declared.groups.TheConstants.{MAX_GROUP}
use Rattle.event_log.proofs.Framing.{events_push}
use Rattle.event_log.proofs.Logs.{begins_more, header_len}
use Rattle.event_log.proofs.Appending.{written_end, write_crash}

-- the same, told of a list that is equal
begins_at : (owner : Owner) (events : List (List ℕ)) (file other tail : List ℕ) → file ≡ other → BeginsWith owner events file tail → BeginsWith owner events other tail
begins_at owner events file other tail e begins = subst (λ (f : List ℕ). BeginsWith owner events f tail) e begins

module _ {D : Type 0} (seen : D → List ℕ) (may_leave : D → List ℕ → Type 0) (owner : Owner) where
  -- one event more is gathered
  pub stands_more : (old new : Log) (disk : D) (synced held : List (List ℕ)) (event : List ℕ) → Stands seen may_leave owner old disk synced held
      → GathersMore old new event → Stands seen may_leave owner new disk synced (held ++ event ∷ [])
  stands_more old new disk synced held event stands gathers =
      record {
        owner_is = gathers.place.owner_is ∙ stands.owner_is;
        file = stands.file;
        lasting = stands.lasting;
        end_is = gathers.place.end_is ∙ stands.end_is;
        number_is = gathers.place.number_is ∙ stands.number_is;
        gathers = gathers.gathers ∙ ap (λ (l : List ℕ). l ++ event_bytes event) stands.gathers ∙ sym (events_push held event);
        count_is = omega (arith, gathers.count_is, stands.count_is, length_push held event);
        resting = λ is. stands.resting (subst (λ (b : Bool). IsTrue b) gathers.place.rest_is is);
      }

  -- what a crash leaves keeps what was synced
  pub stands_keeps : (log : Log) (disk : D) (synced held : List (List ℕ)) (file : List ℕ) → Stands seen may_leave owner log disk synced held → may_leave disk file → Keeps owner synced file
  stands_keeps log disk synced held file stands left =
      record { tail = []; begins = begins_at owner synced (seen disk) file [] (sym (stands.lasting file left)) stands.file }

  -- Nothing is gathered: all is synced.
  pub none_gathered : (log : Log) (disk : D) (synced held : List (List ℕ)) → Stands seen may_leave owner log disk synced held → log.count ≡ 0
      → Stands seen may_leave owner log disk (synced ++ held) []
  none_gathered log disk synced held stands none =
      let nothing : held ≡ [] = nil_from_length held (sym stands.count_is ∙ none) in
      subst (λ (h : List (List ℕ)). Stands seen may_leave owner log disk (synced ++ h) []) (sym nothing)
      (subst (λ (s : List (List ℕ)). Stands seen may_leave owner log disk s []) (sym (append-nil synced))
      (subst (λ (h : List (List ℕ)). Stands seen may_leave owner log disk synced h) nothing stands))

  -- An empty group was written and synced.
  pub rested : (old new : Log) (disk now : D) (synced held : List (List ℕ)) → Stands seen may_leave owner old disk synced held → old.count ≡ 0
      → IsTrue new.is_resting → Stands seen may_leave owner new now (synced ++ held) []
      → Stands seen may_leave owner new now synced held × (held ≡ [] → IsLast owner (seen now) [] synced [])
  rested old new disk now synced held stands none rests done =
      let nothing : held ≡ [] = nil_from_length held (sym stands.count_is ∙ none) in
      let same : synced ++ held ≡ synced = ap (λ (h : List (List ℕ)). synced ++ h) nothing ∙ append-nil synced in
      let done = subst (λ (s : List (List ℕ)). Stands seen may_leave owner new now s []) same done in
      (subst (λ (h : List (List ℕ)). Stands seen may_leave owner new now synced h) (sym nothing) done, λ is. done.resting rests)

  -- Events are held, or an empty group was written before.
  pub rests_on : (log : Log) (disk : D) (synced held : List (List ℕ)) → Stands seen may_leave owner log disk synced held
      → (held ≡ [] → IsTrue log.is_resting) → Stands seen may_leave owner log disk synced held × (held ≡ [] → IsLast owner (seen disk) [] synced [])
  rests_on log disk synced held stands rests = (stands, λ is. stands.resting (rests is))

  -- One group more was written and synced.
  pub stands_synced : (old new : Log) (disk now : D) (synced held : List (List ℕ)) (group : List ℕ) → Stands seen may_leave owner old disk synced held
      → length old.gathered.items ≤ MAX_GROUP → old.number + old.count < 2 ^ 64
      → group ≡ framed_bytes old.owner old.number old.gathered.items
      → Torn old.end (length group) (seen disk) (seen now) → Holds (seen now) old.end group → Only (seen now) (may_leave now)
      → new.owner ≡ old.owner → new.end ≡ old.end + length group → new.number ≡ old.number + old.count
      → new.gathered.items ≡ [] → new.count ≡ 0 → (IsTrue new.is_resting → old.count ≡ 0)
      → Stands seen may_leave owner new now (synced ++ held) []
  stands_synced old new disk now synced held group stands short fits is torn holds only owner_is end_is number_is gathered count_is rests =
      let text : group ≡ group_bytes owner (length synced) held =
      is ∙ ap (λ (o : Owner). framed_bytes o old.number old.gathered.items) stands.owner_is
      ∙ ap (λ (n : ℕ). framed_bytes owner n old.gathered.items) stands.number_is
      ∙ ap (λ (l : List ℕ). framed_bytes owner (length synced) l) stands.gathers in
      let written : seen now ≡ seen disk ++ group =
      written_end (seen disk) (seen now) group
      (subst (λ (k : ℕ). Torn k (length group) (seen disk) (seen now)) stands.end_is torn)
      (subst (λ (k : ℕ). Holds (seen now) k group) stands.end_is holds) in
      let front : BeginsWith owner synced (seen now) (group_bytes owner (length synced) held) =
      record {
        groups = stands.file.groups;
        are_groups = stands.file.are_groups;
        told = stands.file.told;
        whole = written ∙ ap (λ (l : List ℕ). l ++ group) (stands.file.whole ∙ append-nil (log_bytes owner stands.file.groups)) ∙ ap (λ (l : List ℕ). log_bytes owner stands.file.groups ++ l) text;
      } in
      let is_group : IsGroup (length synced) held =
      record {
        short = omega (arith, short, ap length stands.gathers);
        numbered = omega (arith, fits, stands.number_is, stands.count_is);
      } in
      record {
        owner_is = owner_is ∙ stands.owner_is;
        file = begins_more owner synced (seen now) (group_bytes owner (length synced) held) [] held front is_group (sym (append-nil (group_bytes owner (length synced) held)));
        lasting = only;
        end_is = omega (arith, end_is, stands.end_is, ap length written, length-append (seen disk) group);
        number_is = omega (arith, number_is, stands.number_is, stands.count_is, length-append synced held);
        gathers = gathered;
        count_is = count_is;
        resting = λ resting.
            let nothing : held ≡ [] = nil_from_length held (sym stands.count_is ∙ rests resting) in
            let same : synced ++ held ≡ synced = ap (λ (h : List (List ℕ)). synced ++ h) nothing ∙ append-nil synced in
            subst (λ (s : List (List ℕ)). IsLast owner (seen now) [] s []) (sym same)
            (behind synced [] (subst (λ (h : List (List ℕ)). IsGroup (length synced) h) nothing is_group)
            (subst (λ (h : List (List ℕ)). BeginsWith owner synced (seen now) (group_bytes owner (length synced) h ++ [])) nothing
            (subst (λ (l : List ℕ). BeginsWith owner synced (seen now) l) (sym (append-nil (group_bytes owner (length synced) held))) front)));
      }

  -- a crash in the midst of it
  pub group_crash : (old : Log) (disk now : D) (synced held : List (List ℕ)) (n : ℕ) → Stands seen may_leave owner old disk synced held
      → Follows (Torn old.end n) (may_leave disk) (may_leave now) → (file : List ℕ) → may_leave now file → Keeps owner synced file
  group_crash old disk now synced held n stands follows file left =
      write_crash owner synced old.end n (seen disk) (may_leave disk) (may_leave now) stands.file stands.end_is stands.lasting follows file left

  -- A log was made.
  pub created_stands : (log : Log) (now : D) (old header : List ℕ) → 0 ≡ length old → header ≡ header_bytes owner
      → Torn 0 (length header) old (seen now) → Holds (seen now) 0 header → Only (seen now) (may_leave now)
      → log.owner ≡ owner → log.end ≡ 32 → log.number ≡ 0 → log.gathered.items ≡ [] → log.count ≡ 0
      → Stands seen may_leave owner log now [] []
  created_stands log now old header none is torn holds only owner_is end_is number_is gathered count_is =
      let nothing : old ≡ [] = nil_from_length old (sym none) in
      let written : seen now ≡ header =
      written_end [] (seen now) header (subst (λ (l : List ℕ). Torn 0 (length header) l (seen now)) nothing torn) holds in
      record {
        owner_is = owner_is;
        file = record {
          groups = [];
          are_groups = tt;
          told = refl;
          whole = written ∙ is ∙ sym (append-nil (header_bytes owner)) ∙ sym (append-nil (header_bytes owner ++ []));
        };
        lasting = only;
        end_is = omega (arith, end_is, ap length written, ap length is, header_len owner);
        number_is = number_is;
        gathers = gathered;
        count_is = count_is;
        resting = λ is. no_group;
      }
