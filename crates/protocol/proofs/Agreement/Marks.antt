-- The view and the low mark only grow; and the effects of a new view that is taken.
use Rattle.std.proofs.Common.{◌≡◌, ℕ, zero, suc, ◌+◌, ◌-◌, ◌≤◌, ◌<◌, Bool, true, false, cond, List, [], ◌∷◌, Option, Some, None, max, length, slice_get, refl, ap, ◌∙◌, subst, arith, ◌&&◌, eqb-true}
use Rattle.std.specs.Prelude.{◌==◌, nat_lt, nat_le, ◌^◌}
use Rattle.std.specs.Option.{option_map_or}
use Rattle.std.proofs.lemmas.Bool.{and_parts, ltb-true, leb-true}
use Rattle.protocol.specs.System.Configuration.{Configuration, span, primary, is_number, members}
use Rattle.wire_format.specs.Messages.{BodyData as Body, MessageData as Message, NewViewData, ViewChangeData, BatchEntryData as BatchEntry, new_view as NewView}
use Rattle.signing.specs.AuthenticBody.{authentic}
use Rattle.wire_format.specs.Words.{said}
use Rattle.protocol.specs.System.Trace.{Entry}
use Rattle.protocol.specs.System.Trace.Entry.{Got, Sent}
use Rattle.protocol.specs.Replica.Certificates.{view, view_after, target, taken, new_view_in, new_view_from, low, assigned_batch, is_later}
use Rattle.protocol.specs.Replica.Selection.{may_select, largest, largest_of, changes_of, may_all_stand, is_within, is_batch_entry_within, how_many_batches, is_start, is_checkpoint_within, ascending, is_quorum, count_in}
use Rattle.protocol.proofs.Words.Options.{and_then_some, then_some_gives}
use Rattle.std.specs.Bool.{then_some}
use Rattle.std.specs.List.{list_all}

after_grows : (v t : ℕ) (o : Option NewViewData) → v ≤ view_after v t o
after_grows v t None = omega arith
after_grows v t (Some new) = go (nat_lt v new.view) refl (nat_le t new.view)
  where
    go : (x : Bool) → nat_lt v new.view ≡ x → (y : Bool) → v ≤ cond (x && y) new.view v
    go true e true = let l : v < new.view = ltb-true v new.view e in omega arith
    go true e false = omega arith
    go false e y = omega arith

pub view_grows : (c : Configuration) (e : Entry) (past : List Entry) → view c past ≤ view c (e ∷ past)
unfolding view
view_grows c e past = after_grows (view c past) (target past) (new_view_in c e)

pub low_grows : (c : Configuration) (me : ℕ) (e : Entry) (past : List Entry) → low c me past ≤ low c me (e ∷ past)
unfolding low
low_grows c me e past = omega arith

-- ---- a new view that is taken

pub record Takes (c : Configuration) (me : ℕ) (past : List Entry) (e : Entry) (new : NewViewData) : Type 0 where
  pub above : view c past < new.view
  pub view_is : view c (e ∷ past) ≡ new.view
  pub low_is : new.start ≤ low c me (e ∷ past)
  pub brought : new_view_in c e ≡ Some new

taken_view : (v t : ℕ) (new : NewViewData) → (nat_lt v new.view && nat_le t new.view) ≡ true → (v < new.view) × (view_after v t (Some new) ≡ new.view)
taken_view v t new h = (ltb-true v new.view (and_parts (nat_lt v new.view) (nat_le t new.view) h).0, rw h refl)

pub takes : (c : Configuration) (me : ℕ) (past : List Entry) (e : Entry) (new : NewViewData) → taken c past e ≡ Some new → Takes c me past e new
unfolding view low
takes c me past e new h =
    let r = and_then_some (λ (x : NewViewData). then_some (is_later (view c past) (target past) x) x) (new_view_in c e) new h in
    let g = then_some_gives (is_later (view c past) (target past) r.0) r.0 new r.2 in
    let brought : new_view_in c e ≡ Some new = r.1 ∙ ap Some g.1 in
    let test : (nat_lt (view c past) new.view && nat_le (target past) new.view) ≡ true = subst (λ (x : NewViewData). (nat_lt (view c past) x.view && nat_le (target past) x.view) ≡ true) g.1 g.0 in
    let t = taken_view (view c past) (target past) new test in
    let low_is : option_map_or (λ (x : NewViewData). x.start) (taken c past e) 0 ≡ new.start = ap (λ o. option_map_or (λ (x : NewViewData). x.start) o 0) h in
    record {
      above = t.0;
      view_is = ap (view_after (view c past) (target past)) brought ∙ t.1;
      low_is = omega arith;
      brought = brought;
    }

-- ---- the batches of a new view

pub record Begins (c : Configuration) (body : Body) (new : NewViewData) : Type 0 where
  pub sender_is : body.sender ≡ primary c new.view
  pub message_is : body.message ≡ NewView new
  pub selected : may_select c new ≡ true

begins_by : (c : Configuration) (sender : ℕ) (message : Message) (new : NewViewData) → new_view_from c (record { sender = sender; message = message }) ≡ Some new → Begins c (record { sender = sender; message = message }) new
begins_by c sender (NewView x) new h =
    let g = then_some_gives ((sender == primary c x.view) && may_select c x) x new h in
    let p = and_parts (sender == primary c x.view) (may_select c x) g.0 in
    record {
      sender_is = eqb-true sender (primary c x.view) p.0 ∙ ap (λ (y : NewViewData). primary c y.view) g.1;
      message_is = ap NewView g.1;
      selected = subst (λ (y : NewViewData). may_select c y ≡ true) g.1 p.1;
    }
begins_by c sender _ new h = absurd cc

pub begins : (c : Configuration) (body : Body) (new : NewViewData) → new_view_from c body ≡ Some new → Begins c body new
begins c body new h = begins_by c body.sender body.message new h

largest_le : (limit : ℕ) (batch_entries : List BatchEntry) → largest limit batch_entries ≤ limit
largest_le limit [] = omega arith
largest_le limit (batch_entry ∷ batch_entries) = go (nat_le batch_entry.number limit) refl (largest_le limit batch_entries)
  where
    go : (b : Bool) → nat_le batch_entry.number limit ≡ b → largest limit batch_entries ≤ limit → cond b (max batch_entry.number (largest limit batch_entries)) (largest limit batch_entries) ≤ limit
    go true e h = let l : batch_entry.number ≤ limit = leb-true batch_entry.number limit e in omega arith
    go false e h = h

pub largest_of-le : (limit : ℕ) (set : List (ℕ × ViewChangeData)) → largest_of limit set ≤ limit
largest_of-le limit [] = omega arith
largest_of-le limit (x ∷ xs) = let a = largest_le limit x.1.prepared in let b = largest_of-le limit xs in omega arith

-- numbers within bounds are below 2^48
largest_small : (c : Configuration) (vc : ViewChangeData) (limit : ℕ) (batch_entries : List BatchEntry) → list_all (is_batch_entry_within c vc) batch_entries ≡ true → largest limit batch_entries < 2 ^ 48
largest_small c vc limit [] h = omega arith
largest_small c vc limit (batch_entry ∷ batch_entries) h = go (nat_le batch_entry.number limit) (largest_small c vc limit batch_entries p.1)
  where
    p : (is_batch_entry_within c vc batch_entry ≡ true) × (list_all (is_batch_entry_within c vc) batch_entries ≡ true)
    p = and_parts (is_batch_entry_within c vc batch_entry) (list_all (is_batch_entry_within c vc) batch_entries) h

    small : batch_entry.number < 2 ^ 48
    small = ltb-true batch_entry.number (2 ^ 48) (and_parts (nat_lt batch_entry.view vc.view && nat_lt vc.low batch_entry.number && nat_le batch_entry.number (vc.low + span c)) (is_number batch_entry.number) p.0).1

    go : (b : Bool) → largest limit batch_entries < 2 ^ 48 → cond b (max batch_entry.number (largest limit batch_entries)) (largest limit batch_entries) < 2 ^ 48
    go true l = let m = small in omega arith
    go false l = l

within_prepared : (c : Configuration) (vc : ViewChangeData) → is_within c vc ≡ true → list_all (is_batch_entry_within c vc) vc.prepared ≡ true
within_prepared c vc h =
    let a = and_parts (is_number vc.view && is_number vc.low && list_all (is_batch_entry_within c vc) vc.prepared && list_all (is_batch_entry_within c vc) vc.pre_prepared) (list_all (is_checkpoint_within c vc) vc.checkpoints) h in
    let b = and_parts (is_number vc.view && is_number vc.low && list_all (is_batch_entry_within c vc) vc.prepared) (list_all (is_batch_entry_within c vc) vc.pre_prepared) a.0 in
    (and_parts (is_number vc.view && is_number vc.low) (list_all (is_batch_entry_within c vc) vc.prepared) b.0).1

largest_of-small : (c : Configuration) (view limit : ℕ) (set : List (ℕ × ViewChangeData)) → list_all (λ x. (x.1.view == view) && is_within c x.1) set ≡ true → largest_of limit set < 2 ^ 48
largest_of-small c view limit [] h = omega arith
largest_of-small c view limit (x ∷ xs) h =
    let p = and_parts ((x.1.view == view) && is_within c x.1) (list_all (λ x. (x.1.view == view) && is_within c x.1) xs) h in
    let a = largest_small c x.1 limit x.1.prepared (within_prepared c x.1 (and_parts (x.1.view == view) (is_within c x.1) p.0).1) in
    let b = largest_of-small c view limit xs p.1 in
    omega arith

-- the rules that a new view meets, one by one
pub record Selects (c : Configuration) (new : NewViewData) : Type 0 where
  pub signed : (length (changes_of c new) == length new.changes) ≡ true
  pub enough : is_quorum c (count_in c (λ vc. true) (changes_of c new)) ≡ true
  pub in_order : ascending (changes_of c new) ≡ true
  pub each : list_all (λ x. (x.1.view == new.view) && is_within c x.1) (changes_of c new) ≡ true
  pub start : is_start c (changes_of c new) new.start new.root ≡ true
  pub long : (length new.batches == how_many_batches c new) ≡ true
  pub stand : may_all_stand c new.view (changes_of c new) (suc new.start) new.batches ≡ true

pub selects : (c : Configuration) (new : NewViewData) → may_select c new ≡ true → Selects c new
unfolding may_select
selects c new h =
    let a = and_parts _ (may_all_stand c new.view (changes_of c new) (suc new.start) new.batches) h in
    let b = and_parts _ (length new.batches == how_many_batches c new) a.0 in
    let s = and_parts _ (is_start c (changes_of c new) new.start new.root) b.0 in
    let e = and_parts _ (list_all (λ x. (x.1.view == new.view) && is_within c x.1) (changes_of c new)) s.0 in
    let o = and_parts _ (ascending (changes_of c new)) e.0 in
    let q = and_parts (length (changes_of c new) == length new.changes) (is_quorum c (count_in c (λ vc. true) (changes_of c new))) o.0 in
    record { signed = q.0; enough = q.1; in_order = o.1; each = e.1; start = s.1; long = b.1; stand = a.1 }

-- a new view has batches for its marks alone, and for numbers below 2^48
pub few_batches : (c : Configuration) (new : NewViewData) → may_select c new ≡ true → (length new.batches ≤ span c) × ((i : ℕ) → new.start < i → i - new.start - 1 < length new.batches → i < 2 ^ 48)
few_batches c new h =
    let s = selects c new h in
    let e : length new.batches ≡ how_many_batches c new = eqb-true (length new.batches) (how_many_batches c new) s.long in
    let l = largest_of-le (new.start + span c) (changes_of c new) in
    let m = largest_of-small c new.view (new.start + span c) (changes_of c new) s.each in
    (omega arith, λ i above within. omega arith)

there : (xs : List (List ℕ)) (k : ℕ) (x : List ℕ) → slice_get xs k ≡ Some x → k < length xs
there [] k x h = absurd cc
there (y ∷ ys) zero x h = omega arith
there (y ∷ ys) (suc k) x h = let r = there ys k x h in omega arith

-- a new view's batches are for its view, above its start and within its marks
pub record Proposes (c : Configuration) (v i : ℕ) (new : NewViewData) : Type 0 where
  pub view_is : new.view ≡ v
  pub above : new.start < i
  pub within : i - new.start - 1 < length new.batches

pub proposes : (c : Configuration) (v i : ℕ) (new : NewViewData) (batch : List ℕ) → assigned_batch v i new ≡ Some batch → Proposes c v i new
proposes c v i new batch h = go ((new.view == v) && nat_lt new.start i) refl h
  where
    go : (b : Bool) → ((new.view == v) && nat_lt new.start i) ≡ b → cond b (slice_get new.batches (i - new.start - 1)) None ≡ Some batch → Proposes c v i new
    go true e h =
        let p = and_parts (new.view == v) (nat_lt new.start i) e in
        record {
          view_is = eqb-true new.view v p.0;
          above = ltb-true new.start i p.1;
          within = there new.batches (i - new.start - 1) batch h;
        }
    go false e h = absurd cc

pub selected_in : (c : Configuration) (e : Entry) (new : NewViewData) → new_view_in c e ≡ Some new → may_select c new ≡ true
selected_in c (Got p bytes) new h = let r = and_then_some (new_view_from c) (authentic (members c p) p bytes) new h in (begins c r.0 new r.2).selected
selected_in c (Sent p bytes) new h = let r = and_then_some (new_view_from c) (said bytes) new h in (begins c r.0 new r.2).selected
selected_in c _ new h = absurd cc
