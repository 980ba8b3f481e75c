-- The calls that have numbers in a new view from its beginning.
use Rattle.std.proofs.Common.{◌≡◌, ℕ, ◌+◌, ◌≤◌, ◌<◌, List, [], ◌∷◌, ◌++◌, length, map, drop, get_or, Bor, Option, Some, None, refl, sym, ap, ◌∙◌, append_assoc, append-nil}
use Rattle.std.specs.Arc.{arc_value}
use Rattle.std.specs.declared.sync.Arc.{Arc}
use Rattle.std.specs.List.{filter_map, flat_map, cons_option}
use Rattle.std.specs.declared.alloc.Global.{Global}
use Rattle.std.proofs.lemmas.List.{at_drop_more, at_drop_all, map-append}
use Rattle.std.proofs.lemmas.List.Elements.{filter_map-append}
use Rattle.wire_format.specs.Words.{requests_of}
use Rattle.view_change.specs.Sets.{texts_of}
use Rattle.protocol.specs.System.Configuration.{Configuration}
use Rattle.protocol.specs.Replica.State.{Call, call_of}
use Rattle.replica_histories.specs.Numbers.{AssignedCall as HistoryCall, assigned_in}
use Rattle.desk.specs.declared.waiting.AssignedCall.{AssignedCall}
use Rattle.desk.specs.Assigned.{assigned_of}
use Rattle.desk.specs.Assigned.{calls_in, AddsCalls, AreAssigned}

-- ---- items that a loop appends

-- All of them give the items of the first, and then those of the others.
module _ {X A : Type 0} (all : List X → List A) (one : X → List A) (first : (x : X) (xs : List X) → all (x ∷ xs) ≡ one x ++ all xs) where
  one_more : (xs : List X) (i : ℕ) (d : X) (out more whole : List A) → i < length xs → more ≡ out ++ one (get_or xs i d) → out ++ all (drop i xs) ≡ whole → more ++ all (drop (i + 1) xs) ≡ whole
  one_more xs i d out more whole p q w =
      let rest : List A = all (drop (i + 1) xs) in
      let s : all (drop i xs) ≡ one (get_or xs i d) ++ rest = at_drop_more all xs i d p ∙ first (get_or xs i d) (drop (i + 1) xs) in
      ap (λ o. o ++ rest) q ∙ append_assoc out (one (get_or xs i d)) rest ∙ ap (λ z. out ++ z) (sym s) ∙ w

  none_left : (xs : List X) (i : ℕ) (out whole : List A) → length xs ≤ i → all [] ≡ [] → out ++ all (drop i xs) ≡ whole → out ≡ whole
  none_left xs i out whole p n w = sym (append-nil out) ∙ ap (λ z. out ++ z) (sym (at_drop_all all xs i p ∙ n)) ∙ w

-- ---- the calls of a batch

abbrev pub frames_in : List (Bor (List ℕ)) → List (List ℕ)
frames_in xs = map (λ (x : Bor (List ℕ)). x.now) xs

-- adding the rest leads to the end of the whole
abbrev pub CallsLeft : ℕ → List (Bor (List ℕ)) → List AssignedCall → List AssignedCall → ℕ → Type 0
CallsLeft clients frames old new i =
    (c : Configuration) → c.clients ≡ clients → assigned_of new ++ calls_in c (frames_in (drop i frames)) ≡ assigned_of old ++ calls_in c (frames_in frames)

calls_both : (c : Configuration) (xs ys : List (List ℕ)) → calls_in c (xs ++ ys) ≡ calls_in c xs ++ calls_in c ys
calls_both c xs ys = ap (map (λ (call : Call). record { client = call.client; timestamp = call.timestamp })) (filter_map-append (call_of c) xs ys)
    ∙ map-append (λ (call : Call). record { client = call.client; timestamp = call.timestamp }) (filter_map (call_of c) xs) (filter_map (call_of c) ys)

calls_first : (c : Configuration) (x : Bor (List ℕ)) (xs : List (Bor (List ℕ))) → calls_in c (frames_in (x ∷ xs)) ≡ calls_in c (x.now ∷ []) ++ calls_in c (frames_in xs)
calls_first c x xs = calls_both c (x.now ∷ []) (frames_in xs)

assigned_both : (xs ys : List AssignedCall) → assigned_of (xs ++ ys) ≡ assigned_of xs ++ assigned_of ys
assigned_both xs ys = map-append (λ (b : AssignedCall). record { client = b.client.number; timestamp = b.timestamp.0 }) xs ys

-- the frame spells a call, or none
calls_of_one : (c : Configuration) (frame : List ℕ) (o : Option Call) → call_of c frame ≡ o → calls_in c (frame ∷ []) ≡ map (λ (call : Call). record { client = call.client; timestamp = call.timestamp }) (cons_option o [])
calls_of_one c frame o e = ap (λ (p : Option Call). map (λ (call : Call). record { client = call.client; timestamp = call.timestamp }) (cons_option p [])) e

pub call_passed : (clients : ℕ) (frames : List (Bor (List ℕ))) (old new : List AssignedCall) (i : ℕ) (d : Bor (List ℕ)) → i < length frames
    → ((c : Configuration) → c.clients ≡ clients → call_of c (get_or frames i d).now ≡ None) → CallsLeft clients frames old new i → CallsLeft clients frames old new (i + 1)
call_passed clients frames old new i d l none left c n =
    one_more (λ xs. calls_in c (frames_in xs)) (λ x. calls_in c (x.now ∷ [])) (calls_first c) frames i d (assigned_of new) (assigned_of new) _ l
    (sym (append-nil (assigned_of new)) ∙ ap (λ zs. assigned_of new ++ zs) (sym (calls_of_one c (get_or frames i d).now None (none c n)))) (left c n)

pub call_added : (clients : ℕ) (frames : List (Bor (List ℕ))) (old new more : List AssignedCall) (i : ℕ) (d : Bor (List ℕ)) (b : AssignedCall) (x : Call) → i < length frames
    → ((c : Configuration) → c.clients ≡ clients → call_of c (get_or frames i d).now ≡ Some x) → x.client ≡ b.client.number → x.timestamp ≡ b.timestamp.0 → more ≡ new ++ b ∷ []
    → CallsLeft clients frames old new i → CallsLeft clients frames old more (i + 1)
call_added clients frames old new more i d b x l some client time is left c n =
    one_more (λ xs. calls_in c (frames_in xs)) (λ y. calls_in c (y.now ∷ [])) (calls_first c) frames i d (assigned_of new) (assigned_of more) _ l
    (ap assigned_of is ∙ assigned_both new (b ∷ [])
    ∙ ap (λ (zs : List HistoryCall). assigned_of new ++ zs) (ap (λ (k : ℕ). record { client = k; timestamp = b.timestamp.0 } ∷ []) (sym client) ∙ ap (λ (t : ℕ). record { client = x.client; timestamp = t } ∷ []) (sym time)
    ∙ sym (calls_of_one c (get_or frames i d).now (Some x) (some c n)))) (left c n)

pub calls_end : (clients : ℕ) (frames : List (Bor (List ℕ))) (text : List ℕ) (old new : List AssignedCall) (i : ℕ) → length frames ≤ i → frames_in frames ≡ requests_of text → CallsLeft clients frames old new i
    → AddsCalls clients (requests_of text) old new
calls_end clients frames text old new i l is left c n =
    none_left (λ xs. calls_in c (frames_in xs)) (λ x. calls_in c (x.now ∷ [])) (calls_first c) frames i (assigned_of new) _ l refl (left c n)
    ∙ ap (λ fs. assigned_of old ++ calls_in c fs) is

-- ---- the calls of all batches

abbrev pub BatchesLeft : ℕ → List (Arc (List ℕ) Global) → List AssignedCall → ℕ → Type 0
BatchesLeft clients batches calls i =
    (c : Configuration) → c.clients ≡ clients → assigned_of calls ++ assigned_in c (texts_of (drop i batches)) ≡ assigned_in c (texts_of batches)

assigned_first : (c : Configuration) (b : Arc (List ℕ) Global) (bs : List (Arc (List ℕ) Global)) → assigned_in c (texts_of (b ∷ bs)) ≡ calls_in c (requests_of (arc_value b)) ++ assigned_in c (texts_of bs)
assigned_first c b bs = calls_both c (requests_of (arc_value b)) (flat_map requests_of (texts_of bs))

pub no_calls : (clients : ℕ) (batches : List (Arc (List ℕ) Global)) → BatchesLeft clients batches [] 0
no_calls clients batches c n = refl

pub batch_added : (clients : ℕ) (batches : List (Arc (List ℕ) Global)) (old new : List AssignedCall) (i : ℕ) (d : Arc (List ℕ) Global) → i < length batches
    → AddsCalls clients (requests_of (arc_value (get_or batches i d))) old new → BatchesLeft clients batches old i → BatchesLeft clients batches new (i + 1)
batch_added clients batches old new i d l adds left c n =
    one_more (λ bs. assigned_in c (texts_of bs)) (λ b. calls_in c (requests_of (arc_value b))) (assigned_first c) batches i d (assigned_of old) (assigned_of new) _ l (adds c n) (left c n)

pub batches_end : (clients : ℕ) (batches : List (Arc (List ℕ) Global)) (calls : List AssignedCall) (i : ℕ) → length batches ≤ i → BatchesLeft clients batches calls i → AreAssigned clients (texts_of batches) calls
batches_end clients batches calls i l left c n =
    none_left (λ bs. assigned_in c (texts_of bs)) (λ b. calls_in c (requests_of (arc_value b))) (assigned_first c) batches i (assigned_of calls) _ l refl (left c n)
