-- The kept states, the one of a number among them, and their parts.
use Rattle.std.proofs.Common.{◌≡◌, ◌≢◌, ℕ, zero, suc, ◌<◌, ◌⊎◌, Bool, true, false, cond, inl, inr, ◌≤◌, List, [], ◌∷◌, length, map, filter, get_or, refl, sym, ap, ◌∙◌, subst, arith, nat_le}
use Rattle.std.specs.Prelude.{slice_index_or}
use Rattle.terms.specs.declared.state.Level.{Level}
use Rattle.terms.specs.declared.state.Level.TheVariants as levels
use Rattle.wire_format.specs.Lists.{Each}
use Rattle.wire_format.specs.Messages.{MessageData as Message, meta as Meta, page as Page}
use Rattle.wire_format.specs.Spelling.{last_index}
use Rattle.frame_endpoint.specs.Endpoint.{FitsFrame}
use Rattle.partition_tree.specs.Levels.{children_of}
use Rattle.execution.proofs.Measuring.{pages_are_short}
use Rattle.execution.proofs.Renewing.{page_there}
use Rattle.protocol.specs.System.Trace.{Has}
use Rattle.protocol.specs.Replica.State.{State, IsReplicatedState, pages_of}
use Rattle.replica_histories.specs.Desk.{Snapshot, kept_from}
use Rattle.replica_histories.specs.TransfersAnswers.{answer_by}
use Rattle.desk.specs.declared.snapshots.KeptState.{KeptState}
use Rattle.desk.specs.Keeping.{HaveShortPages}
use Rattle.desk.specs.SnapshotsView.{kept_data}

-- those from a low mark on
pub kept_above : (low : ℕ) (xs : List KeptState) → map kept_data (filter (λ x. nat_le low x.number.0) xs) ≡ kept_from low (map kept_data xs)
kept_above low [] = refl
kept_above low (x ∷ xs) = go (nat_le low x.number.0) (kept_above low xs)
  where
    go : (b : Bool) → map kept_data (filter (λ y. nat_le low y.number.0) xs) ≡ kept_from low (map kept_data xs)
        → map kept_data (cond b (x ∷ filter (λ y. nat_le low y.number.0) xs) (filter (λ y. nat_le low y.number.0) xs)) ≡ cond b (kept_data x ∷ kept_from low (map kept_data xs)) (kept_from low (map kept_data xs))
    go true rest = ap (λ (ys : List Snapshot). kept_data x ∷ ys) rest
    go false rest = rest

-- one that stands at a place is among them
pub has_state : (xs : List KeptState) (i : ℕ) (x : KeptState) → i < length xs → get_or xs i x ≡ x → Has (λ y. y ≡ kept_data x) (map kept_data xs)
has_state [] i x l at = absurd (omega (arith, l))
has_state (y ∷ ys) zero x l at = inl (ap kept_data at)
has_state (y ∷ ys) (suc i) x l at = inr (has_state ys i x (omega (arith, l)) at)

-- none has the number
abbrev pub AreOthers : ℕ → List KeptState → Type 0
AreOthers n xs = Each (λ x. x.number.0 ≢ n) xs

pub none_kept : (n : ℕ) (xs : List KeptState) → AreOthers n xs → Each (λ x. x.number ≢ n) (map kept_data xs)
none_kept n [] h = tt
none_kept n (x ∷ xs) h = (h.0, none_kept n xs h.1)

-- ---- the requested part

pub digests_answer : (pages : List (List ℕ)) (k : ℕ) (level : Level) (index at : ℕ) (digests : List (List ℕ)) → (level ≡ levels.Root) ⊎ (level ≡ levels.Inner) → at ≡ index → digests ≡ children_of pages level at
    → Meta k level index digests ≡ answer_by pages k level index
digests_answer pages k levels.Root index at digests above same is = ap (Meta k levels.Root index) (is ∙ ap (children_of pages levels.Root) same)
digests_answer pages k levels.Inner index at digests above same is = ap (Meta k levels.Inner index) (is ∙ ap (children_of pages levels.Inner) same)
digests_answer pages k levels.Page index at digests (inl root) same is = absurd cc
digests_answer pages k levels.Page index at digests (inr inner) same is = absurd cc

pub page_answer : (pages : List (List ℕ)) (k : ℕ) (level : Level) (index at : ℕ) (text : List ℕ) → level ≡ levels.Page → at ≡ index → text ≡ slice_index_or pages at []
    → Page k index text ≡ answer_by pages k level index
page_answer pages k level index at text is same text_is =
    subst (λ (l : Level). Page k index text ≡ answer_by pages k l index) (sym is) (ap (Page k index) (text_is ∙ ap (λ (i : ℕ). slice_index_or pages i []) same))

-- ---- the lengths of pages

pub pages_short : (st : State) → IsReplicatedState st → HaveShortPages (pages_of st)
pages_short st is i below = subst (λ (text : List ℕ). length text ≤ 66176) (sym (page_there st i below)) (pages_are_short st i is)

-- a short page fits a frame
pub page_fits : (pages : List (List ℕ)) (m : Message) (k : ℕ) (level : Level) (index at : ℕ) (text : List ℕ) → HaveShortPages pages → m ≡ Page k index text → level ≡ levels.Page → index ≤ last_index level
    → at ≡ index → text ≡ slice_index_or pages at [] → FitsFrame m
page_fits pages m k level index at text short says is within same text_is =
    let last : index ≤ 1023 = subst (λ (l : Level). index ≤ last_index l) is within in
    let l = short at (omega (arith, last, same)) in
    let e = ap length text_is in
    subst FitsFrame (sym says) (omega (arith, l, e))
