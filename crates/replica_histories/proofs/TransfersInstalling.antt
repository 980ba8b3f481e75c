-- The held pages are the state's own, and those that arrived: a state of them may be installed.
use Rattle.std.proofs.Common.{◌≡◌, ◌≢◌, ℕ, ◌<◌, Bool, true, false, List, [], length, map, get_or, refl, sym, ap, ◌∙◌, subst, arith, None, eqb-true}
use Rattle.std.specs.Prelude.{◌==◌, slice_index_or}
use Rattle.std.specs.List.{range_with_len}
use Rattle.std.proofs.lemmas.Bool.{eqb-false}
use Rattle.std.proofs.lemmas.List.{get_or-set_same, get_or-set_other}
use Rattle.std.proofs.lemmas.List.FromFn.{get_or-map-range_with_len}
use Rattle.terms.specs.declared.state.Level.{Level}
use Rattle.terms.specs.declared.state.Level.TheVariants as levels
use Rattle.partition_tree.specs.Digests.{root_of as root_of_pages}
use Rattle.protocol.specs.Replica.State.{State, page_text, all_pages, pages_of}
use Rattle.state_transfer.specs.Transfer.{TransferData, with_digests, with_page}
use Rattle.replica_histories.specs.Transfers.{page_held, is_fetched, RestsOnState, StartedRests, DigestsRest, PagesRest, RestedRests, TransfersInstall}
use Rattle.replica_histories.proofs.TransfersTaking.{installed_in_place, installation_ends}

-- ---- pages of a state

pub page_at : (page : ℕ → List ℕ) (n i : ℕ) → i < n → get_or (map page (range_with_len 0 n)) i [] ≡ page i
page_at page n i l = get_or-map-range_with_len page 0 n i i [] l (omega arith)

pub pages_read : (st : State) (i : ℕ) → i < 1024 → slice_index_or (pages_of st) i [] ≡ page_text st i
unfolding all_pages
pages_read st i l = page_at (page_text st) 1024 i l

-- ---- the pages that were not fetched

pub started_rests : StartedRests
started_rests k root st i l is = pages_read st i l

digests_at : (t : TransferData) (st : State) (level : Level) (index : ℕ) (digests : List (List ℕ)) → RestsOnState t st → RestsOnState (with_digests t (record { level = level; index = index }) digests) st
digests_at t st levels.Root index digests r = r
digests_at t st _ index digests r = r

pub digests_rest : DigestsRest
digests_rest t st place digests r = digests_at t st place.level place.index digests r

pub pages_rest : PagesRest
pages_rest t st index text long within r i l is = at (i == index) refl
  where
    known : index < length t.fetched
    known = omega arith

    at : (b : Bool) → (i == index) ≡ b → page_held (with_page t index text) i ≡ page_text st i
    at true e =
        let bad : true ≡ false = sym (get_or-set_same t.fetched index true false known) ∙ subst (λ (x : ℕ). is_fetched (with_page t index text) x ≡ false) (eqb-true i index e) is in
        absurd cc
    at false e =
        let other : i ≢ index = eqb-false i index e in
        get_or-set_other t.held index i text [] other ∙ r i l (sym (get_or-set_other t.fetched index i true false other) ∙ is)

pub rested_rests : RestedRests
rested_rests old new st r i l is = r.own i l (sym (ap (λ (x : TransferData). is_fetched x i) r.same) ∙ is) ∙ pages_read st i l

-- ---- the replica installs a state

pub transfers_install : TransfersInstall
transfers_install c me t past point st m rests root_is is number pages = (
  record {
    own = refl;
    may = (m.ahead, m.aims.root_wanted);
    moves = record {
      is_state = is;
      number = number;
      root_is = ap root_of_pages pages ∙ root_is;
      pages = installed_in_place c me t past point.state st m.taken rests text_is;
      snapshots = refl;
      ran = refl;
      waiting = refl;
    };
  },
  (let newest = m.newest in omega arith, installation_ends c me t.number None t.root past),
)
  where
    text_is : (i : ℕ) → i < 1024 → page_held t i ≡ page_text st i
    text_is i l = ap (λ (xs : List (List ℕ)). slice_index_or xs i []) (sym pages) ∙ pages_read st i l
