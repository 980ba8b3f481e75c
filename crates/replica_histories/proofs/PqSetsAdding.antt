-- What an entry of the history adds to a replica's sets P and Q.
use Rattle.std.proofs.Common.{◌≡◌, ◌≢◌, ℕ, ◌⊎◌, inl, inr, Bool, true, false, List, [], ◌∷◌, Some, refl, sym, ap, ◌∙◌, subst, eqb-true}
use Rattle.std.specs.Prelude.{◌==◌}
use Rattle.std.proofs.lemmas.Bool.{eqb-false}
use Rattle.sha2.specs.Sha256.{sha256}
use Rattle.protocol.specs.System.Configuration.{Configuration}
use Rattle.protocol.specs.System.Trace.{Entry, Has}
use Rattle.protocol.specs.Replica.Certificates.{logged, commit_of}
use Rattle.protocol.proofs.Words.Options.{some_injective}
use Rattle.protocol.proofs.Agreement.Voting.{logged_stays}
use Rattle.protocol.proofs.Agreement.Executing.{commit_stays}
use Rattle.wire_format.specs.Messages.{BatchEntryData as PqEntry}
use Rattle.pq_sets.specs.PqSetsView.{pq_entry_of}
use Rattle.pq_sets.specs.Recording.{IsLoggedAs}
use Rattle.replica_histories.specs.PqSets.{SentCommit, NoBatchAdds, NoCommitAdds, BatchAdds, CommitAdds}

logged_on : (c : Configuration) (me : ℕ) (past : List Entry) (e : Entry) (v i : ℕ) (digest : List ℕ) → IsLoggedAs c me past v i digest → IsLoggedAs c me (e ∷ past) v i digest
logged_on c me past e v i digest h = (h.0, logged_stays c me v i h.0 e past h.1, h.2)

pub no_batch_adds : NoBatchAdds
no_batch_adds c me past e same = record {
  stays = λ v i digest h. logged_on c me past e v i digest h;
  new = tt;
  only = λ v i digest w h. inl (h.0, sym (same v i) ∙ h.1, h.2);
}

pub no_commit_adds : NoCommitAdds
no_commit_adds c me past e same = record {
  stays = λ v i digest h. commit_stays c me v i me digest e past h;
  new = tt;
  only = λ v i digest w h. inl (sym (same v i) ∙ h);
}

-- the place is this one, or another
placed : (w v j i : ℕ) → ((w ≡ v) × (j ≡ i)) ⊎ ((w ≢ v) ⊎ (j ≢ i))
placed w v j i = go (w == v) (j == i) refl refl
  where
    go : (a b : Bool) → (w == v) ≡ a → (j == i) ≡ b → ((w ≡ v) × (j ≡ i)) ⊎ ((w ≢ v) ⊎ (j ≢ i))
    go true true e f = inl (eqb-true w v e, eqb-true j i f)
    go true false e f = inr (inr (eqb-false j i f))
    go false b e f = inr (inl (eqb-false w v e))

pub batch_adds : BatchAdds
batch_adds c me past e v i text w is elsewhere = record {
  stays = λ x j digest h. logged_on c me past e x j digest h;
  new = (((text, is, refl), w), tt);
  only = λ x j digest k h. only x j digest h (placed x v j i);
}
  where
    only : (x j : ℕ) (digest : List ℕ) → IsLoggedAs c me (e ∷ past) x j digest → ((x ≡ v) × (j ≡ i)) ⊎ ((x ≢ v) ⊎ (j ≢ i))
        → IsLoggedAs c me past x j digest ⊎ Has (λ pq_entry. (pq_entry.view ≡ x) × (pq_entry.number ≡ j) × (pq_entry.digest ≡ digest)) (pq_entry_of i v text ∷ [])
    only x j digest h (inl same) =
        let here : logged c me (e ∷ past) v i ≡ Some h.0 = subst (λ (y : ℕ). logged c me (e ∷ past) v y ≡ Some h.0) same.1 (subst (λ (y : ℕ). logged c me (e ∷ past) y j ≡ Some h.0) same.0 h.1) in
        inr (inl (sym same.0, sym same.1, ap sha256 (some_injective text h.0 (sym is ∙ here)) ∙ h.2))
    only x j digest h (inr other) = inl (h.0, sym (elsewhere x j other) ∙ h.1, h.2)

pub commit_adds : CommitAdds
commit_adds c me past e v i digest w is elsewhere = record {
  stays = λ x j d h. commit_stays c me x j me d e past h;
  new = ((is, w), tt);
  only = λ x j d k h. only x j d h (placed x v j i);
}
  where
    only : (x j : ℕ) (d : List ℕ) → SentCommit c me (e ∷ past) x j d → ((x ≡ v) × (j ≡ i)) ⊎ ((x ≢ v) ⊎ (j ≢ i))
        → SentCommit c me past x j d ⊎ Has (λ pq_entry. (pq_entry.view ≡ x) × (pq_entry.number ≡ j) × (pq_entry.digest ≡ d)) ((let one : PqEntry = record { number = i; digest = digest; view = v } in one) ∷ [])
    only x j d h (inl same) =
        let here : commit_of c me (e ∷ past) v i me ≡ Some d = subst (λ (y : ℕ). commit_of c me (e ∷ past) v y me ≡ Some d) same.1 (subst (λ (y : ℕ). commit_of c me (e ∷ past) y j me ≡ Some d) same.0 h) in
        inr (inl (sym same.0, sym same.1, some_injective digest d (sym is ∙ here)))
    only x j d h (inr other) = inl (sym (elsewhere x j other) ∙ h)
