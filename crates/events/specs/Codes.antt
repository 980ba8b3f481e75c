-- Codes of entries, by which a proof distinguishes them.
use Rattle.std.specs.Prelude.{◌≡◌, ◌⊎◌, ℕ, List, refl}
use Rattle.std.specs.Coded.{Coded, code_by, coded_list, coded⊎, coded×, coded_ℕ}
use Rattle.std.proofs.Common.{inl, inr}
use Rattle.tuple_codec.specs.Operations.{Operation, Outcome}
use Rattle.tuple_codec.specs.OperationsCode.{operation_code, outcome_code}
use Rattle.protocol.specs.System.Trace.{Entry}
use Rattle.protocol.specs.System.Trace.Entry.{Invoke, Got, Tick, Executed, Installed, Sent, Accepted}

abbrev pub EntryParts : Type 0
EntryParts = (ℕ × (ℕ × Operation))
    ⊎ ((ℕ × List ℕ) ⊎ (ℕ ⊎ ((ℕ × (ℕ × List ℕ)) ⊎ ((ℕ × (ℕ × List ℕ)) ⊎ ((ℕ × List ℕ) ⊎ (ℕ × (ℕ × Outcome)))))))

abbrev pub entry_parts : Entry → EntryParts
entry_parts (Invoke k t op) = inl (k, (t, op))
entry_parts (Got p bytes) = inr (inl (p, bytes))
entry_parts (Tick p) = inr (inr (inl p))
entry_parts (Executed r i batch) = inr (inr (inr (inl (r, (i, batch)))))
entry_parts (Installed r i root) = inr (inr (inr (inr (inl (r, (i, root))))))
entry_parts (Sent p bytes) = inr (inr (inr (inr (inr (inl (p, bytes))))))
entry_parts (Accepted k t answer) = inr (inr (inr (inr (inr (inr (k, (t, answer)))))))

abbrev pub entry_from : EntryParts → Entry
entry_from (inl x) = Invoke x.0 x.1.0 x.1.1
entry_from (inr (inl x)) = Got x.0 x.1
entry_from (inr (inr (inl p))) = Tick p
entry_from (inr (inr (inr (inl x)))) = Executed x.0 x.1.0 x.1.1
entry_from (inr (inr (inr (inr (inl x))))) = Installed x.0 x.1.0 x.1.1
entry_from (inr (inr (inr (inr (inr (inl x)))))) = Sent x.0 x.1
entry_from (inr (inr (inr (inr (inr (inr x)))))) = Accepted x.0 x.1.0 x.1.1

pub entry_from-parts : (e : Entry) → entry_from (entry_parts e) ≡ e
entry_from-parts (Invoke k t op) = refl
entry_from-parts (Got p bytes) = refl
entry_from-parts (Tick p) = refl
entry_from-parts (Executed r i batch) = refl
entry_from-parts (Installed r i root) = refl
entry_from-parts (Sent p bytes) = refl
entry_from-parts (Accepted k t answer) = refl

abbrev pub entry_code : Coded Entry
entry_code =
    code_by EntryParts
    (coded⊎ (coded× coded_ℕ (coded× coded_ℕ operation_code))
    (coded⊎ (coded× coded_ℕ (coded_list coded_ℕ))
    (coded⊎ coded_ℕ
    (coded⊎ (coded× coded_ℕ (coded× coded_ℕ (coded_list coded_ℕ)))
    (coded⊎ (coded× coded_ℕ (coded× coded_ℕ (coded_list coded_ℕ)))
    (coded⊎ (coded× coded_ℕ (coded_list coded_ℕ))
    (coded× coded_ℕ (coded× coded_ℕ outcome_code))))))))
    entry_parts entry_from entry_from-parts
