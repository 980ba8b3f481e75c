-- What callers see of a reader of records.
use Rattle.std.specs.Prelude.{◌≡◌, ℕ, Bool, MatchBool, List, [], Option, IfSome, Result, IfOk}
use Rattle.std.specs.Io.Buffered.{reader_buffer, reader_remaining}
use Rattle.records.specs.Records.{IsPartial, TakesRecord}
use Rattle.records.specs.declared.reader.RecordReader.{RecordReader}

-- the bytes that are left, if they are known; those of them that have come; and what is kept of the last record
abbrev pub left_of : {R : Type 0} → (R → Option (List ℕ)) → RecordReader R → Option (List ℕ)
left_of remaining r = reader_remaining remaining r.input

abbrev pub at_hand_of : {R : Type 0} → RecordReader R → List ℕ
at_hand_of r = reader_buffer r.input

abbrev pub body_of : {R : Type 0} → RecordReader R → List ℕ
body_of r = r.body.items

-- The next record of the bytes that are left is taken, or there is none.
abbrev pub Advances : {R E : Type 0} → (R → Option (List ℕ)) → Result Bool E → RecordReader R → RecordReader R → Type 0
Advances remaining result old new =
    IfSome (left_of remaining old) (λ xs. IfOk result (λ more.
    MatchBool more (TakesRecord xs (left_of remaining new) (body_of new)) (IsPartial xs × (body_of new ≡ []))))
