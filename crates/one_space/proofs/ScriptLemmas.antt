-- A script up to one of its lines.
use Rattle.std.proofs.Common.{◌≡◌, inl, inr, ℕ, ◌+◌, ◌^◌, ◌<◌, ◌≤◌, Bool, true, false, List, [], ◌∷◌, ◌++◌, Option}
use Rattle.std.proofs.Common.{None, Some, IfSome, IfOk, Result, Ok, Err, MatchResult, MatchBool, Vec, refl, sym, ap}
use Rattle.std.proofs.Common.{subst, ◌∙◌, map, length, arith}
use Rattle.std.proofs.lemmas.List.{map-append, length-append}
use Rattle.std.specs.declared.alloc.Global.{Global}
use Rattle.std.specs.Str.Lines.{lines}
use Rattle.std.specs.Io.BufRead.{drop_through}
use Rattle.tuple_codec.specs.Operations.{Operation}
use Rattle.tuple_codec.specs.OperationView.{operation_of}
use Rattle.tuple_codec.specs.declared.operations.Op.{Op}
use Rattle.tuple_text.specs.declared.faults.LineFault.{LineFault}
use Rattle.tuple_text.specs.declared.faults.LineFault.TheVariants.{TooLong}
use Rattle.one_space.specs.NextLines.{ReturnsLine, NextLineFails, BeginsWith}
use Rattle.one_space.specs.Reading.{ReadSoFar}
use Rattle.one_space.specs.Complaints.{Says}
use Rattle.one_space.specs.Scripts.{AreFirstOperations, EndsBy, EndsScript, KeepsOperation, KeptSoFar, SaysSome}
use Rattle.one_space.specs.Scripts.{TellsRefusal, lines_told, operations_of}
use Rattle.one_space.specs.declared.input.NextLine.{NextLine}
use Rattle.one_space.specs.declared.input.NextLine.TheVariants as next
use Rattle.one_space.specs.declared.input.NoLine.{NoLine}
use Rattle.one_space.specs.declared.input.NoLine.TheVariants as no
use Rattle.one_space.specs.declared.pieces.ReadFault.{ReadFault}
use Rattle.one_space.specs.declared.session.LocalFault.{LocalFault}
use Rattle.one_space.specs.declared.session.Manner.TheVariants.{Strict}
use Rattle.one_space.proofs.Giving.{Says-trans}
use Rattle.one_space.proofs.SoFar.{unread, at_last, cut, late, refused, past_skipped, past_operation}

pub starts : (most : ℕ) (known : Option (List ℕ)) (ops : Vec (Op Global) Global) → ops.items ≡ [] → IfSome known (λ bytes. KeptSoFar most bytes known 1 ops)
starts most None ops empty = tt
starts most (Some bytes) ops empty = record {
  so_far = subst (λ xs. ReadSoFar Strict bytes (Some bytes) 1 (map operation_of xs) []) (sym empty) (unread Strict bytes);
  within = rw empty (omega arith);
}

-- There are enough operations.
pub enough : (most n : ℕ) (start left : Option (List ℕ)) (ops : Vec (Op Global) Global) → most ≤ length ops.items → IfSome start (λ bytes. KeptSoFar most bytes left n ops)
    → IfSome start (λ bytes. AreFirstOperations most bytes ops)
enough most n None left ops full kept = tt
enough most n (Some bytes) left ops full kept = record {
  within = kept.within;
  said = inr (omega (arith, full, kept.within), cut Strict bytes left n (operations_of ops) [] kept.so_far);
}

-- The bytes left, after the next line was read.
module _ (most : ℕ) (bytes : List ℕ) (known : Option (List ℕ)) (n : ℕ) (old : Vec (Op Global) Global) (before : KeptSoFar most bytes known n old)
    (left : Option (List ℕ)) (buffer : List ℕ) (result : Result (NextLine Global) NoLine)
    (read : IfSome known (λ xs. MatchResult result (λ x. ReturnsLine x xs left) (λ why. NextLineFails why xs left buffer))) where
  abbrev rest : List ℕ
  rest = before.so_far.rest

  told : MatchResult result (λ x. ReturnsLine x rest left) (λ why. NextLineFails why rest left buffer)
  told = subst (λ o. IfSome o (λ xs. MatchResult result (λ x. ReturnsLine x xs left) (λ why. NextLineFails why xs left buffer))) before.so_far.left_is read

  gives : (field x : NextLine Global) → result ≡ Ok field → field ≡ x → ReturnsLine x rest left
  gives field x e f = subst (λ y. ReturnsLine y rest left) f (subst (λ r. MatchResult r (λ y. ReturnsLine y rest left) (λ why. NextLineFails why rest left buffer)) e told)

  fails : (field why : NoLine) → result ≡ Err field → field ≡ why → NextLineFails why rest left buffer
  fails field why e f =
      subst (λ y. NextLineFails y rest left buffer) f (subst (λ r. MatchResult r (λ y. ReturnsLine y rest left) (λ y. NextLineFails y rest left buffer)) e told)

  pub ends : (new : Vec (Op Global) Global) (field : NextLine Global) → result ≡ Ok field → field ≡ next.End → new ≡ old → AreFirstOperations most bytes new
  ends new field e f same =
      rw same (record {
        within = before.within;
        said = inl (at_last Strict bytes known n (operations_of old) [] before.so_far (gives field next.End e f));
      })

  pub skips_on : (new : Vec (Op Global) Global) (field : NextLine Global) → n < 2 ^ 48 → result ≡ Ok field → field ≡ next.Skipped → new ≡ old
      → KeptSoFar most bytes left (n + 1) new
  skips_on new field below e f same =
      let given = gives field next.Skipped e f in
      rw same (record { so_far = past_skipped Strict bytes known n (operations_of old) [] before.so_far left given.0 below given.1 given.2; within = before.within })

  pub calls_on : (new : Vec (Op Global) Global) (field : NextLine Global) (op : Op Global) → n < 2 ^ 48 → result ≡ Ok field → field ≡ next.Operation op
      → length old.items < most → new.items ≡ old.items ++ op ∷ [] → KeptSoFar most bytes left (n + 1) new
  calls_on new field op below e f room longer =
      let given = gives field (next.Operation op) e f in
      record {
        so_far = subst (λ os. ReadSoFar Strict bytes left (n + 1) os []) (sym (ap (map operation_of) longer ∙ map-append operation_of old.items (op ∷ [])))
            (past_operation Strict bytes known n (operations_of old) [] before.so_far left given.0 (operation_of op) below given.1 given.2);
        within = omega (arith, ap length longer, length-append old.items (op ∷ []), room);
      }

  pub keeps_on : (new : Vec (Op Global) Global) (field : NextLine Global) (op : Op Global) (kept : Result Bool LocalFault) → n < 2 ^ 48 → result ≡ Ok field → field ≡ next.Operation op
      → length old.items < most → KeepsOperation kept op old new
      → MatchResult kept (λ more. MatchBool more (KeptSoFar most bytes left (n + 1) new) (AreFirstOperations most bytes new)) (λ fault. EndsBy fault bytes)
  keeps_on new field op (Ok more) below e f room h = rw h.0 (calls_on new field op below e f room h.1)
  keeps_on new field op (Err fault) below e f room h = rw h tt

  refused_by : (why : NoLine) (fault : LineFault) → n < 2 ^ 48 → NextLineFails why rest left buffer → (why ≡ no.Refused fault) → SaysSome bytes n fault
  refused_by why fault below f e =
      let g = subst (λ y. NextLineFails y rest left buffer) e f in
      (operations_of old, refused Strict bytes known n (operations_of old) [] before.so_far fault g.0 (lines g.1.rest) refl below g.2 g.3 g.1.split)

  pub refuses_so : (field : NoLine) (fault : LineFault) → n < 2 ^ 48 → result ≡ Err field → field ≡ no.Refused fault → SaysSome bytes n fault
  refuses_so field fault below e f = refused_by (no.Refused fault) fault below (fails field (no.Refused fault) e f) refl

  pub refused_early : (field : NoLine) (fault : LineFault) → n < 2 ^ 48 → result ≡ Err field → field ≡ no.RefusedEarly fault → SaysSome bytes n fault
  refused_early field fault below e f =
      let g = fails field (no.RefusedEarly fault) e f in
      (operations_of old, refused Strict bytes known n (operations_of old) [] before.so_far fault g.0 (lines (drop_through 10 g.1.rest)) refl below g.2 g.3 g.1.split)

-- The bytes left after the last possible line.
module _ (most : ℕ) (bytes : List ℕ) (known : Option (List ℕ)) (n : ℕ) (old : Vec (Op Global) Global) (before : KeptSoFar most bytes known n old)
    (result : Result Bool ReadFault) (more : IfSome known (λ xs. IfOk result (λ is_more. MatchBool is_more (BeginsWith (λ _. Unit {0}) xs) (lines xs ≡ [])))) where
  left_behind : (field b : Bool) → result ≡ Ok field → field ≡ b → MatchBool b (BeginsWith (λ _. Unit {0}) before.so_far.rest) (lines before.so_far.rest ≡ [])
  left_behind field b e f =
      let Behind : List ℕ → Bool → Type 0 = λ xs is_more. MatchBool is_more (BeginsWith (λ _. Unit {0}) xs) (lines xs ≡ []) in
      subst (Behind before.so_far.rest) f (subst (λ r. IfOk r (Behind before.so_far.rest)) e (subst (λ o. IfSome o (λ xs. IfOk result (Behind xs))) before.so_far.left_is more))

  pub one_too_many : (field : Bool) → result ≡ Ok field → field ≡ true → 2 ^ 48 ≤ n → SaysSome bytes n TooLong
  one_too_many field e f low = (operations_of old, late Strict bytes known n (operations_of old) [] before.so_far low (left_behind field true e f))

  pub none_left : (new : Vec (Op Global) Global) (field : Bool) → result ≡ Ok field → field ≡ false → new ≡ old → AreFirstOperations most bytes new
  none_left new field e f same =
      rw same (record {
        within = before.within;
        said = inl (at_last Strict bytes known n (operations_of old) [] before.so_far (left_behind field false e f));
      })

-- The line that was read is one of a script whose bytes are known.
pub goes_on : (P Q R : List ℕ → Type 0) (start : Option (List ℕ)) (b : Bool) → b ≡ true → ((bytes : List ℕ) → P bytes → MatchBool b (Q bytes) (R bytes)) → IfSome start P → IfSome start Q
goes_on P Q R None b e f h = tt
goes_on P Q R (Some bytes) b e f h = subst (λ b. MatchBool b (Q bytes) (R bytes)) e (f bytes h)

-- No line is left after the last possible one, or the script ends there.
pub ends_at_last : (most n : ℕ) (start unread : Option (List ℕ)) (old new : Vec (Op Global) Global) (result : Result (Unit {0}) LocalFault) → n ≡ 2 ^ 48 → EndsScript result unread old new
    → IfSome start (λ bytes. KeptSoFar most bytes unread n old)
    → IfSome start (λ bytes. MatchResult result (λ _. AreFirstOperations most bytes new) (λ fault. EndsBy fault bytes))
ends_at_last most n None unread old new result e ends_so kept = tt
ends_at_last most n (Some bytes) unread old new result e ends_so kept = ends_so most bytes (subst (λ k. KeptSoFar most bytes unread k old) e kept)

-- A console was told nothing, and then what it was told.
pub tells_at_last : {V : Type 0} (result : Result V LocalFault) (old mid new : Option (List (List ℕ))) → Says old mid [] → TellsRefusal result mid new → TellsRefusal result old new
tells_at_last (Ok v) old mid new h k = Says-trans old mid new [] [] h k
tells_at_last (Err fault) old mid new h k = Says-trans old mid new [] (lines_told fault) h k
