-- The results of reading a line, or the text of a template.
use Rattle.std.specs.Prelude.{◌≡◌, ℕ, List, ◌++◌, codes, Option, MatchOption, Result, MatchResult}
use Rattle.tuple_tree.specs.Values.{TemplateTree}
use Rattle.tuple_codec.specs.Operations.{Operation, rdp}
use Rattle.tuple_codec.specs.OperationView.{operation_of}
use Rattle.tuple_codec.specs.declared.operations.Op.{Op}
use Rattle.tuple_text.specs.Lines.{IsLine, IsSkipped}
use Rattle.tuple_text.specs.Faults.{RefusesLine, Faults, behind}
use Rattle.tuple_text.specs.declared.faults.LineFault.{LineFault}
use Rattle.tuple_text.specs.declared.faults.LineFault.TheVariants.{NoMemory}

-- The operation is that of the line, or there is none, and the line is skipped.
abbrev pub OperationIsRead : {A : Type 0} → List ℕ → Option (Op A) → Type 0
OperationIsRead line read = MatchOption read (IsSkipped line) (λ op. IsLine (operation_of op) line)

-- The operation is that of the line, and the fault is the first one.
abbrev pub JudgesLine : {A : Type 0} → List ℕ → Result (Option (Op A)) LineFault → Type 0
JudgesLine line result = MatchResult result (λ read. OperationIsRead line read) (λ fault. RefusesLine fault line)

-- The line of an operation is read as that operation, unless memory ran out.
abbrev pub ReadsEachLine : {A : Type 0} → List ℕ → Result (Option (Op A)) LineFault → Type 0
ReadsEachLine line result =
    (o : Operation) → IsLine o line
    → MatchResult result (λ read. MatchOption read ⊥ (λ op. operation_of op ≡ o)) (λ fault. fault ≡ NoMemory)

-- the rdp line with this text as its argument
abbrev pub rdp_line_of : List ℕ → List ℕ
rdp_line_of text = codes "rdp " ++ text

-- The template is that of the text, and the fault is the first one.
abbrev pub JudgesTemplateText : List ℕ → Result TemplateTree LineFault → Type 0
JudgesTemplateText text result =
    MatchResult result (λ p. IsLine (rdp p) (rdp_line_of text)) (λ fault. Faults (behind 4 fault) (rdp_line_of text))

-- The text of a template is read as that template, unless memory ran out.
abbrev pub ReadsEachText : List ℕ → Result TemplateTree LineFault → Type 0
ReadsEachText text result =
    (p : TemplateTree) → IsLine (rdp p) (rdp_line_of text)
    → MatchResult result (λ read. read ≡ p) (λ fault. fault ≡ NoMemory)
