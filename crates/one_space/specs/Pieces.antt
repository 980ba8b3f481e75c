-- A piece of a line: the part that is read at once.
use Rattle.std.specs.Prelude.{◌≡◌, ◌==◌, Bool, false, if◌then◌else◌, ℕ, ◌≤◌, List, [], ◌∷◌, ◌++◌, length, All, Option}
use Rattle.std.specs.Prelude.{None, Some, IfSome, Result, IfOk, Vec}
use Rattle.std.specs.declared.alloc.Global.{Global}
use Rattle.one_space.specs.declared.pieces.PieceEnd.{PieceEnd}
use Rattle.one_space.specs.declared.pieces.PieceEnd.TheVariants.{LineFeed, InputEnd, Full}

abbrev pub piece_end_of : Bool → Bool → Bool → Option PieceEnd
piece_end_of is_ended is_at_end is_full =
    if is_ended then Some LineFeed
    else if is_at_end then Some InputEnd
    else if is_full then Some Full
    else None

-- the bytes after a piece that are passed with it
abbrev pub end_bytes : Option PieceEnd → List ℕ
end_bytes None = []
end_bytes (Some LineFeed) = 10 ∷ []
end_bytes (Some InputEnd) = []
end_bytes (Some Full) = []

abbrev pub EndsPiece : Option PieceEnd → ℕ → List ℕ → List ℕ → Type 0
EndsPiece None limit rest after = Unit {0}
EndsPiece (Some LineFeed) limit rest after = Unit {0}
EndsPiece (Some InputEnd) limit rest after = rest ≡ []
EndsPiece (Some Full) limit rest after = limit ≤ length after

abbrev pub NoLineFeed : List ℕ → Type 0
NoLineFeed bytes = All (λ b. (b == 10) ≡ false) bytes

-- A part of xs without a line feed was appended to the bytes before, and the rest is left.
pub record TakesPiece
    (step : Option PieceEnd) (limit : ℕ) (xs : List ℕ) (left : Option (List ℕ)) (before after : List ℕ)
    : Type 0 where
  pub part : List ℕ
  pub rest : List ℕ
  pub kept : after ≡ before ++ part
  pub one_line : NoLineFeed part
  pub taken : xs ≡ part ++ (end_bytes step ++ rest)
  pub left_is : left ≡ Some rest
  pub ending : EndsPiece step limit rest after

-- A piece was read with its end, if the bytes left are known.
abbrev pub ReadsPiece : {R E : Type 0} → (R → Option (List ℕ)) → Result PieceEnd E → ℕ
    → R → R → Vec ℕ Global → Vec ℕ Global → Type 0
ReadsPiece remaining result limit old new before after =
    IfSome (remaining old)
    (λ xs. IfOk result (λ end. TakesPiece (Some end) limit xs (remaining new) before.items after.items))

-- A part of a piece was read, or all of it, if the bytes left are known.
abbrev pub ReadsPart : {R E : Type 0} → (R → Option (List ℕ)) → Result (Option PieceEnd) E → ℕ
    → R → R → Vec ℕ Global → Vec ℕ Global → Type 0
ReadsPart remaining result limit old new before after =
    IfSome (remaining old)
    (λ xs. IfOk result (λ step. TakesPiece step limit xs (remaining new) before.items after.items))
