-- The parts of a frame that is spelled.
use Rattle.std.proofs.Common.{◌≡◌, ◌+◌, [], ◌≤◌, ◌<◌, ◌^◌, ℕ, ◌||◌, List, ◌++◌, length, length-append, arith, subst, sym, refl, lit≤, Option}
use Rattle.wire_format.specs.Messages.{MacData, MessageData, view_change, FrameData, AuthenticatorData, macs}
use Rattle.wire_format.specs.Spelling.{SpellsFrame, frame_limit, body_spelling, authenticator_spelling, authenticator_is_signed, piece}
use Rattle.authenticator.specs.Authentic.{has_some_mac, proves_some}

frame_limit-le : (m : MessageData) → frame_limit m ≤ 4194304
frame_limit-le (view_change c) = lit≤ tt
frame_limit-le _ = lit≤ tt

length-front : (text rest : List ℕ) (most : ℕ) → length (piece text ++ rest) ≤ most → length text ≤ most
length-front text rest most fits = omega (arith, simp length-append at fits)

-- a body's length fits its four bytes
pub body-short : (bytes : List ℕ) (f : FrameData) → SpellsFrame bytes f → length (body_spelling f.body) < 2 ^ 32
body-short bytes f spells =
    let whole = length-front (body_spelling f.body) (authenticator_spelling f.authenticator) _ spells.valid.short in
    let most = frame_limit-le f.body.message in
    omega arith

-- MACs prove a body to a party if they have its entry
pub proves-macs : (party : ℕ) (mac : Option (List ℕ)) (entries : List MacData) (authenticator : AuthenticatorData) → authenticator ≡ macs entries
    → has_some_mac party mac entries ≡ (authenticator_is_signed authenticator || proves_some party mac authenticator)
proves-macs party mac entries authenticator is =
    let P : AuthenticatorData → Type 0 = λ p. has_some_mac party mac entries ≡ (authenticator_is_signed p || proves_some party mac p) in subst P (sym is) refl

-- the same of a body before its authenticator
pub piece-short : (m : MessageData) (text : List ℕ) (authenticator : ℕ) → length (piece text) + authenticator ≤ frame_limit m → length text < 2 ^ 32
piece-short m text authenticator fits =
    let front = length-front text [] (frame_limit m) (simp length-append (omega (arith, simp length-append at fits))) in
    let most = frame_limit-le m in
    omega arith
