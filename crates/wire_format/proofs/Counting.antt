-- The lists and frames of a body that a party may send fit into the counts and lengths that spell them.
use Rattle.std.proofs.Common.{◌≡◌, ℕ, ◌*◌, ◌≤◌, ◌<◌, ◌^◌, Bool, List, [], ◌∷◌, length, ap, refl, arith, length-append}
use Rattle.std.specs.Int.{w16, to_be_bytes}
use Rattle.wire_format.specs.Lists.{Each}
use Rattle.wire_format.specs.Messages.{ViewChangeData, NewViewData, MessageData, view_change, new_view, BodyData}
use Rattle.wire_format.specs.Messages.{MacData, AuthenticatorData, macs, signature}
use Rattle.wire_format.specs.Lists.{each_spelling}
use Rattle.wire_format.specs.Spelling.{is_ordered_request, is_view_change, IsCarried, IsViewChange, IsNewView}
use Rattle.wire_format.specs.Spelling.{IsMessage, IsBody, IsMac, IsAuthenticator, mac_spelling, authenticator_spelling}
use Rattle.wire_format.specs.Counts.{ViewChangeFits, NewViewFits, CountsFit}
use Rattle.wire_format.proofs.Framing.{limit_bound}

each_weaker : {A : Type 0} {P Q : A → Type 0} (xs : List A) → ((x : A) → P x → Q x) → Each P xs → Each Q xs
each_weaker [] f e = tt
each_weaker (x ∷ xs) f e = (f x e.0, each_weaker xs f e.1)

carried_short : (sort : MessageData → Bool) (bs : List ℕ) → IsCarried sort bs → length bs < 2 ^ 32
carried_short sort bs c = omega (arith, ap length c.spelled.spelled, c.spelled.valid.short, limit_bound c.frame.body.message)

pub are_short : (frames : List (List ℕ)) → Each (IsCarried is_ordered_request) frames → Each (λ frame. length frame < 2 ^ 32) frames
are_short frames h = each_weaker frames (carried_short is_ordered_request) h

view_change_fits : (c : ViewChangeData) → IsViewChange c → ViewChangeFits c
view_change_fits c h = record { checkpoints = omega (arith, h.few); prepared = h.prepared_count; pre_prepared = h.pre_prepared_count }

new_view_fits : (n : NewViewData) → IsNewView n → NewViewFits n
new_view_fits n h = record { changes = omega (arith, h.few); frames = each_weaker n.changes (carried_short is_view_change) h.changes; batches = omega (arith, h.count) }

pub counts_fit : (m : MessageData) → IsMessage m → CountsFit m
counts_fit (view_change c) h = view_change_fits c h
counts_fit (new_view n) h = new_view_fits n h
counts_fit _ h = tt

-- each body that may be said can be encoded
pub body_fits : (b : BodyData) → IsBody b → CountsFit b.message
body_fits b h = counts_fit b.message h.message

macs_length : (ms : List MacData) → Each IsMac ms → length (each_spelling mac_spelling ms) ≡ 34 * length ms
macs_length [] e = refl
macs_length (m ∷ ms) e = omega (arith, length-append (mac_spelling m) (each_spelling mac_spelling ms), length-append (to_be_bytes w16 m.receiver) m.mac, e.0.1.whole, macs_length ms e.1)

-- each authenticator leaves room for itself
pub authenticator_fits : (p : AuthenticatorData) → IsAuthenticator p → length (authenticator_spelling p) ≤ 16578
authenticator_fits (macs ms) h = omega (arith, macs_length ms h.2, h.1)
authenticator_fits (signature s) h = omega (arith, h.0)
