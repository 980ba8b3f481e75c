-- The histories of all parties after an event of one.
use Rattle.std.proofs.Common.{◌≡◌, ◌≢◌, ℕ, Bool, true, false, cond, ◌==◌, List, [], ◌∷◌, refl, sym, ap, ◌∙◌}
use Rattle.std.proofs.lemmas.Bool.{eq-eqb, eqb-true, false_from_ne_true}
use Rattle.protocol.specs.System.Configuration.{Configuration, is_correct}
use Rattle.protocol.specs.System.Trace.{Entry, party_of, is_output, history_of, Always}
use Rattle.protocol.specs.System.Run.{OutputFollows}
use Rattle.events.specs.Outputs.{after_entries}
use Rattle.schedule_world.specs.Moving.{AreOf}

pub own_entry : (p : ℕ) (e : Entry) (trace : List Entry) → party_of e ≡ p → history_of p (e ∷ trace) ≡ e ∷ history_of p trace
own_entry p e trace is = ap (λ b. cond b (e ∷ history_of p trace) (history_of p trace)) (eq-eqb (party_of e) p is)

pub other_entry : (q : ℕ) (e : Entry) (trace : List Entry) → party_of e ≢ q → history_of q (e ∷ trace) ≡ history_of q trace
other_entry q e trace apart = ap (λ b. cond b (e ∷ history_of q trace) (history_of q trace)) (false_from_ne_true (party_of e == q) (λ t. apart (eqb-true (party_of e) q t)))

pub own_entries : (p : ℕ) (entries trace : List Entry) → AreOf p entries → history_of p (after_entries entries trace) ≡ after_entries entries (history_of p trace)
own_entries p [] trace are = refl
own_entries p (e ∷ entries) trace are = own_entries p entries (e ∷ trace) are.1 ∙ ap (after_entries entries) (own_entry p e trace are.0.0)

pub other_entries : (p q : ℕ) (entries trace : List Entry) → p ≢ q → AreOf p entries → history_of q (after_entries entries trace) ≡ history_of q trace
other_entries p q [] trace apart are = refl
other_entries p q (e ∷ entries) trace apart are = other_entries p q entries (e ∷ trace) apart are.1 ∙ other_entry q e trace (λ is. apart (sym are.0.0 ∙ is))

-- outputs of the party, after an entry of the party
pub follow : (p : ℕ) (entries : List Entry) (e : Entry) (trace : List Entry) → party_of e ≡ p → AreOf p entries → Always OutputFollows (e ∷ trace) → Always OutputFollows (after_entries entries (e ∷ trace))
follow p [] e trace at are h = h
follow p (x ∷ entries) e trace at are h = follow p entries x (e ∷ trace) are.0.0 are.1 (λ o. at ∙ sym are.0.0, h)

-- an input follows anything
pub input_follows : (e : Entry) (trace : List Entry) → is_output e ≡ false → Always OutputFollows trace → Always OutputFollows (e ∷ trace)
input_follows e [] i h = (i, h)
input_follows e (before ∷ trace) i h = (λ o. absurd (both (is_output e) i o), h)
  where
    both : (b : Bool) → b ≡ false → b ≡ true → ⊥
    both true f t = cc
    both false f t = cc

pub parties : (c : Configuration) (p : ℕ) (entries trace : List Entry) → is_correct c p ≡ true → AreOf p entries → Always (λ past e. is_correct c (party_of e) ≡ true) trace
    → Always (λ past e. is_correct c (party_of e) ≡ true) (after_entries entries trace)
parties c p [] trace is are h = h
parties c p (e ∷ entries) trace is are h = parties c p entries (e ∷ trace) is are.1 (ap (is_correct c) are.0.0 ∙ is, h)
