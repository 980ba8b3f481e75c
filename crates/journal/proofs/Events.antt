-- An event of one party, in its own history and in those of others. The order of entries plays no part in most of
-- these lemmas.
use Rattle.std.proofs.Common.{◌≡◌, ℕ, Bool, true, false, cond, ◌==◌, List, [], ◌∷◌, ◌++◌, refl, ap, sym, ◌∙◌}
use Rattle.std.specs.List.{list_any}
use Rattle.std.proofs.lemmas.Bool.{eq-eqb, eqb-true, false_from_ne_true, or_parts}
use Rattle.std.proofs.lemmas.List.Elements.{filter-append}
use Rattle.wire_format.specs.Lists.{Each}
use Rattle.protocol.specs.System.Trace.{Entry, party_of, history_of}
use Rattle.events.specs.Outputs.{after_entries}
use Rattle.journal.specs.Comparing.{ordering_of}
use Rattle.journal.specs.Histories.{IsOutputOf, IsEventOf}
use Rattle.protocol.specs.System.Reads.{orders, without_reads}

pub own_entry : (p : ℕ) (e : Entry) (es : List Entry) → party_of e ≡ p → history_of p (e ∷ es) ≡ e ∷ history_of p es
own_entry p e es is = ap (λ b. cond b (e ∷ history_of p es) (history_of p es)) (eq-eqb (party_of e) p is)

pub other_entry : (q : ℕ) (e : Entry) (es : List Entry) → (party_of e ≡ q → ⊥) → history_of q (e ∷ es) ≡ history_of q es
other_entry q e es apart = ap (λ b. cond b (e ∷ history_of q es) (history_of q es)) (false_from_ne_true (party_of e == q) (λ t. apart (eqb-true (party_of e) q t)))

own_outputs : (p : ℕ) (es : List Entry) → Each (IsOutputOf p) es → history_of p es ≡ es
own_outputs p [] are = refl
own_outputs p (e ∷ es) are = own_entry p e es are.0.0 ∙ ap (λ (xs : List Entry). e ∷ xs) (own_outputs p es are.1)

other_outputs : (p q : ℕ) (es : List Entry) → (p ≡ q → ⊥) → Each (IsOutputOf p) es → history_of q es ≡ []
other_outputs p q [] apart are = refl
other_outputs p q (e ∷ es) apart are = other_entry q e es (λ is. apart (sym are.0.0 ∙ is)) ∙ other_outputs p q es apart are.1

pub own_event : (p : ℕ) (es : List Entry) → IsEventOf p es → history_of p es ≡ es
own_event p [] event = absurd event
own_event p (e ∷ es) event = own_entry p e es event.0 ∙ ap (λ (xs : List Entry). e ∷ xs) (own_outputs p es event.2)

pub other_event : (p q : ℕ) (es : List Entry) → (p ≡ q → ⊥) → IsEventOf p es → history_of q es ≡ []
other_event p q [] apart event = absurd event
other_event p q (e ∷ es) apart event = other_entry q e es (λ is. apart (sym event.0 ∙ is)) ∙ other_outputs p q es apart event.2

pub history_append : (p : ℕ) (xs ys : List Entry) → history_of p (xs ++ ys) ≡ history_of p xs ++ history_of p ys
history_append p xs ys = filter-append (λ (e : Entry). party_of e == p) xs ys

pub reads_append : (xs ys : List Entry) → without_reads (xs ++ ys) ≡ without_reads xs ++ without_reads ys
reads_append xs ys = filter-append orders xs ys

pub ordering_append : (p : ℕ) (xs ys : List Entry) → ordering_of p (xs ++ ys) ≡ ordering_of p xs ++ ordering_of p ys
ordering_append p xs ys = ap without_reads (history_append p xs ys) ∙ reads_append (history_of p xs) (history_of p ys)

pub other_ordering : (p q : ℕ) (es : List Entry) → (p ≡ q → ⊥) → IsEventOf p es → ordering_of q es ≡ []
other_ordering p q es apart event = ap without_reads (other_event p q es apart event)

pub own_ordering : (p : ℕ) (es : List Entry) → IsEventOf p es → ordering_of p es ≡ without_reads es
own_ordering p es event = ap without_reads (own_event p es event)

pub no_ordering : (es : List Entry) → list_any orders es ≡ false → without_reads es ≡ []
no_ordering [] e = refl
no_ordering (x ∷ es) e =
    let both = or_parts (orders x) (list_any orders es) e in
    ap (λ b. cond b (x ∷ without_reads es) (without_reads es)) both.0 ∙ no_ordering es both.1

-- ---- entries after others

pub history_behind : (p : ℕ) (es past : List Entry) → history_of p (after_entries es past) ≡ after_entries (history_of p es) (history_of p past)
history_behind p [] past = refl
history_behind p (e ∷ es) past = history_behind p es (e ∷ past) ∙ one (party_of e == p) e (history_of p es) (history_of p past)
  where
    one : (b : Bool) (e : Entry) (xs past : List Entry) → after_entries xs (cond b (e ∷ past) past) ≡ after_entries (cond b (e ∷ xs) xs) past
    one true e xs past = refl
    one false e xs past = refl

pub own_behind : (p : ℕ) (es past : List Entry) → IsEventOf p es → history_of p (after_entries es past) ≡ after_entries es (history_of p past)
own_behind p es past event = history_behind p es past ∙ ap (λ (xs : List Entry). after_entries xs (history_of p past)) (own_event p es event)

pub other_behind : (p q : ℕ) (es past : List Entry) → (p ≡ q → ⊥) → IsEventOf p es → history_of q (after_entries es past) ≡ history_of q past
other_behind p q es past apart event = history_behind q es past ∙ ap (λ (xs : List Entry). after_entries xs (history_of q past)) (other_event p q es apart event)
