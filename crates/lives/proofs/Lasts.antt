-- A machine and its log, one event on and one sync on.
use Rattle.std.proofs.Common.{◌≡◌, ℕ, Bool, true, false, MatchBool, List, [], ◌∷◌, ◌++◌, length, ◌-◌, take, drop, map, refl, sym, ◌∙◌, ap, subst, append_assoc}
use Rattle.std.proofs.lemmas.List.{append-nil, map-append, drop_at}
use Rattle.event_log.specs.Standing.{Stands, GathersMore}
use Rattle.event_log.specs.declared.owner.Owner.{Owner}
use Rattle.event_log.specs.declared.log.Log.{Log}
use Rattle.event_log.proofs.Making.{rest_shown}
use Rattle.event_log.proofs.Stands.{stands_more}
use Rattle.lives.specs.Events.{Event, logged, outputs_of}
use Rattle.lives.specs.Steps.{Steps}
use Rattle.lives.proofs.Playing.{outputs_append}

-- the log of one event more
pub log_more : {D : Type 0} (seen : D → List ℕ) (may_leave : D → List ℕ → Type 0) (owner : Owner) (old new : Log) (disk : D) (synced held : List Event) (event : Event)
    → Stands seen may_leave owner old disk (map logged synced) (map logged held) → GathersMore old new (logged event)
    → Stands seen may_leave owner new disk (map logged synced) (map logged (held ++ event ∷ []))
log_more seen may_leave owner old new disk synced held event stands gathers =
    subst (λ (l : List (List ℕ)). Stands seen may_leave owner new disk (map logged synced) l) (sym (map-append logged held (event ∷ [])))
    (stands_more seen may_leave owner old new disk (map logged synced) (map logged held) (logged event) stands gathers)

-- the outputs of one event more
pub given_more : (held : List Event) (input outputs before after : List ℕ) → after ≡ before ++ outputs → before ≡ outputs_of held → after ≡ outputs_of (held ++ (input, outputs) ∷ [])
given_more held input outputs before after appends is =
    appends ∙ ap (λ (l : List ℕ). l ++ outputs) is
    ∙ ap (λ (l : List ℕ). outputs_of held ++ l) (sym (append-nil outputs))
    ∙ sym (outputs_append held ((input, outputs) ∷ []))

-- the log of all events that were synced
pub log_synced : {D : Type 0} (seen : D → List ℕ) (may_leave : D → List ℕ → Type 0) (owner : Owner) (log : Log) (disk : D) (synced held : List Event)
    → Stands seen may_leave owner log disk (map logged synced ++ map logged held) []
    → Stands seen may_leave owner log disk (map logged (synced ++ held)) []
log_synced seen may_leave owner log disk synced held stands =
    subst (λ (l : List (List ℕ)). Stands seen may_leave owner log disk l []) (sym (map-append logged synced held)) stands

-- the machine, one event on
pub machine_more : {M : Type 0} (fits : M → List Event → Type 0) (old new : M) (input before after : List ℕ) (moved : Bool) (synced held : List Event)
    → (steps : Steps fits old new input before after moved) → moved ≡ true → fits old (synced ++ held)
    → fits new (synced ++ (held ++ (input, steps.outputs) ∷ []))
machine_more fits old new input before after moved synced held steps moves fit =
    let event : Event = (input, steps.outputs) in
    let history = synced ++ held in
    let led = subst (λ (b : Bool). MatchBool b (fits new (history ++ event ∷ [])) ((steps.outputs ≡ []) × fits new history)) moves (steps.leads history fit) in
    subst (λ (h : List Event). fits new h) (append_assoc synced held (event ∷ [])) led

-- the machine, if nothing moved
pub machine_same : {M : Type 0} (fits : M → List Event → Type 0) (old new : M) (input before after : List ℕ) (moved : Bool) (history : List Event)
    → Steps fits old new input before after moved → moved ≡ false → fits old history → (after ≡ before) × fits new history
machine_same fits old new input before after moved history steps stays fit =
    let led = subst (λ (b : Bool). MatchBool b (fits new (history ++ (input, steps.outputs) ∷ [])) ((steps.outputs ≡ []) × fits new history)) stays (steps.leads history fit) in
    (steps.given ∙ ap (λ (l : List ℕ). before ++ l) led.0 ∙ append-nil before, led.1)

-- the outputs behind those that were held
pub new_outputs : (before after outputs shown : List ℕ) (n : ℕ) → after ≡ before ++ outputs → n ≡ length before → shown ≡ after
    → take (length shown - n) (drop n shown) ≡ outputs
new_outputs before after outputs shown n e is same =
    rest_shown shown after n same
    ∙ ap (λ (k : ℕ). drop k after) is
    ∙ ap (λ (l : List ℕ). drop (length before) l) e ∙ drop_at before outputs (length before) refl
