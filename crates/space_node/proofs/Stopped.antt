-- The parties that stopped, named one after another.
use Rattle.std.proofs.Common.{◌≡◌, ℕ, ◌+◌, ◌<◌, Bool, true, false, cond, List, [], ◌∷◌, ◌++◌, length, get_or, take, map, refl, sym, ap, ◌∙◌, subst, append_assoc}
use Rattle.std.specs.Prelude.{filter}
use Rattle.std.proofs.lemmas.List.{append-nil, map-append}
use Rattle.std.proofs.lemmas.List.Elements.{All-more, filter_more}
use Rattle.terms.specs.declared.parties.Party.{Party}
use Rattle.terms.specs.Parties.{party_number}
use Rattle.protocol.specs.System.Configuration.{Configuration}
use Rattle.protocol.specs.Client.RightClient.{IsPromptClient}
use Rattle.space_node.specs.Runs.{ClientsArePrompt, stopped_of}
use Rattle.space_node.specs.PartyStates.{PartyState}

-- ---- one more state

-- whom it names
name_of : Bool → ℕ → List ℕ
name_of stopped p = cond stopped (p ∷ []) []

named_by : (stopped : Bool) (state : PartyState) → map (λ (s : PartyState). s.party) (cond stopped (state ∷ []) []) ≡ name_of stopped state.party
unfolding name_of
named_by true state = refl
named_by false state = refl

stopped_more : (states : List PartyState) (i : ℕ) (state : PartyState) → i < length states → state ≡ get_or states i state
    → stopped_of (take (i + 1) states) ≡ stopped_of (take i states) ++ name_of state.stopped state.party
stopped_more states i state low is =
    let last = get_or states i state in
    let more : filter (λ (s : PartyState). s.stopped) (take (i + 1) states)
    ≡ filter (λ (s : PartyState). s.stopped) (take i states) ++ cond last.stopped (last ∷ []) [] = filter_more (λ (s : PartyState). s.stopped) states i state low in
    let name : map (λ (s : PartyState). s.party) (cond last.stopped (last ∷ []) []) ≡ name_of state.stopped state.party =
    subst (λ (s : PartyState). map (λ (x : PartyState). x.party) (cond s.stopped (s ∷ []) []) ≡ name_of state.stopped state.party) is (named_by state.stopped state) in
    ap (map (λ (s : PartyState). s.party)) more
    ∙ (map-append (λ (s : PartyState). s.party) (filter (λ (s : PartyState). s.stopped) (take i states)) (cond last.stopped (last ∷ []) [])
    ∙ ap (λ (ns : List ℕ). stopped_of (take i states) ++ ns) name)

named_more : (start named later : List ℕ) (states : List PartyState) (i : ℕ) (state : PartyState) → i < length states → state ≡ get_or states i state
    → later ≡ named ++ name_of state.stopped state.party → named ≡ start ++ stopped_of (take i states) → later ≡ start ++ stopped_of (take (i + 1) states)
named_more start named later states i state low is more was =
    more
    ∙ (ap (λ (ns : List ℕ). ns ++ name_of state.stopped state.party) was
    ∙ (append_assoc start (stopped_of (take i states)) (name_of state.stopped state.party)
    ∙ ap (λ (ns : List ℕ). start ++ ns) (sym (stopped_more states i state low is))))

-- ---- as the program names them

numbers_more : (parties : List Party) (party : Party) → map party_number (parties ++ party ∷ []) ≡ map party_number parties ++ party_number party ∷ []
numbers_more [] party = refl
numbers_more (p ∷ parties) party = ap (λ (ns : List ℕ). party_number p ∷ ns) (numbers_more parties party)

name_if : (stopped : Bool) (named : List ℕ) (p : ℕ) → stopped ≡ true → named ++ p ∷ [] ≡ named ++ name_of stopped p
unfolding name_of
name_if true named p off = refl
name_if false named p off = absurd cc

no_name : (stopped : Bool) (named : List ℕ) (p : ℕ) → stopped ≡ false → named ≡ named ++ name_of stopped p
unfolding name_of
no_name true named p on = absurd cc
no_name false named p on = sym (append-nil named)

module _ (start : List ℕ) (stopped later : List Party) (states : List PartyState) (i : ℕ) (state : PartyState) (low : i < length states) (is : state ≡ get_or states i state)
    (was : map party_number stopped ≡ start ++ stopped_of (take i states)) where
  pub one_named : (party : Party) → state.stopped ≡ true → later ≡ stopped ++ party ∷ [] → party_number party ≡ state.party
      → map party_number later ≡ start ++ stopped_of (take (i + 1) states)
  one_named party off more who =
      named_more start (map party_number stopped) (map party_number later) states i state low is
      (ap (map party_number) more
      ∙ (numbers_more stopped party
      ∙ (ap (λ (n : ℕ). map party_number stopped ++ n ∷ []) who ∙ name_if state.stopped (map party_number stopped) state.party off)))
      was

  pub none_named : state.stopped ≡ false → later ≡ stopped → map party_number later ≡ start ++ stopped_of (take (i + 1) states)
  none_named on same =
      named_more start (map party_number stopped) (map party_number later) states i state low is
      (ap (map party_number) same ∙ no_name state.stopped (map party_number stopped) state.party on) was

pub none_yet : (start : List ℕ) (states : List PartyState) → start ≡ start ++ stopped_of (take 0 states)
none_yet start [] = sym (append-nil start)
none_yet start (s ∷ states) = sym (append-nil start)

pub clients_prompt : (c : Configuration) (clients : List PartyState) (i : ℕ) (client : PartyState) → i < length clients → client ≡ get_or clients i client
    → IsPromptClient c client.party client.history → ClientsArePrompt c (take i clients) → ClientsArePrompt c (take (i + 1) clients)
clients_prompt c clients i client low is prompt before =
    All-more (λ (s : PartyState). IsPromptClient c s.party s.history) clients i client low before
    (subst (λ (s : PartyState). IsPromptClient c s.party s.history) is prompt)
