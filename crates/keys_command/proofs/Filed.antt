-- Files that are put one after another, and parties that have none.
use Rattle.std.proofs.Common.{◌≡◌, ℕ, zero, suc, ◌+◌, ◌<◌, ◌≤◌, List, [], ◌∷◌, ◌++◌, length, map, get_or, Option, None, Some, arith, refl, ap, sym, ◌∙◌, subst, append_assoc, append-nil}
use Rattle.std.specs.Prelude.{All, Contains, Err, IfSome, Ok, Result}
use Rattle.std.specs.List.{range_with_len}
use Rattle.std.proofs.lemmas.List.Elements.{All-append, All-nil}
use Rattle.std.proofs.lemmas.List.FromFn.{get_or-range_with_len, length-range_with_len}
use Rattle.terms.specs.Parties.{party_number}
use Rattle.authenticator.specs.Dealing.{all_clients, all_replicas}
use Rattle.protocol.specs.System.Configuration.{Configuration}
use Rattle.party_keys.proofs.Numbers.{numbers_more}
use Rattle.keys_command.specs.Files.{DealsFiles, HasFileOf, IsOutputFault, LeavesFiles, NoneHasFile, PutsAll, RefusesBy, file_name, file_of, parties}
use Rattle.keys_command.specs.Folders.{File, HasFile, Puts}
use Rattle.keys_command.specs.declared.fault.KeysFault.{KeysFault}
use Rattle.keys_command.specs.declared.fault.KeysFault.TheVariants as faults

-- ---- files

pub puts_none : (known : Option (List File)) → Puts known known []
puts_none None = tt
puts_none (Some files) = ap Some (sym (append-nil files))

pub puts_both : (old mid new : Option (List File)) (xs ys : List File) → Puts old mid xs → Puts mid new ys → Puts old new (xs ++ ys)
puts_both None mid new xs ys h k = tt
puts_both (Some files) mid new xs ys h k =
    subst (λ m. IfSome m (λ found. new ≡ Some (found ++ ys))) h k ∙ ap Some (append_assoc files xs ys)

map_both : (f : ℕ → File) (ps qs : List ℕ) → map f (ps ++ qs) ≡ map f ps ++ map f qs
map_both f [] qs = refl
map_both f (p ∷ ps) qs = ap (λ rest. f p ∷ rest) (map_both f ps qs)

pub files_both : (c : Configuration) (old mid new : Option (List File)) (ps qs : List ℕ) → Puts old mid (map (file_of c) ps) → Puts mid new (map (file_of c) qs) → Puts old new (map (file_of c) (ps ++ qs))
files_both c old mid new ps qs h k =
    subst (Puts old new) (sym (map_both (file_of c) ps qs)) (puts_both old mid new (map (file_of c) ps) (map (file_of c) qs) h k)

pub files_more : (c : Configuration) (old mid new : Option (List File)) (a n p : ℕ) → a + n ≡ p → Puts old mid (map (file_of c) (range_with_len a n)) → Puts mid new (map (file_of c) (p ∷ []))
    → Puts old new (map (file_of c) (range_with_len a (n + 1)))
files_more c old mid new a n p e h k =
    subst (λ ps. Puts old new (map (file_of c) ps)) (sym (numbers_more a n ∙ ap (λ q. range_with_len a n ++ q ∷ []) e)) (files_both c old mid new (range_with_len a n) (p ∷ []) h k)

-- ---- parties that have none

pub none_yet : (known : Option (List File)) → NoneHasFile known []
none_yet None = tt
none_yet (Some files) = All-nil (λ p. HasFile files (file_name p) → ⊥)

pub none_both : (known : Option (List File)) (ps qs : List ℕ) → NoneHasFile known ps → NoneHasFile known qs → NoneHasFile known (ps ++ qs)
none_both None ps qs h k = tt
none_both (Some files) ps qs h k = All-append (λ p. HasFile files (file_name p) → ⊥) ps qs h k

pub none_more : (known : Option (List File)) (a n p : ℕ) → a + n ≡ p → NoneHasFile known (range_with_len a n) → NoneHasFile known (p ∷ []) → NoneHasFile known (range_with_len a (n + 1))
none_more known a n p e h k =
    subst (NoneHasFile known) (sym (numbers_more a n ∙ ap (λ q. range_with_len a n ++ q ∷ []) e)) (none_both known (range_with_len a n) (p ∷ []) h k)

-- ---- a party that has one

in_range : (a n i : ℕ) → i < n → Contains (range_with_len a n) (a + i)
in_range a n i p = (i, omega (arith, p, length-range_with_len a n), get_or-range_with_len a n i (a + i) p)

only_one : (x y : ℕ) → Contains (y ∷ []) x → y ≡ x
only_one x y (zero, p, e) = e
only_one x y (suc k, p, e) = absurd (omega (arith, p))

refuses_wider : (known : Option (List File)) (ps qs : List ℕ) (fault : KeysFault) → ((x : ℕ) → Contains ps x → Contains qs x) → RefusesBy known ps fault → RefusesBy known qs fault
refuses_wider known ps qs (faults.Exists name) f h = (f (party_number name.0) h.0, h.1)
refuses_wider known ps qs _ f h = tt

pub refuses_one : (known : Option (List File)) (a n i p : ℕ) (fault : KeysFault) → a + i ≡ p → i < n → RefusesBy known (p ∷ []) fault → RefusesBy known (range_with_len a n) fault
refuses_one known a n i p fault e below h =
    refuses_wider known (p ∷ []) (range_with_len a n) fault (λ x one. subst (Contains (range_with_len a n)) (e ∙ only_one x p one) (in_range a n i below)) h

pub leaves : (c : Configuration) (ps : List ℕ) (known : Option (List File)) (fault : KeysFault) → ((x : ℕ) → Contains ps x → Contains (parties c) x) → RefusesBy known ps fault → LeavesFiles c fault known known
leaves c ps known (faults.Exists name) f h = ((f (party_number name.0) h.0, h.1), refl)
leaves c ps known _ f h = tt

pub leaves_any : (c : Configuration) (old new : Option (List File)) (fault : KeysFault) → IsOutputFault fault → LeavesFiles c fault old new
leaves_any c old new (faults.Exists name) h = absurd h
leaves_any c old new _ h = tt

pub deals : (c : Configuration) (old mid new : Option (List File)) (result : Result (Unit {0}) KeysFault) → NoneHasFile old (all_replicas c.faults) → NoneHasFile old (all_clients c.clients)
    → Puts old mid (map (file_of c) (all_replicas c.faults)) → PutsAll c (all_clients c.clients) result mid new → DealsFiles c result old new
deals c old mid new (Ok done) a b h k = (none_both old (all_replicas c.faults) (all_clients c.clients) a b, files_both c old mid new (all_replicas c.faults) (all_clients c.clients) h k)
deals c old mid new (Err fault) a b h k = leaves_any c old new fault k
