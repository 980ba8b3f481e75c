-- What a table says of a configuration it says once.
use Rattle.std.proofs.Common.{◌≡◌, ℕ, ℤ, pos, List, [], ◌∷◌, Option, Some, None, ap, sym, ◌∙◌}
use Rattle.std.specs.Prelude.{codes}
use Rattle.toml.specs.Data.{Data, Items, no_items, item, Members, as_integer, as_array}
use Rattle.protocol.specs.System.Configuration.{Configuration}
use Rattle.config_text.specs.Reading.{AreNumbers, AreFound, KeyHasNumber, HasNumbers, SaysParties}

same_pos : (o : Option ℤ) (n m : ℕ) → o ≡ Some (pos n) → o ≡ Some (pos m) → n ≡ m
same_pos o n m h k = let e : Some (pos n) ≡ Some (pos m) = sym h ∙ k in cc

pub same_some : {X : Type 0} (o : Option X) (x y : X) → o ≡ Some x → o ≡ Some y → x ≡ y
same_some o x y h k = let e : Some x ≡ Some y = sym h ∙ k in cc

are_once : (ds : Items) (ns ms : List ℕ) → AreNumbers ds ns → AreNumbers ds ms → ns ≡ ms
are_once no_items ns ms h k = h ∙ sym k
are_once (item d ds) [] ms h k = absurd h
are_once (item d ds) (n ∷ ns) [] h k = absurd k
are_once (item d ds) (n ∷ ns) (m ∷ ms) h k =
    ap (λ x. x ∷ ns) (same_pos (as_integer d) n m h.0 k.0) ∙ ap (λ xs. m ∷ xs) (are_once ds ns ms h.1 k.1)

many_once : (ns ms : List ℕ) (o : Option Data) → AreFound ns o → AreFound ms o → ns ≡ ms
many_once ns ms None h k = h ∙ sym k
many_once ns ms (Some d) h k =
    let same : h.0 ≡ k.0 = same_some (as_array d) h.0 k.0 h.1 k.1 in
    are_once h.0 ns ms h.2 (rw same k.2)

-- The number of faults, that of clients, and the faulty replicas are those of each configuration that the table says.
pub same_faults : (table : Members) (n : ℕ) (c : Configuration) → KeyHasNumber table (codes "f") n → SaysParties table c → n ≡ c.faults
same_faults table n c h says = same_pos _ n c.faults h says.faults

pub same_clients : (table : Members) (n : ℕ) (c : Configuration) → KeyHasNumber table (codes "clients") n → SaysParties table c → n ≡ c.clients
same_clients table n c h says = same_pos _ n c.clients h says.clients

pub same_replicas : (table : Members) (ns : List ℕ) (c : Configuration) → HasNumbers table (codes "faulty_replicas") ns → SaysParties table c → ns ≡ c.faulty_replicas
same_replicas table ns c h says = many_once ns c.faulty_replicas _ h says.replicas
