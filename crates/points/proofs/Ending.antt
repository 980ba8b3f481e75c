-- The read that an acceptance ends.
use Rattle.std.proofs.Common.{◌≡◌, ℕ, ◌+◌, List, Bor, Option, Some, None, refl, sym, ap, ◌∙◌}
use Rattle.std.specs.Prelude.{option_map}
use Rattle.terms.specs.declared.order.Mode.TheVariants as modes
use Rattle.tuple_codec.specs.Operations.{Operation, Outcome}
use Rattle.tuple_codec.specs.OperationView.{operation_of}
use Rattle.authenticator.specs.Membership.{Membership}
use Rattle.protocol.specs.System.Trace.{Entry}
use Rattle.protocol.specs.System.Trace.Entry.{Accepted}
use Rattle.protocol.specs.Client.RightClient.{OpenCall}
use Rattle.protocol.specs.Space.Linear.{Placing}
use Rattle.points.specs.Places.{position_in}
use Rattle.points.specs.Scanning.{ClientScanData, EntryEndsRead, entry_read, read_at, read_number, scan_at, scan_data, read_by_scan}
use Rattle.points.specs.declared.levels.Rise.{Rise}
use Rattle.points.specs.declared.scans.OpenCall.{OpenCall as Called}
use Rattle.points.specs.declared.scans.ClientScan.{ClientScan}

abbrev pub call_data : Called → OpenCall
call_data x = record { timestamp = x.timestamp.0; op = operation_of x.op.now }

module _ (m : Membership) (at : ℕ → ℕ) (p t : ℕ) (answer : Outcome) where
  abbrev read_by : ℕ → Option Called → Option (Bor (List ℕ)) → Option Placing
  read_by invoked call got = read_by_scan m at p t answer (record { call = option_map call_data call; invoked = invoked; got = option_map (λ (x : Bor (List ℕ)). x.now) got })

  pub none_called : (s : ClientScan) → s.call ≡ None → None ≡ read_by_scan m at p t answer (scan_data s)
  none_called s e = sym (ap (λ (o : Option Called). read_by s.invoked o s.got) e)

  pub none_got : (s : ClientScan) → s.got ≡ None → None ≡ read_by_scan m at p t answer (scan_data s)
  none_got s e = go s.call ∙ sym (ap (λ (o : Option (Bor (List ℕ))). read_by s.invoked s.call o) e)
    where
      go : (o : Option Called) → None ≡ read_by s.invoked o None
      go None = refl
      go (Some x) = refl

  pub none_read : (s : ClientScan) (bytes : Bor (List ℕ)) → s.got ≡ Some bytes → None ≡ read_number m p t bytes.now → None ≡ read_by_scan m at p t answer (scan_data s)
  none_read s bytes e h = go s.call ∙ sym (ap (λ (o : Option (Bor (List ℕ))). read_by s.invoked s.call o) e)
    where
      go : (o : Option Called) → None ≡ read_by s.invoked o (Some bytes)
      go None = refl
      go (Some x) = ap (option_map (read_at at p answer s.invoked (call_data x))) h

  pub one_read : (s : ClientScan) (x : Called) (bytes : Bor (List ℕ)) (n : ℕ) (placing : Placing) → s.call ≡ Some x → s.got ≡ Some bytes → Some n ≡ read_number m p t bytes.now
      → placing ≡ read_at at p answer s.invoked (call_data x) n → Some placing ≡ read_by_scan m at p t answer (scan_data s)
  one_read s x bytes n placing call got h is =
      ap (λ (y : Placing). let o : Option Placing = Some y in o) is
      ∙ ap (option_map (read_at at p answer s.invoked (call_data x))) h
      ∙ sym (ap (λ (o : Option (Bor (List ℕ))). read_by s.invoked (Some x) o) got)
      ∙ sym (ap (λ (o : Option Called). read_by s.invoked o s.got) call)

abbrev pub placing_at : ℕ → ℕ → ℕ → Operation → Outcome → ℕ → Placing
placing_at p t n op answer position =
    record { item = record { client = p; timestamp = t; op = op; answer = answer; position = position }; number = n; mode = modes.ReadOnly }

pub same_placing : (p t n : ℕ) (o o' : Operation) (a a' : Outcome) (i j : ℕ) → o ≡ o' → a ≡ a' → i ≡ j → placing_at p t n o a i ≡ placing_at p t n o' a' j
same_placing p t n o o' a a' i j e f g =
    ap (λ (x : Operation). placing_at p t n x a i) e ∙ ap (λ (x : Outcome). placing_at p t n o' x i) f ∙ ap (placing_at p t n o' a') g

-- an entry that is this acceptance
pub ended : (m : Membership) (found : List Rise) (scans : List (ℕ × ClientScan)) (e : Entry) (client t : ℕ) (a : Outcome) (s : ClientScanData) (read : Option Placing)
    → Accepted client t a ≡ e → s ≡ scan_at scans client → read ≡ read_by_scan m (position_in found) (256 + client) t a s → EntryEndsRead m found scans e read
ended m found scans e client t a s read is own h past scans_are =
    h ∙ ap (read_by_scan m (position_in found) (256 + client) t a) (own ∙ scans_are client) ∙ ap (entry_read m (position_in found) past) is
