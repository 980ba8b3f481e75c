-- The judgement of a frame by its header: its sender, and its authenticator.
use Rattle.std.specs.Prelude.{ℕ, Bool, ◌||◌, Option, Some, None, if◌then◌else◌}
use Rattle.wire_format.specs.Spelling.{authenticator_is_signed}
use Rattle.wire.specs.Headers.{HeaderData}
use Rattle.authenticator.specs.declared.sealed.OpenFault.{OpenFault}
use Rattle.authenticator.specs.declared.sealed.OpenFault.TheVariants as faults
use Rattle.authenticator.specs.Keys.{Keys, shared_mac}
use Rattle.authenticator.specs.Membership.{Membership, is_client, is_replica}
use Rattle.authenticator.specs.Authentic.{proves_some}

-- clients send requests, replicas all other messages
abbrev pub takes_part : Membership → ℕ → Bool → Bool
takes_part m sender is_request = if is_request then is_client m sender else is_replica m sender

-- the authenticator has the right entry for the party, or is a signature
abbrev pub is_authenticated : Keys → ℕ → HeaderData → Bool
is_authenticated keys party h =
    authenticator_is_signed h.authenticator
    || proves_some party (shared_mac keys h.sender party h.text) h.authenticator

-- why the party refuses a frame of this header, if it does
abbrev pub header_refusal : Membership → ℕ → HeaderData → Option OpenFault
header_refusal m party h =
    if takes_part m h.sender h.is_request
    then (if is_authenticated m.keys party h then None else Some faults.BadMac)
    else Some faults.UnknownSender
