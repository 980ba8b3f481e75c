-- The holder of the seed finds the number of a read in the bytes that a client got, as the client does: a reply is a
-- replica's, and each client has a key of each replica.
use Rattle.std.proofs.Common.{◌≡◌, ℕ, ◌+◌, ◌*◌, ◌==◌, Bool, true, false, cond, ◌&&◌, ◌||◌, nat_lt, List, Option, Some, None, refl, sym, ap, ap₂, ◌∙◌}
use Rattle.std.specs.Prelude.{not, option_and_then, option_map}
use Rattle.wire_format.specs.Messages.{AuthenticatorData, BodyData, FrameData, MessageData, reply}
use Rattle.wire_format.specs.Spelling.{body_spelling}
use Rattle.wire_format.specs.Words.{frame_of}
use Rattle.authenticator.specs.Authentic.{is_authentic, proves_some}
use Rattle.authenticator.specs.Keys.{dealt, find_key}
use Rattle.authenticator.specs.Laws.{is_among_clients}
use Rattle.authenticator.specs.Mac.{hmac_of}
use Rattle.authenticator.proofs.Dealing.{finds_to}
use Rattle.signing.specs.AuthenticBody.{authentic, is_authentic_to}
use Rattle.protocol.specs.System.Configuration.{Configuration, members}
use Rattle.points.specs.Scanning.{number_in, read_number, seed_holder}

module _ (c : Configuration) (p t : ℕ) where
  abbrev number_if : Bool → BodyData → Option ℕ
  number_if b said = option_and_then (number_in p t) (cond b (Some said) None)

  abbrev is_reply : MessageData → Bool
  is_reply (reply client timestamp kind number outcome) = true
  is_reply _ = false

  -- other messages have no number
  none_in : (s : ℕ) (x : MessageData) (b : Bool) → is_reply x ≡ false → number_if b (record { sender = s; message = x }) ≡ None
  none_in s (reply client timestamp kind number outcome) b other = absurd cc
  none_in s _ true other = refl
  none_in s _ false other = refl

  both : (a b x y : Bool) → (a ≡ true → b ≡ true → x ≡ y) → ((a && b) && x) ≡ ((a && b) && y)
  both true true x y same = same refl refl
  both true false x y same = refl
  both false b x y same = refl

  -- the client has the key of a replica that is another party
  same_key : (s : ℕ) → nat_lt s (3 * c.faults + 1) ≡ true → not (s == p) ≡ true → find_key (members c p).keys s p ≡ find_key (dealt c.seed) s p
  same_key s replica other =
      finds_to c.seed c.faults c.clients p s
      (ap₂ (λ (a b : Bool). (a && b) || (nat_lt p 256 && is_among_clients c.clients s)) other replica)

  same_proof : (s : ℕ) (x : MessageData) (a : AuthenticatorData) → nat_lt s (3 * c.faults + 1) ≡ true → not (s == p) ≡ true
      → is_authentic (members c p).keys p (record { body = record { sender = s; message = x }; authenticator = a })
      ≡ is_authentic (dealt c.seed) p (record { body = record { sender = s; message = x }; authenticator = a })
  same_proof s x a replica other =
      ap (λ (key : Option (List ℕ)). proves_some p (option_map (λ k. hmac_of k (body_spelling (record { sender = s; message = x }))) key) a) (same_key s replica other)

  same_of : (s : ℕ) (x : MessageData) (a : AuthenticatorData)
      → number_if (is_authentic_to (members c p) p (record { body = record { sender = s; message = x }; authenticator = a })) (record { sender = s; message = x })
      ≡ number_if (is_authentic_to (seed_holder c) p (record { body = record { sender = s; message = x }; authenticator = a })) (record { sender = s; message = x })
  same_of s (reply client timestamp kind number outcome) a =
      ap (λ (b : Bool). number_if b (record { sender = s; message = reply client timestamp kind number outcome }))
      (both (nat_lt s (3 * c.faults + 1)) (not (s == p)) _ _ (same_proof s (reply client timestamp kind number outcome) a))
  same_of s x a = none_in s x _ refl ∙ sym (none_in s x _ refl)

  pub same_judgement : (bytes : List ℕ) → read_number (members c p) p t bytes ≡ read_number (seed_holder c) p t bytes
  unfolding authentic
  same_judgement bytes = go (frame_of bytes)
    where
      go : (o : Option FrameData)
          → option_and_then (number_in p t) (option_and_then (λ (f : FrameData). cond (is_authentic_to (members c p) p f) (Some f.body) None) o)
          ≡ option_and_then (number_in p t) (option_and_then (λ (f : FrameData). cond (is_authentic_to (seed_holder c) p f) (Some f.body) None) o)
      go None = refl
      go (Some f) = same_of f.body.sender f.body.message f.authenticator
