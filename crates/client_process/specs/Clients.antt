-- The life of a client's process. It begins above the timestamp start; the first one may begin above 0.
use Rattle.std.specs.Prelude.{◌≡◌, ℕ, false, List, []}
use Rattle.protocol.specs.System.Configuration.{Configuration}
use Rattle.protocol.specs.System.Trace.{Entry}
use Rattle.protocol.specs.Client.RightClient.{reaction, Reacts}
use Rattle.client_cert.specs.State.{ClientState}
use Rattle.client_cert.specs.Fits.{FitsLife}

-- The history is one life of a correct client, which has not stopped: the outputs of each event, to the end of it, are
-- its reaction's. Above 0 it is that of a client with one life (`IsPromptClient`).
abbrev pub IsPromptLife : Configuration → ℕ → ℕ → List Entry → Type 0
IsPromptLife c me start history = Reacts c me start (reaction c me) [] history

-- A client that has not stopped fits the history of its life.
pub record FitsRunning (c : Configuration) (start : ℕ) (client : ClientState) (history : List Entry) : Type 0 where
  pub fits : FitsLife c start client history
  pub runs : client.stopped ≡ false
