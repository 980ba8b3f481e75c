-- A correct client.
pub mod RightClient
