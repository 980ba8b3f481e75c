use Rattle.replica.proofs.Prompt.{desks_are_prompt, replicas_are_prompt}
use Rattle.replica.proofs.parted_laws.running_replicas_are_prompt.Goals as goal

pub returns : goal.returns
returns c = record { desks = desks_are_prompt; replicas = replicas_are_prompt }
