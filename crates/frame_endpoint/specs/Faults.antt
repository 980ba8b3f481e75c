-- The faults of signing as those of sending.
use Rattle.signing.specs.declared.signer.SignFault.{SignFault}
use Rattle.signing.specs.declared.signer.SignFault.TheVariants as sign_faults
use Rattle.frame_endpoint.specs.declared.send_fault.SendFault.{SendFault}
use Rattle.frame_endpoint.specs.declared.send_fault.SendFault.TheVariants as faults

abbrev pub fault_of_signing : SignFault → SendFault
fault_of_signing sign_faults.KeysSpent = faults.KeysSpent
fault_of_signing sign_faults.NoMemory = faults.NoMemory
