-- The refusals of the frame's grammar, as refusals of opening.
use Rattle.wire_format.specs.declared.fault.NoFrame.{NoFrame}
use Rattle.wire_format.specs.declared.fault.NoFrame.TheVariants as no_frame
use Rattle.authenticator.specs.declared.sealed.OpenFault.{OpenFault}
use Rattle.authenticator.specs.declared.sealed.OpenFault.TheVariants as faults

abbrev pub open_fault : NoFrame → OpenFault
open_fault no_frame.TooLarge = faults.TooLarge
open_fault no_frame.Malformed = faults.Malformed
