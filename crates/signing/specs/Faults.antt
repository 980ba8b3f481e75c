-- The refusals of judging and of opening, as reasons why a frame isn't authentic.
use Rattle.wire_format.specs.declared.fault.NoFrame.{NoFrame}
use Rattle.wire_format.specs.declared.fault.NoFrame.TheVariants as no_frame
use Rattle.authenticator.specs.declared.sealed.OpenFault.{OpenFault}
use Rattle.authenticator.specs.declared.sealed.OpenFault.TheVariants as open_faults
use Rattle.signing.specs.declared.authentication_fault.AuthenticationFault.{AuthenticationFault}
use Rattle.signing.specs.declared.authentication_fault.AuthenticationFault.TheVariants as faults

abbrev pub authentication_fault : OpenFault → AuthenticationFault
authentication_fault open_faults.TooLarge = faults.TooLarge
authentication_fault open_faults.Malformed = faults.Malformed
authentication_fault open_faults.UnknownSender = faults.UnknownSender
authentication_fault open_faults.BadMac = faults.BadMac
authentication_fault open_faults.NoMemory = faults.NoMemory

abbrev pub frame_fault : NoFrame → AuthenticationFault
frame_fault no_frame.TooLarge = faults.TooLarge
frame_fault no_frame.Malformed = faults.Malformed
