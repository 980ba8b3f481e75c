use Rattle.wire_format.specs.Spelling.{body_spelling}
use Rattle.authenticator.proofs.Entries.{shared-have}
use Rattle.authenticator.proofs.laws.sealed_frames_open.Goals as goal

pub returns-clause-authentic : goal.returns-clause-authentic
returns-clause-authentic c = λ keys others body parties party among share.
    shared-have keys others body.sender (body_spelling body) parties party among share

pub returns-clause-opens : goal.returns-clause-opens
returns-clause-opens c = λ m keys body parties party bytes spelled known among share. record {
  spelled = spelled;
  sender = known;
  proved = shared-have keys m.keys body.sender (body_spelling body) parties party among share;
}
