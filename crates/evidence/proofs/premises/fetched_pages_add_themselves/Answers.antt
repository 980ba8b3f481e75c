use Rattle.evidence.proofs.Fetching
use Rattle.evidence.proofs.FetchingFrames
use Rattle.evidence.proofs.FetchingInstalls
use Rattle.evidence.proofs.FetchingTexts
use Rattle.evidence.proofs.premises.fetched_pages_add_themselves.Goals as goal

pub returns : goal.returns
returns c = record { frames = FetchingFrames.fetch_frames_exist; run = Fetching.fetching_is_run; taken = Fetching.fetched_are_taken; fetched = FetchingTexts.fetched_add_themselves; installed = FetchingInstalls.fetched_are_installed; pages = FetchingTexts.pages_add_themselves }
