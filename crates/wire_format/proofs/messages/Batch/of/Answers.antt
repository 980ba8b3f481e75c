use Rattle.std.proofs.Common.{List, ℕ, ◌++◌, map, length, ◌≤◌, ap, ◌∙◌}
use Rattle.std.proofs.lemmas.List.{length-map}
use Rattle.wire_format.specs.Spelling.{pieces_spelling}
use Rattle.wire_format.specs.Words.{requests_of}
use Rattle.wire_format.proofs.Telling.{reads_requests}
use Rattle.wire_format.proofs.messages.Batch.of.Goals as goal

pub returns-clause-requests : goal.returns-clause-requests
returns-clause-requests c =
    let frames : List (List ℕ) = map (λ f. f.items) c.args.frames.now in
    let few : length frames ≤ 16 = simp length-map c.requires.few in
    ap requests_of (c.in_ok-put_frames.ensures ∙ ap (λ (x : List ℕ). x ++ pieces_spelling frames) c.in_ok-text.ensures.items) ∙ reads_requests frames few c.requires.each
