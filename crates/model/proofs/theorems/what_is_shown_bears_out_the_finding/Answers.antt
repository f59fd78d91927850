use Rattle.model.proofs.Circled.{awaited_shown}
use Rattle.model.proofs.Traces.{surrounded_shown, until_shown}
use Rattle.model.proofs.theorems.what_is_shown_bears_out_the_finding.Goals as goal

pub returns : goal.returns
returns c = record { surrounded = surrounded_shown; until = until_shown; every_future = awaited_shown }
