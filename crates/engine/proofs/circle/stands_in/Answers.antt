use Rattle.std.proofs.Common.{◌∙◌, eqb, rules}
use Rattle.std.proofs.lemmas.Iterator.{YieldsList-from_slice}
use Rattle.std.proofs.lemmas.Iterator.Search.{any_from_yields_List}
use Rattle.engine.proofs.Circling.{stands_any}
use Rattle.engine.proofs.circle.stands_in.Goals as goal

pub returns : goal.returns
returns c =
    any_from_yields_List (λ e. eqb e c.args.d) c.any.new.self _ _ c.any.ensures.ran (YieldsList-from_slice c.args.days.now (search rules)) (λ x b q h. search rules)
    ∙ stands_any c.args.d c.args.days.now
