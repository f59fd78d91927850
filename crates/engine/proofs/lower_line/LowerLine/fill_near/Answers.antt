-- One day more.
use Rattle.std.proofs.Common.{◌≡◌, length, ap, ◌∙◌, arith}
use Rattle.model.specs.Table.{says_yes, near_word, Plane}
use Rattle.engine.specs.Filling.{yes_at}
use Rattle.engine.proofs.Filled.{day_fits, row_more}
use Rattle.engine.proofs.Nearness.{near_same}
use Rattle.engine.proofs.lower_line.LowerLine.fill_near.Goals as goal

pub loop-d-preserved : goal.loop-d-preserved
loop-d-preserved g c =
    let s = c.args.self.now in
    let n = s.points in
    let m = g.F.Floor.points c.args.floor.now in
    let leads = g.F.Floor.leads c.args.floor.now in
    let d = c.loop-d.d in
    let fits = day_fits d s.days n c.loop-d-test.true in
    let row = c.near_day.new.line in
    let wide : length row ≡ n = omega arith in
    let plane : Plane = λ e. near_word m leads (yes_at n s.words.now e) in
    row_more d n plane c.loop-d.line row (omega arith) wide
    (λ x h. c.near_day.ensures x (omega arith) ∙ near_same m leads _ _ (λ y l. ap says_yes (c.day.ensures.words y (omega arith))) x (omega arith))
    c.loop-d.invariant
