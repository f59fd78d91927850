-- The value that is set is whether the level is reached.
use Rattle.std.proofs.Common.{◌≡◌, Bool, Some, None, Ok, Option, subst, w32, SFits}
use Rattle.std.proofs.lemmas.Int.{to_z-of_z}
use Rattle.model.specs.declared.refusal.Refusal.{Refusal}
use Rattle.model.specs.Calls.{answer, SetsOneReading}
use Rattle.engine.proofs.survey.Open.gauge.Goals as goal

granted : (o : Option Refusal) (v w : Bool) → Ok v ≡ answer o w → v ≡ w
granted None v w e = cc
granted (Some why) v w e = cc

pub returns-clause-reading : goal.returns-clause-reading
returns-clause-reading c =
    let a = c.args in
    let n = a.self.now.numbers in
    let t : SFits w32 a.tenths = c.ranges.tenths in
    let l : SFits w32 a.level = c.ranges.level in
    let scale = simp to_z-of_z at c.in_ok-reached.ensures in
    subst (λ (v : Bool). SetsOneReading n.points n.days a.day a.point a.atom v a.readings.now c.set_reading.new.readings) (granted _ _ _ scale) c.set_reading.ensures.reading
