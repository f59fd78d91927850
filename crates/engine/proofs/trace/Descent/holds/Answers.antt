-- Each step leaves the rest of the trace to be tested.
use Rattle.std.proofs.Common.{◌≡◌, ℕ, suc, ◌-◌, is_some, sym, refl, ap, ◌∙◌, arith}
use Rattle.model.specs.Showing.{trace}
use Rattle.engine.specs.Exploring.{step_by, at}
use Rattle.engine.proofs.Tracing.{holds_on, breaks_off, ends}
use Rattle.engine.proofs.trace.Descent.holds.Goals as goal

pub loop-k-init : goal.loop-k-init
loop-k-init g c = refl

pub returns-in_default : goal.returns-in_default
returns-in_default g c =
    let f = c.args.self.now.floor.now in
    let r = c.args.self.now.rules.now in
    let k = c.loop-k.k in
    let e : k ≡ suc (k - 1) = omega arith in
    let step = step_by (g.R.Rules.leave r) (g.F.Floor.leads f) (g.R.Rules.enter r) in
    sym (c.loop-k.invariant ∙ breaks_off (g.F.Floor.points f) step (g.R.Rules.goal r) (at c.args.self.now.own.now) c.args.self.now.answer k (k - 1) c.loop-k.x c.word_of.result e c.word_of.ensures c.in_default.ensures)

pub loop-k-preserved : goal.loop-k-preserved
loop-k-preserved g c =
    let f = c.args.self.now.floor.now in
    let r = c.args.self.now.rules.now in
    let k = c.loop-k.k in
    let e : k ≡ suc (k - 1) = omega arith in
    let step = step_by (g.R.Rules.leave r) (g.F.Floor.leads f) (g.R.Rules.enter r) in
    c.loop-k.invariant ∙ holds_on (g.F.Floor.points f) step (g.R.Rules.goal r) (at c.args.self.now.own.now) c.args.self.now.answer k (k - 1) c.loop-k.x c.in-Some.y c.word_of.result e c.word_of.ensures c.in-Some.ensures

pub returns : goal.returns
returns g c =
    let f = c.args.self.now.floor.now in
    let r = c.args.self.now.rules.now in
    let e : c.loop-k.k ≡ 0 = omega arith in
    let step = step_by (g.R.Rules.leave r) (g.F.Floor.leads f) (g.R.Rules.enter r) in
    c.is_goal.ensures ∙ sym (ends (g.F.Floor.points f) step (g.R.Rules.goal r) (at c.args.self.now.own.now) c.args.self.now.answer c.loop-k.x)
    ∙ sym (ap (λ (k : ℕ). is_some (trace (g.F.Floor.points f) step (g.R.Rules.goal r) (at c.args.self.now.own.now) c.args.self.now.answer k c.loop-k.x)) e)
    ∙ sym c.loop-k.invariant
