-- Each turn writes one point and goes on to the next.
use Rattle.std.proofs.Common.{◌≡◌, ℕ, suc, ◌+◌, ◌-◌, set, sym, ap, ◌∙◌, arith}
use Rattle.std.proofs.lemmas.Bool.{both_ways}
use Rattle.model.specs.Table.{word}
use Rattle.engine.specs.Exploring.{step_by, at}
use Rattle.engine.proofs.Tracing.{breaks_off, to_come_all, to_come_less, to_come_last}
use Rattle.engine.proofs.trace.Descent.write.Goals as goal

pub loop-i-init : goal.loop-i-init
loop-i-init g c =
    let f = c.args.self.now.floor.now in
    let r = c.args.self.now.rules.now in
    let step = step_by (g.R.Rules.leave r) (g.F.Floor.leads f) (g.R.Rules.enter r) in
    to_come_all (g.F.Floor.points f) step (g.R.Rules.goal r) (at c.args.self.now.own.now) c.args.self.now.answer c.args.steps c.args.start c.args.strip.now (omega arith) c.requires.found

pub returns-in_default : goal.returns-in_default
returns-in_default g c =
    let f = c.args.self.now.floor.now in
    let r = c.args.self.now.rules.now in
    let l = c.loop-i in
    let step = step_by (g.R.Rules.leave r) (g.F.Floor.leads f) (g.R.Rules.enter r) in
    let k = c.args.steps - l.i in
    let e : k ≡ suc (c.args.steps - 1 - l.i) = omega arith in
    absurd (both_ways _ (breaks_off (g.F.Floor.points f) step (g.R.Rules.goal r) (at c.args.self.now.own.now) c.args.self.now.answer k (c.args.steps - 1 - l.i) l.x c.word_of.result e c.word_of.ensures c.in_default.ensures) l.invariant.found)

pub loop-i-preserved : goal.loop-i-preserved
loop-i-preserved g c =
    let f = c.args.self.now.floor.now in
    let r = c.args.self.now.rules.now in
    let l = c.loop-i in
    let step = step_by (g.R.Rules.leave r) (g.F.Floor.leads f) (g.R.Rules.enter r) in
    let k = c.args.steps - l.i in
    let j = c.args.steps - (l.i + 1) in
    let e : k ≡ suc j = omega arith in
    let same : c.args.steps - 1 - l.i ≡ j = omega arith in
    to_come_less (g.F.Floor.points f) step (g.R.Rules.goal r) (at c.args.self.now.own.now) c.args.self.now.answer k j l.x c.in-Some.y c.word_of.result l.i _ l.strip e (c.word_of.ensures ∙ ap (λ (i : ℕ). word c.args.self.now.answer i) same) c.in-Some.ensures (omega arith) l.invariant

pub returns : goal.returns
returns g c =
    let f = c.args.self.now.floor.now in
    let r = c.args.self.now.rules.now in
    let l = c.loop-i in
    let step = step_by (g.R.Rules.leave r) (g.F.Floor.leads f) (g.R.Rules.enter r) in
    let all : l.i ≡ c.args.steps = omega arith in
    let none : c.args.steps - l.i ≡ 0 = omega arith in
    ap (λ (i : ℕ). set l.strip i l.x) (sym all)
    ∙ to_come_last (g.F.Floor.points f) step (g.R.Rules.goal r) (at c.args.self.now.own.now) c.args.self.now.answer (c.args.steps - l.i) l.x l.i _ l.strip none (omega arith) l.invariant
