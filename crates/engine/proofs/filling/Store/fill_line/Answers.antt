-- Each kind is filled in by its own function, and what that makes is what the table has of the kind.
use Rattle.std.proofs.Common.{◌∙◌, arith}
use Rattle.engine.proofs.LineWords.{not_words, or_words, near_words, surrounded_words, next_words, until_words, awaited_words}
use Rattle.engine.proofs.filling.Store.fill_line.Goals as goal

pub returns-in-Not : goal.returns-in-Not
returns-in-Not g c = rw c.in-Not.is (λ k h. c.fill_not.ensures k h ∙ not_words _ _ (g.met.F.Floor.some c.args.self.now.floor.now) c.args.below.now k (omega arith) c.args.line.left _ c.lower.ensures.words)

pub returns-in-Or : goal.returns-in-Or
returns-in-Or g c = rw c.in-Or.is (λ k h. c.fill_or.ensures k h ∙ or_words _ _ (g.met.F.Floor.some c.args.self.now.floor.now) c.args.below.now k (omega arith) c.args.line.left _ c.lower-left.ensures.words c.args.line.right _ c.lower-right.ensures.words)

pub returns-in-Near : goal.returns-in-Near
returns-in-Near g c = rw c.in-Near.is (λ k h. (rw c.lower-in-Near.ensures.within.0 at c.fill_near.ensures) k h ∙ near_words _ _ (g.met.F.Floor.some c.args.self.now.floor.now) c.args.below.now k (omega arith) c.args.line.left _ c.lower-in-Near.ensures.words (g.F.Floor.leads c.args.self.now.floor.now))

pub returns-in-Surrounded : goal.returns-in-Surrounded
returns-in-Surrounded g c = rw c.in-Surrounded.is (λ k h. (rw c.lower-left-in-Surrounded.ensures.within.0 at c.fill_surrounded.ensures) k h ∙ surrounded_words _ _ (g.met.F.Floor.some c.args.self.now.floor.now) c.args.below.now k (omega arith) c.args.line.left _ c.lower-left-in-Surrounded.ensures.words c.args.line.right _ c.lower-right-in-Surrounded.ensures.words (g.F.Floor.leads c.args.self.now.floor.now))

pub returns-in-Next : goal.returns-in-Next
returns-in-Next g c = rw c.in-Next.is (λ k h. (rw c.lower-in-Next.ensures.within.0 at c.fill_next.ensures) k h ∙ next_words _ _ (g.met.F.Floor.some c.args.self.now.floor.now) c.args.below.now k (omega arith) c.args.line.left _ c.lower-in-Next.ensures.words (g.C.Floor.leads c.args.self.now.calendar.now))

pub returns-in-Until : goal.returns-in-Until
returns-in-Until g c = rw c.in-Until.is (λ k h. (rw c.lower-left-in-Until.ensures.within.0 at c.fill_until.ensures) k h ∙ until_words _ _ (g.met.F.Floor.some c.args.self.now.floor.now) c.args.below.now k (omega arith) c.args.line.left _ c.lower-left-in-Until.ensures.words c.args.line.right _ c.lower-right-in-Until.ensures.words (g.C.Floor.leads c.args.self.now.calendar.now))

pub returns-in-Awaited : goal.returns-in-Awaited
returns-in-Awaited g c = rw c.in-Awaited.is (λ k h. (rw c.lower-in-Awaited.ensures.within.0 at c.fill_future.ensures) k h ∙ awaited_words _ _ (g.met.F.Floor.some c.args.self.now.floor.now) c.args.below.now k (omega arith) c.args.line.left _ c.lower-in-Awaited.ensures.words (g.C.Floor.leads c.args.self.now.calendar.now))
