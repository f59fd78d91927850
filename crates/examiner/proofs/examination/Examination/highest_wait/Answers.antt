-- The next days are gone through from the least on.
use Rattle.std.proofs.Common.{◌≡◌, ℕ, max, Bool, true, false, Some, sym, ap, ◌∙◌, ap₂, arith}
use Rattle.std.proofs.lemmas.Bool.{eq-eqb, ne_eqb}
use Rattle.model.specs.Table.{says_yes, number}
use Rattle.model.proofs.Numbers.{highest_over}
use Rattle.examiner.specs.Read.{words_of}
use Rattle.examiner.proofs.Neighbours.{next_met, none_left, all_met, one_met, highest_more, waits_met, waits_fail}
use Rattle.examiner.proofs.examination.Examination.highest_wait.Goals as goal

pub returns-then-word-eq0 : goal.returns-then-word-eq0
returns-then-word-eq0 g c =
    let m = c.args.self.now.findings.numbers.days in
    let row : ℕ → Bool = g.C.Floor.leads c.args.self.now.calendar.now c.args.own.day in
    let own : ℕ → ℕ = λ e. words_of c.args.self.now.findings c.args.own.line e c.args.own.point in
    let e = next_met (λ s. g.C.Floor.points s.floor.now) (λ s. g.C.Floor.leads s.floor.now s.point) (λ s. s.from) m row c.loop-e.e-iterator c.next.new.self c.in-Some.e c.in-Some.ensures.steps c.loop-e.invariant.0 c.loop-e.invariant.1 in
    let is : c.word-word.result ≡ own c.in-Some.e = c.word-word.ensures ∙ ap (λ words. words c.in-Some.e) c.point_words-words.ensures in
    let fails : says_yes (own c.in-Some.e) ≡ false = sym (ap says_yes is) ∙ ne_eqb _ 1 (omega arith) in
    waits_fail m row (λ e. says_yes (own e)) (λ e. number (own e)) c.in-Some.e e.4 e.5 fails

pub loop-e-preserved : goal.loop-e-preserved
loop-e-preserved g c =
    let m = c.args.self.now.findings.numbers.days in
    let row : ℕ → Bool = g.C.Floor.leads c.args.self.now.calendar.now c.args.own.day in
    let own : ℕ → ℕ = λ e. words_of c.args.self.now.findings c.args.own.line e c.args.own.point in
    let from = c.loop-e.e-iterator.from in
    let next = next_met (λ s. g.C.Floor.points s.floor.now) (λ s. g.C.Floor.leads s.floor.now s.point) (λ s. s.from) m row c.loop-e.e-iterator c.next.new.self c.in-Some.e c.in-Some.ensures.steps c.loop-e.invariant.0 c.loop-e.invariant.1 in
    let is : c.word-word.result ≡ own c.in-Some.e = c.word-word.ensures ∙ ap (λ words. words c.in-Some.e) c.point_words-words.ensures in
    let passes : says_yes (own c.in-Some.e) ≡ true = sym (ap says_yes is) ∙ eq-eqb _ 1 (omega arith) in (
      next.0,
      next.1,
      omega (arith, next.2, next.4),
      c.max-highest.ensures ∙ ap₂ max c.loop-e.invariant.3 (ap number is) ∙ sym (rw next.2 (highest_more row (λ e. number (own e)) from c.in-Some.e next.3 next.5 next.6)),
      rw next.2 (one_met row (λ e. says_yes (own e) ≡ true) from c.in-Some.e c.loop-e.invariant.4 next.6 passes),
    )

pub returns : goal.returns
returns g c =
    let m = c.args.self.now.findings.numbers.days in
    let row : ℕ → Bool = g.C.Floor.leads c.args.self.now.calendar.now c.args.own.day in
    let own : ℕ → ℕ = λ e. words_of c.args.self.now.findings c.args.own.line e c.args.own.point in
    let from = c.loop-e.e-iterator.from in
    let rest = none_left (λ s. g.C.Floor.points s.floor.now) (λ s. g.C.Floor.leads s.floor.now s.point) (λ s. s.from) m row c.loop-e.e-iterator c.next.new.self c.in-None.ensures.steps c.loop-e.invariant.0 c.loop-e.invariant.1 in
    ap Some (c.loop-e.invariant.3 ∙ sym (highest_over from m row (λ e. number (own e)) c.loop-e.invariant.2 rest))
    ∙ waits_met m row (λ e. says_yes (own e)) (λ e. number (own e)) (all_met m row (λ e. says_yes (own e) ≡ true) from c.loop-e.invariant.4 rest)
