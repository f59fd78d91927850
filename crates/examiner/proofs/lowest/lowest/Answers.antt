-- The points to which p leads are gone through from the least on.
use Rattle.std.proofs.Common.{ℕ, Bool, sym, ◌∙◌, ap₂, arith}
use Rattle.std.proofs.lemmas.Bool.{and_left}
use Rattle.model.specs.Numbers.{lower_of}
use Rattle.examiner.proofs.Neighbours.{next_met, none_left, lowest_more, lowest_over}
use Rattle.examiner.proofs.lowest.lowest.Goals as goal

pub loop-k-preserved : goal.loop-k-preserved
loop-k-preserved g c =
    let n = g.F.Floor.points c.args.floor.now in
    let row : ℕ → Bool = g.F.Floor.leads c.args.floor.now c.args.p in
    let counts : ℕ → Bool = g.C.Candidates.counts c.args.candidates.now in
    let number : ℕ → ℕ = g.C.Candidates.number c.args.candidates.now in
    let from = c.loop-k.k-iterator.from in
    let m = next_met (λ s. g.F.Floor.points s.floor.now) (λ s. g.F.Floor.leads s.floor.now s.point) (λ s. s.from) n row c.loop-k.k-iterator c.next.new.self c.in-Some.k c.in-Some.ensures.steps c.loop-k.invariant.0 c.loop-k.invariant.1 in
    (m.0, m.1, omega (arith, m.2, m.4), c.lower-best.ensures ∙ ap₂ lower_of c.loop-k.invariant.3 c.number_of.ensures ∙ sym (rw m.2 (lowest_more row counts number from c.in-Some.k m.3 m.5 m.6)))

pub returns : goal.returns
returns g c =
    let n = g.F.Floor.points c.args.floor.now in
    let row : ℕ → Bool = g.F.Floor.leads c.args.floor.now c.args.p in
    let counts : ℕ → Bool = g.C.Candidates.counts c.args.candidates.now in
    let number : ℕ → ℕ = g.C.Candidates.number c.args.candidates.now in
    let none = none_left (λ s. g.F.Floor.points s.floor.now) (λ s. g.F.Floor.leads s.floor.now s.point) (λ s. s.from) n row c.loop-k.k-iterator c.next.new.self c.in-None.ensures.steps c.loop-k.invariant.0 c.loop-k.invariant.1 in
    c.loop-k.invariant.3 ∙ sym (lowest_over c.loop-k.k-iterator.from n _ number c.loop-k.invariant.2 (λ k h l. and_left (row k) (counts k) (none k h l)))
