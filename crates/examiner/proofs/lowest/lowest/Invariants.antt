use Rattle.std.proofs.Common.{◌≡◌, ◌≤◌, ◌&&◌}
use Rattle.model.specs.Numbers.{lowest}
use Rattle.examiner.proofs.lowest.lowest.Given as goal

-- the lowest number of the points that have been gone through
abbrev pub invariant-loop-k : goal.invariant-loop-k
invariant-loop-k g l =
    (g.F.Floor.points l.k-iterator.floor.now ≡ g.F.Floor.points l.floor)
    × (g.F.Floor.leads l.k-iterator.floor.now l.k-iterator.point ≡ g.F.Floor.leads l.floor l.p)
    × (l.k-iterator.from ≤ g.F.Floor.points l.floor)
    × (l.best ≡ lowest l.k-iterator.from (λ k. g.F.Floor.leads l.floor l.p k && g.C.Candidates.counts l.candidates k) (g.C.Candidates.number l.candidates))
