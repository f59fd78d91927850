use Rattle.std.proofs.Common.{◌≡◌, None}
use Rattle.model.specs.Refusals.{lines_refusal}
use Rattle.model.proofs.checks.check_lines.Given as goal

-- the first i lines are lawful
abbrev pub invariant-loop-i : goal.invariant-loop-i
invariant-loop-i l = lines_refusal l.lines l.i ≡ None
