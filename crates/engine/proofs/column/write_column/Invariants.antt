use Rattle.std.proofs.Common.{get_or}
use Rattle.engine.specs.Filling.{Column, day_word}
use Rattle.engine.proofs.column.write_column.Given as goal

-- the words of the days before d are written
abbrev pub invariant-loop-d : goal.invariant-loop-d
invariant-loop-d l = Column l.points l.d l.x (λ e. day_word l.days (get_or l.steps e 0)) l.initial.line l.line
