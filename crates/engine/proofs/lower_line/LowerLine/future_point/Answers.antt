-- The settled waits, written as words.
use Rattle.std.proofs.Common.{◌≡◌, ℕ, ◌<◌, ◌≤◌, Bool, cond, length, get_or, subst, arith}
use Rattle.model.specs.Table.{awaited_word}
use Rattle.engine.specs.Filling.{Column, day_word, yes_at}
use Rattle.engine.specs.Settling.{awaited_in}
use Rattle.engine.proofs.Columned.{column_same}
use Rattle.engine.proofs.WaysFilled.{mark_awaited, waits_are}
use Rattle.engine.proofs.lower_line.LowerLine.future_point.Goals as goal

pub returns : goal.returns
returns g c =
    let s = c.args.self.now in
    let m = g.C.Floor.points c.args.calendar.now in
    let after = g.C.Floor.leads c.args.calendar.now in
    let n = s.points in
    let x = c.args.x in
    let marks = c.mark.new.waits in
    let waits = c.settle.new.waits in
    let left : ℕ → Bool = λ e. yes_at n s.words.now e x in
    let was : length c.args.waits.now ≡ m = omega arith in
    let is : length waits ≡ m = omega arith in
    let some : 1 ≤ m = g.met.C.Floor.some c.args.calendar.now in
    let same : (e : ℕ) → e < m → awaited_in marks e ≡ left e = λ e h.
    mark_awaited m (get_or marks e 0) (left e) some (subst (λ (k : ℕ). get_or marks e 0 ≡ cond (left e) 0 k) was (c.mark.ensures e (omega arith))) in
    column_same n m x (λ d. day_word m (get_or waits d 0)) (awaited_word m after left) c.args.line.now c.write_column.new.line
    (waits_are m after left (awaited_in marks) (λ d. get_or waits d 0) same c.settle.ensures)
    (subst (λ (k : ℕ). Column n k x (λ d. day_word k (get_or waits d 0)) c.args.line.now c.write_column.new.line) is c.write_column.ensures)
