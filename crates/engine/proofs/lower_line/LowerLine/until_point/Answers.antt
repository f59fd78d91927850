-- The exploration's steps, written as words.
use Rattle.std.proofs.Common.{◌≡◌, ℕ, ◌<◌, ◌≤◌, Bool, length, get_or, take, ap, ◌∙◌, subst, ⊎_elim, arith}
use Rattle.std.proofs.lemmas.Bool.{cases_lt}
use Rattle.std.proofs.lemmas.List.{get_or-take, length-take}
use Rattle.model.specs.Masks.{bit}
use Rattle.model.specs.Table.{until_word}
use Rattle.model.proofs.Masks.{bit_none}
use Rattle.engine.specs.Filling.{Column, day_word, yes_at}
use Rattle.engine.proofs.Columned.{column_same}
use Rattle.engine.proofs.WaysFilled.{days_are, days_without}
use Rattle.engine.proofs.lower_line.LowerLine.until_point.Goals as goal

pub returns : goal.returns
returns g c =
    let s = c.args.self.now in
    let m = g.C.Floor.points c.args.calendar.now in
    let after = g.C.Floor.leads c.args.calendar.now in
    let n = s.points in
    let x = c.args.x in
    let steps = c.explore.new.room.steps in
    let days = take c.count-days.result steps in
    let size : length days ≡ m = omega (arith, length-take c.count-days.result steps) in
    let left : ℕ → Bool = λ e. yes_at n s.words.now e x in
    let right : ℕ → Bool = λ e. yes_at n c.args.right.now.words.now e x in
    let l = c.answers_until-left.result in
    let r = c.answers-right.result in
    let same_right : (e : ℕ) → e < m → bit r e ≡ right e = λ e h. (rw c.requires.same.0 at c.answers-right.ensures) e (omega arith) in
    let words : (d : ℕ) → d < m → day_word m (get_or steps d 0) ≡ until_word m after left right d =
    ⊎_elim
    (λ (none : r < 1). let z : r ≡ 0 = omega arith in days_without m after left right (bit l) (bit r) (λ d. get_or steps d 0) (λ e h. ap (λ w. bit w e) z ∙ bit_none e) same_right c.explore.ensures.shortest)
    (λ (some : 1 ≤ r). days_are m after left right (bit l) (bit r) (λ d. get_or steps d 0) (λ e h. c.answers_until-left.ensures some e (omega arith)) same_right c.explore.ensures.shortest)
    (cases_lt r 1) in
    column_same n m x (λ d. day_word m (get_or days d 0)) (until_word m after left right) c.args.line.now c.write_column.new.line
    (λ d h. ap (day_word m) (get_or-take c.count-days.result steps d 0 (omega arith)) ∙ words d h)
    (subst (λ (k : ℕ). Column n k x (λ d. day_word k (get_or days d 0)) c.args.line.now c.write_column.new.line) size c.write_column.ensures)
