-- The words and the answers at one point are the book's.
use Rattle.std.proofs.Common.{ℕ, Bool, List, Option, subst}
use Rattle.model.specs.Books.{finding_in}
use Rattle.model.specs.Masks.{bit}
use Rattle.model.specs.Table.{says_yes}
use Rattle.engine.specs.Exploring.{at}
use Rattle.engine.specs.Strips.{Put}
use Rattle.engine.proofs.KindsShown.{days_same}
use Rattle.engine.proofs.kinds_shown.Entry.show_until.Goals as goal

pub returns : goal.returns
returns g c =
    let s = c.args.self.now in
    let m = g.C.Floor.points s.calendar.now in
    let column : ℕ → ℕ → ℕ = λ l e. finding_in s.findings.now (g.F.Floor.points s.floor.now) m l e s.at.point in
    let answer : ℕ → ℕ → Bool = λ l e. says_yes (column l e) in
    let same = days_same m (g.C.Floor.leads s.calendar.now) (bit c.point_answers-left.result) (bit c.point_answers-right.result) (answer c.args.left) (answer c.args.right) (at c.point_words.result) (column s.at.line)
    c.point_answers-left.ensures c.point_answers-right.ensures c.point_words.ensures s.at.day s.day in
    subst (λ (o : Option (List ℕ)). Put o c.args.strip.now c.show.new.strip c.show.result) same c.show.ensures
