-- The words at one point are the book's.
use Rattle.std.proofs.Common.{ℕ, List, Option, subst}
use Rattle.model.specs.Books.{finding_in}
use Rattle.engine.specs.Exploring.{at}
use Rattle.engine.specs.Strips.{Put}
use Rattle.engine.proofs.KindsShown.{round_same}
use Rattle.engine.proofs.kinds_shown.Entry.show_future.Goals as goal

pub returns : goal.returns
returns g c =
    let s = c.args.self.now in
    let m = g.C.Floor.points s.calendar.now in
    let column : ℕ → ℕ → ℕ = λ l e. finding_in s.findings.now (g.F.Floor.points s.floor.now) m l e s.at.point in
    let same = round_same m (g.C.Floor.leads s.calendar.now) (at c.point_words-own.result) (at c.point_words-left_words.result) (column s.at.line) (column c.args.left)
    c.point_words-own.ensures c.point_words-left_words.ensures s.at.day s.day in
    subst (λ (o : Option (List ℕ)). Put o c.args.strip.now c.show_circle.new.strip c.show_circle.result) same c.show_circle.ensures
