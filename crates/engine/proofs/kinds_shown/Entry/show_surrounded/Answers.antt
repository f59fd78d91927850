-- The words of one day are the book's.
use Rattle.std.proofs.Common.{ℕ, List, Option, subst}
use Rattle.model.specs.Books.{finding_in}
use Rattle.engine.specs.Exploring.{at}
use Rattle.engine.specs.Strips.{Put}
use Rattle.engine.proofs.KindsShown.{way_same}
use Rattle.engine.proofs.kinds_shown.Entry.show_surrounded.Goals as goal

pub returns : goal.returns
returns g c =
    let s = c.args.self.now in
    let n = g.F.Floor.points s.floor.now in
    let row : ℕ → ℕ → ℕ = λ l y. finding_in s.findings.now n (g.C.Floor.points s.calendar.now) l s.at.day y in
    let same = way_same n (g.F.Floor.leads s.floor.now) (at c.day_words.result.now) (at c.day_words-2.result.now) (at c.day_words-3.result.now) (row c.args.left) (row c.args.right) (row s.at.line)
    c.day_words.ensures.words c.day_words-2.ensures.words c.day_words-3.ensures.words s.at.point s.point in
    subst (λ (o : Option (List ℕ)). Put o c.args.strip.now c.show.new.strip c.show.result) same c.show.ensures
