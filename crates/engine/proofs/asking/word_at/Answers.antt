-- The place of an entry is within the book.
use Rattle.std.proofs.Common.{◌*◌, [], arith}
use Rattle.engine.proofs.Filled.{day_fits}
use Rattle.engine.proofs.LineWords.{place_is}
use Rattle.engine.proofs.asking.word_at.Goals as goal

pub bounds-findings-at : goal.bounds-findings-at
bounds-findings-at c =
    let n = c.args.numbers in
    let size = n.days * n.points in
    let line = day_fits c.args.at.line n.lines size c.requires.1.0 in
    let day = day_fits c.args.at.day n.days n.points c.requires.1.1.0 in
    omega (arith, place_is n.points n.days [] c.args.at.line c.args.at.day c.args.at.point, c.requires.0, c.requires.1.1.1)
