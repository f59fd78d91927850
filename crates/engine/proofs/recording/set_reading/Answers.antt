-- The place of a day and a point is within the book, and only that reading changes.
use Rattle.std.proofs.Common.{ℕ, ◌+◌, ◌*◌, ◌<◌, ◌≤◌, List, set, sym, ap, subst, arith}
use Rattle.model.specs.Calls.{SetsOneReading}
use Rattle.model.proofs.Readings.{sets_one_reading}
use Rattle.engine.proofs.Filled.{day_fits}
use Rattle.engine.proofs.recording.set_reading.Goals as goal

in_book : (day days point points held : ℕ) → days * points ≤ held → day < days → point < points → day * points + point < held
in_book day days point points held h hd hp = omega (arith, day_fits day days points hd)

pub bounds-readings-place : goal.bounds-readings-place
bounds-readings-place c = in_book _ c.args.numbers.days _ _ _ c.requires.0 c.requires.1.0 c.requires.1.1.0

pub bounds-readings-place-2 : goal.bounds-readings-place-2
bounds-readings-place-2 c = in_book _ c.args.numbers.days _ _ _ c.requires.0 c.requires.1.0 c.requires.1.1.0

pub returns : goal.returns
returns c =
    let n = c.args.numbers in
    let old = c.args.readings.now in
    let place = c.args.day * n.points + c.args.point in
    let e = ap (set old place) c.with_bit.ensures in
    record {
      book = e;
      reading = subst (λ (new : List ℕ). SetsOneReading n.points n.days c.args.day c.args.point c.args.atom c.args.value old new) (sym e)
          (sets_one_reading n.points n.days c.args.day c.args.point c.args.atom c.args.value old c.requires.1.1.0 c.requires.1.1.1 (in_book _ n.days _ _ _ c.requires.0 c.requires.1.0 c.requires.1.1.0));
    }
