-- The lowest day of a day's mask is the least to which it leads.
use Rattle.std.proofs.Common.{◌<◌, get_or, arith}
use lib.Count.{count_trailing_zeros}
use Rattle.std.proofs.lemmas.Bool.{lt-ltb}
use Rattle.model.proofs.Masks.{low_clear}
use Rattle.model.proofs.link_calendar.LinkCalendarCalendar.morrow.Goals as goal

pub returns : goal.returns
returns c =
    let self = c.args.self.now in
    let d = c.args.d in
    let h : d < self.days = omega arith in
    let mask = get_or self.next d 0 in
    rw (lt-ltb d self.days h) ((self.inside d (count_trailing_zeros 64 mask) (self.onto d h)).1, self.onto d h, low_clear 64 mask)
