-- The words at the point are the book's.
use Rattle.std.proofs.Common.{ℕ, Bool, ◌&&◌, ◌∙◌, ap₂}
use Rattle.model.specs.Numbers.{lowest}
use Rattle.model.specs.Table.{says_yes, number}
use Rattle.examiner.proofs.examination.Examination.lowest_beginning.Goals as goal

pub returns : goal.returns
returns g c =
    let s = c.args.self.now in
    let row : ℕ → Bool = g.C.Floor.leads s.calendar.now c.args.own.day in
    c.lowest.ensures
    ∙ ap₂ (λ (m : ℕ) (w : ℕ → ℕ). lowest m (λ e. row e && says_yes (w e)) (λ e. number (w e))) s.days c.point_words.ensures
