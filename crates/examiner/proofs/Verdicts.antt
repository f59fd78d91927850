-- The first false line, day and point give the verdict.
use Rattle.std.proofs.Common.{◌≡◌, ℕ, ◌<◌, Bool, List, Some, None, ⊎_elim}
use Rattle.model.specs.declared.answers.Place.{Place}
use Rattle.model.specs.declared.answers.Verdict.TheVariants.{Accepted, FalseAt}
use Rattle.model.specs.declared.line.Line.{Line}
use Rattle.model.specs.Books.{finding_in, model_of}
use Rattle.model.specs.Examining.{Examined}
use Rattle.examiner.specs.FalsePlaces.{FalsePoint, FalseDay, FalseLine}

-- the counts by which the book was read are those of the floor and of the calendar
module _ (points days n m count : ℕ) (leads after : ℕ → ℕ → Bool) (readings : List ℕ) (lines : List Line) (findings : List ℕ) (floor : n ≡ points) (calendar : m ≡ days) where
  pub accepted : FalseLine (model_of points leads days after readings) lines (finding_in findings points days) count None → Examined None (model_of n leads m after readings) lines count findings Accepted
  unfolding FalseLine FalseDay FalsePoint
  accepted none = rw (floor, calendar) (λ i d x h hd hx. none i h d hd x hx)

  pub false_at : (p : Place) → FalseLine (model_of points leads days after readings) lines (finding_in findings points days) count (Some p) → Examined None (model_of n leads m after readings) lines count findings (FalseAt p)
  unfolding FalseLine FalseDay FalsePoint
  false_at p (h, here, before) =
      rw (floor, calendar) (record {
        in_lines = h;
        in_days = here.0;
        in_points = here.1.0;
        wrong = here.1.1;
        earlier = λ j e y hd hx.
            ⊎_elim (λ (l : j < p.line). before j l e hd y hx)
            (λ s. rw s.0 (⊎_elim (λ (l : e < p.day). here.2 e l y hx) (λ t. rw t.0 (here.1.2 y t.1)) s.1));
      })
