-- The law of a survey's whole life. The table, ways out and awaited days are read over the ledger's readings and lines.
use Rattle.std.specs.Prelude.{◌≡◌, ℕ, ◌+◌, ◌*◌, ◌<◌, ◌≤◌, Bool, true, false, ◌↔◌, List, ◌∷◌, length, Ok}
use Rattle.model.specs.declared.answers.Finding.{Finding}
use Rattle.model.specs.declared.answers.Verdict.{Verdict}
use Rattle.model.specs.declared.answers.Verdict.TheVariants.{Accepted}
use Rattle.model.specs.Books.{finding_in}
use Rattle.model.specs.Entries.{Holds}
use Rattle.model.specs.Lines.{line_at}
use Rattle.model.specs.Showing.{written_on}
use Rattle.model.specs.Table.{says_yes, table}
use Rattle.model.specs.Ways.{WayOut, Enough, Circles}
use Rattle.journal.specs.Ledgers.{Ledger, ledger_model}
use Rattle.journal.specs.Worlds.{World, asked, show_answer, show_strip, Judges}

module _ (n : ℕ) (leads : ℕ → ℕ → Bool) (m : ℕ) (after : ℕ → ℕ → Bool) (L : Ledger) where
  -- the table's yes or no for a line of the ledger on a day at a point
  abbrev pub says : ℕ → ℕ → ℕ → Bool
  says line d x = says_yes (table (ledger_model n leads m after L) L.lines line d x)

  -- left and right of line i
  abbrev pub left_of : ℕ → ℕ
  left_of i = (line_at L.lines i).left

  abbrev pub right_of : ℕ → ℕ
  right_of i = (line_at L.lines i).right

  -- a way out from x on day d, for the surrounded line i
  abbrev pub LeadsOut : ℕ → ℕ → ℕ → List ℕ → Type 0
  LeadsOut i d x rest = WayOut leads (λ y. says (left_of i) d y) (λ y. says (right_of i) d y) x rest

  -- the days that the every-future line i awaits at point x
  abbrev pub awaits : ℕ → ℕ → ℕ → Bool
  awaits i x e = says (left_of i) e x

  -- a surrounded finding: no exactly when a way out exists; its number is then the steps of one, which showing writes, given strip enough; every other way out has at least as many
  pub record SurroundedFinding (w : World) (i d x : ℕ) : Type 0 where
    pub finding : Finding
    pub answers : asked w i d x ≡ Ok finding
    pub no_by_a_way : (finding.yes ≡ false) ↔ ((rest : List ℕ) × LeadsOut i d x rest)
    pub shows_one : finding.yes ≡ false → (strip : List ℕ) → finding.number + 1 ≤ length strip
        → (rest : List ℕ) × LeadsOut i d x rest × (length rest ≡ finding.number)
        × (show_answer n leads m after w i d x strip ≡ Ok (finding.number + 1))
        × (show_strip n leads m after w i d x strip ≡ written_on (x ∷ rest) strip)
    pub fewest : finding.yes ≡ false → (rest : List ℕ) → LeadsOut i d x rest → finding.number ≤ length rest

  -- an every-future finding: yes exactly when some number of steps is enough on every run to meet an awaited day, and its number is the least such; given strip enough, showing a no writes days that start with the finding's and end with a repeated one, and the run that circles so for ever has no awaited day
  pub record EveryFutureFinding (w : World) (i d x : ℕ) : Type 0 where
    pub finding : Finding
    pub answers : asked w i d x ≡ Ok finding
    pub yes_by_a_bound : (finding.yes ≡ true) ↔ ((k : ℕ) × Enough after (awaits i x) d k)
    pub enough : finding.yes ≡ true → Enough after (awaits i x) d finding.number
    pub least_bound : finding.yes ≡ true → (k : ℕ) → Enough after (awaits i x) d k → finding.number ≤ k
    pub shows_a_circle : finding.yes ≡ false → (strip : List ℕ) → m + 1 ≤ length strip
        → (days : List ℕ) × Circles after (awaits i x) d days
        × (show_answer n leads m after w i d x strip ≡ Ok (length days))
        × (show_strip n leads m after w i d x strip ≡ written_on days strip)

  -- the findings book holds the table's word for every line, day and point of the ledger
  pub record HoldsTheTable (findings : List ℕ) : Type 0 where
    pub long : length L.lines * (m * n) ≤ length findings
    pub words : Holds (ledger_model n leads m after L) L.lines (length L.lines) (finding_in findings n m)

  -- the law as a whole: what ask and show answer on a worked survey, and which findings books examine accepts
  pub record WholeLife (w : World) : Type 0 where
    pub surrounded : w.worked ≡ true → (i d x : ℕ) → i < length L.lines → d < m → x < n → (line_at L.lines i).kind ≡ 83
        → SurroundedFinding w i d x
    pub every_future : w.worked ≡ true → (i d x : ℕ) → i < length L.lines → d < m → x < n → (line_at L.lines i).kind ≡ 70
        → EveryFutureFinding w i d x
    pub accepts : 1 ≤ length L.lines → (findings : List ℕ) (verdict : Verdict) → Judges n leads m after w findings verdict
        → (verdict ≡ Accepted) ↔ HoldsTheTable findings
    pub own_book : w.worked ≡ true → HoldsTheTable w.findings
