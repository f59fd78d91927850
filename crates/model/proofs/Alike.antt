-- Models that differ only in readings that no line asks for, and lines that are the same where they count, have the same table.
use Rattle.std.proofs.Common.{◌≡◌, ℕ, zero, suc, ◌<◌, ◌≤◌, Bool, List, sym, refl, ap, ◌∙◌, subst, ⊎_elim, arith}
use Rattle.std.proofs.lemmas.Bool.{cases_eq}
use Rattle.model.specs.declared.kind.Kind.{Kind}
use Rattle.model.specs.declared.kind.Kind.TheVariants.{Truth, Reading, Not, Or, Near, Surrounded, Next, Until, Awaited}
use Rattle.model.specs.declared.line.Line.{Line}
use Rattle.model.specs.Kinds.{kind_row}
use Rattle.model.specs.Lines.{Operands, line_at, LawfulLines}
use Rattle.model.specs.Logic.{Model}
use Rattle.model.specs.Table.{word, Plane, kind_plane, table}
use Rattle.model.proofs.Solution.{plane_same}
use Rattle.model.proofs.Unfolding.{Below, Placed, placed, table_at}
use Rattle.model.proofs.OperandsRead.{read_so}

module _ (n m : ℕ) (leads after : ℕ → ℕ → Bool) (reading reading' : ℕ → ℕ → ℕ → Bool)
    (alike : (d x a : ℕ) → d < m → x < n → a < 32 → reading d x a ≡ reading' d x a) where
  -- a model with these readings
  abbrev with_readings : (ℕ → ℕ → ℕ → Bool) → Model
  with_readings r = record { points = n; leads = leads; days = m; after = after; reading = r }

  -- the words of a kind ask for readings of the model's days and points only
  plane_alike : (kind : Kind) (words : ℕ → Plane) (i left right : ℕ) → Operands kind i left right → (d x : ℕ) → d < m → x < n → kind_plane (with_readings reading) kind words left right d x ≡ kind_plane (with_readings reading') kind words left right d x
  plane_alike Truth words i left right b d x h l = refl
  plane_alike Reading words i left right b d x h l = ap (λ t. word t 0) (alike d x left h l b)
  plane_alike Not words i left right b d x h l = refl
  plane_alike Or words i left right b d x h l = refl
  plane_alike Near words i left right b d x h l = refl
  plane_alike Surrounded words i left right b d x h l = refl
  plane_alike Next words i left right b d x h l = refl
  plane_alike Until words i left right b d x h l = refl
  plane_alike Awaited words i left right b d x h l = refl

  module _ (lines lines' : List Line) (count : ℕ) (lawful : LawfulLines lines count) (same : (i : ℕ) → i < count → line_at lines i ≡ line_at lines' i) where
    -- a line whose lower lines have the same words has the same words
    line_alike : (k : ℕ) → k < count → ((j e y : ℕ) → j < k → e < m → y < n → table (with_readings reading) lines j e y ≡ table (with_readings reading') lines' j e y) → (d x : ℕ) → d < m → x < n → table (with_readings reading) lines k d x ≡ table (with_readings reading') lines' k d x
    line_alike k h below d x hd hx =
        let p = placed lines count lawful k h in
        let kind = p.row.kind in
        let l = line_at lines k in
        let e = same k h in
        let q : Placed lines' k = record {
          row = p.row;
          named = ap (λ (line : Line). kind_row line.kind) (sym e) ∙ p.named;
          below = subst (λ (line : Line). Below kind k line.left line.right) e p.below;
        } in
        table_at (with_readings reading) lines k p d x
        ∙ plane_alike kind (table (with_readings reading) lines) k l.left l.right (read_so k l l.kind (lawful k h) p.row p.named) d x hd hx
        ∙ plane_same (with_readings reading') kind (table (with_readings reading) lines) (table (with_readings reading') lines') k l.left l.right below p.below d x hd hx
        ∙ ap (λ (line : Line). kind_plane (with_readings reading') kind (table (with_readings reading') lines') line.left line.right d x) e
        ∙ sym (table_at (with_readings reading') lines' k q d x)

    tables_alike : (k : ℕ) → k ≤ count → (i d x : ℕ) → i < k → d < m → x < n → table (with_readings reading) lines i d x ≡ table (with_readings reading') lines' i d x
    tables_alike zero h i d x l hd hx = absurd (omega arith)
    tables_alike (suc k) h i d x l hd hx =
        let below = tables_alike k (omega arith) in
        ⊎_elim (λ (e : i ≡ k). rw e (line_alike k h below d x hd hx)) (λ (ne : i ≡ k → ⊥). below i d x (omega arith) hd hx) (cases_eq i k)

    pub same_table : (i d x : ℕ) → i < count → d < m → x < n → table (with_readings reading) lines i d x ≡ table (with_readings reading') lines' i d x
    same_table i d x = tables_alike count (omega arith) i d x
