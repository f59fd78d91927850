-- One line more: the lines below keep the table's words, and the line has them by its kind.
use Rattle.std.proofs.Common.{◌≡◌, ℕ, ◌+◌, ◌*◌, ◌<◌, Bool, ◌≢◌, List, get_or, sym, ap, ◌∙◌, ap₂, inl, ⊎_elim, arith}
use Rattle.std.proofs.lemmas.Nat.{div-mul-add, mod-mul-add}
use Rattle.std.proofs.lemmas.Bool.{cases_eq}
use Rattle.model.specs.declared.line.Line.{Line}
use Rattle.model.specs.Books.{finding_in, model_of, BookHolds}
use Rattle.model.specs.Lines.{line_at}
use Rattle.model.specs.Table.{kind_plane, table}
use Rattle.model.proofs.Solution.{plane_same}
use Rattle.model.proofs.Unfolding.{Placed, table_at}
use Rattle.engine.specs.Filling.{Written, in_order}
use Rattle.engine.proofs.Filled.{day_fits}
use Rattle.engine.proofs.LineWords.{place_is}

module _ (n m : ℕ) (leads after : ℕ → ℕ → Bool) (readings : List ℕ) (lines : List Line) (i : ℕ) (p : Placed lines i) (mid new : List ℕ)
    (holds : BookHolds (model_of n leads m after readings) lines i mid)
    (written : Written (i * (m * n)) (m * n) (in_order n (kind_plane (model_of n leads m after readings) p.row.kind (finding_in mid n m) (line_at lines i).left (line_at lines i).right)) mid new) where
  -- where a word of day d and point x of line j stands
  place : (j d x : ℕ) → d < m → x < n → j < i → j * (m * n) + (d * n + x) < i * (m * n)
  place j d x hd hx hj = let a = day_fits j i (m * n) hj in let b = day_fits d m n hd in omega arith

  pub line_more : BookHolds (model_of n leads m after readings) lines (i + 1) new
  line_more j d x hj hd hx =
      ⊎_elim
      (λ (e : j ≡ i). rw e (here d x hd hx))
      (λ (ne : j ≢ i).
      let below = place j d x hd hx (omega arith) in
      ap (λ k. get_or new k 0) (sym (place_is n m mid j d x)) ∙ written.others (j * (m * n) + (d * n + x)) (inl below) ∙ ap (λ k. get_or mid k 0) (place_is n m mid j d x)
      ∙ holds j d x (omega arith) hd hx)
      (cases_eq j i)
    where
      here : (d x : ℕ) → d < m → x < n → finding_in new n m i d x ≡ table (model_of n leads m after readings) lines i d x
      here d x hd hx =
          let fits = day_fits d m n hd in
          ap (λ k. get_or new k 0) (sym (place_is n m mid i d x))
          ∙ written.words (d * n + x) (omega arith)
          ∙ ap₂ (kind_plane (model_of n leads m after readings) p.row.kind (finding_in mid n m) (line_at lines i).left (line_at lines i).right) (div-mul-add d n x hx) (mod-mul-add d n x hx)
          ∙ plane_same (model_of n leads m after readings) p.row.kind (finding_in mid n m) (table (model_of n leads m after readings) lines) i (line_at lines i).left (line_at lines i).right (λ j d x hj hd hx. holds j d x hj hd hx) p.below d x hd hx
          ∙ sym (table_at (model_of n leads m after readings) lines i p d x)
