-- One day more is read.
use Rattle.std.proofs.Common.{◌≡◌, ℕ, ◌+◌, ◌^◌, ◌<◌, ◌≤◌, Bool, true, false, ◌||◌, sym, ap, ◌∙◌, subst, ⊎_elim, arith}
use mathlib.Core.Bool.{or-false}
use lib.Bits.{bit_or}
use Rattle.std.proofs.lemmas.Nat.{one_shl}
use Rattle.std.proofs.lemmas.Bool.{cases_eq, eq-eqb, ne_eqb, or_right, or_from}
use Rattle.model.specs.Masks.{bit}
use Rattle.engine.specs.Filling.{yes_at}
use Rattle.model.proofs.Masks.{bit_more}
use Rattle.engine.proofs.lower_line.LowerLine.answers.Goals as goal
use Rattle.engine.proofs.lower_line.LowerLine.answers.Goals.{then-is_yes, else-is_yes}

-- the first d bits of a mask are the values, and no other is set
abbrev Read : ℕ → (ℕ → Bool) → ℕ → Type 0
Read mask value d = ((e : ℕ) → e < d → bit mask e ≡ value e) × ((e : ℕ) → d ≤ e → bit mask e ≡ false)

module _ (mask : ℕ) (value : ℕ → Bool) (d : ℕ) (read : Read mask value d) where
  read_no : value d ≡ false → Read mask value (d + 1)
  read_no f = (
    λ e h. ⊎_elim (λ (i : e ≡ d). rw i (read.1 d (omega arith) ∙ sym f)) (λ (ne : e ≡ d → ⊥). read.0 e (omega arith)) (cases_eq e d),
    λ e h. read.1 e (omega arith),
  )

  read-yes : value d ≡ true → Read (bit_or mask (2 ^ d)) value (d + 1)
  read-yes t = (
    λ e h. bit_more mask d e
        ∙ ⊎_elim (λ (i : e ≡ d). or_right (bit mask e) _ (eq-eqb d e (sym i)) ∙ sym t ∙ ap value (sym i))
        (λ (ne : e ≡ d → ⊥). ap (λ b. bit mask e || b) (ne_eqb d e (λ i. ne (sym i))) ∙ or-false (bit mask e) ∙ read.0 e (omega arith))
        (cases_eq e d),
    λ e h. bit_more mask d e ∙ or_from (bit mask e) _ (read.1 e (omega arith)) (ne_eqb d e (λ i. omega arith)),
  )

pub loop-d-preserved : goal.loop-d-preserved
loop-d-preserved c =
    let s = c.args.self.now in
    let d = c.loop-d.d in
    let mask = c.loop-d.answers in
    let value : ℕ → Bool = λ e. yes_at s.points s.words.now e c.args.x in
    elim c.if-is_yes.branch [
      | then-is_yes w ↦
          let is : c.if-is_yes.answers ≡ bit_or mask (2 ^ d) = w.answers-is ∙ ap (bit_or mask) (one_shl d 64 (omega arith)) in
          subst (λ (v : ℕ). Read v value (d + 1)) (sym is) (read-yes mask value d c.loop-d.invariant (sym c.is_yes.ensures ∙ w.if-is_yes.true))
      | else-is_yes w ↦ subst (λ (v : ℕ). Read v value (d + 1)) (sym w.answers-is) (read_no mask value d c.loop-d.invariant (sym c.is_yes.ensures ∙ w.if-is_yes.false))
    ]
