-- The numbers of the table are below the counts, and its words fit 32 bits.
use Rattle.std.proofs.Common.{◌≡◌, ℕ, suc, ◌<◌, ◌≤◌, Bool, true, false, cond, ◌&&◌, Some, None, Option, sym, refl, ap, ◌∙◌, subst, arith}
use Rattle.model.specs.declared.kind.Kind.{Kind}
use Rattle.model.specs.declared.kind.Kind.TheVariants.{Truth, Reading, Not, Or, Near, Surrounded, Next, Until, Awaited}
use Rattle.model.specs.Kinds.{kind_row}
use Rattle.model.specs.Lines.{line_at, built}
use Rattle.model.specs.Logic.{Model}
use Rattle.model.specs.Numbers.{any, least}
use Rattle.model.specs.Table.{word, says_yes, number, no_word, yes_word, Plane, kind_plane, row_plane, table}
use Rattle.model.specs.Theorems.{kind_bound, Bounds}
use Rattle.model.proofs.Levels.{least_found}
use Rattle.model.proofs.Unfolding.{built_at}
use Rattle.model.proofs.Words.{word_number}

-- a number that is least below n is below n
no_below : (n : ℕ) (test : ℕ → Bool) → 1 ≤ n → (o : Option ℕ) → least n test ≡ o → number (no_word o) < n
no_below n test some None e = omega arith
no_below n test some (Some k) e = omega (arith, word_number false k, (least_found n test k e).below)

yes_below : (n : ℕ) (test : ℕ → Bool) → 1 ≤ n → (o : Option ℕ) → least n test ≡ o → number (yes_word o) < n
yes_below n test some None e = omega arith
yes_below n test some (Some k) e = omega (arith, word_number true k, (least_found n test k e).below)

answer_below : (b : Bool) → number (word b 0) < 2
answer_below b = omega (arith, word_number b 0)

near_below : (b c : Bool) → number (cond b (word true 0) (cond c (word true 1) (word false 0))) < 2
near_below true c = omega arith
near_below false true = omega arith
near_below false false = omega arith

kind_below : (M : Model) (kind : Kind) (lower : ℕ → Plane) (l r d x : ℕ) → 1 ≤ M.points → 1 ≤ M.days → number (kind_plane M kind lower l r d x) < kind_bound M kind
kind_below M Truth lower l r d x p q = answer_below true
kind_below M Reading lower l r d x p q = answer_below _
kind_below M Not lower l r d x p q = answer_below _
kind_below M Or lower l r d x p q = answer_below _
kind_below M Near lower l r d x p q = near_below (says_yes (lower l d x)) (any M.points (λ y. M.leads y x && says_yes (lower l d y)))
kind_below M Surrounded lower l r d x p q = no_below M.points _ p _ refl
kind_below M Next lower l r d x p q = answer_below _
kind_below M Until lower l r d x p q = yes_below M.days _ q _ refl
kind_below M Awaited lower l r d x p q = yes_below M.days _ q _ refl

bound_most : (M : Model) (kind : Kind) → M.points ≤ 4096 → M.days ≤ 4096 → kind_bound M kind ≤ 4096
bound_most M Truth p q = omega arith
bound_most M Reading p q = omega arith
bound_most M Not p q = omega arith
bound_most M Or p q = omega arith
bound_most M Near p q = omega arith
bound_most M Surrounded p q = p
bound_most M Next p q = omega arith
bound_most M Until p q = q
bound_most M Awaited p q = q

pub bounds : Bounds
bounds M lines i d x row named some_points some_days few_points few_days =
    let step : (ℕ → Plane) → ℕ → Plane = λ lower k. row_plane M (kind_row (line_at lines k).kind) lower (line_at lines k) in
    let lower = built (λ d x. 0) step i in
    let w : table M lines i d x ≡ kind_plane M row.kind lower (line_at lines i).left (line_at lines i).right d x =
    ap (λ (q : Plane). q d x) (built_at (λ d x. 0) step (suc i) i (omega arith)) ∙ ap (λ o. row_plane M o lower (line_at lines i) d x) named in
    let below : number (table M lines i d x) < kind_bound M row.kind =
    subst (λ (v : ℕ). number v < kind_bound M row.kind) (sym w) (kind_below M row.kind lower (line_at lines i).left (line_at lines i).right d x some_points some_days) in
    (below, omega (arith, bound_most M row.kind few_points few_days))
