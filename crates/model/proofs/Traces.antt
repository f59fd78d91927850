-- What show writes where the words are the table's: a shortest way out, a shortest beginning, and days that circle.
use Rattle.std.proofs.Common.{◌≡◌, ℕ, zero, suc, ◌<◌, ◌≤◌, Bool, true, false, not, ◌&&◌, eqb, List, [], ◌∷◌, length, Some, None, Option, sym, refl, ap, ◌∙◌, ⊎_elim, arith}
use Rattle.std.proofs.lemmas.Bool.{cases_lt, both_ways, and_parts, and_from, eq-eqb, eqb-true}
use Rattle.std.specs.Option.{option_map}
use Rattle.model.specs.Showing.{trace, go_on}
use Rattle.model.specs.Table.{word, says_yes, number, reaches, rank, surrounded_word, until_word}
use Rattle.model.specs.Ways.{WayOut, Beginning}
use Rattle.model.proofs.Encodings.{code, no_code, yes_code}
use Rattle.model.proofs.Levels.{least_found, least_from}
use Rattle.model.proofs.Paths.{PathTo, path_way, path_beginning}
use Rattle.model.proofs.Ranks.{reaches_step, reaches_by, rank_from, rank_reaches}
use Rattle.model.proofs.Words.{word_yes, word_number, no_word_no, no_word_some, yes_word_yes, yes_word_some}

-- the word of a number that may be missing tells that number
code_is : (answer : Bool) (o : Option ℕ) (k : ℕ) → code answer o ≡ word answer k → o ≡ Some k
code_is answer (Some r) k e = ap Some (sym (word_number answer r) ∙ ap number e ∙ word_number answer k)
code_is true None k e = absurd (both_ways _ (word_yes false 0) (ap says_yes e ∙ word_yes true k))
code_is false None k e = absurd (both_ways _ (word_yes false k) (sym (ap says_yes e) ∙ word_yes true 0))

module _ (n : ℕ) (step : ℕ → ℕ → Bool) (goal : ℕ → Bool) where
  -- at rank 0 there is a goal, and from a higher rank a step leads to the next lower
  rank_goal : (x : ℕ) → rank n step goal x ≡ Some 0 → goal x ≡ true
  rank_goal x e = (least_found n (λ k. reaches n step goal k x) 0 e).passes

  rank_next : (k x : ℕ) → x < n → rank n step goal x ≡ Some (suc k) → (y : ℕ) × (y < n) × (step x y ≡ true) × (rank n step goal y ≡ Some k)
  rank_next k x h e =
      let f = least_found n (λ j. reaches n step goal j x) (suc k) e in
      ⊎_elim (λ g. absurd (both_ways (goal x) (f.first 0 (omega arith)) g))
      (λ w.
      let r = rank_from n step goal k w.0 w.1 w.3 in
      let same : r.0 ≡ k = ⊎_elim (λ (l : r.0 < k). absurd (both_ways _ (f.first (suc r.0) (omega arith))
      (reaches_step n step goal r.0 x w.0 w.1 w.2 (rank_reaches n step goal r.0 w.0 r.0 w.1 r.1 (omega arith)))))
      (λ (l : k ≤ r.0). omega (arith, r.2)) (cases_lt r.0 k) in
      (w.0, w.1, w.2, r.1 ∙ ap Some same))
      (reaches_by n step goal k x (rank_reaches n step goal (suc k) x (suc k) h e (omega arith)))

  -- where the words are those of the ranks, the trace from rank k is a path of k steps
  module _ (own : ℕ → ℕ) (answer : Bool) (ranked : (y : ℕ) → y < n → own y ≡ code answer (rank n step goal y)) where
    pub traced : (k x : ℕ) → x < n → rank n step goal x ≡ Some k → (rest : List ℕ) × (trace n step goal own answer k x ≡ Some (x ∷ rest)) × PathTo step goal x rest × (length rest ≡ k)
    traced zero x h e = let g = rank_goal x e in ([], rw g refl, g, refl)
    traced (suc k) x h e =
        let w = rank_next k x h e in
        let test : ℕ → Bool = λ y. step x y && eqb (own y) (word answer k) in
        let there = least_from n test w.0 w.1 (and_from _ _ w.2 (eq-eqb _ _ (ranked w.0 w.1 ∙ ap (code answer) w.3))) in
        let y = there.0 in
        let f = least_found n test y there.1 in
        let parts = and_parts (step x y) (eqb (own y) (word answer k)) f.passes in
        let rest = traced k y f.below (code_is answer _ k (sym (ranked y f.below) ∙ eqb-true _ _ parts.1)) in (
          y ∷ rest.0,
          ap (λ o. option_map (λ l. x ∷ l) (go_on o (λ z. trace n step goal own answer k z))) there.1 ∙ ap (option_map (λ l. x ∷ l)) rest.1,
          (parts.0, rest.2),
          ap suc rest.3,
        )

-- a surrounded no is shown by a way out with its number of steps
pub surrounded_shown : (n : ℕ) (leads : ℕ → ℕ → Bool) (left right : ℕ → Bool) (own : ℕ → ℕ) → ((y : ℕ) → y < n → own y ≡ surrounded_word n leads left right y) → (x : ℕ) → x < n → says_yes (own x) ≡ false → (rest : List ℕ) × (trace n (λ y z. leads y z && not (right z)) (λ y. not (left y)) own false (number (own x)) x ≡ Some (x ∷ rest)) × WayOut leads left right x rest × (length rest ≡ number (own x))
surrounded_shown n leads left right own holds x h f =
    let step : ℕ → ℕ → Bool = λ y z. leads y z && not (right z) in
    let goal : ℕ → Bool = λ y. not (left y) in
    let o = rank n step goal x in
    let k = no_word_no o (sym (ap says_yes (holds x h)) ∙ f) in
    let e : number (own x) ≡ k.0 = ap number (holds x h) ∙ (no_word_some o k.0 k.1).1 in
    let t = traced n step goal own false (λ y l. holds y l ∙ no_code _) k.0 x h k.1 in
    (t.0, ap (λ i. trace n step goal own false i x) e ∙ t.1, path_way leads left right x t.0 t.2, t.3 ∙ sym e)

-- an until yes is shown by a beginning with its number of days
pub until_shown : (m : ℕ) (after : ℕ → ℕ → Bool) (left right : ℕ → Bool) (own : ℕ → ℕ) → ((e : ℕ) → e < m → own e ≡ until_word m after left right e) → (d : ℕ) → d < m → says_yes (own d) ≡ true → (rest : List ℕ) × (trace m (λ e f. left e && after e f) right own true (number (own d)) d ≡ Some (d ∷ rest)) × Beginning after left right d rest × (length rest ≡ number (own d))
until_shown m after left right own holds d h t =
    let step : ℕ → ℕ → Bool = λ e f. left e && after e f in
    let o = rank m step right d in
    let k = yes_word_yes o (sym (ap says_yes (holds d h)) ∙ t) in
    let e : number (own d) ≡ k.0 = ap number (holds d h) ∙ (yes_word_some o k.0 k.1).1 in
    let p = traced m step right own true (λ y l. holds y l ∙ yes_code _) k.0 d h k.1 in
    (p.0, ap (λ i. trace m step right own true i d) e ∙ p.1, path_beginning after left right d p.0 p.2, p.3 ∙ sym e)
