-- A number that may be missing, as a word: with the one answer where it is there, and with the other where it is not.
use Rattle.std.proofs.Common.{◌≡◌, ℕ, ◌≤◌, Bool, true, false, not, ◌↔◌, Some, None, Option, sym, refl, ap, subst, arith}
use Rattle.std.proofs.lemmas.Bool.{both_ways}
use Rattle.model.specs.Table.{word, says_yes, number, no_word, yes_word}
use Rattle.model.proofs.Words.{word_yes, word_number}

-- the number is there, and at most k
abbrev pub AtMost : Option ℕ → ℕ → Type 0
AtMost None k = ⊥
AtMost (Some r) k = r ≤ k

-- such a number is some r
pub at_most_from : (o : Option ℕ) (k r : ℕ) → o ≡ Some r → r ≤ k → AtMost o k
at_most_from o k r e h = rw e h

pub at_most_gives : (o : Option ℕ) (k : ℕ) → AtMost o k → (r : ℕ) × (o ≡ Some r) × (r ≤ k)
at_most_gives None k h = absurd h
at_most_gives (Some r) k h = (r, refl, h)

-- what has the same bounds is the same
pub same_bounds : (o p : Option ℕ) → ((k : ℕ) → AtMost o k → AtMost p k) → ((k : ℕ) → AtMost p k → AtMost o k) → o ≡ p
same_bounds None None f g = refl
same_bounds None (Some s) f g = absurd (g s (omega arith))
same_bounds (Some r) None f g = absurd (f r (omega arith))
same_bounds (Some r) (Some s) f g = let a = f r (omega arith) in let b = g s (omega arith) in ap Some (omega arith)

-- the word of a number that may be missing
abbrev pub code : Bool → Option ℕ → ℕ
code answer None = word (not answer) 0
code answer (Some k) = word answer k

-- the words of the table, by that
pub no_code : (o : Option ℕ) → no_word o ≡ code false o
no_code None = refl
no_code (Some k) = refl

pub yes_code : (o : Option ℕ) → yes_word o ≡ code true o
yes_code None = refl
yes_code (Some k) = refl

-- the word has that answer
abbrev pub says : Bool → ℕ → Bool
says true w = says_yes w
says false w = not (says_yes w)

-- the word has that answer, and a number of at most k
abbrev pub Says : Bool → ℕ → ℕ → Type 0
Says answer w k = (says answer w ≡ true) × (number w ≤ k)

-- the word of a number has the answer, and the other word has not
says_word : (answer : Bool) (k : ℕ) → says answer (word answer k) ≡ true
says_word true k = word_yes true k
says_word false k = ap not (word_yes false k)

says_other : (answer : Bool) → says answer (word (not answer) 0) ≡ false
says_other true = refl
says_other false = refl

-- what a number's word says is what the number is
says_code : (answer : Bool) (o : Option ℕ) (k : ℕ) → Says answer (code answer o) k ↔ AtMost o k
says_code answer None k = (λ h. both_ways (says answer (word (not answer) 0)) (says_other answer) h.0, λ h. absurd h)
says_code answer (Some r) k =
    (λ h. omega (arith, h.1, word_number answer r), λ h. (says_word answer r, omega (arith, word_number answer r)))

-- the same of a word that is known to be the number's
pub says_of : (answer : Bool) (w : ℕ) (o : Option ℕ) (k : ℕ) → w ≡ code answer o → Says answer w k ↔ AtMost o k
says_of answer w o k e = subst (λ v. Says answer v k ↔ AtMost o k) (sym e) (says_code answer o k)
