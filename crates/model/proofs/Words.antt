-- What an entry's word says: its yes or no, and its number.
use Rattle.std.proofs.Common.{◌≡◌, ℕ, ◌+◌, ◌*◌, ◌%◌, Bool, true, false, Some, None, Option, refl, arith}
use Rattle.std.proofs.lemmas.Bool.{both_ways, eq-eqb, ne_eqb}
use Rattle.model.specs.Table.{word, says_yes, number, no_word, yes_word}

-- a word gives back the answer and the number that it was made of
pub word_yes : (b : Bool) (k : ℕ) → says_yes (word b k) ≡ b
word_yes true k = eq-eqb ((2 * k + 1) % 2) 1 (omega arith)
word_yes false k = ne_eqb ((2 * k + 0) % 2) 1 (omega arith)

pub word_number : (b : Bool) (k : ℕ) → number (word b k) ≡ k
word_number true k = omega arith
word_number false k = omega arith

-- where a number says yes, the word is yes with that number, and no where there is none
pub yes_word_some : (o : Option ℕ) (k : ℕ) → o ≡ Some k → (says_yes (yes_word o) ≡ true) × (number (yes_word o) ≡ k)
yes_word_some o k e = rw e (word_yes true k, word_number true k)

pub yes_word_none : (o : Option ℕ) → o ≡ None → says_yes (yes_word o) ≡ false
yes_word_none o e = rw e (word_yes false 0)

pub yes_word_yes : (o : Option ℕ) → says_yes (yes_word o) ≡ true → (k : ℕ) × (o ≡ Some k)
yes_word_yes None t = absurd (both_ways (says_yes (word false 0)) (word_yes false 0) t)
yes_word_yes (Some k) t = (k, refl)

pub yes_word_no : (o : Option ℕ) → says_yes (yes_word o) ≡ false → o ≡ None
yes_word_no None f = refl
yes_word_no (Some k) f = absurd (both_ways (says_yes (word true k)) f (word_yes true k))

-- where a number says no, the word is no with that number, and yes where there is none
pub no_word_some : (o : Option ℕ) (k : ℕ) → o ≡ Some k → (says_yes (no_word o) ≡ false) × (number (no_word o) ≡ k)
no_word_some o k e = rw e (word_yes false k, word_number false k)

pub no_word_none : (o : Option ℕ) → o ≡ None → says_yes (no_word o) ≡ true
no_word_none o e = rw e (word_yes true 0)

pub no_word_no : (o : Option ℕ) → says_yes (no_word o) ≡ false → (k : ℕ) × (o ≡ Some k)
no_word_no None f = absurd (both_ways (says_yes (word true 0)) f (word_yes true 0))
no_word_no (Some k) f = (k, refl)

pub no_word_yes : (o : Option ℕ) → says_yes (no_word o) ≡ true → o ≡ None
no_word_yes None t = refl
no_word_yes (Some k) t = absurd (both_ways (says_yes (word false k)) (word_yes false k) t)
