-- One number for a whole book.
use Rattle.std.specs.Prelude.{ℕ, ◌+◌, ◌*◌, ◌%◌, ◌^◌, List, fold}

-- a word is added to 16,777,619 times the sum so far, in 32 bits
abbrev pub added : ℕ → ℕ → ℕ
added sum word = (sum * 16777619 % 2 ^ 32 + word) % 2 ^ 32

-- all words are added in turn
abbrev pub checksum_of : List ℕ → ℕ
checksum_of words = fold added 2166136261 words
