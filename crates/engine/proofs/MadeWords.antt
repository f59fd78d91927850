-- The words that the code makes of remainders and answers are those of the table.
use Rattle.std.proofs.Common.{◌≡◌, ◌*◌, Bool, true, false, cond, refl}
use mir.Val.{bool_byte}
use Rattle.model.specs.Table.{word}

pub yes_made : (b : Bool) → bool_byte b ≡ word b 0
yes_made true = refl
yes_made false = refl

pub near_made : (b : Bool) → 3 * bool_byte b ≡ cond b 3 0
near_made true = refl
near_made false = refl
