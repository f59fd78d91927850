-- How the place of a reading is printed.
use Rattle.std.specs.Prelude.{ℕ, List, ◌++◌, codes, decimal}
use Rattle.journal.specs.declared.event.ReadingPlace.{ReadingPlace}

abbrev pub reading_place_text : ReadingPlace → List ℕ
reading_place_text place =
    codes "day " ++ (decimal place.day ++ (codes " point " ++ (decimal place.point ++ (codes " atom " ++ decimal place.atom))))
