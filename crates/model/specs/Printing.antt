-- How what calls answer is printed.
use Rattle.std.specs.Prelude.{ℕ, Bool, true, false, List, ◌++◌, codes, decimal}
use Rattle.std.specs.Char.{encode_utf8}
use Rattle.model.specs.declared.answers.Finding.{Finding}
use Rattle.model.specs.declared.answers.Place.{Place}
use Rattle.model.specs.declared.answers.Verdict.{Verdict}
use Rattle.model.specs.declared.answers.Verdict.TheVariants.{Accepted, FalseAt, Refused}
use Rattle.model.specs.declared.line.Line.{Line}
use Rattle.model.specs.declared.refusal.Refusal.{Refusal}
use Rattle.model.specs.declared.survey_numbers.SurveyNumbers.{SurveyNumbers}
use Rattle.model.specs.Examining.{verdict_number}
use Rattle.model.specs.Refusals.{number_of}

-- how many points, days and lines a survey has
abbrev pub numbers_text : SurveyNumbers → List ℕ
numbers_text numbers =
    codes "points " ++ (decimal numbers.points ++ (codes ", days " ++ (decimal numbers.days ++ (codes ", lines " ++ decimal numbers.lines))))

-- the letter of a line and its operands
abbrev pub line_text : Line → List ℕ
line_text line = encode_utf8 line.kind ++ (codes " " ++ (decimal line.left ++ (codes " " ++ decimal line.right)))

-- a refusal, by its number
abbrev pub refusal_text : Refusal → List ℕ
refusal_text why = codes "refused, " ++ decimal (number_of why)

-- the place of an entry
abbrev pub place_text : Place → List ℕ
place_text place =
    codes "line " ++ (decimal place.line ++ (codes " day " ++ (decimal place.day ++ (codes " point " ++ decimal place.point))))

abbrev pub yes_or_no : Bool → List ℕ
yes_or_no true = codes "yes"
yes_or_no false = codes "no"

-- the yes or no of an entry, and its number
abbrev pub finding_text : Finding → List ℕ
finding_text finding = yes_or_no finding.yes ++ (codes " " ++ decimal finding.number)

-- what an examination comes to: where the first false entry stands, or why nothing was examined
abbrev pub verdict_text : Verdict → List ℕ
verdict_text Accepted = codes "accepted"
verdict_text (FalseAt place) = codes "false at " ++ (place_text place ++ (codes ", " ++ decimal (verdict_number (FalseAt place))))
verdict_text (Refused why) = refusal_text why
