-- The first bad line decides.
use Rattle.std.proofs.Common.{sym, ap, ◌∙◌}
use Rattle.std.proofs.lemmas.Bool.{ltb-false}
use Rattle.std.proofs.lemmas.List.{get_or_past}
use Rattle.std.proofs.lemmas.Result.{err_from_is_err_and}
use Rattle.model.specs.declared.line.Line.{Line}
use Rattle.model.specs.declared.refusal.Refusal.TheVariants.{NoKind}
use Rattle.model.specs.Refusals.{line_refusal}
use Rattle.model.proofs.Refusals.{first_bad}
use Rattle.model.proofs.checks.check_lines.Goals as goal

abbrev blank : Line
blank = record { kind = 0; left = 0; right = 0 }

pub returns-in_default : goal.returns-in_default
returns-in_default c =
    let lines = c.args.lines.now in
    let i = c.loop-i.i in
    sym (first_bad lines i c.args.count NoKind c.loop-i-test.true c.loop-i.invariant (ap (line_refusal i) (get_or_past lines i blank (ltb-false _ _ (sym c.in_default.ensures.lookup.0)))))

pub returns-in_err-check_line : goal.returns-in_err-check_line
returns-in_err-check_line c =
    let i = c.loop-i.i in
    let p = err_from_is_err_and c.from_residual.result c.from_residual.ensures.1 in
    let here = c.in_err-check_line.ensures ∙ ap (line_refusal i) (c.in-Some.ensures.lookup.3.1 blank) in
    rw (p.1, p.2) (sym (first_bad c.args.lines.now i c.args.count _ c.loop-i-test.true c.loop-i.invariant (sym here)))
