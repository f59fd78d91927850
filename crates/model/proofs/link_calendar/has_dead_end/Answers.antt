-- A day leads nowhere exactly where its mask is 0.
use Rattle.std.proofs.Common.{eqb, get_or, take, ◌∙◌, sym, arith, ap}
use Rattle.std.proofs.lemmas.List.{get_or-take, length-take-le}
use Rattle.model.specs.Numbers.{any}
use Rattle.model.proofs.Chains.{any_of_answer}
use Rattle.model.proofs.Masks.{empty_mask}
use Rattle.model.proofs.Numbers.{any_same}
use Rattle.model.proofs.link_calendar.has_dead_end.Goals as goal

pub returns : goal.returns
returns c =
    let days = c.args.days in
    let next = c.args.next.now in
    any_of_answer (take days next) 0 (λ mask. eqb mask 0) c.contains.result c.contains.ensures.cases
    ∙ ap (λ n. any n (λ d. eqb (get_or (take days next) d 0) 0)) (length-take-le days next (omega arith))
    ∙ any_same days _ _ (λ d h. ap (λ mask. eqb mask 0) (get_or-take days next d 0 h) ∙ sym (empty_mask 64 (get_or next d 0) (omega (arith, c.fits-next))))
