-- A list that passes is tight, and masks without a dead end make a calendar.
use Rattle.std.proofs.Common.{◌≡◌, ℕ, ◌≤◌, Bool, true, false, not, ◌||◌, eqb, ltb, List, sym, refl, rules, arith}
use Rattle.std.proofs.lemmas.Bool.{not-false}
use Rattle.model.specs.declared.refusal.Refusal.TheVariants.{DeadEnd}
use Rattle.model.specs.Links.{listed, loose}
use Rattle.model.specs.Masks.{masked}
use Rattle.model.specs.Numbers.{any}
use Rattle.model.specs.Refusals.{where_so, link_calendar_refusal}
use Rattle.model.proofs.Masks.{masked_inside, masked_low, dead_ends}
use Rattle.model.proofs.Numbers.{any_none}
use Rattle.model.proofs.Pairs.{all_below}
use Rattle.model.proofs.link_calendar.LinkCalendar.of_list.Goals as goal

-- where the list and the size pass, the dead ends decide
dead-end-decides : (n : ℕ) (pairs masks : List ℕ) → (eqb n 0 || ltb 64 n) ≡ false → n ≤ 64 → loose n pairs ≡ false → ((p q : ℕ) → masked masks p q ≡ listed pairs p q)
    → (b : Bool) → b ≡ any n (λ d. not (any 64 (masked masks d))) → where_so b DeadEnd ≡ link_calendar_refusal n pairs
dead-end-decides n pairs masks size few tight links b ends = rw (tight, size, ← dead_ends n pairs masks tight links few, ends) refl

pub masks_of-requires : goal.masks_of-requires
masks_of-requires c k h =
    let tight : loose c.args.days c.args.pairs.now ≡ false = search rules in
    let few : c.args.days ≤ 64 = search rules in
    omega (arith, all_below c.args.days c.args.pairs.now tight k h)

pub returns-then-has_dead_end-clause-refusal : goal.returns-then-has_dead_end-clause-refusal
returns-then-has_dead_end-clause-refusal c =
    dead-end-decides c.args.days c.args.pairs.now c.masks_of.result.0 (search rules) (search rules) (search rules) c.masks_of.ensures.next true c.if-has_dead_end.ensures

pub invariant_of-result : goal.invariant_of-result
invariant_of-result c =
    let next = c.masks_of.result.0 in
    let links = c.masks_of.ensures.next in
    let none = any_none c.args.days (λ d. not (any 64 (masked next d))) (sym c.if-has_dead_end.ensures) in
    record {
      some = search rules;
      few = search rules;
      inside = masked_inside c.args.days c.args.pairs.now next (search rules) links;
      back = λ d e. search rules;
      onto = λ d h. masked_low next d (not-false _ (none d h));
    }

pub returns-clause-refusal : goal.returns-clause-refusal
returns-clause-refusal c =
    dead-end-decides c.args.days c.args.pairs.now c.masks_of.result.0 (search rules) (search rules) (search rules) c.masks_of.ensures.next false c.if-has_dead_end.ensures
