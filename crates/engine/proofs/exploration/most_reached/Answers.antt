-- The points that can be reached are those that pass the test.
use Rattle.std.proofs.Common.{◌≡◌, ℕ, zero, suc, ◌+◌, Bool, cond, ◌||◌, map, refl, sym, ap, ◌∙◌, subst, add-one, arith, rules, tests}
use Rattle.std.specs.List.{range_with_len, sum_by}
use Rattle.std.proofs.lemmas.Iterator.{YieldsList-from_range}
use Rattle.std.proofs.lemmas.Iterator.Consumers.{YieldsList-from_filter, count_from_yields_List}
use Rattle.std.proofs.lemmas.List.{map-id}
use Rattle.std.proofs.lemmas.List.FromFn.{sum_by-map-range_with_len_more}
use Rattle.std.proofs.lemmas.List.Sums.{length-filter}
use Rattle.model.specs.Numbers.{tally}
use Rattle.engine.proofs.exploration.most_reached.Goals as goal

-- how many numbers of a range pass is how many numbers below its end do
counted : (n : ℕ) (test : ℕ → Bool) → sum_by (λ x. cond (test x) 1 0) (map (λ x. x) (range_with_len 0 n)) ≡ tally n test
counted zero test = refl
counted (suc n) test =
    let pass : ℕ → ℕ = λ x. cond (test x) 1 0 in
    let more = sum_by-map-range_with_len_more pass (λ x. x) 0 n n (omega arith) in
    subst (λ (k : ℕ). sum_by pass (map (λ x. x) (range_with_len 0 k)) ≡ tally (suc n) test) (add-one n) (more ∙ ap (λ r. r + pass n) (counted n test))

pub returns : goal.returns
returns g c =
    let n = c.args.count in
    let able : ℕ → Bool = λ x. g.R.Rules.leave c.args.rules.now x || g.R.Rules.goal c.args.rules.now x in
    let all = range_with_len 0 n in
    count_from_yields_List _ _ c.count.ensures.ran
    (YieldsList-from_filter _ able (YieldsList-from_range 0 n n c.filter.ensures.source (omega arith)) c.filter.ensures.closure (λ x b q k. search (rules, tests)))
    ∙ length-filter able all ∙ ap (sum_by (λ x. cond (able x) 1 0)) (sym (map-id all)) ∙ counted n able
