-- Each turn puts one day down, and then comes round, breaks off or goes on.
use Rattle.std.proofs.Common.{◌≡◌, None, rules, ℕ, Bool, not, ◌&&◌, replicate, Option, sym, refl, arith}
use Rattle.model.specs.Table.{says_yes}
use Rattle.model.proofs.Levels.{least_found}
use Rattle.engine.specs.Exploring.{at}
use Rattle.engine.specs.Strips.{next_no}
use Rattle.engine.proofs.Circling.{going_none, going_round, going_awaited, going_nowhere, going_on, going_over}
use Rattle.engine.proofs.circle.go_round.Goals as goal

pub loop-i-init : goal.loop-i-init
loop-i-init g c =
    let m = g.C.Floor.points c.args.calendar.now in
    let next : ℕ → Option ℕ = next_no m (g.C.Floor.leads c.args.calendar.now) (at c.args.own.now) in
    let awaited : ℕ → Bool = λ e. says_yes (at c.args.left.now e) in
    going_none m next awaited c.args.start (replicate 65 0) (omega arith) refl

pub returns-then-stands_in : goal.returns-then-stands_in
returns-then-stands_in g c =
    let m = g.C.Floor.points c.args.calendar.now in
    let next : ℕ → Option ℕ = next_no m (g.C.Floor.leads c.args.calendar.now) (at c.args.own.now) in
    let awaited : ℕ → Bool = λ e. says_yes (at c.args.left.now e) in
    let l = c.loop-i in
    going_round m next awaited c.args.start l.i l.days l.d (omega arith) (omega arith) l.invariant c.if-stands_in.ensures

pub returns-then-is_yes : goal.returns-then-is_yes
returns-then-is_yes g c =
    let m = g.C.Floor.points c.args.calendar.now in
    let next : ℕ → Option ℕ = next_no m (g.C.Floor.leads c.args.calendar.now) (at c.args.own.now) in
    let awaited : ℕ → Bool = λ e. says_yes (at c.args.left.now e) in
    let l = c.loop-i in
    going_awaited m next awaited c.args.start l.i l.days l.d (omega arith) (omega arith) l.invariant c.if-stands_in.ensures c.if-is_yes.ensures

pub returns-in_err-d : goal.returns-in_err-d
returns-in_err-d g c =
    let m = g.C.Floor.points c.args.calendar.now in
    let next : ℕ → Option ℕ = next_no m (g.C.Floor.leads c.args.calendar.now) (at c.args.own.now) in
    let awaited : ℕ → Bool = λ e. says_yes (at c.args.left.now e) in
    let l = c.loop-i in
    let none : c.from_residual.result ≡ None = search rules in
    rw none (going_nowhere m next awaited c.args.start l.i l.days l.d (omega arith) (omega arith) l.invariant c.if-stands_in.ensures c.if-is_yes.ensures c.in_err-d.ensures)

pub loop-i-preserved : goal.loop-i-preserved
loop-i-preserved g c =
    let m = g.C.Floor.points c.args.calendar.now in
    let after = g.C.Floor.leads c.args.calendar.now in
    let next : ℕ → Option ℕ = next_no m after (at c.args.own.now) in
    let awaited : ℕ → Bool = λ e. says_yes (at c.args.left.now e) in
    let l = c.loop-i in
    going_on m next awaited c.args.start l.i l.days l.d (omega arith) (omega arith) l.invariant c.in_ok-d.d c.if-stands_in.ensures c.if-is_yes.ensures c.in_ok-d.ensures
    (least_found m (λ e. after l.d e && not (says_yes (at c.args.own.now e))) c.in_ok-d.d (sym c.in_ok-d.ensures)).below

pub returns : goal.returns
returns g c =
    let m = g.C.Floor.points c.args.calendar.now in
    let next : ℕ → Option ℕ = next_no m (g.C.Floor.leads c.args.calendar.now) (at c.args.own.now) in
    let awaited : ℕ → Bool = λ e. says_yes (at c.args.left.now e) in
    let l = c.loop-i in
    going_over m next awaited c.args.start l.i l.days l.d (omega arith) l.invariant
