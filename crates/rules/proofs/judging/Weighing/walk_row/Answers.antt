use Rattle.std.proofs.Common.{◌≡◌, ◌+◌, ◌-◌, sym, arith}
use Rattle.std.proofs.lemmas.Result.{err_from_is_err_and}
use Rattle.papers.proofs.Order.{first_found, first_none, first_more}
use Rattle.rules.specs.Rows.{column}
use Rattle.rules.specs.Weighing.{numbers_of}
use Rattle.rules.proofs.Steps.{gone_on, stopped}
use Rattle.rules.proofs.judging.Weighing.walk_row.Goals as goal

pub loop-place-init : goal.loop-place-init
loop-place-init g c =
    let none : c.args.start - c.args.start ≡ 0 = omega arith in
    (omega arith, rw none (sym (first_none _)), none)

pub returns-in_err-step : goal.returns-in_err-step
returns-in_err-step g c =
    let m = g.P.Transducer.meaning c.args.self.pile.now in
    let xs = numbers_of c.args.self in
    let b = c.args.start in
    let place = c.loop-place.place in
    let inv = c.loop-place.invariant in
    let p = err_from_is_err_and c.from_residual.result c.from_residual.ensures.1 in
    let here = stopped m xs b place inv.0 c.loop-place.walk _ inv.2 c.in_err-step.ensures in
    rw (p.1, p.2)
    (first_found (column m xs b) c.args.width (place - b) _ (omega (arith, inv.0, c.loop-place-test.true)) inv.1 here)

pub loop-place-preserved : goal.loop-place-preserved
loop-place-preserved g c =
    let m = g.P.Transducer.meaning c.args.self.pile.now in
    let xs = numbers_of c.args.self in
    let b = c.args.start in
    let place = c.loop-place.place in
    let inv = c.loop-place.invariant in
    let on = gone_on m xs b place inv.0 c.loop-place.walk c.in_ok-step.field-0 inv.2 c.in_ok-step.ensures in
    let next : place + 1 - b ≡ place - b + 1 = omega (arith, inv.0) in
    (omega (arith, inv.0), rw next (first_more (column m xs b) (place - b) inv.1 on.0), on.1)
