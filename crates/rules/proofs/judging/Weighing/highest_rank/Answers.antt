use Rattle.std.proofs.Common.{length, get_or, sym, refl, arith}
use Rattle.papers.proofs.Order.{answer_of, first_exit_answered, first_none, first_more, passed, refused}
use Rattle.rules.specs.Ranks.{highest, rank_fits}
use Rattle.rules.specs.Weighing.{numbers_of}
use Rattle.rules.proofs.Steps.{highest_more}
use Rattle.rules.proofs.judging.Weighing.highest_rank.Goals as goal

pub loop-state-init : goal.loop-state-init
unfolding highest
loop-state-init g c = (sym (first_none _), refl)

pub returns-in_err-rank_of : goal.returns-in_err-rank_of
returns-in_err-rank_of g c =
    let xs = numbers_of c.args.self in
    let state = c.loop-state.state in
    first_exit_answered (rank_fits xs) _ (length xs) state _ _ c.from_residual.ensures.1
    (omega (arith, c.loop-state-test.true, c.len-state-end.ensures)) c.loop-state.invariant.0
    (refused (rank_fits xs state) (get_or xs state 0) _ c.in_err-rank_of.ensures)

pub loop-state-preserved : goal.loop-state-preserved
loop-state-preserved g c =
    let xs = numbers_of c.args.self in
    let state = c.loop-state.state in
    let told = c.in_ok-rank_of.ensures in (
      first_more (rank_fits xs) state c.loop-state.invariant.0 (passed (rank_fits xs state) (get_or xs state 0) _ told),
      highest_more xs state _ _ _ c.loop-state.invariant.1 (answer_of (rank_fits xs state) (get_or xs state 0) _ told) c.max-high.ensures,
    )
