use Rattle.std.proofs.Common.{◌≡◌, ◌+◌, ◌-◌, ◌≤◌, get_or, arith, ◌∙◌}
use Rattle.trimming.proofs.Draining.{count_falls, standing_last, standing_stays, taken_more, taken_some}
use Rattle.trimming.proofs.Times.{count_inside}
use Rattle.trimming.proofs.graph.unlink.Goals as goal
use Rattle.trimming.proofs.graph.unlink.Goals.{then-counts-state-eq0+in_ok-push, else-counts-state-eq0}

pub bounds-counts-state : goal.bounds-counts-state
bounds-counts-state c = rw c.from-state.ensures (count_inside _ _ (taken_some _ _ _ _ c.loop-state-test.true c.loop-state.invariant.counted c.requires))

pub overflow_sub-counts : goal.overflow_sub-counts
overflow_sub-counts c = rw c.from-state.ensures (taken_some _ _ _ _ c.loop-state-test.true c.loop-state.invariant.counted c.requires)

pub loop-state-preserved : goal.loop-state-preserved
loop-state-preserved c =
    let l = c.loop-state in
    let x = get_or c.args.states.now l.state-index 0 in
    let n = get_or l.counts x 0 in
    let some : 1 ≤ n = taken_some _ _ _ _ c.loop-state-test.true l.invariant.counted c.requires in
    let less : n - 1 + 1 ≡ n = omega arith in
    let counted = taken_more c.args.states.now c.args.counts.now l.counts l.state-index c.loop-state-test.true l.invariant.counted (n - 1) less in
    let falls = count_falls l.counts x (n - 1) less in
    elim c.if-counts-state-eq0.branch [
      | then-counts-state-eq0+in_ok-push w ↦ rw (w.going-is, c.from-state.ensures) record {
        counted = counted;
        stand = λ q. rw (w.in_ok-push.ensures.items, c.from-state.ensures) (standing_last l.counts x (n - 1) less (rw c.from-state.ensures at w.if-counts-state-eq0.true) l.going.items q ∙ l.invariant.stand q);
        light = omega (arith, falls, l.invariant.light, w.in_ok-push.ensures.len);
      }
      | else-counts-state-eq0 w ↦ rw (w.going-is, c.from-state.ensures) record {
        counted = counted;
        stand = λ q. standing_stays l.counts x (n - 1) less (rw c.from-state.ensures at w.if-counts-state-eq0.false) l.going.items q ∙ l.invariant.stand q;
        light = omega (arith, falls, l.invariant.light);
      }
    ]
