use Rattle.std.proofs.Common.{◌≡◌, eqb, length, ap, sym, inl, inr, arith, rules}
use Rattle.papers.proofs.Forms.{reads_exactly}
use Rattle.papers.proofs.Laws.{paper_refused}
use Rattle.papers.proofs.Reading.{at_place, start_fails, start_read, next_fails, next_read, count_small, all_read}
use Rattle.papers.proofs.paper.read.read_paper.Goals as goal

pub returns-in_err-start : goal.returns-in_err-start
returns-in_err-start c =
    paper_refused _ _ _ c.from_residual-in_err-start.ensures.1 (start_fails (search rules) c.is_empty.ensures _ c.in_err-start.ensures.law)

pub loop-place-init : goal.loop-place-init
loop-place-init c =
    let left : c.zip-place-items.result.b.rest.now ≡ c.in_ok-first.others.now = search rules in
    rw (c.into_iter-place-iterator.ensures.into_iter_gives, c.zip-place-items.ensures.first, left, c.from-count.ensures)
    (start_read (search rules) c.is_empty.ensures c.in_ok-start.ensures.law)

pub returns-in_err-next : goal.returns-in_err-next
returns-in_err-next c =
    paper_refused _ _ _ c.from_residual-in_err-next.ensures.1
    (next_fails (search rules) c.is_empty.ensures c.in_ok-start.ensures.law (at_place c.in-Some.ensures.steps.0.0 c.loop-place.invariant) c.in-Some.ensures.steps.1 c.into.ensures (ap (λ n. eqb n (length c.in_ok-first.others.now)) c.from.ensures) _ c.in_err-next.ensures.law)

pub overflow_add-count : goal.overflow_add-count
overflow_add-count c =
    record { fits = omega (arith, (count_small (search rules) c.is_empty.ensures c.in_ok-start.ensures.law c.loop-place.invariant).0) }

pub loop-place-preserved : goal.loop-place-preserved
loop-place-preserved c =
    rw (c.in-Some.ensures.steps.0.1, c.from-count-in-loop-place.ensures)
    (next_read (search rules) c.is_empty.ensures c.in_ok-start.ensures.law (at_place c.in-Some.ensures.steps.0.0 c.loop-place.invariant) c.in-Some.ensures.steps.1 c.into.ensures (ap (λ n. eqb n (length c.in_ok-first.others.now)) c.from.ensures) _ c.in_ok-next.ensures.law)

pub invariant_of-result : goal.invariant_of-result
invariant_of-result c =
    record { within = (count_small (search rules) c.is_empty.ensures c.in_ok-start.ensures.law c.loop-place.invariant).1 }

pub returns : goal.returns
returns c =
    let all = all_read (search rules) c.is_empty.ensures c.in_ok-start.ensures.law c.loop-place.invariant (elim c.in-None.ensures.steps [ inl over ↦ inl over.1.0 | inr none ↦ inr none.1.0 ]) in
    record { answer = all; law = (reads_exactly _ _ _).0 (sym all) }
