use Rattle.std.proofs.Common.{◌≡◌, ◌<◌, ◌∷◌, inl, inr, length, take, arith, rules}
use Rattle.papers.proofs.Weighing.{Weighed, none_weighed, term_small, sum_small, more_weighed, all_weighed}
use Rattle.papers.proofs.bytes.BlockBytes.weighted_sum.Goals as goal

pub loop-byte-init : goal.loop-byte-init
loop-byte-init c =
    let left : c.zip-byte-items.result.a.rest.now ≡ c.checked.result.now = search rules in
    let weight : c.zip-byte-items.result.b.start ≡ 1 = search rules in
    rw (c.into_iter-byte-iterator.ensures.into_iter_gives, left, weight, c.checked.ensures.value) (none_weighed _)

-- the byte and its weight
module _ (c : goal.After-from) where
  small : c.from.result < 256
  small = omega arith

  at : c.loop-byte.byte-iterator.a.rest.now ≡ c.from.result ∷ c.next.new.self.a.rest.now
  at = rw c.from.ensures c.in-Some.ensures.steps.0

  so : Weighed c.args.self.now.bytes.now c.in-Some.weight c.loop-byte.sum c.loop-byte.byte-iterator.a.rest.now
  so = rw c.in-Some.ensures.steps.1.0 c.loop-byte.invariant

  long : length (take 508 c.args.self.now.bytes.now) ≡ 508
  long = rw c.checked.ensures.value at c.checked.ensures.len

pub overflow_mul-sum : goal.overflow_mul-sum
overflow_mul-sum c = record { fits = omega (arith, term_small (long c) (so c) (small c) (at c)) }

pub overflow_add-sum : goal.overflow_add-sum
overflow_add-sum c = record { fits = sum_small (long c) (so c) (small c) (at c) }

pub loop-byte-preserved : goal.loop-byte-preserved
loop-byte-preserved c = rw c.in-Some.ensures.steps.1.1 (more_weighed (long c) (so c) (small c) (at c))

pub returns : goal.returns
returns c =
    all_weighed (rw c.checked.ensures.value at c.checked.ensures.len) c.loop-byte.invariant (elim c.in-None.ensures.steps [ inl none ↦ inr none.1.0 | inr over ↦ inl over.1.0 ])
