use Rattle.std.proofs.Common.{◌≡◌, ℕ, ◌+◌, ◌≤◌, sum, take, slice_index, vec_len}
use Rattle.trimming.specs.Draining.{standing}
use Rattle.trimming.specs.Linking.{times_in}
use Rattle.trimming.proofs.graph.unlink.Given as goal

abbrev pub invariant-loop-state : goal.invariant-loop-state
invariant-loop-state l = record {
  counted : (q : ℕ) → slice_index l.counts q + times_in (take l.state-index l.states) q ≡ slice_index l.initial.counts q;
  stand : (q : ℕ) → standing l.counts l.going.items q ≡ standing l.initial.counts l.initial.going.items q;
  light : sum l.counts + vec_len l.going ≤ sum l.initial.counts + vec_len l.initial.going;
}
