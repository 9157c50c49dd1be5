use Rattle.std.proofs.Common.{◌≡◌, length, ap, arith}
use Rattle.std.proofs.lemmas.List.{with_items_is}
use Rattle.trimming.specs.Trimming.{listed}
use Rattle.trimming.proofs.Thriving.{common_largest}
use Rattle.trimming.proofs.trim.thriving.Goals as goal

pub keep_common-requires : goal.keep_common-requires
keep_common-requires g c =
    record { sizes = omega (arith, ap length c.deref_mut.ensures.value, ap length c.deref.ensures.value, c.in_ok-kept.ensures.size, rw c.reversed.ensures.out at c.in_ok-back.ensures.size, c.in_ok-graph.graph.same_size) }

pub returns : goal.returns
returns g c =
    let m = g.T.Transducer.meaning c.args.below.now in
    let valid = g.met.T.Transducer.valid c.args.below.now in
    let kept = c.in_ok-kept.kept in
    let now = c.keep_common.new.states in
    let long : length now ≡ kept.len = omega (arith, c.keep_common.auto.states, c.deref_mut.ensures.len) in
    rw (with_items_is kept now long)
    (common_largest m valid _ _ c.in_ok-graph.ensures (listed kept.items) (listed c.in_ok-back.back.items) c.in_ok-kept.ensures.left (rw c.reversed.ensures.out at c.in_ok-back.ensures.left) (listed now) (rw (c.deref_mut.ensures.value, c.deref.ensures.value) at c.keep_common.ensures))
