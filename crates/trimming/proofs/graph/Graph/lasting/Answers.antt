use Rattle.std.proofs.Common.{◌≡◌, [], length, ltb, ap, ◌∙◌, arith, rules, tests}
use Rattle.std.proofs.lemmas.Iterator.{YieldsList-from_map, YieldsList-from_slice, items_from_collect}
use Rattle.std.proofs.lemmas.List.{length-map, nil_from_length, with_items_is}
use Rattle.std.proofs.lemmas.Result.{IfOk-weaker}
use Rattle.trimming.proofs.Draining.{draining_ends, draining_goes, draining_starts, goes_counted, goes_inside}
use Rattle.trimming.proofs.graph.Graph.lasting.Goals as goal

pub loop-state-init : goal.loop-state-init
loop-state-init c = draining_starts c.args.self.now _ _ c.in_ok-counts.ensures c.in_ok-going.ensures

pub of-requires : goal.of-requires
of-requires c =
    let self = c.args.self.now in
    goes_inside self _ _ c.in-Some.state (rw c.in-Some.ensures.items at c.loop-state.invariant)

pub unlink-requires : goal.unlink-requires
unlink-requires c =
    let self = c.args.self.now in
    let old = rw c.in-Some.ensures.items at c.loop-state.invariant in
    λ q. rw (c.of.ensures, c.deref_mut.ensures.value) (goes_counted self _ _ c.in-Some.state old q)

pub loop-state-preserved : goal.loop-state-preserved
loop-state-preserved c =
    let self = c.args.self.now in
    let d = c.loop-state in
    let old = rw c.in-Some.ensures.items at c.loop-state.invariant in
    let counts = c.deref_mut.ensures.value in
    let long : length c.unlink.new.counts ≡ length d.counts.items = c.unlink.auto.counts ∙ ap length counts in
    rw (with_items_is d.counts c.unlink.new.counts (omega (arith, long, d.counts.ok.0)))
    (draining_goes self d.counts.items c.pop.new.self.items c.in-Some.state old c.unlink.new.counts c.unlink.new.going.items long (rw (c.of.ensures, counts) at c.in_ok-unlink.ensures.counts) (rw counts at c.in_ok-unlink.ensures.standing))

pub returns : goal.returns
returns c =
    let d = c.loop-state in
    let none : d.going.items ≡ [] = nil_from_length _ (omega (arith, c.in_default.ensures.cases.0, d.going.ok.0)) in
    let end = rw none at d.invariant in
    let ran = items_from_collect _ c.collect.ensures.ran (YieldsList-from_map _ (λ n. ltb 0 n) (YieldsList-from_slice d.counts.items cc) c.map.ensures.closure (λ x r q k. search (rules, tests))) in
    record {
      size = IfOk-weaker c.collect.result _ _ (λ v is. ap length is ∙ length-map d.counts.items (λ n. ltb 0 n) ∙ end.size) ran;
      left = IfOk-weaker c.collect.result _ _ (λ v is. rw is (draining_ends _ _ end)) ran;
    }
