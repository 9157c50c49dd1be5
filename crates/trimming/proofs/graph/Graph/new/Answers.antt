use Rattle.std.proofs.Common.{sym, ◌∙◌, arith}
use Rattle.trimming.specs.Lists.{rows}
use Rattle.trimming.proofs.Linking.{links_sorted, turned_inside, turned_items}
use Rattle.trimming.proofs.graph.Graph.new.Goals as goal

pub new-requires-2-clause-inside : goal.new-requires-2-clause-inside
new-requires-2-clause-inside g c =
    let links = c.in_ok-links.links in
    let back = turned_items links _ _ c.deref-2.result.now c.deref_mut.ensures.value c.turn_round.ensures c.deref-2.ensures.value in
    rw (back, c.states-states.ensures) (turned_inside _ links.items c.in_ok-links.ensures.inside)

pub invariant_of-result : goal.invariant_of-result
invariant_of-result g c =
    let links = c.in_ok-links.links in
    let back = turned_items links _ _ c.deref-2.result.now c.deref_mut.ensures.value c.turn_round.ensures c.deref-2.ensures.value in
    let sorted = links_sorted (g.T.Transducer.meaning c.args.below.now) links.items (rows c.in_ok-out.out) (rows c.in_ok-into.into) c.in_ok-links.ensures
    (rw (c.deref.ensures.value, c.states-states.ensures) at c.in_ok-out.ensures) (rw (back, c.states-states.ensures) at c.in_ok-into.ensures) in
    record { same_size = omega (arith, sorted.out_size, sorted.into_size); reverse = λ p q. sorted.leaving p q ∙ sym (sorted.entering p q) }

pub returns : goal.returns
returns g c =
    let links = c.in_ok-links.links in
    let back = turned_items links _ _ c.deref-2.result.now c.deref_mut.ensures.value c.turn_round.ensures c.deref-2.ensures.value in
    links_sorted (g.T.Transducer.meaning c.args.below.now) links.items (rows c.in_ok-out.out) (rows c.in_ok-into.into) c.in_ok-links.ensures
    (rw (c.deref.ensures.value, c.states-states.ensures) at c.in_ok-out.ensures) (rw (back, c.states-states.ensures) at c.in_ok-into.ensures)
