use Rattle.std.proofs.Common.{refl}
use Rattle.transducers.specs.Stacks.{stack_is_held}
use Rattle.transducers.proofs.stack.Stack.new.Goals as goal

pub returns : goal.returns
returns g c =
    let l = g.met.L.Transducer.valid c.args.lower in
    let u = g.met.U.Transducer.valid c.args.upper in
    let e = c.in_ok-counts.ensures in
    (refl, refl, stack_is_held _ _ l u c.in_ok-counts.counts e.states e.letters e.slots)
