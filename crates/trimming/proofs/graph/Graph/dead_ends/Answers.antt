use Rattle.std.proofs.Common.{◌≡◌, ◌≤◌, length, arith, eqb-true, sym, ◌∙◌}
use Rattle.std.proofs.lemmas.Bool.{eqb-false}
use Rattle.trimming.specs.Graphs.{intos, outs}
use Rattle.trimming.specs.Linking.{at}
use Rattle.trimming.proofs.Draining.{seen_all, seen_pass, seen_push, some_of}
use Rattle.trimming.proofs.graph.Graph.dead_ends.Goals as goal
use Rattle.trimming.proofs.graph.Graph.dead_ends.Goals.{then-is_empty+then-not-is_empty+in_ok-push, else-is_empty, else-is_empty-via-then-is_empty+else-not-is_empty, else-is_empty-via-else-is_empty}

pub loop-state-preserved : goal.loop-state-preserved
loop-state-preserved c =
    let self = c.args.self.now in
    let l = c.loop-state in
    elim c.if-is_empty.branch [
      | then-is_empty+then-not-is_empty+in_ok-push w ↦
          let none : length (at (outs self) l.state) ≡ 0 = eqb-true _ _ (rw c.of.ensures at (sym c.is_empty.ensures ∙ w.if-is_empty.true)) in
          let some : 1 ≤ length (at (intos self) l.state) = some_of _ (eqb-false _ _ (rw w.of-then-is_empty.ensures at (sym w.is_empty-then-is_empty.ensures ∙ w.if-not-is_empty.true))) in
          rw (w.dead_ends-is, w.in_ok-push.ensures.items) (seen_push (outs self) (intos self) l.state l.dead_ends.items l.invariant none some)
      | else-is_empty w ↦
          rw w.dead_ends-is (seen_pass (outs self) (intos self) l.state l.dead_ends.items l.invariant (λ none some.
          elim w.else-is_empty.branch [
            | else-is_empty-via-then-is_empty+else-not-is_empty v ↦
                let unlinked : length (at (intos self) l.state) ≡ 0 = eqb-true _ _ (rw v.of-then-is_empty.ensures at (sym v.is_empty-then-is_empty.ensures ∙ v.if-not-is_empty.false)) in
                omega arith
            | else-is_empty-via-else-is_empty v ↦ eqb-false _ _ (rw c.of.ensures at (sym c.is_empty.ensures ∙ v.if-is_empty.false)) none
          ]))
    ]

pub returns : goal.returns
returns c =
    let self = c.args.self.now in
    let l = c.loop-state in
    let all : l.state ≡ length (outs self) = omega (arith, c.loop-state-test.false, l.auto.state-end, c.len-state-end.ensures) in
    seen_all (outs self) (intos self) l.state l.dead_ends.items l.invariant all (omega (arith, all, self.same_size))
