use Rattle.std.proofs.Common.{◌≡◌, sym, ◌∙◌, subst, arith}
use Rattle.trimming.specs.Links.{AreEdges}
use Rattle.trimming.proofs.Linking.{edges_none, edges_pass, edges_push}
use Rattle.trimming.proofs.link.links_of.Goals as goal
use Rattle.trimming.proofs.link.links_of.Goals.{in-Some+in_ok-push, in_default}

pub loop-i-init : goal.loop-i-init
loop-i-init g c = rw c.new-links.ensures.items (edges_none (g.T.Transducer.meaning c.args.below.now))

pub loop-i-preserved : goal.loop-i-preserved
loop-i-preserved g c =
    let m = g.T.Transducer.meaning c.args.below.now in
    let valid = g.met.T.Transducer.valid c.args.below.now in
    let l = c.loop-i in
    elim c.match-slot.branch [
      | in-Some+in_ok-push w ↦
          let is = sym c.slot.ensures ∙ w.in-Some.is in
          rw (w.links-is, w.in_ok-push.ensures.items) (edges_push m l.i l.links.items l.invariant valid _ is)
      | in_default w ↦ rw w.links-is (edges_pass m l.i l.links.items l.invariant (sym c.slot.ensures ∙ w.in_default.is))
    ]

pub returns : goal.returns
returns g c =
    let l = c.loop-i in
    let all : l.i ≡ (g.T.Transducer.meaning c.args.below.now).slots = omega (arith, c.loop-i-test.false, l.auto.i-end, c.slots-i-end.ensures) in
    subst (λ n. AreEdges (g.T.Transducer.meaning c.args.below.now) n l.links.items) all l.invariant
