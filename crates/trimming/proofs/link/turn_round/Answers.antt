use Rattle.std.proofs.Common.{append-nil, get_or, arith, refl}
use Rattle.std.proofs.lemmas.List.{drop_all, get_or_default, take_all}
use Rattle.std.proofs.lemmas.List.Edits.{map_over_more}
use Rattle.trimming.specs.Links.{turned}
use Rattle.trimming.specs.declared.link.Link.{Link}
use Rattle.trimming.proofs.link.turn_round.Goals as goal

abbrev none : Link
none = record { from = 0; to = 0 }

pub loop-link-init : goal.loop-link-init
loop-link-init c = refl

pub loop-link-preserved : goal.loop-link-preserved
loop-link-preserved c =
    let l = c.loop-link in
    let x = get_or l.links l.link-index none in
    map_over_more turned c.args.links.now l.links l.link-index x c.loop-link-test.true l.invariant (get_or_default l.links l.link-index none x (omega (arith, c.loop-link-test.true, l.auto.links)))

pub returns : goal.returns
returns c =
    let all = take_all c.loop-link.link-index c.args.links.now c.loop-link-test.false in
    let none_left = drop_all c.loop-link.link-index c.args.links.now c.loop-link-test.false in
    rw (all, none_left, append-nil) at c.loop-link.invariant
