use Rattle.piles.specs.PilesKept.{four_is}
use Rattle.piles.proofs.pile.four_high.Goals as goal

pub returns-clause-made : goal.returns-clause-made
returns-clause-made g c =
    four_is g.B.Transducer.meaning c.in_ok-new.field-0 c.in_ok-lower.lower c.in_ok-upper.upper _ _ _ _
    c.in_ok-lower.ensures c.in_ok-upper.ensures c.in_ok-new.ensures
