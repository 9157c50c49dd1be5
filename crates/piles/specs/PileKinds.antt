-- The numbers of the piles. Assumes nothing.
use Rattle.std.specs.Prelude.{ℕ, cond, Some, None, Option, Result, ok_or, ◌==◌}
use Rattle.piles.specs.declared.pile_fault.PileFault.{PileFault}
use Rattle.piles.specs.declared.pile_fault.PileFault.TheVariants.{List}
use Rattle.piles.specs.declared.pile_kind.PileKind.{PileKind}
use Rattle.piles.specs.declared.pile_kind.PileKind.TheVariants.{FourHigh, Plain, Trimmed, TrimmedTwoHigh, Turned, TwoHigh}

-- the pile that a number names: 1 the set, 2 turned, 3 two high, 4 trimmed, 5 two high and then trimmed, 6 two of pile 3 stacked
abbrev pub numbered_pile : ℕ → Option PileKind
numbered_pile n =
    cond (n == 1) (Some Plain)
    (cond (n == 2) (Some Turned)
    (cond (n == 3) (Some TwoHigh)
    (cond (n == 4) (Some Trimmed)
    (cond (n == 5) (Some TrimmedTwoHigh)
    (cond (n == 6) (Some FourHigh) None)))))

-- that pile, or the fault of a list where the number names none
abbrev pub numbered : ℕ → Result PileKind PileFault
numbered n = ok_or (numbered_pile n) List
