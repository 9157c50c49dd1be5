-- Widths, and the two that a docket keeps. Assumes nothing.
use Rattle.std.specs.Prelude.{min, max}
use Rattle.rules.specs.declared.width.Claim.{Claim}
use Rattle.rules.specs.declared.width.Claim.TheVariants.{Reaches, Limits}
use Rattle.rules.specs.declared.width.Ends.{Ends}
use Rattle.rules.specs.declared.width.Width.{Width}
use Rattle.rules.specs.declared.width.Width.TheVariants.{Number, Endless}

-- endless is wider than every number
abbrev pub wider : Width → Width → Width
wider (Number a) (Number b) = Number (max a b)
wider (Number a) Endless = Endless
wider Endless w = Endless

abbrev pub narrower : Width → Width → Width
narrower (Number a) (Number b) = Number (min a b)
narrower (Number a) Endless = Number a
narrower Endless w = w

-- what a new docket has
abbrev pub fresh_ends : Ends
fresh_ends = record { floor = Number 0; ceiling = Endless }

-- a width reached raises the floor if wider; a limit lowers the ceiling if narrower
abbrev pub moved : Ends → Claim → Ends
moved e (Reaches w) = record { floor = wider e.floor w; ceiling = e.ceiling }
moved e (Limits w) = record { floor = e.floor; ceiling = narrower e.ceiling w }
