-- Widths as text. Assumes nothing.
use Rattle.std.specs.Prelude.{ℕ, List, codes, decimal}
use Rattle.rules.specs.declared.width.Width.{Width}
use Rattle.rules.specs.declared.width.Width.TheVariants.{Number, Endless}

-- digits, or endless
abbrev pub width_text : Width → List ℕ
width_text (Number n) = decimal n
width_text Endless = codes "endless"
