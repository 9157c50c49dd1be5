-- A place in a text, and what is read there. Assumes nothing.
use Rattle.std.specs.Prelude.{ℕ, ◌+◌, cond, List, [], ◌∷◌, Ok, Err, Result, ◌==◌}
use Rattle.setgrammar.specs.declared.fault.Position.{Position}
use Rattle.setgrammar.specs.declared.fault.TextFault.{TextFault}
use Rattle.setgrammar.specs.declared.fault.TextFault.TheVariants.{Ends}

-- what is left of the text, and where it starts
pub record Place : Type 0 where
  pub rest : List ℕ
  pub at : Position

-- the start of a text
abbrev pub start_of : List ℕ → Place
start_of bs = record { rest = bs; at = record { line = 1; column = 1 } }

-- the position after a byte: a line feed ends its line
abbrev pub after : Position → ℕ → Position
after at b = cond (b == 10) (record { line = at.line + 1; column = 1 }) (record { line = at.line; column = at.column + 1 })

-- a value and the place after it, or a fault
abbrev pub Read : Type 0 → Type 0
Read X = Result (X × Place) TextFault

infixl 20 ◌then◌
-- a reading, and then another that starts where the first came to
abbrev pub ◌then◌ : {X Y : Type 0} → Read X → (X → Place → Read Y) → Read Y
Ok got then next = next got.0 got.1
Err f then next = Err f

-- the next byte, which the text has to have
abbrev pub next_byte : List ℕ → Position → Read ℕ
next_byte [] at = Err (Ends at)
next_byte (b ∷ bs) at = Ok (b, record { rest = bs; at = after at b })

abbrev pub byte_at : Place → Read ℕ
byte_at p = next_byte p.rest p.at
