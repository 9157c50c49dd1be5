-- The number and the position of each fault. Assumes nothing.
use Rattle.std.specs.Prelude.{ℕ, Some, None, Option}
use Rattle.setgrammar.specs.declared.fault.Position.{Position}
use Rattle.setgrammar.specs.declared.fault.TextFault.{TextFault}
use Rattle.setgrammar.specs.declared.fault.TextFault.TheVariants.{Start, Byte, Range, Turn, Full, Ends, Long}

abbrev pub fault_number : TextFault → ℕ
fault_number (Start at) = 1
fault_number (Byte at) = 2
fault_number (Range at) = 3
fault_number (Turn at) = 4
fault_number (Full at) = 5
fault_number (Ends at) = 6
fault_number Long = 7

-- where a fault is; a text that is too long has no such place
abbrev pub fault_position : TextFault → Option Position
fault_position (Start at) = Some at
fault_position (Byte at) = Some at
fault_position (Range at) = Some at
fault_position (Turn at) = Some at
fault_position (Full at) = Some at
fault_position (Ends at) = Some at
fault_position Long = None

abbrev pub fault_line : TextFault → ℕ
fault_line (Start at) = at.line
fault_line (Byte at) = at.line
fault_line (Range at) = at.line
fault_line (Turn at) = at.line
fault_line (Full at) = at.line
fault_line (Ends at) = at.line
fault_line Long = 0

abbrev pub fault_column : TextFault → ℕ
fault_column (Start at) = at.column
fault_column (Byte at) = at.column
fault_column (Range at) = at.column
fault_column (Turn at) = at.column
fault_column (Full at) = at.column
fault_column (Ends at) = at.column
fault_column Long = 0
