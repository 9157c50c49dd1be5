-- The rule of a torus: rows of one width that close, each under the next, and the top row under the bottom row. Assumes nothing.
use Rattle.std.specs.Prelude.{ℕ, ◌+◌, ◌-◌, ◌*◌, Bool, false, cond, ◌&&◌, List, length, Some, None, Option, ◌==◌, nat_le, nat_lt, slice_index}
use Rattle.papers.specs.First.{Verdict, must, ◌then◌, first}
use Rattle.transducers.specs.Meaning.{Edge, Meaning, south, north}
use Rattle.rules.specs.Rows.{cell, closed_row}
use Rattle.rules.specs.declared.fault.DocketFault.{DocketFault}
use Rattle.rules.specs.declared.fault.DocketFault.TheVariants.{Shape, ApartAbove}

-- the width and the row count stand before the cells
abbrev pub width : List ℕ → ℕ
width xs = slice_index xs 0

abbrev pub rows : List ℕ → ℕ
rows xs = slice_index xs 1

abbrev pub fair_side : ℕ → Bool
fair_side n = nat_le 1 n && nat_le n 8062

abbrev pub fair_shape : List ℕ → Bool
fair_shape xs = nat_le 3 (length xs) && (fair_side (width xs) && (fair_side (rows xs) && length xs == 2 + width xs * rows xs))

-- the place of the first cell of row k, and of the cell above cell i
abbrev pub row_start : List ℕ → ℕ → ℕ
row_start xs k = 2 + k * width xs

abbrev pub above : List ℕ → ℕ → ℕ
above xs i = cond (nat_lt (i + width xs) (width xs * rows xs)) (i + width xs) (i + width xs - width xs * rows xs)

-- the lower edge's north is the upper edge's south
abbrev pub stacks : Option Edge → Option Edge → Bool
stacks (Some e) (Some f) = north e == south f
stacks (Some e) None = false
stacks None o = false

abbrev pub meets_above : Meaning → List ℕ → ℕ → Verdict DocketFault
meets_above m xs i = must (stacks (cell m xs (2 + i)) (cell m xs (2 + above xs i))) (ApartAbove (2 + i))

abbrev pub torus_row : Meaning → List ℕ → ℕ → Verdict DocketFault
torus_row m xs k = closed_row m xs (row_start xs k) (width xs)

abbrev pub torus : Meaning → List ℕ → Verdict DocketFault
torus m xs =
    must (fair_shape xs) Shape
    then first (torus_row m xs) (rows xs)
    then first (meets_above m xs) (width xs * rows xs)
