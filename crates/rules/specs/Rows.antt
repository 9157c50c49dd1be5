-- Rows of cells. A cell is a slot number in a paper; a row of width w at place b is the cells at places b to b + w - 1. Assumes nothing.
use Rattle.std.specs.Prelude.{ℕ, ◌+◌, ◌-◌, Bool, true, false, cond, List, length, Some, None, Err, Option, ◌==◌, slice_index}
use Rattle.std.specs.Option.{option_map}
use Rattle.papers.specs.First.{Verdict, must, ◌then◌, first}
use Rattle.transducers.specs.Meaning.{Edge, Meaning, from, to}
use Rattle.rules.specs.declared.fault.DocketFault.{DocketFault}
use Rattle.rules.specs.declared.fault.DocketFault.TheVariants.{NoEdge, Apart, Open}

-- the edge that the cell at a place names
abbrev pub cell : Meaning → List ℕ → ℕ → Option Edge
cell m xs p = m.edge (slice_index xs p)

-- the state that the row at b leaves, and the state that it is in after its first j cells
abbrev pub origin : Meaning → List ℕ → ℕ → ℕ → Option ℕ
origin m xs b j = cond (j == 0) None (option_map from (cell m xs b))

abbrev pub arrival : Meaning → List ℕ → ℕ → ℕ → Option ℕ
arrival m xs b j = cond (j == 0) None (option_map to (cell m xs (b + j - 1)))

-- an edge leaves the state that the row is in; the row's first edge may leave any
abbrev pub leaves : Option ℕ → Edge → Bool
leaves None e = true
leaves (Some q) e = q == from e

-- a cell names an edge, and that meets the one before
abbrev pub cell_meets : Option Edge → Option ℕ → ℕ → Verdict DocketFault
cell_meets None state p = Err (NoEdge p)
cell_meets (Some e) state p = must (leaves state e) (Apart p)

-- the cell in column j of the row at b
abbrev pub column : Meaning → List ℕ → ℕ → ℕ → Verdict DocketFault
column m xs b j = cell_meets (cell m xs (b + j)) (arrival m xs b j) (b + j)

abbrev pub same_state : Option ℕ → Option ℕ → Bool
same_state None None = true
same_state None (Some q) = false
same_state (Some p) None = false
same_state (Some p) (Some q) = p == q

-- a row that is a walk
abbrev pub row : Meaning → List ℕ → ℕ → ℕ → Verdict DocketFault
row m xs b w = first (column m xs b) w

-- a row that is a closed walk: its last edge enters the state that its first leaves
abbrev pub closed_row : Meaning → List ℕ → ℕ → ℕ → Verdict DocketFault
closed_row m xs b w = row m xs b w then must (same_state (origin m xs b w) (arrival m xs b w)) (Open (b + w - 1))

-- the rule of a strip, and of a ring
abbrev pub strip : Meaning → List ℕ → Verdict DocketFault
strip m xs = row m xs 0 (length xs)

abbrev pub ring : Meaning → List ℕ → Verdict DocketFault
ring m xs = closed_row m xs 0 (length xs)
