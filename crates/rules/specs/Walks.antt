-- Walking along a row, a cell at a time. Assumes nothing.
use Rattle.std.specs.Prelude.{◌≡◌, ℕ, ◌+◌, ◌-◌, ◌<◌, true, List, Some, None, Option}
use Rattle.std.specs.Option.{option_map}
use Rattle.transducers.specs.Meaning.{Edge, Meaning, from, to}
use Rattle.rules.specs.Rows.{cell, leaves}
use Rattle.rules.specs.declared.rows.Walk.{Walk}

-- the walk along the first j cells of the row at b: none along no cells
abbrev pub IsWalk : Meaning → List ℕ → ℕ → ℕ → Option Walk → Type 0
IsWalk m xs b j None = j ≡ 0
IsWalk m xs b j (Some w) =
    (0 < j)
    × (option_map from (cell m xs b) ≡ Some w.origin)
    × (option_map to (cell m xs (b + j - 1)) ≡ Some w.state)

-- the state that a walk is in
abbrev pub state_of : Option Walk → Option ℕ
state_of walk = option_map (λ w. w.state) walk

-- a walk with one edge more
abbrev pub longer : Option Walk → Edge → Walk
longer None e = record { origin = from e; state = to e }
longer (Some w) e = record { origin = w.origin; state = to e }

-- the cell at p makes a walk longer
abbrev pub GoesOn : Meaning → List ℕ → ℕ → Option Walk → Walk → Type 0
GoesOn m xs p walk w =
    (e : Edge) × (cell m xs p ≡ Some e) × (leaves (state_of walk) e ≡ true) × (w ≡ longer walk e)
