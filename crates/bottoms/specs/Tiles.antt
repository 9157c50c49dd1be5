-- A list of tiles as a transducer: a tile is an edge from its west colour to its east. Assumes nothing.
use Rattle.std.specs.Prelude.{ℕ, ◌+◌, max, cond, List, [], ◌∷◌, length, Some, None, Option, nat_lt, slice_index_or}
use Rattle.transducers.specs.Meaning.{Edge, Meaning}
use Rattle.bottoms.specs.declared.tile.Tile.{Tile}

abbrev pub tile_edge : Tile → Edge
tile_edge t = (t.west, t.east, t.south, t.north)

abbrev pub blank : Tile
blank = record { west = 0; east = 0; south = 0; north = 0 }

-- the greater of a tile's two states, and of its two letters
abbrev pub tile_state : Tile → ℕ
tile_state t = max t.west t.east

abbrev pub tile_letter : Tile → ℕ
tile_letter t = max t.south t.north

-- the greatest of a number over a list of tiles
unfoldable pub greatest : (Tile → ℕ) → List Tile → ℕ
greatest f [] = 0
greatest f (t ∷ ts) = max (f t) (greatest f ts)

-- slot i is tile i
abbrev pub tile_in : List Tile → ℕ → Option Edge
tile_in ts i = cond (nat_lt i (length ts)) (Some (tile_edge (slice_index_or ts i blank))) None

-- the states are one more than the greatest west or east, the letters one more than the greatest south or north
abbrev pub list_meaning : List Tile → Meaning
list_meaning ts = record {
  states = greatest tile_state ts + 1;
  letters = greatest tile_letter ts + 1;
  slots = length ts;
  edge = tile_in ts;
}
