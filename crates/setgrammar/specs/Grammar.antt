-- The set text as a grammar: its lines as bytes, and the turns in which they stand. Assumes nothing.
use Rattle.std.specs.Prelude.{◌≡◌, ℕ, ◌<◌, ◌≤◌, ◌⊎◌, List, [], ◌∷◌, ◌++◌, map, length, drop, decimal, ◌≢◌}
use Rattle.std.specs.List.{AllByRecursion}
use Rattle.bottoms.specs.declared.tile.Tile.{Tile}
use Rattle.setgrammar.specs.declared.set.SetText.{SetText}

-- a line, by what it says
pub data Line : Type 0 where
  blank : Line
  note : List ℕ → Line
  pile : ℕ → Line
  row : ℕ → Line
  tile : Tile → Line

-- a tile's numbers
abbrev pub edges : Tile → List ℕ
edges t = t.west ∷ t.east ∷ t.south ∷ t.north ∷ []

-- a space and each number in decimal, and a line feed
abbrev pub fields : List ℕ → List ℕ
fields [] = 10 ∷ []
fields (n ∷ ns) = 32 ∷ (decimal n ++ fields ns)

-- a line's bytes: the first is a line feed, #, p, f or t
abbrev pub written : Line → List ℕ
written blank = 10 ∷ []
written (note bs) = 35 ∷ (bs ++ 10 ∷ [])
written (pile n) = 112 ∷ fields (n ∷ [])
written (row n) = 102 ∷ fields (n ∷ [])
written (tile t) = 116 ∷ fields (edges t)

-- a note holds no line feed
abbrev pub NoFeed : List ℕ → Type 0
NoFeed bs = AllByRecursion (λ b. b ≢ 10) bs

-- a line of the right form, whose numbers have at most three digits
abbrev pub Formed : Line → Type 0
Formed blank = Unit {0}
Formed (note bs) = NoFeed bs
Formed (pile n) = n ≤ 999
Formed (row n) = n ≤ 999
Formed (tile t) = AllByRecursion (λ n. n ≤ 999) (edges t)

-- and each in its range
abbrev pub Good : Line → Type 0
Good blank = Unit {0}
Good (note bs) = NoFeed bs
Good (pile n) = (1 ≤ n) × (n ≤ 6)
Good (row n) = (1 ≤ n) × (n ≤ 8)
Good (tile t) = AllByRecursion (λ n. n ≤ 255) (edges t)

-- the lines that say something
abbrev pub spoken : List Line → List Line
spoken [] = []
spoken (blank ∷ ls) = spoken ls
spoken (note bs ∷ ls) = spoken ls
spoken (pile n ∷ ls) = pile n ∷ spoken ls
spoken (row n ∷ ls) = row n ∷ spoken ls
spoken (tile t ∷ ls) = tile t ∷ spoken ls

abbrev pub tiles_in : List Line → List Tile
tiles_in [] = []
tiles_in (blank ∷ ls) = tiles_in ls
tiles_in (note bs ∷ ls) = tiles_in ls
tiles_in (pile n ∷ ls) = tiles_in ls
tiles_in (row n ∷ ls) = tiles_in ls
tiles_in (tile t ∷ ls) = t ∷ tiles_in ls

-- in turn: nothing yet, or a pile and a row, or a pile and any number of tiles
abbrev pub Turns : List Line → Type 0
Turns ls =
    (ls ≡ [])
    ⊎ (((n : ℕ) × (r : ℕ) × (ls ≡ pile n ∷ row r ∷ []))
    ⊎ ((n : ℕ) × (ts : List Tile) × (ls ≡ pile n ∷ map tile ts)))

abbrev pub InTurn : List Line → Type 0
InTurn ls = Turns (spoken ls)

-- the lines are whole: a pile and a row, or a pile and at least one tile
abbrev pub Says : List Line → SetText → Type 0
Says ls set =
    ((spoken ls ≡ pile set.pile ∷ row set.row ∷ []) × (set.tiles ≡ 0))
    ⊎ ((spoken ls ≡ pile set.pile ∷ map tile (tiles_in ls)) × (set.row ≡ 0)
    × (set.tiles ≡ length (tiles_in ls)) × (0 < set.tiles))

-- lines with which a set text may begin, where the caller's list has this room
pub record Begins (room : ℕ) (ls : List Line) : Type 0 where
  pub good : AllByRecursion Good ls
  pub turn : InTurn ls
  pub within : length (tiles_in ls) ≤ room
  pub few : length (tiles_in ls) ≤ 1024

-- tiles laid over the front of a list
abbrev pub laid : List Tile → List Tile → List Tile
laid ts old = ts ++ drop (length ts) old
