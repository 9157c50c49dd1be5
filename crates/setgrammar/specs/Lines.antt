-- The lines of a set text. Assumes nothing.
use Rattle.std.specs.Prelude.{ℕ, zero, suc, ◌+◌, Bool, true, false, cond, ◌||◌, List, [], ◌∷◌, length, Ok, Err, Result, ◌==◌, nat_le, slice_index, slice_set}
use Rattle.bottoms.specs.declared.tile.Tile.{Tile}
use Rattle.setgrammar.specs.Items.{fields_at, note_at}
use Rattle.setgrammar.specs.Place.{Place, start_of, Read, ◌then◌, byte_at}
use Rattle.setgrammar.specs.declared.fault.Position.{Position}
use Rattle.setgrammar.specs.declared.fault.TextFault.{TextFault}
use Rattle.setgrammar.specs.declared.fault.TextFault.TheVariants as fault
use Rattle.setgrammar.specs.declared.line.LineKind.{LineKind}
use Rattle.setgrammar.specs.declared.line.LineKind.TheVariants as kind
use Rattle.setgrammar.specs.declared.line.Stage.{Stage}
use Rattle.setgrammar.specs.declared.line.Stage.TheVariants.{Empty, Piled, Rowed, Tiled}
use Rattle.setgrammar.specs.declared.set.SetText.{SetText}

-- the kind of a line, by its first byte: p, f, t, #, or a line feed
abbrev pub kind_at : Place → Read LineKind
kind_at p = byte_at p then λ b q.
    cond (b == 112) (Ok (kind.Pile, q))
    (cond (b == 102) (Ok (kind.Row, q))
    (cond (b == 116) (Ok (kind.Tile, q))
    (cond (b == 35) (Ok (kind.Note, q))
    (cond (b == 10) (Ok (kind.Blank, q))
    (Err (fault.Start p.at))))))

-- the rest of a line of one number
abbrev pub number_line_at : ℕ → ℕ → Place → Read ℕ
number_line_at low high p = fields_at ((low, high) ∷ []) p then λ ns q. Ok (slice_index ns 0, q)

-- the ranges of a tile's colours
abbrev pub colours : List (ℕ × ℕ)
colours = (0, 255) ∷ (0, 255) ∷ (0, 255) ∷ (0, 255) ∷ []

-- the tile of four numbers: its west, east, south and north
abbrev pub tile_of : List ℕ → Tile
tile_of ns = record { west = slice_index ns 0; east = slice_index ns 1; south = slice_index ns 2; north = slice_index ns 3 }

-- the rest of a line of a tile
abbrev pub tile_line_at : Place → Read Tile
tile_line_at p = fields_at colours p then λ ns q. Ok (tile_of ns, q)

-- what the lines so far have said, and the caller's list, which they have filled from the front
pub record State : Type 0 where
  pub stage : Stage
  pub tiles : List Tile

-- a tile line: the next tile, where there is room for it
abbrev pub tile_at : ℕ → ℕ → List Tile → Position → Place → Read State
tile_at pile count ts start p =
    cond (nat_le (length ts) count || nat_le 1024 count) (Err (fault.Full start))
    (tile_line_at p then λ tile q. Ok (record { stage = Tiled pile (count + 1); tiles = slice_set ts count tile }, q))

-- the rest of a line of this kind, by what the lines before it have said
abbrev pub turn_at : LineKind → Stage → List Tile → Position → Place → Read State
turn_at kind.Blank stage ts start p = Ok (record { stage = stage; tiles = ts }, p)
turn_at kind.Note stage ts start p = note_at p then λ _ q. Ok (record { stage = stage; tiles = ts }, q)
turn_at kind.Pile Empty ts start p =
    number_line_at 1 6 p then λ pile q. Ok (record { stage = Piled pile; tiles = ts }, q)
turn_at kind.Pile (Piled pile) ts start p = Err (fault.Turn start)
turn_at kind.Pile (Rowed pile row) ts start p = Err (fault.Turn start)
turn_at kind.Pile (Tiled pile count) ts start p = Err (fault.Turn start)
turn_at kind.Row Empty ts start p = Err (fault.Turn start)
turn_at kind.Row (Piled pile) ts start p =
    number_line_at 1 8 p then λ row q. Ok (record { stage = Rowed pile row; tiles = ts }, q)
turn_at kind.Row (Rowed pile row) ts start p = Err (fault.Turn start)
turn_at kind.Row (Tiled pile count) ts start p = Err (fault.Turn start)
turn_at kind.Tile Empty ts start p = Err (fault.Turn start)
turn_at kind.Tile (Piled pile) ts start p = tile_at pile 0 ts start p
turn_at kind.Tile (Rowed pile row) ts start p = Err (fault.Turn start)
turn_at kind.Tile (Tiled pile count) ts start p = tile_at pile count ts start p

-- one line
abbrev pub line_at : State → Place → Read State
line_at s p = kind_at p then λ kind q. turn_at kind s.stage s.tiles p.at q

-- what the caller gets: the answer, and the list as it is left
pub record Outcome : Type 0 where
  pub answer : Result SetText TextFault
  pub tiles : List Tile

-- what the lines have said, where the text ends here
abbrev pub said : Stage → Position → Result SetText TextFault
said Empty at = Err (fault.Ends at)
said (Piled pile) at = Err (fault.Ends at)
said (Rowed pile row) at = Ok (record { pile = pile; row = row; tiles = 0 })
said (Tiled pile count) at = Ok (record { pile = pile; row = 0; tiles = count })

abbrev pub is_empty : List ℕ → Bool
is_empty [] = true
is_empty (b ∷ bs) = false

-- after a line that was read; a faulty line leaves the list as it was
abbrev pub go_on : Read State → List Tile → (State → Place → Outcome) → Outcome
go_on (Ok got) ts next = next got.0 got.1
go_on (Err f) ts next = record { answer = Err f; tiles = ts }

-- the text ends here
abbrev pub ended : State → Place → Outcome
ended s p = record { answer = said s.stage p.at; tiles = s.tiles }

-- the lines of the text from here on, of which there are at most n
unfoldable pub lines : ℕ → State → Place → Outcome
lines zero s p = ended s p
lines (suc n) s p = cond (is_empty p.rest) (ended s p) (go_on (line_at s p) s.tiles (lines n))

-- a set text, read into a list
abbrev pub set_text : List ℕ → List Tile → Outcome
set_text bs ts =
    cond (nat_le (length bs) 65535)
    (lines (length bs) (record { stage = Empty; tiles = ts }) (start_of bs))
    (record { answer = Err fault.Long; tiles = ts })
