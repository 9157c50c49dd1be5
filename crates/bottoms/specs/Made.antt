-- What making a list transducer answers. Assumes nothing.
use Rattle.std.specs.Prelude.{◌≡◌, ℕ, ◌+◌, ◌<◌, Bool, true, false, ◌&&◌, List, length, Ok, Err, vec_items, Result, nat_le, slice_index_or}
use Rattle.bottoms.specs.Tiles.{blank, tile_letter, tile_state}
use Rattle.bottoms.specs.declared.fault.ListFault.{ListFault}
use Rattle.bottoms.specs.declared.fault.ListFault.TheVariants.{Length, Memory}
use Rattle.bottoms.specs.declared.list.ListTransducer.{ListTransducer}
use Rattle.bottoms.specs.declared.tile.Tile.{Tile}

-- 1 to 1,024 tiles
abbrev pub fair_list : List Tile → Bool
fair_list ts = nat_le 1 (length ts) && nat_le (length ts) 1024

-- the tiles that a list transducer holds
abbrev pub tiles_of : ListTransducer → List Tile
tiles_of t = vec_items t.tiles

-- n is one more than the greatest of a number over the tiles: none reaches n, and one is just below it
pub record OneMore (f : Tile → ℕ) (ts : List Tile) (n : ℕ) : Type 0 where
  pub bounds : (i : ℕ) → i < length ts → f (slice_index_or ts i blank) < n
  pub attained : (i : ℕ) × (i < length ts) × (f (slice_index_or ts i blank) + 1 ≡ n)

-- a fair list is taken as it is; its counts are one more than the greatest state and the greatest letter
pub record ListHeld (ts : List Tile) (t : ListTransducer) : Type 0 where
  pub fair : fair_list ts ≡ true
  pub tiles : tiles_of t ≡ ts
  pub states : OneMore tile_state ts t.states
  pub letters : OneMore tile_letter ts t.letters

-- another list is refused; a fair one only for want of memory
abbrev pub ListMade : List Tile → Result ListTransducer ListFault → Type 0
ListMade ts (Ok t) = ListHeld ts t
ListMade ts (Err Length) = fair_list ts ≡ false
ListMade ts (Err Memory) = fair_list ts ≡ true
