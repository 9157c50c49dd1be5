use Rattle.std.proofs.Common.{◌≡◌, max, drop}
use Rattle.bottoms.specs.Tiles.{greatest, tile_state, tile_letter}
use Rattle.bottoms.proofs.list.greatest_of.Given as goal

abbrev pub invariant-loop-tile : goal.invariant-loop-tile
invariant-loop-tile l = record {
  state : max l.state (greatest tile_state (drop l.tile-index l.tiles)) ≡ greatest tile_state l.tiles;
  letter : max l.letter (greatest tile_letter (drop l.tile-index l.tiles)) ≡ greatest tile_letter l.tiles;
}
