-- A list transducer keeps the limits of every transducer. Assumes nothing.
use Rattle.std.specs.Prelude.{◌≡◌, ℕ, ◌+◌, ◌<◌, Bool, true, false, cond, List, length, Some, None, nat_lt, slice_index_or, refl}
use Rattle.std.proofs.Common.{subst, arith}
use Rattle.std.proofs.lemmas.Option.{none-some, same_Some}
use Rattle.std.proofs.lemmas.Bool.{le-ltb, ltb-true}
use Rattle.transducers.specs.Meaning.{Edge, Inside, Valid}
use Rattle.bottoms.specs.Made.{tiles_of}
use Rattle.bottoms.specs.Tiles.{blank, greatest, list_meaning, tile_edge, tile_state, tile_letter}
use Rattle.bottoms.specs.declared.list.ListTransducer.{ListTransducer}
use Rattle.bottoms.specs.declared.tile.Tile.{Tile}
use Rattle.bottoms.specs.Greatest.{greatest_bounds}

pub tile_inside :
    (ts : List Tile) (i : ℕ) → i < length ts →
    Inside (greatest tile_state ts + 1) (greatest tile_letter ts + 1) (tile_edge (slice_index_or ts i blank))
tile_inside ts i within =
    let s = greatest_bounds tile_state ts i blank within in
    let l = greatest_bounds tile_letter ts i blank within in
    record { from_state = omega arith; to_state = omega arith; south_letter = omega arith; north_letter = omega arith }

pub found_inside :
    (ts : List Tile) (i : ℕ) (e : Edge) (b : Bool) → nat_lt i (length ts) ≡ b →
    cond b (Some (tile_edge (slice_index_or ts i blank))) None ≡ Some e →
    Inside (greatest tile_state ts + 1) (greatest tile_letter ts + 1) e
found_inside ts i e true test is =
    subst (Inside (greatest tile_state ts + 1) (greatest tile_letter ts + 1)) (same_Some _ e is)
    (tile_inside ts i (ltb-true i (length ts) test))
found_inside ts i e false test is = absurd (none-some e is)

pub list_valid : (t : ListTransducer) → Valid (list_meaning (tiles_of t))
list_valid t = record {
  some_state = omega arith;
  few_states = omega arith;
  some_letter = omega arith;
  few_letters = omega arith;
  some_slot = omega arith;
  few_slots = omega arith;
  inside = λ i e is. found_inside (tiles_of t) i e _ refl is;
  beyond = λ i past. rw (le-ltb i (length (tiles_of t)) past) refl;
}
