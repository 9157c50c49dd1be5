-- A good line in turn is read. Assumes nothing.
use Rattle.std.proofs.Common.{◌≡◌, ℕ, ◌+◌, ◌<◌, ◌≤◌, List, [], ◌∷◌, ◌++◌, length, Ok, refl, ap, ◌∙◌, arith}
use Rattle.std.proofs.lemmas.List.{append_assoc}
use Rattle.bottoms.specs.declared.tile.Tile.{Tile}
use Rattle.setgrammar.proofs.Fields.{fields_taken}
use Rattle.setgrammar.proofs.LineLaw.{below, open_at}
use Rattle.setgrammar.proofs.Numbers.{place, along}
use Rattle.setgrammar.proofs.Remarks.{remark_taken}
use Rattle.setgrammar.proofs.Rooms.{state_after, laid_quiet, laid_tile, length_kept}
use Rattle.setgrammar.proofs.Sorts.{piles, rows, tiles, edges_in}
use Rattle.setgrammar.proofs.Stands.{Stands, Takes, next}
use Rattle.setgrammar.specs.Grammar.{Line, blank, note, pile, row, tile, edges, fields, written, Good, tiles_in, Begins, laid}
use Rattle.setgrammar.specs.Lines.{colours, tile_at, line_at}
use Rattle.setgrammar.specs.declared.fault.Position.{Position}
use Rattle.setgrammar.specs.declared.line.Stage.{Stage}
use Rattle.setgrammar.specs.declared.line.Stage.TheVariants.{Empty, Piled, Rowed, Tiled}

module _ (old : List Tile) (before : List Line) (begins : Begins (length old) before) (rest : List ℕ) (at : Position) where
  tile_taken : (p c : ℕ) (t : Tile) → length (tiles_in before) ≡ c → c < length old → c < 1024 → Good (tile t)
      → tile_at p c (laid (tiles_in before) old) at (place (fields (edges t) ++ rest) (along at 1))
      ≡ Ok (record { stage = Tiled p (c + 1); tiles = laid (tiles_in (before ++ tile t ∷ [])) old }, place rest (below at))
  tile_taken p c t count room few good =
      open_at p c (laid (tiles_in before) old) at (place (fields (edges t) ++ rest) (along at 1)) (omega (arith, length_kept old before begins)) few
      ∙ rw (fields_taken colours tiles.sane (edges t) (edges_in t good) rest (along at 1), laid_tile old before t c count room)

  pub line_taken : (stage : Stage) → Stands before stage → (l : Line) → Good l → Takes stage l
      → length (tiles_in before) + length (tiles_in (l ∷ [])) ≤ length old → length (tiles_in before) + length (tiles_in (l ∷ [])) ≤ 1024
      → line_at (state_after old before stage) (place (written l ++ rest) at)
      ≡ Ok (state_after old (before ++ l ∷ []) (next stage l), place rest (below at))
  line_taken stage s blank good takes room few = rw (laid_quiet old before blank refl)
  line_taken stage s (note bs) good takes room few =
      rw (append_assoc, remark_taken bs rest (along at 1) good, laid_quiet old before (note bs) refl)
  line_taken Empty s (pile n) good takes room few =
      rw (fields_taken ((1, 6) ∷ []) piles.sane (n ∷ []) (good, tt) rest (along at 1), laid_quiet old before (pile n) refl)
  line_taken (Piled p) s (pile n) good takes room few = absurd takes
  line_taken (Rowed p r) s (pile n) good takes room few = absurd takes
  line_taken (Tiled p c) s (pile n) good takes room few = absurd takes
  line_taken Empty s (row n) good takes room few = absurd takes
  line_taken (Piled p) s (row n) good takes room few =
      rw (fields_taken ((1, 8) ∷ []) rows.sane (n ∷ []) (good, tt) rest (along at 1), laid_quiet old before (row n) refl)
  line_taken (Rowed p r) s (row n) good takes room few = absurd takes
  line_taken (Tiled p c) s (row n) good takes room few = absurd takes
  line_taken Empty s (tile t) good takes room few = absurd takes
  line_taken (Piled p) s (tile t) good takes room few = tile_taken p 0 t (ap length s.1) (omega arith) (omega arith) good
  line_taken (Rowed p r) s (tile t) good takes room few = absurd takes
  line_taken (Tiled p c) s (tile t) good takes room few = tile_taken p c t s.1 (omega arith) (omega arith) good
