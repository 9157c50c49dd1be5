-- Dockets over the piles of set texts. Assumes nothing.
use Rattle.std.specs.Prelude.{◌≡◌, ℕ, ◌<◌, ◌≤◌, true, false, cond, ◌≢◌, ◌⊎◌, List, length, take, Some, None, Option, ◌==◌}
use Rattle.bottoms.specs.Catalogue.{catalogue, is_row, table_row}
use Rattle.bottoms.specs.Made.{fair_list, tiles_of}
use Rattle.transducers.specs.Meaning.{Meaning}
use Rattle.bottoms.specs.Tiles.{list_meaning}
use Rattle.bottoms.specs.declared.catalogue.CatalogueTransducer.{CatalogueTransducer}
use Rattle.bottoms.specs.declared.list.ListTransducer.{ListTransducer}
use Rattle.docket.specs.Dockets.{ends_of, pile_of, tallies_of}
use Rattle.docket.specs.Tallies.{no_tallies}
use Rattle.docket.specs.declared.tally.Tally.{Tally}
use Rattle.laws.specs.Promise.{Promise}
use Rattle.rules.specs.Widths.{fresh_ends}
use Rattle.rules.specs.declared.width.Ends.{Ends}
use Rattle.setgrammar.specs.declared.set.SetText.{SetText}
use Rattle.bottoms.specs.declared.tile.Tile.{Tile}
use Rattle.piles.specs.Piles.{FirstRefused, PileOf, pile_meaning}
use Rattle.piles.specs.PileKinds.{numbered_pile}
use Rattle.piles.specs.declared.pile_kind.PileKind.{PileKind}
use Rattle.piles.specs.declared.pile_fault.PileFault.{PileFault}
use Rattle.piles.specs.declared.pile_fault.PileFault.TheVariants as fault
use Rattle.piles.specs.declared.set_docket.SetDocket.{SetDocket}
use Rattle.piles.specs.declared.set_docket.SetDocket.TheVariants.{Row, Tiles}

abbrev pub list_means : ListTransducer → Meaning
list_means t = list_meaning (tiles_of t)

abbrev pub row_means : CatalogueTransducer → Meaning
row_means t = catalogue t.row

-- what the pile under the docket means
abbrev pub docket_meaning : SetDocket → Meaning
docket_meaning (Tiles d) = pile_meaning list_means (pile_of d)
docket_meaning (Row d) = pile_meaning row_means (pile_of d)

abbrev pub docket_ends : SetDocket → Ends
docket_ends (Tiles d) = ends_of d
docket_ends (Row d) = ends_of d

abbrev pub docket_tallies : SetDocket → List Tally
docket_tallies (Tiles d) = tallies_of d
docket_tallies (Row d) = tallies_of d

-- a new docket over the pile of this kind, all of whose bottoms mean t
pub record NewOver (k : PileKind) (t : Meaning) (d : SetDocket) : Type 0 where
  pub pile : PileOf k t t t t (docket_meaning d)
  pub ends : docket_ends d ≡ fresh_ends

-- no paper is tallied yet, and the promise of the two widths holds of the docket's pile
pub record Started (d : SetDocket) : Type 0 where
  pub tallies : docket_tallies d ≡ no_tallies
  pub promise : Promise (docket_meaning d)

-- what the bottoms of a set text's pile mean: its row of the catalogue, or the first of the tiles
abbrev pub bottom_of : SetText → List Tile → Meaning
bottom_of s ts = cond (s.row == 0) (list_meaning (take s.tiles ts)) (catalogue (table_row s.row))

-- a new docket over the pile that a set text names
abbrev pub OpensSet : SetText → List Tile → SetDocket → Type 0
OpensSet s ts d = (k : PileKind) × (numbered_pile s.pile ≡ Some k) × NewOver k (bottom_of s ts) d

-- a set text of tiles has no more of them than the list
abbrev pub TilesThere : SetText → List Tile → Type 0
TilesThere s ts = s.row ≡ 0 → s.tiles ≤ length ts

-- the first stack of a pile over copies of t is refused so
abbrev pub CopiesRefused : PileKind → Meaning → PileFault → Type 0
CopiesRefused k t f = FirstRefused k f t t t t

-- why no docket over tiles is opened: the list is not of 1 to 1,024 tiles; or else a stack passes a limit, or memory is wanting
abbrev pub TilesRefused : PileKind → List Tile → PileFault → Type 0
TilesRefused k ts fault.List = fair_list ts ≡ false
TilesRefused k ts fault.Row = ⊥
TilesRefused k ts (fault.Stack f) = (fair_list ts ≡ true) × CopiesRefused k (list_meaning ts) (fault.Stack f)
TilesRefused k ts fault.Memory = fair_list ts ≡ true

-- why no docket over a row of the catalogue is opened: there is no such row; or else a stack passes a limit, or memory is wanting
abbrev pub RowRefused : PileKind → ℕ → PileFault → Type 0
RowRefused k row fault.List = ⊥
RowRefused k row fault.Row = is_row row ≡ false
RowRefused k row (fault.Stack f) = (is_row row ≡ true) × CopiesRefused k (catalogue (table_row row)) (fault.Stack f)
RowRefused k row fault.Memory = is_row row ≡ true

-- why no docket of a set text is opened: its number names no pile; it has more tiles than the list; or as over its row or its tiles
abbrev pub KindRefused : Option PileKind → SetText → List Tile → PileFault → Type 0
KindRefused None s ts f = f ≡ fault.List
KindRefused (Some k) s ts f =
    ((s.row ≢ 0) × RowRefused k s.row f)
    ⊎ (((s.row ≡ 0) × (length ts < s.tiles) × (f ≡ fault.List))
    ⊎ ((s.row ≡ 0) × (s.tiles ≤ length ts) × TilesRefused k (take s.tiles ts) f))

abbrev pub SetRefused : SetText → List Tile → PileFault → Type 0
SetRefused s ts f = KindRefused (numbered_pile s.pile) s ts f
