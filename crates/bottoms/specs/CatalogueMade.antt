-- What making a catalogue transducer answers. Assumes nothing.
use Rattle.std.specs.Prelude.{◌≡◌, ℕ, true, false, Ok, Err, Result}
use Rattle.bottoms.specs.Catalogue.{catalogue, is_row, table_row}
use Rattle.bottoms.specs.Multiplying.{Coprime, Multiplies}
use Rattle.bottoms.specs.declared.catalogue.CatalogueTransducer.{CatalogueTransducer}
use Rattle.bottoms.specs.declared.fault.RowFault.{RowFault}

-- a row 1 to 8 is that row of the table, in lowest terms, and multiplies by it
pub record RowMade (k : ℕ) (t : CatalogueTransducer) : Type 0 where
  pub row_is : is_row k ≡ true
  pub from_table : t.row ≡ table_row k
  pub lowest_terms : Coprime t.row.p t.row.d
  pub multiplies : Multiplies t.row (catalogue t.row)

-- another row is refused
abbrev pub RowAnswered : ℕ → Result CatalogueTransducer RowFault → Type 0
RowAnswered k (Ok t) = RowMade k t
RowAnswered k (Err f) = is_row k ≡ false
