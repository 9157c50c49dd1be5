use Rattle.std.proofs.Common.{sym, arith}
use Rattle.std.proofs.lemmas.Option.{cond_some}
use Rattle.bottoms.specs.Catalogue.{is_row, table_row}
use Rattle.bottoms.proofs.Balance.{catalogue_multiplies}
use Rattle.bottoms.proofs.LowestTerms.{rows_coprime, rows_small}
use Rattle.bottoms.proofs.catalogue.CatalogueTransducer.new.Goals as goal

pub returns : goal.returns
returns c =
    let k = c.args.row in
    let found = cond_some (is_row k) (table_row k) c.in_ok-row.row (grind arith) in
    let same = sym found.1 in
    record {
      row_is = found.0;
      from_table = same;
      lowest_terms = rw same (rows_coprime k found.0);
      multiplies = rw same (catalogue_multiplies _ (rows_small k found.0));
    }
