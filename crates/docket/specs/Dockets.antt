-- What a docket shows: its pile, its two widths, and its tallies. Assumes nothing.
use Rattle.std.specs.Prelude.{List}
use Rattle.rules.specs.declared.width.Ends.{Ends}
use Rattle.docket.specs.declared.docket.Docket.{Docket}
use Rattle.docket.specs.declared.tally.Tally.{Tally}

abbrev pub pile_of : {P : Type 0} → Docket P → P
pile_of d = d.pile

abbrev pub ends_of : {P : Type 0} → Docket P → Ends
ends_of d = d.ends

abbrev pub tallies_of : {P : Type 0} → Docket P → List Tally
tallies_of d = d.tallies.table
