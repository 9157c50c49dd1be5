-- Where a cursor stands. Assumes nothing.
use Rattle.std.specs.Prelude.{Ok, Err, Result}
use Rattle.setgrammar.specs.Place.{Place, Read}
use Rattle.setgrammar.specs.declared.fault.TextFault.{TextFault}
use Rattle.settext.specs.declared.cursor.Cursor.{Cursor}

-- the place where a cursor stands
abbrev pub here : Cursor → Place
here c = record { rest = c.rest.now; at = c.at }

-- what a reading answered, with the place that it came to
abbrev pub reading : {X : Type 0} → Result X TextFault → Cursor → Read X
reading (Ok x) c = Ok (x, here c)
reading (Err f) c = Err f
