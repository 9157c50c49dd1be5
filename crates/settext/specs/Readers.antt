-- How far a reader has come. Assumes nothing.
use Rattle.std.specs.Prelude.{List, Ok, Err, Result}
use Rattle.bottoms.specs.declared.tile.Tile.{Tile}
use Rattle.setgrammar.specs.Lines.{State}
use Rattle.setgrammar.specs.Place.{Read}
use Rattle.settext.specs.Cursors.{here}
use Rattle.setgrammar.specs.declared.fault.TextFault.{TextFault}
use Rattle.settext.specs.declared.reader.Reader.{Reader}

-- what the reader has read, with the caller's list
abbrev pub state_of : Reader → List Tile → State
state_of r ts = record { stage = r.stage; tiles = ts }

-- what reading a line answered, with the state and the place that it came to
abbrev pub stepped : {X : Type 0} → Result X TextFault → Reader → List Tile → Read State
stepped (Ok x) r ts = Ok (state_of r ts, here r.cursor)
stepped (Err f) r ts = Err f
