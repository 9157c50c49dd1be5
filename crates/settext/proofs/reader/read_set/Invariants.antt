use Rattle.std.proofs.Common.{length}
use Rattle.setgrammar.proofs.Turns.{Comes}
use Rattle.setgrammar.specs.Lines.{set_text}
use Rattle.settext.specs.Cursors.{here}
use Rattle.settext.specs.Readers.{state_of}
use Rattle.settext.proofs.reader.read_set.Given as goal

abbrev pub invariant-loop-reader : goal.invariant-loop-reader
invariant-loop-reader l = Comes (state_of l.reader l.tiles) (here l.reader.cursor) (set_text l.text l.initial.tiles)

abbrev pub decreases-loop-reader : goal.decreases-loop-reader
decreases-loop-reader l = length l.reader.cursor.rest.now
