use Rattle.std.proofs.Common.{◌≡◌, length}
use Rattle.setgrammar.specs.Items.{note_at}
use Rattle.settext.specs.Cursors.{here}
use Rattle.settext.proofs.cursor.Cursor.note.Given as goal

abbrev pub invariant-loop : goal.invariant-loop
invariant-loop l = note_at (here l.self) ≡ note_at (here l.initial.self)

abbrev pub decreases-loop : goal.decreases-loop
decreases-loop l = length l.self.rest.now
