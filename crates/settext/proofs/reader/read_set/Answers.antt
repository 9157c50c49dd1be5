use Rattle.std.proofs.Common.{◌≡◌, arith}
use Rattle.setgrammar.proofs.Shrinks.{line_shrinks}
use Rattle.setgrammar.proofs.TextLaw.{law_of}
use Rattle.setgrammar.proofs.Turns.{comes_more, comes_fault, comes_all}
use Rattle.setgrammar.specs.Lines.{set_text}
use Rattle.settext.proofs.reader.read_set.Goals as goal

pub loop-reader-smaller : goal.loop-reader-smaller
loop-reader-smaller c = line_shrinks _ _ _ _ (grind arith) c.in_ok-line.ensures.reads

pub loop-reader-preserved : goal.loop-reader-preserved
loop-reader-preserved c = comes_more _ _ _ _ _ (grind arith) c.in_ok-line.ensures.reads c.loop-reader.invariant

pub returns-in_err-line : goal.returns-in_err-line
returns-in_err-line c =
    let e = comes_fault _ _ _ _ (grind arith) c.in_err-line.ensures.reads c.loop-reader.invariant in
    let answer : c.from_residual.result ≡ (set_text c.args.text.now c.args.tiles.now).answer = grind (arith, e) in
    let fill : c.line.new.tiles ≡ (set_text c.args.text.now c.args.tiles.now).tiles = grind (arith, e) in
    record { answers = answer; fills = fill; law = law_of _ _ _ _ answer fill }

pub returns : goal.returns
returns c =
    let e = comes_all _ _ _ (grind arith) c.loop-reader.invariant in
    let answer : c.finish.result ≡ (set_text c.args.text.now c.args.tiles.now).answer = grind (arith, e) in
    let fill : c.loop-reader.tiles ≡ (set_text c.args.text.now c.args.tiles.now).tiles = grind (arith, e) in
    record { answers = answer; fills = fill; law = law_of _ _ _ _ answer fill }
