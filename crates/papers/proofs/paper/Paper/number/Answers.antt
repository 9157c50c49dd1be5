use Rattle.std.proofs.Common.{◌<◌, sym, ◌∙◌, arith}
use Rattle.std.proofs.lemmas.List.FromFn.{get_or-map-range_with_len, length-map-range_with_len}
use Rattle.std.proofs.lemmas.List.{get_or_past}
use Rattle.papers.proofs.Chunks.{number_in_chunk}
use Rattle.papers.specs.Paper.{number_at, numbers}
use Rattle.papers.proofs.paper.Paper.number.Goals as goal

pub returns-then-place-from : goal.returns-then-place-from
returns-then-place-from c =
    let p = c.args.self.now in
    sym (get_or_past (numbers p.bytes.now p.count) _ 0
    (omega (arith, length-map-range_with_len (number_at p.bytes.now) 0 p.count)))

pub returns : goal.returns
returns c =
    let within : c.args.place < c.args.self.now.count = omega arith in
    c.number.ensures ∙ number_in_chunk _ _ _ c.args.place c.as_chunks.ensures.front (omega arith) ∙ sym (get_or-map-range_with_len _ 0 _ _ _ 0 within (omega arith))
