use Rattle.std.proofs.Common.{◌≡◌, ◌+◌, length, Option, Some, None, IfSome, rules}
use Rattle.std.specs.Option.{MatchOption}
use Rattle.papers.proofs.Chunks.{are_blocks}
use Rattle.papers.proofs.paper.read.split_blocks.Goals as goal

some_weaker : {X : Type 0} (o : Option X) (P : Type 0) (Q R : X → Type 0) → ((x : X) → Q x → R x) → MatchOption o P Q → IfSome o R
some_weaker None P Q R weaker m = tt
some_weaker (Some x) P Q R weaker m = weaker x m

pub returns-clause-parts : goal.returns-clause-parts
returns-clause-parts c =
    some_weaker _ _ _ _
    (λ p split. let size : length p.1.now + 1 ≡ length c.as_chunks.result.0.now = split.1 in are_blocks _ _ _ _ (search rules) c.as_chunks.ensures.front c.as_chunks.ensures.front_len split.0)
    c.split_first.ensures.cases
