-- The numbers of a paper that is weighed. Assumes nothing.
use Rattle.std.specs.Prelude.{ℕ, List}
use Rattle.papers.specs.Paper.{held}
use Rattle.rules.specs.declared.judging.Weighing.{Weighing}

abbrev pub numbers_of : {P : Type 0} → Weighing P → List ℕ
numbers_of w = (held w.paper.now).numbers
