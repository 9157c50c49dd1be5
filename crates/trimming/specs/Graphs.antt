-- The lists of a graph. Assumes nothing.
use Rattle.std.specs.Prelude.{ℕ, List}
use Rattle.transducers.specs.Meaning.{Meaning}
use Rattle.trimming.specs.Linking.{LinksOf}
use Rattle.trimming.specs.Lists.{rows}
use Rattle.trimming.specs.declared.graph.Graph.{Graph}

abbrev pub outs : Graph → List (List ℕ)
outs g = rows g.out

abbrev pub intos : Graph → List (List ℕ)
intos g = rows g.into

-- the links are the edges of a transducer
abbrev pub IsGraphOf : Meaning → Graph → Type 0
IsGraphOf m g = LinksOf m m.slots (outs g) (intos g)
