-- A transducer turned: its letters become its states. Assumes nothing.
use Rattle.std.specs.Option.{option_map}
use Rattle.transducers.specs.Meaning.{Edge, Meaning, from, to, south, north}

-- from changes places with south, and to with north
abbrev pub turned_edge : Edge → Edge
turned_edge e = (south e, north e, from e, to e)

abbrev pub turn : Meaning → Meaning
turn m = record {
  states = m.letters;
  letters = m.states;
  slots = m.slots;
  edge = λ i. option_map turned_edge (m.edge i);
}
