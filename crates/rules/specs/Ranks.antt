-- The rule of a ranking: a rank for each state, which falls along every edge. Assumes nothing.
use Rattle.std.specs.Prelude.{ℕ, zero, suc, max, not, List, length, Some, None, Ok, Option, ◌==◌, nat_le, nat_lt, slice_index}
use Rattle.papers.specs.First.{Verdict, must, ◌then◌, first}
use Rattle.transducers.specs.Meaning.{Edge, Meaning, from, to}
use Rattle.rules.specs.declared.fault.DocketFault.{DocketFault}
use Rattle.rules.specs.declared.fault.DocketFault.TheVariants.{HighRank, RankCount, NoFall}

-- the rank of a state
abbrev pub rank : List ℕ → ℕ → ℕ
rank xs q = slice_index xs q

abbrev pub rank_fits : List ℕ → ℕ → Verdict DocketFault
rank_fits xs q = must (nat_le (rank xs q) 65535) (HighRank q)

-- an edge from a state to itself is looked for first
abbrev pub edge_falls : List ℕ → Option Edge → ℕ → Verdict DocketFault
edge_falls xs None i = Ok tt
edge_falls xs (Some e) i = must (not (from e == to e)) (NoFall i) then must (nat_lt (rank xs (to e)) (rank xs (from e))) (NoFall i)

abbrev pub slot_falls : Meaning → List ℕ → ℕ → Verdict DocketFault
slot_falls m xs i = edge_falls xs (m.edge i) i

abbrev pub ranking : Meaning → List ℕ → Verdict DocketFault
ranking m xs =
    must (length xs == m.states) RankCount
    then first (rank_fits xs) (length xs)
    then first (slot_falls m xs) m.slots

-- the greatest of the first n ranks
unfoldable pub highest : List ℕ → ℕ → ℕ
highest xs zero = 0
highest xs (suc n) = max (highest xs n) (rank xs n)

abbrev pub height : List ℕ → ℕ
height xs = highest xs (length xs)
