-- The number and the place of each fault of a docket. Assumes nothing.
use Rattle.std.specs.Prelude.{ℕ}
use Rattle.papers.specs.Faults.{paper_fault_number, paper_fault_place}
use Rattle.rules.specs.declared.fault.DocketFault.{DocketFault}
use Rattle.rules.specs.declared.fault.DocketFault.TheVariants.{Paper, Shape, HighRank, NoEdge, Apart, Open, ApartAbove, RankCount, NoFall}

abbrev pub docket_fault_number : DocketFault → ℕ
docket_fault_number (Paper f) = paper_fault_number f
docket_fault_number Shape = 17
docket_fault_number (HighRank at) = 18
docket_fault_number (NoEdge at) = 33
docket_fault_number (Apart at) = 34
docket_fault_number (Open at) = 35
docket_fault_number (ApartAbove at) = 36
docket_fault_number RankCount = 37
docket_fault_number (NoFall slot) = 38

abbrev pub docket_fault_place : DocketFault → ℕ
docket_fault_place (Paper f) = paper_fault_place f
docket_fault_place Shape = 0
docket_fault_place (HighRank at) = at
docket_fault_place (NoEdge at) = at
docket_fault_place (Apart at) = at
docket_fault_place (Open at) = at
docket_fault_place (ApartAbove at) = at
docket_fault_place RankCount = 0
docket_fault_place (NoFall slot) = slot
