-- What filing answers, in the words of the graph: which bytes are accepted and what they show, and what each fault says. Assumes nothing.
use Rattle.std.specs.Prelude.{◌≡◌, ℕ, ◌+◌, ◌-◌, ◌*◌, ◌<◌, ◌≤◌, ◌≢◌, ◌⊎◌, List, length, take, drop, Some, None, Ok, Err, Result, slice_index}
use Rattle.papers.specs.Form.{IsPaper, PaperFaultLaw}
use Rattle.papers.specs.declared.fault.PaperFault.{PaperFault}
use Rattle.papers.specs.declared.kind.Kind.{Kind}
use Rattle.papers.specs.declared.kind.Kind.TheVariants.{Strip as OfStrip, Ring as OfRing, Ranking as OfRanking, Torus as OfTorus}
use Rattle.transducers.specs.Meaning.{Edge, Meaning, from, to}
use Rattle.rules.specs.Filing.{shows}
use Rattle.rules.specs.Ranks.{rank}
use Rattle.rules.specs.Rows.{cell}
use Rattle.rules.specs.Torus.{above, row_start, rows, width}
use Rattle.laws.specs.Walking.{RankingOn, Ring, Strip, TorusOn, Under}
use Rattle.rules.specs.declared.fault.DocketFault.{DocketFault}
use Rattle.rules.specs.declared.fault.DocketFault.TheVariants.{Paper, Shape, HighRank, NoEdge, Apart, Open, ApartAbove, RankCount, NoFall}
use Rattle.rules.specs.declared.width.Claim.{Claim}

-- the rule of each kind is kept
abbrev pub RuleKept : Meaning → Kind → List ℕ → Type 0
RuleKept m OfStrip xs = Strip m xs
RuleKept m OfRing xs = Ring m xs
RuleKept m OfRanking xs = RankingOn m xs
RuleKept m OfTorus xs = TorusOn m xs

-- the bytes are a paper that keeps the rule of its kind, and this is what it shows
abbrev pub Accepted : Meaning → List ℕ → Claim → Type 0
Accepted m bs a = (k : Kind) × (xs : List ℕ) × IsPaper bs k xs × RuleKept m k xs × (a ≡ shows k xs)

-- one of n places has this fault, and each place before it is fine
abbrev pub FirstFault : (ℕ → Type 0) → (ℕ → DocketFault → Type 0) → ℕ → DocketFault → Type 0
FirstFault Fine Fault n f = (i : ℕ) × (i < n) × Fault i f × ((j : ℕ) → j < i → Fine j)

-- the edge that stands before column j in the row at b
abbrev pub EdgeBefore : Meaning → List ℕ → ℕ → ℕ → Edge → Type 0
EdgeBefore m xs b j d = (1 ≤ j) × (cell m xs (b + j - 1) ≡ Some d)

-- the cell in column j of the row at b names an edge, which leaves the state that the edge before it enters
abbrev pub CellFine : Meaning → List ℕ → ℕ → ℕ → Type 0
CellFine m xs b j = (e : Edge) × (cell m xs (b + j) ≡ Some e) × ((d : Edge) → EdgeBefore m xs b j d → to d ≡ from e)

-- it names no edge, or one that does not meet the edge before it
abbrev pub CellFault : Meaning → List ℕ → ℕ → ℕ → DocketFault → Type 0
CellFault m xs b j f =
    ((cell m xs (b + j) ≡ None) × (f ≡ NoEdge (b + j)))
    ⊎ ((e : Edge) × (d : Edge) × (cell m xs (b + j) ≡ Some e) × EdgeBefore m xs b j d × (to d ≢ from e) × (f ≡ Apart (b + j)))

-- the row of width w at b is no walk
abbrev pub RowFault : Meaning → List ℕ → ℕ → ℕ → DocketFault → Type 0
RowFault m xs b w f = FirstFault (CellFine m xs b) (CellFault m xs b) w f

-- the cells of the row of width w at b
abbrev pub row_cells : List ℕ → ℕ → ℕ → List ℕ
row_cells xs b w = take w (drop b xs)

-- the row does not close
abbrev pub OpenFault : Meaning → List ℕ → ℕ → ℕ → DocketFault → Type 0
OpenFault m xs b w f = (Ring m (row_cells xs b w) → ⊥) × (f ≡ Open (b + w - 1))

-- the row is no walk; or else it does not close
abbrev pub ClosedFault : Meaning → List ℕ → ℕ → ℕ → DocketFault → Type 0
ClosedFault m xs b w f = RowFault m xs b w f ⊎ (Strip m (row_cells xs b w) × OpenFault m xs b w f)

-- the rank falls along the edge in slot i, if there is one
abbrev pub SlotFalls : Meaning → List ℕ → ℕ → Type 0
SlotFalls m xs i = (e : Edge) → m.edge i ≡ Some e → rank xs (to e) < rank xs (from e)

abbrev pub SlotFault : Meaning → List ℕ → ℕ → DocketFault → Type 0
SlotFault m xs i f = (e : Edge) × (m.edge i ≡ Some e) × (rank xs (from e) ≤ rank xs (to e)) × (f ≡ NoFall i)

-- the rank of state q is not too large
abbrev pub RankFits : List ℕ → ℕ → Type 0
RankFits xs q = rank xs q ≤ 65535

abbrev pub HighFault : List ℕ → ℕ → DocketFault → Type 0
HighFault xs q f = (65535 < rank xs q) × (f ≡ HighRank q)

-- not one rank for each state; or else a rank is too large; or else one does not fall
abbrev pub RankFault : Meaning → List ℕ → DocketFault → Type 0
RankFault m xs f =
    ((length xs ≢ m.states) × (f ≡ RankCount))
    ⊎ ((length xs ≡ m.states)
    × (FirstFault (RankFits xs) (HighFault xs) (length xs) f
    ⊎ (((q : ℕ) → q < length xs → RankFits xs q) × FirstFault (SlotFalls m xs) (SlotFault m xs) m.slots f)))

-- the width, the row count and the cells of a torus fit together
pub record Shaped (xs : List ℕ) : Type 0 where
  pub some_column : 1 ≤ width xs
  pub some_row : 1 ≤ rows xs
  pub all_cells : length xs ≡ 2 + width xs * rows xs

-- row y is a ring
abbrev pub RowRing : Meaning → List ℕ → ℕ → Type 0
RowRing m xs y = Ring m (row_cells xs (row_start xs y) (width xs))

abbrev pub RowRingFault : Meaning → List ℕ → ℕ → DocketFault → Type 0
RowRingFault m xs y f = ClosedFault m xs (row_start xs y) (width xs) f

-- cell i lies under the cell above it
abbrev pub CellUnder : Meaning → List ℕ → ℕ → Type 0
CellUnder m xs i = Under m (slice_index xs (2 + i)) (slice_index xs (2 + above xs i))

abbrev pub UnderFault : Meaning → List ℕ → ℕ → DocketFault → Type 0
UnderFault m xs i f = (CellUnder m xs i → ⊥) × (f ≡ ApartAbove (2 + i))

-- the shape does not fit; or else a row is no ring; or else a cell does not lie under the one above
abbrev pub TorusFault : Meaning → List ℕ → DocketFault → Type 0
TorusFault m xs f =
    ((Shaped xs → ⊥) × (f ≡ Shape))
    ⊎ (Shaped xs
    × (FirstFault (RowRing m xs) (RowRingFault m xs) (rows xs) f
    ⊎ (((y : ℕ) → y < rows xs → RowRing m xs y) × FirstFault (CellUnder m xs) (UnderFault m xs) (width xs * rows xs) f)))

-- the rule of each kind is broken, with this fault
abbrev pub RuleFault : Meaning → Kind → List ℕ → DocketFault → Type 0
RuleFault m OfStrip xs f = RowFault m xs 0 (length xs) f
RuleFault m OfRing xs f = ClosedFault m xs 0 (length xs) f
RuleFault m OfRanking xs f = RankFault m xs f
RuleFault m OfTorus xs f = TorusFault m xs f

-- the bytes are no paper, with this fault; or they are one, and the rule of its kind is broken
abbrev pub Refused : Meaning → List ℕ → DocketFault → Type 0
Refused m bs f =
    ((g : PaperFault) × (f ≡ Paper g) × PaperFaultLaw bs g)
    ⊎ ((k : Kind) × (xs : List ℕ) × IsPaper bs k xs × RuleFault m k xs f)

-- what the answer to a filing says of the bytes
abbrev pub FilingLaw : Meaning → List ℕ → Result Claim DocketFault → Type 0
FilingLaw m bs (Ok a) = Accepted m bs a
FilingLaw m bs (Err f) = Refused m bs f
