-- Worked samples: what small texts, papers and transducers come to. Assumes nothing.
use Rattle.std.specs.Prelude.{◌≡◌, ℕ, false, List, [], ◌∷◌, ◌++◌, replicate, Some, None, Ok, Err, codes, Result}
use Prim.Native.String.{String}
use Rattle.papers.specs.Bytes.{Bytes, weighted}
use Rattle.papers.specs.Paper.{Contents, contents_of}
use Rattle.papers.specs.declared.kind.Kind.{Kind}
use Rattle.papers.specs.declared.kind.Kind.TheVariants.{Strip, Ring, Ranking, Torus}
use Rattle.bottoms.specs.Catalogue.{catalogue, table_row}
use Rattle.transducers.specs.Meaning.{Meaning}
use Rattle.transducers.specs.Stacking.{stack}
use Rattle.bottoms.specs.Tiles.{list_meaning}
use Rattle.trimming.specs.Trimming.{Largest, States, trim}
use Rattle.transducers.specs.Turning.{turn}
use Rattle.bottoms.specs.declared.tile.Tile.{Tile}
use Rattle.setgrammar.specs.Lines.{Outcome, set_text}
use Rattle.rules.specs.Faults.{docket_fault_number, docket_fault_place}
use Rattle.rules.specs.Filing.{filing_answer, judged, weighed}
use Rattle.rules.specs.Widths.{fresh_ends}
use Rattle.rules.specs.declared.fault.DocketFault.{DocketFault}
use Rattle.rules.specs.declared.width.Ends.{Ends}
use Rattle.rules.specs.declared.width.Width.{Width}
use Rattle.rules.specs.declared.width.Width.TheVariants.{Number, Endless}

-- a line, ended by a line feed
abbrev pub line : String → List ℕ
line s = codes s ++ (10 ∷ [])

-- set A: its text, its two tiles, and the transducer that they make
abbrev pub text_a : List ℕ
text_a = line "p 1" ++ (line "t 0 1 0 0" ++ line "t 1 2 0 0")

abbrev pub tile : ℕ → ℕ → ℕ → ℕ → Tile
tile w e s n = record { west = w; east = e; south = s; north = n }

abbrev pub tiles_a : List Tile
tiles_a = tile 0 1 0 0 ∷ tile 1 2 0 0 ∷ []

abbrev pub set_a : Meaning
set_a = list_meaning tiles_a

-- pile 1, row 0, two tiles, which stand in the caller's list
abbrev pub read_a : Outcome
read_a = record { answer = Ok (record { pile = 1; row = 0; tiles = 2 }); tiles = tiles_a }

-- the set of no states
abbrev pub no_states : States
no_states q = false

-- row k of the catalogue
abbrev pub row : ℕ → Meaning
row k = catalogue (table_row k)

-- what a paper of this kind with these numbers says
abbrev pub saying : Kind → List ℕ → Contents
saying kind xs = record { kind = kind; numbers = xs }

-- the first paper of a docket over m that says this is answered so: by what it says, by the bytes of each such paper, and there is one
pub record Answers (m : Meaning) (kind : Kind) (xs : List ℕ) (r : Result Ends DocketFault) : Type 0 where
  pub contents : filing_answer fresh_ends (weighed m (saying kind xs)) ≡ r
  pub each_paper : (bs : List ℕ) → contents_of bs ≡ Ok (saying kind xs) → filing_answer fresh_ends (judged m bs) ≡ r
  pub some_paper : (bs : List ℕ) × Bytes bs × (contents_of bs ≡ Ok (saying kind xs))

-- it is accepted, and then these are the floor and the ceiling
abbrev pub Accepts : Meaning → Kind → List ℕ → Width → Width → Type 0
Accepts m kind xs floor ceiling = Answers m kind xs (Ok (record { floor = floor; ceiling = ceiling }))

-- it is turned down with this fault number and place
abbrev pub Refuses : Meaning → Kind → List ℕ → ℕ → ℕ → Type 0
Refuses m kind xs number place =
    (f : DocketFault) × Answers m kind xs (Err f) × (docket_fault_number f ≡ number) × (docket_fault_place f ≡ place)

-- the block at place 0, of kind 1, with the one number 17: the bytes before its check, and its check
abbrev pub body_17 : List ℕ
body_17 = 0 ∷ 0 ∷ 1 ∷ 1 ∷ 17 ∷ replicate 503 0

abbrev pub strip_17 : List ℕ
strip_17 = body_17 ++ (92 ∷ 0 ∷ 0 ∷ 0 ∷ [])

-- the twelve samples
pub record Samples : Type 0 where
  -- 1: the text of A, read into any list of two tiles, and A as a transducer
  pub text_makes_a : (s t : Tile) → set_text text_a (s ∷ t ∷ []) ≡ read_a
  pub a_has_3_states : set_a.states ≡ 3
  pub a_has_1_letter : set_a.letters ≡ 1
  pub a_has_2_slots : set_a.slots ≡ 2
  -- 2 and 3: strips over A
  pub strip_0_1 : Accepts set_a Strip (0 ∷ 1 ∷ []) (Number 2) Endless
  pub strip_1_0 : Refuses set_a Strip (1 ∷ 0 ∷ []) 34 1
  -- 4 and 5: rankings over A
  pub ranking_2_1_0 : Accepts set_a Ranking (2 ∷ 1 ∷ 0 ∷ []) (Number 0) (Number 2)
  pub ranking_2_0_1 : Refuses set_a Ranking (2 ∷ 0 ∷ 1 ∷ []) 38 1
  -- 6: a ring over A
  pub ring_0 : Refuses set_a Ring (0 ∷ []) 35 0
  -- 7: A stacked on A
  pub stacked_states : (stack set_a set_a).states ≡ 9
  pub stacked_slots : (stack set_a set_a).slots ≡ 4
  pub stacked_slot_1 : (stack set_a set_a).edge 1 ≡ Some (1, 5, 0, 0)
  -- 8: A turned
  pub turned_ring_0 : Accepts (turn set_a) Ring (0 ∷ []) Endless Endless
  pub turned_torus_1_1_0 : Refuses (turn set_a) Torus (1 ∷ 1 ∷ 0 ∷ []) 36 2
  -- 9: A trimmed, where K is the set of states that stay
  pub trimmed_to_nothing : Largest set_a no_states
  pub trimmed_keeps_nothing : (K : States) → Largest set_a K → (q : ℕ) → K q ≡ false
  pub trimmed_has_no_edge : (K : States) → Largest set_a K → (i : ℕ) → (trim set_a K).edge i ≡ None
  pub trimmed_ranking_0_0_0 : (K : States) → Largest set_a K → Accepts (trim set_a K) Ranking (0 ∷ 0 ∷ 0 ∷ []) (Number 0) (Number 0)
  -- 10: slots of row 1 of the catalogue
  pub row_1_slot_17 : (row 1).edge 17 ≡ Some (1, 1, 1, 2)
  pub row_1_slot_0 : (row 1).edge 0 ≡ Some (0, 1, 1, 1)
  pub row_1_slot_2 : (row 1).edge 2 ≡ None
  -- 11: toruses over row 7 of the catalogue
  pub row_7_torus_1_1_0 : Accepts (row 7) Torus (1 ∷ 1 ∷ 0 ∷ []) Endless Endless
  pub row_7_torus_1_1_1 : Refuses (row 7) Torus (1 ∷ 1 ∷ 1 ∷ []) 33 2
  -- 12: the check of the strip of the one number 17
  pub strip_17_check : weighted body_17 508 ≡ 92
  pub strip_17_reads : contents_of strip_17 ≡ Ok (saying Strip (17 ∷ []))
