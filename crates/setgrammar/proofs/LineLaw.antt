-- What reading a line comes to, by the grammar. Assumes nothing.
use Rattle.std.proofs.Common.{◌≡◌, ℕ, ◌+◌, ◌<◌, ◌≤◌, true, ◌||◌, leb, ◌⊎◌, List, [], ◌∷◌, ◌++◌, length, set, Ok, Err, sym, refl, ap, ◌∙◌, subst, inl, inr, arith}
use Rattle.std.proofs.lemmas.List.{append-nil, append_assoc}
use Rattle.std.proofs.lemmas.Bool.{cases_eq, cases_lt, ne_eqb, le-leb, lt-leb, or_left, or_right}
use Rattle.bottoms.specs.declared.tile.Tile.{Tile}
use Rattle.setgrammar.proofs.Breaks as breaks
use Rattle.setgrammar.proofs.Breaks.{Breaks, Numbered, numbered}
use Rattle.setgrammar.proofs.Fields.{In, fields_cases}
use Rattle.setgrammar.proofs.Numbers.{place, along, along_along}
use Rattle.setgrammar.proofs.Remarks as remarks
use Rattle.setgrammar.proofs.Remarks.{Remark, remark_cases}
use Rattle.setgrammar.proofs.Rooms.{state_after, begins_next, laid_quiet, laid_tile, length_kept}
use Rattle.setgrammar.proofs.Sorts.{pile_only, row_only, tile_only, first_byte, pile_line, row_line, tile_line, piles, rows, tiles}
use Rattle.setgrammar.proofs.Stands.{Stands, Takes, next, stands_next, in_turn, turn_takes}
use Rattle.setgrammar.specs.Grammar.{Line, blank, note, pile, row, tile, written, Good, tiles_in, Begins, laid}
use Rattle.setgrammar.specs.Lines.{colours, tile_of, tile_line_at, tile_at, line_at}
use Rattle.setgrammar.specs.Place.{Place, ◌then◌}
use Rattle.setgrammar.specs.declared.fault.Position.{Position}
use Rattle.setgrammar.specs.declared.fault.TextFault.{TextFault}
use Rattle.setgrammar.specs.declared.fault.TextFault.TheVariants as fault
use Rattle.setgrammar.specs.declared.line.Stage.{Stage}
use Rattle.setgrammar.specs.declared.line.Stage.TheVariants.{Empty, Piled, Rowed, Tiled}

filled : (n c : ℕ) → (n ≤ c) ⊎ (1024 ≤ c) → (leb n c || leb 1024 c) ≡ true
filled n c (inl none) = or_left (leb n c) (leb 1024 c) (le-leb n c none)
filled n c (inr many) = or_right (leb n c) (leb 1024 c) (le-leb 1024 c many)

-- room for a tile, or none
pub open_at : (p c : ℕ) (ts : List Tile) (at : Position) (q : Place) → c < length ts → c < 1024
    → tile_at p c ts at q
    ≡ (tile_line_at q then λ t r. Ok (record { stage = Tiled p (c + 1); tiles = set ts c t }, r))
open_at p c ts at q room few = rw (lt-leb (length ts) c room, lt-leb 1024 c few)

full_at : (p c : ℕ) (ts : List Tile) (at : Position) (q : Place) → (length ts ≤ c) ⊎ (1024 ≤ c) → tile_at p c ts at q ≡ Err (fault.Full at)
full_at p c ts at q full = rw (filled (length ts) c full)

zeros : Good (tile (tile_of []))
zeros = (omega arith, (omega arith, (omega arith, (omega arith, tt))))

-- the start of the next line
abbrev pub below : Position → Position
below at = record { line = at.line + 1; column = 1 }

module _ (old : List Tile) (before : List Line) where
  -- a line was read whole, or it breaks
  pub data LineRead (stage : Stage) (bs : List ℕ) (at : Position) : Type 0 where
    taken : (l : Line) (rest : List ℕ) → Takes stage l → Begins (length old) (before ++ l ∷ []) → bs ≡ written l ++ rest
        → line_at (state_after old before stage) (place bs at) ≡ Ok (state_after old (before ++ l ∷ []) (next stage l), place rest (below at))
        → LineRead stage bs at
    broken : (f : TextFault) → line_at (state_after old before stage) (place bs at) ≡ Err f → Breaks (length old) before bs at f
        → LineRead stage bs at

at_once : (at : Position) → at ≡ along at 0
at_once at = ap (λ (c : ℕ). record { line = at.line; column = c }) (omega arith)

module _ (old : List Tile) (before : List Line) (begins : Begins (length old) before) where
  -- a line with no tile may stand wherever the stage takes it
  pub quiet_begins : (stage : Stage) → Stands before stage → (l : Line) → Good l → Takes stage l → tiles_in (l ∷ []) ≡ []
      → Begins (length old) (before ++ l ∷ [])
  quiet_begins stage s l good takes none =
      begins_next (length old) before stage l begins s good takes
      (rw none (omega (arith, begins.within))) (rw none (omega (arith, begins.few)))

  -- a line out of turn
  turn_breaks : (stage : Stage) → Stands before stage → (k : ℕ) (bs : List ℕ) (at : Position)
      → (some : Line) (more : List ℕ) → Good some → written some ≡ k ∷ more
      → ((l : Line) (x : List ℕ) → written l ≡ k ∷ x → Takes stage l → ⊥)
      → Breaks (length old) before (k ∷ bs) at (fault.Turn at)
  turn_breaks stage s k bs at some more good is none = record {
    head = [];
    tail = k ∷ bs;
    bytes = refl;
    place = at_once at;
    why = (refl, k, bs, refl, (some, more, good, is), λ l x e turn. none l x e (turn_takes before stage s l [] turn));
  }

  blank_cases : (stage : Stage) → Stands before stage → (bs : List ℕ) (at : Position) → LineRead old before stage (10 ∷ bs) at
  blank_cases stage s bs at =
      taken blank bs tt (quiet_begins stage s blank tt tt refl) refl (rw (laid_quiet old before blank refl))

  after_note : (stage : Stage) → Stands before stage → (bs : List ℕ) (at : Position) → Remark bs (along at 1)
      → LineRead old before stage (35 ∷ bs) at
  after_note stage s bs at (remarks.ends none e) =
      broken (fault.Ends (along (along at 1) (length bs))) (rw e) (record {
        head = 35 ∷ bs;
        tail = [];
        bytes = sym (append-nil (35 ∷ bs));
        place = along_along at 1 (length bs) (length (35 ∷ bs)) (omega arith);
        why = ((note bs, 10 ∷ [], quiet_begins stage s (note bs) none tt refl, refl, omega arith), refl, λ e. absurd (omega (arith, ap length e)));
      })
  after_note stage s bs at (remarks.whole said rest none is e) =
      taken (note said) rest tt (quiet_begins stage s (note said) none tt refl) (rw (is, append_assoc)) (rw (e, laid_quiet old before (note said) refl))

  after_pile : Stands before Empty → (bs : List ℕ) (at : Position) → Numbered piles (length old) before bs at
      → LineRead old before Empty (112 ∷ bs) at
  after_pile s bs at (breaks.broken f e b) = broken f (rw e) b
  after_pile s bs at (breaks.whole ns rest in' is e) =
      taken (pile_line ns) rest tt (quiet_begins Empty s (pile_line ns) (piles.fair ns in') tt refl)
      (ap (λ (x : List ℕ). 112 ∷ x) is ∙ sym (ap (λ (x : List ℕ). x ++ rest) (piles.writes ns in')))
      (rw (e, laid_quiet old before (pile_line ns) refl))

  pile_cases : (stage : Stage) → Stands before stage → (bs : List ℕ) (at : Position) → LineRead old before stage (112 ∷ bs) at
  pile_cases Empty s bs at =
      after_pile s bs at (numbered piles (length old) before
      (λ ns in'. quiet_begins Empty s (pile_line ns) (piles.fair ns in') tt refl) bs at (fields_cases _ piles.sane bs (along at 1)))
  pile_cases (Piled p) s bs at =
      broken (fault.Turn at) refl (turn_breaks (Piled p) s 112 bs at (pile 1) _ (omega arith, omega arith) refl
      (λ l x e t. subst (Takes (Piled p)) (pile_only l x e).1 t))
  pile_cases (Rowed p r) s bs at =
      broken (fault.Turn at) refl (turn_breaks (Rowed p r) s 112 bs at (pile 1) _ (omega arith, omega arith) refl
      (λ l x e t. subst (Takes (Rowed p r)) (pile_only l x e).1 t))
  pile_cases (Tiled p c) s bs at =
      broken (fault.Turn at) refl (turn_breaks (Tiled p c) s 112 bs at (pile 1) _ (omega arith, omega arith) refl
      (λ l x e t. subst (Takes (Tiled p c)) (pile_only l x e).1 t))

  after_row : (p : ℕ) → Stands before (Piled p) → (bs : List ℕ) (at : Position) → Numbered rows (length old) before bs at
      → LineRead old before (Piled p) (102 ∷ bs) at
  after_row p s bs at (breaks.broken f e b) = broken f (rw e) b
  after_row p s bs at (breaks.whole ns rest in' is e) =
      taken (row_line ns) rest tt (quiet_begins (Piled p) s (row_line ns) (rows.fair ns in') tt refl)
      (ap (λ (x : List ℕ). 102 ∷ x) is ∙ sym (ap (λ (x : List ℕ). x ++ rest) (rows.writes ns in')))
      (rw (e, laid_quiet old before (row_line ns) refl))

  row_cases : (stage : Stage) → Stands before stage → (bs : List ℕ) (at : Position) → LineRead old before stage (102 ∷ bs) at
  row_cases Empty s bs at =
      broken (fault.Turn at) refl (turn_breaks Empty s 102 bs at (row 1) _ (omega arith, omega arith) refl
      (λ l x e t. subst (Takes Empty) (row_only l x e).1 t))
  row_cases (Piled p) s bs at =
      after_row p s bs at (numbered rows (length old) before
      (λ ns in'. quiet_begins (Piled p) s (row_line ns) (rows.fair ns in') tt refl) bs at (fields_cases _ rows.sane bs (along at 1)))
  row_cases (Rowed p r) s bs at =
      broken (fault.Turn at) refl (turn_breaks (Rowed p r) s 102 bs at (row 1) _ (omega arith, omega arith) refl
      (λ l x e t. subst (Takes (Rowed p r)) (row_only l x e).1 t))
  row_cases (Tiled p c) s bs at =
      broken (fault.Turn at) refl (turn_breaks (Tiled p c) s 102 bs at (row 1) _ (omega arith, omega arith) refl
      (λ l x e t. subst (Takes (Tiled p c)) (row_only l x e).1 t))

  -- a stage that takes tiles, after this many
  module _ (stage : Stage) (s : Stands before stage) (p c : ℕ) (count : length (tiles_in before) ≡ c)
      (takes : (t : Tile) → Takes stage (tile t)) (goes : (t : Tile) → next stage (tile t) ≡ Tiled p (c + 1)) where
    tile_begins : c < length old → c < 1024 → (ns : List ℕ) → In colours ns → Begins (length old) (before ++ tile_line ns ∷ [])
    tile_begins room few ns in' =
        begins_next (length old) before stage (tile_line ns) begins s (tiles.fair ns in') (takes (tile_of ns)) (omega arith) (omega arith)

    after_tile : (bs : List ℕ) (at : Position)
        → line_at (state_after old before stage) (place (116 ∷ bs) at) ≡ tile_at p c (laid (tiles_in before) old) at (place bs (along at 1))
        → c < length old → c < 1024 → Numbered tiles (length old) before bs at → LineRead old before stage (116 ∷ bs) at
    after_tile bs at runs room few (breaks.broken f e b) = broken f (runs ∙ open_at p c (laid (tiles_in before) old) at (place bs (along at 1)) (omega (arith, length_kept old before begins)) few ∙ rw e) b
    after_tile bs at runs room few (breaks.whole ns rest in' is e) =
        taken (tile_line ns) rest (takes (tile_of ns)) (tile_begins room few ns in')
        (ap (λ (x : List ℕ). 116 ∷ x) is ∙ sym (ap (λ (x : List ℕ). x ++ rest) (tiles.writes ns in')))
        (runs ∙ open_at p c (laid (tiles_in before) old) at (place bs (along at 1)) (omega (arith, length_kept old before begins)) few
        ∙ rw (e, laid_tile old before (tile_of ns) c count room, goes (tile_of ns)))

    full_breaks : (bs : List ℕ) (at : Position) → (length old ≤ c) ⊎ (1024 ≤ c) → Breaks (length old) before (116 ∷ bs) at (fault.Full at)
    full_breaks bs at full = record {
      head = [];
      tail = 116 ∷ bs;
      bytes = refl;
      place = at_once at;
      why = (
        refl,
        bs,
        refl,
        λ t. in_turn (before ++ tile t ∷ []) (next stage (tile t)) (stands_next before stage (tile t) s (takes t)),
        elim full [ inl none ↦ omega (arith, begins.within, begins.few) | inr many ↦ omega (arith, begins.within, begins.few) ],
      );
    }

    tile_after : (bs : List ℕ) (at : Position)
        → line_at (state_after old before stage) (place (116 ∷ bs) at) ≡ tile_at p c (laid (tiles_in before) old) at (place bs (along at 1))
        → LineRead old before stage (116 ∷ bs) at
    tile_after bs at runs =
        elim (cases_lt c (length old)) [
          | inl room ↦
              elim (cases_lt c 1024) [
                | inl few ↦
                    after_tile bs at runs room few
                    (numbered tiles (length old) before (tile_begins room few) bs at (fields_cases colours tiles.sane bs (along at 1)))
                | inr many ↦
                    broken (fault.Full at) (runs ∙ full_at p c (laid (tiles_in before) old) at (place bs (along at 1)) (inr many))
                    (full_breaks bs at (inr many))
              ]
          | inr none ↦
              broken (fault.Full at)
              (runs ∙ full_at p c (laid (tiles_in before) old) at (place bs (along at 1)) (inl (omega (arith, length_kept old before begins))))
              (full_breaks bs at (inl none))
        ]

  tile_cases : (stage : Stage) → Stands before stage → (bs : List ℕ) (at : Position) → LineRead old before stage (116 ∷ bs) at
  tile_cases Empty s bs at =
      broken (fault.Turn at) refl (turn_breaks Empty s 116 bs at (tile (tile_of [])) _ zeros refl
      (λ l x e t. subst (Takes Empty) (tile_only l x e).1 t))
  tile_cases (Piled p) s bs at = tile_after (Piled p) s p 0 (ap length s.1) (λ t. tt) (λ t. refl) bs at refl
  tile_cases (Rowed p r) s bs at =
      broken (fault.Turn at) refl (turn_breaks (Rowed p r) s 116 bs at (tile (tile_of [])) _ zeros refl
      (λ l x e t. subst (Takes (Rowed p r)) (tile_only l x e).1 t))
  tile_cases (Tiled p c) s bs at = tile_after (Tiled p c) s p c s.1 (λ t. tt) (λ t. refl) bs at refl

  start_breaks : (b : ℕ) (bs : List ℕ) (at : Position) → (b ≡ 112 → ⊥) → (b ≡ 102 → ⊥) → (b ≡ 116 → ⊥) → (b ≡ 35 → ⊥) → (b ≡ 10 → ⊥)
      → Breaks (length old) before (b ∷ bs) at (fault.Start at)
  start_breaks b bs at p f t h n = record {
    head = [];
    tail = b ∷ bs;
    bytes = refl;
    place = at_once at;
    why = (refl, b, bs, refl, λ l more e. first_byte l b more e p f t h n);
  }

  other_cases : (stage : Stage) → Stands before stage → (b : ℕ) (bs : List ℕ) (at : Position)
      → (b ≡ 112) ⊎ (b ≡ 112 → ⊥) → (b ≡ 102) ⊎ (b ≡ 102 → ⊥) → (b ≡ 116) ⊎ (b ≡ 116 → ⊥) → (b ≡ 35) ⊎ (b ≡ 35 → ⊥)
      → (b ≡ 10) ⊎ (b ≡ 10 → ⊥) → LineRead old before stage (b ∷ bs) at
  other_cases stage s b bs at (inl p) f t h n = subst (λ c. LineRead old before stage (c ∷ bs) at) (sym p) (pile_cases stage s bs at)
  other_cases stage s b bs at (inr p) (inl f) t h n = subst (λ c. LineRead old before stage (c ∷ bs) at) (sym f) (row_cases stage s bs at)
  other_cases stage s b bs at (inr p) (inr f) (inl t) h n = subst (λ c. LineRead old before stage (c ∷ bs) at) (sym t) (tile_cases stage s bs at)
  other_cases stage s b bs at (inr p) (inr f) (inr t) (inl h) n =
      subst (λ c. LineRead old before stage (c ∷ bs) at) (sym h) (after_note stage s bs at (remark_cases bs (along at 1)))
  other_cases stage s b bs at (inr p) (inr f) (inr t) (inr h) (inl n) = subst (λ c. LineRead old before stage (c ∷ bs) at) (sym n) (blank_cases stage s bs at)
  other_cases stage s b bs at (inr p) (inr f) (inr t) (inr h) (inr n) =
      broken (fault.Start at) (rw (ne_eqb b 112 p, ne_eqb b 102 f, ne_eqb b 116 t, ne_eqb b 35 h, ne_eqb b 10 n))
      (start_breaks b bs at p f t h n)

  -- a line that was begun
  pub line_cases : (stage : Stage) → Stands before stage → (b : ℕ) (bs : List ℕ) (at : Position) → LineRead old before stage (b ∷ bs) at
  line_cases stage s b bs at =
      other_cases stage s b bs at (cases_eq b 112) (cases_eq b 102) (cases_eq b 116) (cases_eq b 35) (cases_eq b 10)
