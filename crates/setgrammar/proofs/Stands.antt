-- The turns of the lines: what a reader's stage says of the lines before it. Assumes nothing.
use Rattle.std.proofs.Common.{◌≡◌, ℕ, ◌+◌, ◌≤◌, ◌⊎◌, List, [], ◌∷◌, ◌++◌, map, length, sym, refl, ap, ◌∙◌, subst, inl, inr, arith}
use Rattle.std.proofs.lemmas.List.{append-nil, length-append, map-append}
use Rattle.bottoms.specs.declared.tile.Tile.{Tile}
use Rattle.setgrammar.specs.Grammar.{Line, blank, note, pile, row, tile, spoken, tiles_in, Turns, InTurn}
use Rattle.setgrammar.specs.declared.line.Stage.{Stage}
use Rattle.setgrammar.specs.declared.line.Stage.TheVariants.{Empty, Piled, Rowed, Tiled}

pub spoken_append : (xs ys : List Line) → spoken (xs ++ ys) ≡ spoken xs ++ spoken ys
spoken_append [] ys = refl
spoken_append (blank ∷ xs) ys = spoken_append xs ys
spoken_append (note bs ∷ xs) ys = spoken_append xs ys
spoken_append (pile n ∷ xs) ys = ap (λ (ls : List Line). pile n ∷ ls) (spoken_append xs ys)
spoken_append (row n ∷ xs) ys = ap (λ (ls : List Line). row n ∷ ls) (spoken_append xs ys)
spoken_append (tile t ∷ xs) ys = ap (λ (ls : List Line). tile t ∷ ls) (spoken_append xs ys)

pub tiles_append : (xs ys : List Line) → tiles_in (xs ++ ys) ≡ tiles_in xs ++ tiles_in ys
tiles_append [] ys = refl
tiles_append (blank ∷ xs) ys = tiles_append xs ys
tiles_append (note bs ∷ xs) ys = tiles_append xs ys
tiles_append (pile n ∷ xs) ys = tiles_append xs ys
tiles_append (row n ∷ xs) ys = tiles_append xs ys
tiles_append (tile t ∷ xs) ys = ap (λ (ts : List Tile). t ∷ ts) (tiles_append xs ys)

-- the lines before have brought the reader to this stage
abbrev pub Stands : List Line → Stage → Type 0
Stands ls Empty = (spoken ls ≡ []) × (tiles_in ls ≡ [])
Stands ls (Piled n) = (spoken ls ≡ pile n ∷ []) × (tiles_in ls ≡ [])
Stands ls (Rowed n r) = (spoken ls ≡ pile n ∷ row r ∷ []) × (tiles_in ls ≡ [])
Stands ls (Tiled n c) = (spoken ls ≡ pile n ∷ map tile (tiles_in ls)) × (length (tiles_in ls) ≡ c) × (1 ≤ c)

pub in_turn : (ls : List Line) (stage : Stage) → Stands ls stage → InTurn ls
in_turn ls Empty s = inl s.0
in_turn ls (Piled n) s = inr (inr (n, [], s.0))
in_turn ls (Rowed n r) s = inr (inl (n, r, s.0))
in_turn ls (Tiled n c) s = inr (inr (n, tiles_in ls, s.0))

-- the lines that a stage takes
abbrev pub Takes : Stage → Line → Type 0
Takes stage blank = Unit {0}
Takes stage (note bs) = Unit {0}
Takes Empty (pile n) = Unit {0}
Takes (Piled p) (pile n) = ⊥
Takes (Rowed p r) (pile n) = ⊥
Takes (Tiled p c) (pile n) = ⊥
Takes Empty (row n) = ⊥
Takes (Piled p) (row n) = Unit {0}
Takes (Rowed p r) (row n) = ⊥
Takes (Tiled p c) (row n) = ⊥
Takes Empty (tile t) = ⊥
Takes (Piled p) (tile t) = Unit {0}
Takes (Rowed p r) (tile t) = ⊥
Takes (Tiled p c) (tile t) = Unit {0}

-- the stage after a line
abbrev pub next : Stage → Line → Stage
next stage blank = stage
next stage (note bs) = stage
next Empty (pile n) = Piled n
next (Piled p) (pile n) = Piled p
next (Rowed p r) (pile n) = Rowed p r
next (Tiled p c) (pile n) = Tiled p c
next Empty (row n) = Empty
next (Piled p) (row n) = Rowed p n
next (Rowed p r) (row n) = Rowed p r
next (Tiled p c) (row n) = Tiled p c
next Empty (tile t) = Empty
next (Piled p) (tile t) = Tiled p 1
next (Rowed p r) (tile t) = Rowed p r
next (Tiled p c) (tile t) = Tiled p (c + 1)

same_stands : (xs ys : List Line) (stage : Stage) → spoken xs ≡ spoken ys → tiles_in xs ≡ tiles_in ys → Stands xs stage → Stands ys stage
same_stands xs ys Empty e f s = (sym e ∙ s.0, sym f ∙ s.1)
same_stands xs ys (Piled n) e f s = (sym e ∙ s.0, sym f ∙ s.1)
same_stands xs ys (Rowed n r) e f s = (sym e ∙ s.0, sym f ∙ s.1)
same_stands xs ys (Tiled n c) e f s = (rw (← e, ← f) s.0, rw (← f) s.1, s.2)

-- a line that says nothing
quiet_stands : (ls : List Line) (l : Line) (stage : Stage) → spoken (l ∷ []) ≡ [] → tiles_in (l ∷ []) ≡ [] → Stands ls stage
    → Stands (ls ++ l ∷ []) stage
quiet_stands ls l stage e f s =
    same_stands ls (ls ++ l ∷ []) stage (sym (spoken_append ls (l ∷ []) ∙ rw (e, append-nil)))
    (sym (tiles_append ls (l ∷ []) ∙ rw (f, append-nil))) s

pub stands_next : (ls : List Line) (stage : Stage) (l : Line) → Stands ls stage → Takes stage l → Stands (ls ++ l ∷ []) (next stage l)
stands_next ls stage blank s t = quiet_stands ls blank stage refl refl s
stands_next ls stage (note bs) s t = quiet_stands ls (note bs) stage refl refl s
stands_next ls Empty (pile n) s t = (rw (spoken_append, s.0), rw (tiles_append, s.1))
stands_next ls (Piled p) (pile n) s t = absurd t
stands_next ls (Rowed p r) (pile n) s t = absurd t
stands_next ls (Tiled p c) (pile n) s t = absurd t
stands_next ls Empty (row n) s t = absurd t
stands_next ls (Piled p) (row n) s t = (rw (spoken_append, s.0), rw (tiles_append, s.1))
stands_next ls (Rowed p r) (row n) s t = absurd t
stands_next ls (Tiled p c) (row n) s t = absurd t
stands_next ls Empty (tile t) s t' = absurd t'
stands_next ls (Piled p) (tile t) s t' = (rw (spoken_append, tiles_append, s.0, s.1), rw (tiles_append, s.1), omega arith)
stands_next ls (Rowed p r) (tile t) s t' = absurd t'
stands_next ls (Tiled p c) (tile t) s t' = (
  rw (spoken_append, tiles_append, s.0, map-append),
  rw (tiles_append, length-append) (omega arith),
  omega arith,
)

-- among tiles each line is a tile
pub all_tiles : (us ts : List Tile) (l : Line) (ls : List Line) → map tile us ++ l ∷ ls ≡ map tile ts → (t : Tile) × (l ≡ tile t)
all_tiles [] [] l ls e = absurd (grind arith)
all_tiles [] (t ∷ ts) l ls e = (t, cc)
all_tiles (u ∷ us) [] l ls e = absurd (grind arith)
all_tiles (u ∷ us) (t ∷ ts) l ls e = all_tiles us ts l ls (cc)

-- what may follow, by what is said
after_nothing : (l : Line) (ls : List Line) → Turns (l ∷ ls) → (n : ℕ) × (l ≡ pile n)
after_nothing l ls (inl e) = absurd (grind arith)
after_nothing l ls (inr (inl (n, r, e))) = (n, cc)
after_nothing l ls (inr (inr (n, ts, e))) = (n, cc)

after_pile : (p : ℕ) (l : Line) (ls : List Line) → Turns (pile p ∷ l ∷ ls) → ((r : ℕ) × (l ≡ row r)) ⊎ ((t : Tile) × (l ≡ tile t))
after_pile p l ls (inl e) = absurd (grind arith)
after_pile p l ls (inr (inl (n, r, e))) = inl (r, cc)
after_pile p l ls (inr (inr (n, ts, e))) = inr (all_tiles [] ts l ls (cc))

after_row : (p q : ℕ) (l : Line) (ls : List Line) → Turns (pile p ∷ row q ∷ l ∷ ls) → ⊥
after_row p q l ls (inl e) = grind arith
after_row p q l ls (inr (inl (n, r, e))) = grind arith
after_row p q l ls (inr (inr (n, ts, e))) =
    let f = all_tiles [] ts (row q) (l ∷ ls) (cc) in grind (arith, f.1)

after_tiles : (p : ℕ) (us : List Tile) (l : Line) (ls : List Line) → 1 ≤ length us → Turns (pile p ∷ (map tile us ++ l ∷ ls))
    → (t : Tile) × (l ≡ tile t)
after_tiles p us l ls some (inl e) = absurd (grind arith)
after_tiles p [] l ls some (inr (inl (n, r, e))) = absurd (omega arith)
after_tiles p (u ∷ us) l ls some (inr (inl (n, r, e))) = absurd (grind arith)
after_tiles p us l ls some (inr (inr (n, ts, e))) = all_tiles us ts l ls (cc)

-- the stage takes a line that is in turn
speaks : (ls more : List Line) (l : Line) (said : List Line) → spoken ls ≡ said → spoken (l ∷ more) ≡ l ∷ spoken more
    → InTurn (ls ++ l ∷ more) → Turns (said ++ l ∷ spoken more)
speaks ls more l said e f turn = subst Turns (spoken_append ls (l ∷ more) ∙ rw (e, f)) turn

pub turn_takes : (ls : List Line) (stage : Stage) → Stands ls stage → (l : Line) (more : List Line) → InTurn (ls ++ l ∷ more)
    → Takes stage l
turn_takes ls stage s blank more turn = tt
turn_takes ls stage s (note bs) more turn = tt
turn_takes ls Empty s (pile n) more turn = tt
turn_takes ls Empty s (row n) more turn =
    let f = after_nothing (row n) (spoken more) (speaks ls more (row n) [] s.0 refl turn) in
    grind (arith, f.1)
turn_takes ls Empty s (tile t) more turn =
    let f = after_nothing (tile t) (spoken more) (speaks ls more (tile t) [] s.0 refl turn) in
    grind (arith, f.1)
turn_takes ls (Piled p) s (pile n) more turn =
    elim (after_pile p (pile n) (spoken more) (speaks ls more (pile n) (pile p ∷ []) s.0 refl turn)) [
      | inl f ↦ grind (arith, f.1)
      | inr f ↦ grind (arith, f.1)
    ]
turn_takes ls (Piled p) s (row n) more turn = tt
turn_takes ls (Piled p) s (tile t) more turn = tt
turn_takes ls (Rowed p r) s (pile n) more turn =
    after_row p r (pile n) (spoken more) (speaks ls more (pile n) (pile p ∷ row r ∷ []) s.0 refl turn)
turn_takes ls (Rowed p r) s (row n) more turn =
    after_row p r (row n) (spoken more) (speaks ls more (row n) (pile p ∷ row r ∷ []) s.0 refl turn)
turn_takes ls (Rowed p r) s (tile t) more turn =
    after_row p r (tile t) (spoken more) (speaks ls more (tile t) (pile p ∷ row r ∷ []) s.0 refl turn)
turn_takes ls (Tiled p c) s (pile n) more turn =
    let f = after_tiles p (tiles_in ls) (pile n) (spoken more) (omega arith)
    (speaks ls more (pile n) (pile p ∷ map tile (tiles_in ls)) s.0 refl turn) in
    grind (arith, f.1)
turn_takes ls (Tiled p c) s (row n) more turn =
    let f = after_tiles p (tiles_in ls) (row n) (spoken more) (omega arith)
    (speaks ls more (row n) (pile p ∷ map tile (tiles_in ls)) s.0 refl turn) in
    grind (arith, f.1)
turn_takes ls (Tiled p c) s (tile t) more turn = tt
