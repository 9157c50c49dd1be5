-- One line more: the room, the list, and the end of the text. Assumes nothing.
use Rattle.std.proofs.Common.{◌≡◌, ℕ, suc, ◌+◌, ◌<◌, ◌≤◌, List, [], ◌∷◌, ◌++◌, map, length, set, Ok, Err, sym, refl, ap, ◌∙◌, inl, inr, arith}
use Rattle.std.proofs.ByRecursion.{All-push}
use Rattle.std.proofs.lemmas.List.{append-nil, length-append}
use Rattle.bottoms.specs.declared.tile.Tile.{Tile}
use Rattle.setgrammar.proofs.Stands.{Stands, Takes, next, stands_next, in_turn, tiles_append, all_tiles}
use Rattle.setgrammar.specs.Grammar.{Line, row, tile, Good, tiles_in, Says, Begins, laid}
use Rattle.setgrammar.specs.Lines.{State, said}
use Rattle.setgrammar.specs.declared.fault.Position.{Position}
use Rattle.setgrammar.specs.declared.fault.TextFault.TheVariants.{Ends}
use Rattle.setgrammar.specs.declared.line.Stage.{Stage}
use Rattle.setgrammar.specs.declared.line.Stage.TheVariants.{Empty, Piled, Rowed, Tiled}
use Rattle.setgrammar.specs.declared.set.SetText.{SetText}

-- the state after these lines
abbrev pub state_after : List Tile → List Line → Stage → State
state_after old ls stage = record { stage = stage; tiles = laid (tiles_in ls) old }

pub begins_next : (room : ℕ) (ls : List Line) (stage : Stage) (l : Line) → Begins room ls → Stands ls stage → Good l → Takes stage l
    → length (tiles_in ls) + length (tiles_in (l ∷ [])) ≤ room → length (tiles_in ls) + length (tiles_in (l ∷ [])) ≤ 1024
    → Begins room (ls ++ l ∷ [])
begins_next room ls stage l b s good takes within few = record {
  good = All-push Good ls l b.good good;
  turn = in_turn (ls ++ l ∷ []) (next stage l) (stands_next ls stage l s takes);
  within = rw (tiles_append, length-append) within;
  few = rw (tiles_append, length-append) few;
}

-- a line with no tile leaves the list
pub laid_quiet : (old : List Tile) (ls : List Line) (l : Line) → tiles_in (l ∷ []) ≡ []
    → laid (tiles_in (ls ++ l ∷ [])) old ≡ laid (tiles_in ls) old
laid_quiet old ls l e = ap (λ (ts : List Tile). laid ts old) (tiles_append ls (l ∷ []) ∙ rw (e, append-nil))

laid_more : (ts old : List Tile) (t : Tile) → length ts < length old → set (laid ts old) (length ts) t ≡ laid (ts ++ t ∷ []) old
laid_more [] [] t h = absurd (omega arith)
laid_more [] (o ∷ old) t h = refl
laid_more (u ∷ ts) [] t h = absurd (omega arith)
laid_more (u ∷ ts) (o ∷ old) t h = ap (λ (xs : List Tile). u ∷ xs) (laid_more ts old t (omega arith))

-- the tile of a line goes to the first free place
pub laid_tile : (old : List Tile) (ls : List Line) (t : Tile) (c : ℕ) → length (tiles_in ls) ≡ c → c < length old
    → set (laid (tiles_in ls) old) c t ≡ laid (tiles_in (ls ++ tile t ∷ [])) old
laid_tile old ls t c is h = rw (← is, tiles_append) (laid_more (tiles_in ls) old t (omega arith))

length_laid : (ts old : List Tile) → length ts ≤ length old → length (laid ts old) ≡ length old
length_laid [] old h = refl
length_laid (t ∷ ts) [] h = absurd (omega arith)
length_laid (t ∷ ts) (o ∷ old) h = ap suc (length_laid ts old (omega arith))

-- the list keeps its length
pub length_kept : (old : List Tile) (ls : List Line) → Begins (length old) ls → length (laid (tiles_in ls) old) ≡ length old
length_kept old ls b = length_laid (tiles_in ls) old b.within

same_set : (set : SetText) (p r t : ℕ) → p ≡ set.pile → r ≡ set.row → t ≡ set.tiles
    → ◌≡◌ {A = SetText} (record { pile = p; row = r; tiles = t }) set
same_set set p r t e f g = rw (e, f, g)

-- whole lines are what the stage says
pub said_only : (ls : List Line) (stage : Stage) → Stands ls stage → (at : Position) (set : SetText) → Says ls set → said stage at ≡ Ok set
said_only ls Empty s at set (inl (e, f)) = absurd (grind arith)
said_only ls Empty s at set (inr (e, f, g, h)) = absurd (grind arith)
said_only ls (Piled n) s at set (inl (e, f)) = absurd (grind arith)
said_only ls (Piled n) s at set (inr (e, f, g, h)) = absurd (omega (arith, ap length s.1))
said_only ls (Rowed n r) s at set (inl (e, f)) =
    let a : n ≡ set.pile = cc in let b : r ≡ set.row = cc in ap Ok (same_set set n r 0 a b (sym f))
said_only ls (Rowed n r) s at set (inr (e, f, g, h)) = absurd (omega (arith, ap length s.1))
said_only ls (Tiled n c) s at set (inl (e, f)) =
    let a : row set.row ∷ [] ≡ map tile (tiles_in ls) = cc in
    let t = all_tiles [] (tiles_in ls) (row set.row) [] a in
    absurd (grind (arith, t.1))
said_only ls (Tiled n c) s at set (inr (e, f, g, h)) =
    let a : n ≡ set.pile = cc in ap Ok (same_set set n 0 c a (sym f) (omega arith))

-- at the end of the text the set is complete, or not
pub data Said (ls : List Line) (stage : Stage) (at : Position) : Type 0 where
  whole : (set : SetText) → said stage at ≡ Ok set → Says ls set → Said ls stage at
  short : said stage at ≡ Err (Ends at) → ((set : SetText) → Says ls set → ⊥) → Said ls stage at

not_said : (ls : List Line) (stage : Stage) → Stands ls stage → (at : Position) → said stage at ≡ Err (Ends at) → (set : SetText) → Says ls set → ⊥
not_said ls stage s at e set says =
    let f = said_only ls stage s at set says in grind arith

pub said_cases : (ls : List Line) (stage : Stage) → Stands ls stage → (at : Position) → Said ls stage at
said_cases ls Empty s at = short refl (not_said ls Empty s at refl)
said_cases ls (Piled n) s at = short refl (not_said ls (Piled n) s at refl)
said_cases ls (Rowed n r) s at = whole (record { pile = n; row = r; tiles = 0 }) refl (inl (s.0, refl))
said_cases ls (Tiled n c) s at = whole (record { pile = n; row = 0; tiles = c }) refl (inr (s.0, refl, sym s.1, s.2))
