-- The three kinds of lines with numbers. Assumes nothing.
use Rattle.std.proofs.Common.{◌≡◌, ℕ, ◌≤◌, List, [], ◌∷◌, get_or, refl, ap, subst, arith}
use Rattle.bottoms.specs.declared.tile.Tile.{Tile}
use Rattle.setgrammar.proofs.Breaks.{Numbers}
use Rattle.setgrammar.proofs.Fields.{In}
use Rattle.setgrammar.specs.Grammar.{Line, blank, note, pile, row, tile, edges, written, fields, Formed, Good}
use Rattle.setgrammar.specs.Lines.{colours, tile_of}

-- the first bytes differ
apart : (a b : ℕ) (x y : List ℕ) → a ∷ x ≡ b ∷ y → (a ≡ b → ⊥) → ⊥
apart a b x y e ne = ne (cc)

-- the line that begins with a p, an f or a t
pub pile_only : (l : Line) (x : List ℕ) → written l ≡ 112 ∷ x → (n : ℕ) × (l ≡ pile n) × (fields (n ∷ []) ≡ x)
pile_only blank x e = absurd (apart 10 112 _ _ e (λ z. omega arith))
pile_only (note bs) x e = absurd (apart 35 112 _ _ e (λ z. omega arith))
pile_only (pile n) x e = (n, refl, cc)
pile_only (row n) x e = absurd (apart 102 112 _ _ e (λ z. omega arith))
pile_only (tile t) x e = absurd (apart 116 112 _ _ e (λ z. omega arith))

pub row_only : (l : Line) (x : List ℕ) → written l ≡ 102 ∷ x → (n : ℕ) × (l ≡ row n) × (fields (n ∷ []) ≡ x)
row_only blank x e = absurd (apart 10 102 _ _ e (λ z. omega arith))
row_only (note bs) x e = absurd (apart 35 102 _ _ e (λ z. omega arith))
row_only (pile n) x e = absurd (apart 112 102 _ _ e (λ z. omega arith))
row_only (row n) x e = (n, refl, cc)
row_only (tile t) x e = absurd (apart 116 102 _ _ e (λ z. omega arith))

pub tile_only : (l : Line) (x : List ℕ) → written l ≡ 116 ∷ x → (t : Tile) × (l ≡ tile t) × (fields (edges t) ≡ x)
tile_only blank x e = absurd (apart 10 116 _ _ e (λ z. omega arith))
tile_only (note bs) x e = absurd (apart 35 116 _ _ e (λ z. omega arith))
tile_only (pile n) x e = absurd (apart 112 116 _ _ e (λ z. omega arith))
tile_only (row n) x e = absurd (apart 102 116 _ _ e (λ z. omega arith))
tile_only (tile t) x e = (t, refl, cc)

-- a line begins with a line feed, #, p, f or t
pub first_byte : (l : Line) (b : ℕ) (x : List ℕ) → written l ≡ b ∷ x → (b ≡ 112 → ⊥) → (b ≡ 102 → ⊥) → (b ≡ 116 → ⊥)
    → (b ≡ 35 → ⊥) → (b ≡ 10 → ⊥) → ⊥
first_byte blank b x e p f t h n = n (cc)
first_byte (note bs) b x e p f t h n = h (cc)
first_byte (pile m) b x e p f t h n = p (cc)
first_byte (row m) b x e p f t h n = f (cc)
first_byte (tile u) b x e p f t h n = t (cc)

-- a line of one number, and a line of a tile
abbrev pub pile_line : List ℕ → Line
pile_line ns = pile (get_or ns 0 0)

abbrev pub row_line : List ℕ → Line
row_line ns = row (get_or ns 0 0)

abbrev pub tile_line : List ℕ → Line
tile_line ns = tile (tile_of ns)

one_writes : (r : ℕ × ℕ) (ns : List ℕ) → In (r ∷ []) ns → (get_or ns 0 0 ∷ [] ≡ ns) × (r.0 ≤ get_or ns 0 0) × (get_or ns 0 0 ≤ r.1)
one_writes r [] in' = absurd in'
one_writes r (n ∷ []) in' = (refl, in'.0.0, in'.0.1)
one_writes r (n ∷ m ∷ ns) in' = absurd in'.1

pub piles : Numbers 112 ((1, 6) ∷ []) pile_line
piles = record {
  sane = ((omega arith, omega arith, omega arith), tt);
  writes = λ ns in'. ap (λ (ms : List ℕ). 112 ∷ fields ms) (one_writes (1, 6) ns in').0;
  fair = λ ns in'. ((one_writes (1, 6) ns in').1, (one_writes (1, 6) ns in').2);
  formed = λ l x f e. let o = pile_only l x e in (o.0 ∷ [], (subst Formed o.1 f, tt), o.2);
  good = λ l x f e. let o = pile_only l x e in (o.0 ∷ [], (subst Good o.1 f, tt), o.2);
}

pub rows : Numbers 102 ((1, 8) ∷ []) row_line
rows = record {
  sane = ((omega arith, omega arith, omega arith), tt);
  writes = λ ns in'. ap (λ (ms : List ℕ). 102 ∷ fields ms) (one_writes (1, 8) ns in').0;
  fair = λ ns in'. ((one_writes (1, 8) ns in').1, (one_writes (1, 8) ns in').2);
  formed = λ l x f e. let o = row_only l x e in (o.0 ∷ [], (subst Formed o.1 f, tt), o.2);
  good = λ l x f e. let o = row_only l x e in (o.0 ∷ [], (subst Good o.1 f, tt), o.2);
}

colours_are : (ns : List ℕ) → In colours ns → (edges (tile_of ns) ≡ ns) × Good (tile (tile_of ns))
colours_are [] in' = absurd in'
colours_are (a ∷ []) in' = absurd in'.1
colours_are (a ∷ b ∷ []) in' = absurd in'.1.1
colours_are (a ∷ b ∷ c ∷ []) in' = absurd in'.1.1.1
colours_are (a ∷ b ∷ c ∷ d ∷ []) in' = (refl, (in'.0.1, (in'.1.0.1, (in'.1.1.0.1, (in'.1.1.1.0.1, tt)))))
colours_are (a ∷ b ∷ c ∷ d ∷ e ∷ ns) in' = absurd in'.1.1.1.1

pub edges_in : (t : Tile) → Good (tile t) → In colours (edges t)
edges_in t good =
    ((omega arith, good.0), ((omega arith, good.1.0), ((omega arith, good.1.1.0), ((omega arith, good.1.1.1.0), tt))))

colour : (◌≤◌ 0 1) × (◌≤◌ 0 255) × (255 ≤ 999)
colour = (omega arith, omega arith, omega arith)

pub tiles : Numbers 116 colours tile_line
tiles = record {
  sane = (colour, (colour, (colour, (colour, tt))));
  writes = λ ns in'. ap (λ (ms : List ℕ). 116 ∷ fields ms) (colours_are ns in').0;
  fair = λ ns in'. (colours_are ns in').1;
  formed = λ l x f e. let o = tile_only l x e in (edges o.0, subst Formed o.1 f, o.2);
  good = λ l x f e. let o = tile_only l x e in (edges o.0, edges_in o.0 (subst Good o.1 f), o.2);
}
