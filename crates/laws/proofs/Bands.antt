-- A torus carries up through stacked copies: its rows become one closed walk of the stack. Assumes nothing.
use Rattle.std.proofs.Common.{◌≡◌, ℕ, suc, ◌+◌, ◌*◌, ◌/◌, ◌%◌, ◌<◌, ◌≤◌, ◌⊎◌, List, map, length, get_or, Some, None, Option, sym, refl, ap, ◌∙◌, subst, ap₂, inl, inr, add-zero, add_assoc, div-lt_iff_lt-mul, arith}
use native.Mathlib.Nat.{add-mod_right}
use Rattle.std.proofs.lemmas.Nat.{div-add-mod', div-mul-add, mod_below, mod-mul-add, mul-le}
use Rattle.std.proofs.lemmas.List.FromFn.{get_or-map-range_with_len, length-map-range_with_len}
use Rattle.std.proofs.lemmas.Bool.{cases_lt, eq-eqb, le-ltb, lt-ltb}
use Rattle.std.specs.List.{range_with_len}
use Rattle.transducers.specs.Meaning.{Edge, Meaning, Valid, from, to, south, north}
use Rattle.transducers.specs.Stacking.{Copies, both_edges, paired, stack}
use Rattle.transducers.specs.Stacking.Copies.{single, pair}
use Rattle.rules.specs.Torus.{rows, width}
use Rattle.laws.specs.Walking.{Ring, TorusOn, next_row}
use Rattle.laws.proofs.Chains.{Chain, chain_from_walk, same_edge, walk_from_chain}
use Rattle.laws.proofs.Paths.{edge_slot}
use Rattle.laws.proofs.RowLaws.{part, part_at, part_length}
use Rattle.laws.proofs.TorusLaws.{row_fits}

-- a row without end, of period w, whose souths are low and whose norths are high
pub record Band (m : Meaning) (w : ℕ) (low high : ℕ → ℕ) : Type 0 where
  pub slot : ℕ → ℕ
  pub at : ℕ → Edge
  pub placed : (x : ℕ) → m.edge (slot x) ≡ Some (at x)
  pub across : (x : ℕ) → to (at x) ≡ from (at (x + 1))
  pub period : (x : ℕ) → at (x + w) ≡ at x
  pub souths : (x : ℕ) → south (at x) ≡ low x
  pub norths : (x : ℕ) → north (at x) ≡ high x

-- a slot with an edge is one of the slots, of which there are some
pub record Tidy (m : Meaning) : Type 0 where
  pub some : 1 ≤ m.slots
  pub inside : (i : ℕ) (e : Edge) → m.edge i ≡ Some e → i < m.slots

low_edge : (n : ℕ) (o p : Option Edge) (e : Edge) → both_edges n o p ≡ Some e → (d : Edge) × (o ≡ Some d)
low_edge n (Some d) p e is = (d, refl)
low_edge n None p e is = absurd (cc)

stack_tidy : (l u : Meaning) → Tidy l → Tidy u → Tidy (stack l u)
stack_tidy l u lt ut = record {
  some = mul-le 1 1 l.slots u.slots lt.some ut.some;
  inside = λ i e is.
      let d = low_edge u.states (l.edge (i / u.slots)) (u.edge (i % u.slots)) e is in
      (div-lt_iff_lt-mul {k = u.slots} {x = i} {y = l.slots} ut.some).0 (lt.inside (i / u.slots) d.0 d.1);
}

pub copies_tidy : (t : Meaning) → Valid t → {k : ℕ} {m : Meaning} → Copies t k m → Tidy m
copies_tidy t v single = record { some = v.some_slot; inside = λ i e is. edge_slot v i e is }
copies_tidy t v (pair {l = l} {u = u} a b) = stack_tidy l u (copies_tidy t v a) (copies_tidy t v b)

-- a band on a band is a band of the stack
module _ (l u : Meaning) (w : ℕ) (low mid high : ℕ → ℕ) (ut : Tidy u) (a : Band l w low mid) (b : Band u w mid high) where
  abbrev slot_up : ℕ → ℕ
  slot_up x = a.slot x * u.slots + b.slot x

  abbrev edge_up : ℕ → Edge
  edge_up x = (paired u.states (from (a.at x)) (from (b.at x)), paired u.states (to (a.at x)) (to (b.at x)), south (a.at x), north (b.at x))

  placed_up : (x : ℕ) → (stack l u).edge (slot_up x) ≡ Some (edge_up x)
  placed_up x =
      let inside : b.slot x < u.slots = ut.inside (b.slot x) (b.at x) (b.placed x) in
      let meets : north (a.at x) ≡ south (b.at x) = a.norths x ∙ sym (b.souths x) in
      rw (div-mul-add (a.slot x) u.slots (b.slot x) inside, mod-mul-add (a.slot x) u.slots (b.slot x) inside, a.placed x, b.placed x, eq-eqb _ _ meets) refl

  pub band_up : Band (stack l u) w low high
  band_up = record {
    slot = slot_up;
    at = edge_up;
    placed = placed_up;
    across = λ x. ap₂ (paired u.states) (a.across x) (b.across x);
    period = λ x. ap₂ (λ (e f : Edge). (paired u.states (from e) (from f), paired u.states (to e) (to f), south e, north f)) (a.period x) (b.period x);
    souths = a.souths;
    norths = b.norths;
  }

-- a band closes after its period
module _ (m : Meaning) (w : ℕ) (low high : ℕ → ℕ) (some : 1 ≤ w) (a : Band m w low high) where
  abbrev round : List ℕ
  round = map a.slot (range_with_len 0 w)

  round_length : length round ≡ w
  round_length = length-map-range_with_len a.slot 0 w

  edge_at : (x : ℕ) → x < w → m.edge (get_or round x 0) ≡ Some (a.at x)
  edge_at x within = ap m.edge (get_or-map-range_with_len a.slot 0 w x x 0 within (omega arith)) ∙ a.placed x

  chain : Chain m round (from (a.at 0)) (from (a.at 0))
  chain = record {
    edges = λ j within. (a.at j, edge_at j (omega (arith, round_length)));
    meets = λ j within e f x y.
        let e-is = same_edge m _ e (a.at j) x (edge_at j (omega (arith, round_length))) in
        let f-is = same_edge m _ f (a.at (suc j)) y (edge_at (suc j) (omega (arith, round_length))) in
        let next : j + 1 ≡ suc j = omega arith in
        ap to e-is ∙ a.across j ∙ ap (λ n. from (a.at n)) next ∙ ap from (sym f-is);
    starts = λ e x. ap from (same_edge m _ e (a.at 0) x (edge_at 0 some));
    ends = λ n last e x.
        let e-is = same_edge m _ e (a.at n) x (edge_at n (omega (arith, round_length))) in
        let next : n + 1 ≡ 0 + w = omega (arith, round_length) in
        ap to e-is ∙ a.across n ∙ ap (λ k. from (a.at k)) next ∙ ap from (a.period 0);
  }

  pub band_ring : Ring m round
  band_ring = (from (a.at 0), walk_from_chain round (rw round_length some) chain)

-- counting round: the next remainder is one more, or 0 after the last
pub next_mod : (x w : ℕ) → 1 ≤ w → ((x % w + 1 < w) × ((x + 1) % w ≡ x % w + 1)) ⊎ ((x % w + 1 ≡ w) × ((x + 1) % w ≡ 0))
next_mod x w some =
    let whole = div-add-mod' x w in
    let below = mod_below x w some in
    elim (cases_lt (x % w + 1) w) [
      | inl lt ↦
          let sum : x + 1 ≡ x / w * w + (x % w + 1) = omega (arith, whole) in
          inl (lt, ap (λ n. n % w) sum ∙ mod-mul-add (x / w) w (x % w + 1) lt)
      | inr ge ↦
          let last : x % w + 1 ≡ w = omega arith in
          let sum : x + 1 ≡ x / w * w + w = omega (arith, whole) in
          let over : (x / w * w + w) % w ≡ 0 = add-mod_right (x / w * w) w ∙ ap (λ n. n % w) (sym (add-zero (x / w * w))) ∙ mod-mul-add (x / w) w 0 some in
          inr (last, ap (λ n. n % w) sum ∙ over)
    ]

-- the rows of a torus, without end on both sides
module _ (t : Meaning) (xs : List ℕ) (o : TorusOn t xs) where
  abbrev column : ℕ → ℕ
  column x = x % width xs

  abbrev level : ℕ → ℕ
  level y = y % rows xs

  in_columns : (x : ℕ) → column x < width xs
  in_columns x = mod_below x (width xs) o.some_column

  in_rows : (y : ℕ) → level y < rows xs
  in_rows y = mod_below y (rows xs) o.some_row

  slot_at : ℕ → ℕ → ℕ
  slot_at x y = get_or xs (2 + level y * width xs + column x) 0

  edge_of : ℕ → ℕ → Edge
  edge_of x y = (o.stacked (column x) (level y) (in_columns x) (in_rows y)).0

  placed_of : (x y : ℕ) → t.edge (slot_at x y) ≡ Some (edge_of x y)
  unfolding slot_at edge_of
  placed_of x y = (o.stacked (column x) (level y) (in_columns x) (in_rows y)).2

  -- equal slots hold equal edges
  same_at : (x y x' y' : ℕ) → slot_at x y ≡ slot_at x' y' → edge_of x y ≡ edge_of x' y'
  same_at x y x' y' same = same_edge t (slot_at x y) _ _ (placed_of x y) (ap t.edge same ∙ placed_of x' y')

  above_level : (y : ℕ) → next_row (rows xs) (level y) ≡ level (y + 1)
  above_level y =
      elim (next_mod y (rows xs) o.some_row) [
        | inl h ↦ rw (lt-ltb _ _ h.0) (sym h.1)
        | inr h ↦ rw (le-ltb (level y + 1) (rows xs) (omega (arith, h.0))) (sym h.1)
      ]

  upward : (x y : ℕ) → north (edge_of x y) ≡ south (edge_of x (y + 1))
  unfolding slot_at edge_of
  upward x y =
      let u = o.stacked (column x) (level y) (in_columns x) (in_rows y) in
      let same : 2 + next_row (rows xs) (level y) * width xs + column x ≡ 2 + level (y + 1) * width xs + column x = ap (λ n. 2 + n * width xs + column x) (above_level y) in
      u.4 ∙ ap south (same_edge t _ _ _ (ap (λ p. t.edge (get_or xs p 0)) (sym same) ∙ u.3) (placed_of x (y + 1)))

  abbrev start : ℕ → ℕ
  start y = 2 + level y * width xs

  row_inside : (y : ℕ) → start y + width xs ≤ length xs
  row_inside y = omega (arith, row_fits (width xs) (rows xs) (level y) o.some_column (in_rows y), o.cells)

  -- the cell of a row by its place in the row
  in_row : (x y j : ℕ) → j < width xs → column x ≡ j → t.edge (get_or (part (start y) (width xs) xs) j 0) ≡ Some (edge_of x y)
  unfolding slot_at
  in_row x y j within same =
      ap t.edge (part_at t xs (start y) (width xs) (row_inside y) j within)
      ∙ ap (λ k. t.edge (get_or xs (start y + k) 0)) (sym same) ∙ placed_of x y

  across_of : (x y : ℕ) → to (edge_of x y) ≡ from (edge_of (x + 1) y)
  across_of x y =
      let ring = o.closed (level y) (in_rows y) in
      let c = chain_from_walk ring.1 in
      let long = part_length t xs (start y) (width xs) (row_inside y) in
      elim (next_mod x (width xs) o.some_column) [
        | inl h ↦
            let next : column (x + 1) ≡ suc (column x) = omega (arith, h.1) in
            let more : suc (column x) < width xs = omega (arith, h.0) in
            c.meets (column x) (omega (arith, long, more)) _ _ (in_row x y (column x) (in_columns x) refl) (in_row (x + 1) y (suc (column x)) more next)
        | inr h ↦
            let last : length (part (start y) (width xs) xs) ≡ suc (column x) = omega (arith, long, h.0) in
            c.ends (column x) last _ (in_row x y (column x) (in_columns x) refl)
            ∙ sym (c.starts _ (in_row (x + 1) y 0 o.some_column h.1))
      ]

  period_of : (x y : ℕ) → edge_of (x + width xs) y ≡ edge_of x y
  unfolding slot_at
  period_of x y = same_at (x + width xs) y x y (ap (λ k. get_or xs (start y + k) 0) (add-mod_right x (width xs)))

  abbrev souths_at : ℕ → ℕ → ℕ
  souths_at y x = south (edge_of x y)

  row_band : (y : ℕ) → Band t (width xs) (souths_at y) (souths_at (y + 1))
  row_band y = record {
    slot = λ x. slot_at x y;
    at = λ x. edge_of x y;
    placed = λ x. placed_of x y;
    across = λ x. across_of x y;
    period = λ x. period_of x y;
    souths = λ x. refl;
    norths = λ x. upward x y;
  }

  -- k rows from row y on, as a band of k stacked copies
  copies_band : Valid t → {k : ℕ} {m : Meaning} → Copies t k m → (y : ℕ) → Band m (width xs) (souths_at y) (souths_at (y + k))
  copies_band v single y = row_band y
  copies_band v (pair {j} {k} {l} {u} a b) y =
      subst (λ n. Band (stack l u) (width xs) (souths_at y) (souths_at n)) (add_assoc y j k)
      (band_up l u (width xs) _ _ _ (copies_tidy t v b) (copies_band v a y) (copies_band v b (y + j)))

  -- so stacked copies of a transducer with a torus have a ring
  pub torus_ring : Valid t → {k : ℕ} {m : Meaning} → Copies t k m → (is : List ℕ) × Ring m is
  torus_ring v {k} {m} copies =
      let a = copies_band v copies 0 in
      (_, band_ring m (width xs) (souths_at 0) (souths_at (0 + k)) o.some_column a)
