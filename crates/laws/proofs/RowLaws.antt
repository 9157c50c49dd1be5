-- A row that passes is a walk, and one that closes is a closed walk. Assumes nothing.
use Rattle.std.proofs.Common.{◌≡◌, ℕ, zero, suc, ◌+◌, ◌-◌, ◌<◌, ◌≤◌, Bool, true, false, eqb, ◌↔◌, List, length, get_or, take, drop, Some, None, Ok, Option, sym, refl, ap, ◌∙◌, subst, add-zero, arith}
use Rattle.std.proofs.lemmas.List.{get_or-drop, get_or-take, length-drop, length-take}
use Rattle.std.proofs.lemmas.Bool.{eqb-true, eq-eqb, ne_eqb}
use Rattle.std.specs.Option.{option_map}
use Rattle.papers.specs.First.{must}
use Rattle.papers.proofs.FirstLaws.{first_passes, both_pass, pass_both}
use Rattle.transducers.specs.Meaning.{Edge, Meaning, from, to}
use Rattle.rules.specs.Rows.{arrival, cell, cell_meets, closed_row, column, leaves, origin, row, same_state}
use Rattle.laws.specs.Walking.{Walk, Strip, Ring}
use Rattle.laws.proofs.Chains.{Chain, chain_from_walk, same_edge, walk_from_chain}

-- the cells of a row
abbrev pub part : ℕ → ℕ → List ℕ → List ℕ
part b w xs = take w (drop b xs)

pub must_true : {F : Type 0} (b : Bool) (f : F) → must b f ≡ Ok tt → b ≡ true
must_true true f e = refl
must_true false f e = absurd (cc)

pub true_must : {F : Type 0} (b : Bool) (f : F) → b ≡ true → must b f ≡ Ok tt
true_must b f e = rw e refl

-- a cell passes where it names an edge that meets
cell_passes : (o : Option Edge) (s : Option ℕ) (p : ℕ) → cell_meets o s p ≡ Ok tt → (e : Edge) × (o ≡ Some e) × (leaves s e ≡ true)
cell_passes None s p pass = absurd (cc)
cell_passes (Some e) s p pass = (e, refl, must_true (leaves s e) _ pass)

passes_cell : (o : Option Edge) (s : Option ℕ) (p : ℕ) (e : Edge) → o ≡ Some e → leaves s e ≡ true → cell_meets o s p ≡ Ok tt
passes_cell o s p e is meets = rw is (true_must (leaves s e) _ meets)

module _ (m : Meaning) (xs : List ℕ) (b w : ℕ) (fits : b + w ≤ length xs) where
  pub part_length : length (part b w xs) ≡ w
  part_length = simp (length-take, length-drop) (omega arith)

  pub part_at : (j : ℕ) → j < w → get_or (part b w xs) j 0 ≡ get_or xs (b + j) 0
  part_at j within = get_or-take w (drop b xs) j 0 within ∙ get_or-drop b xs j 0

  cell_at : (j : ℕ) → j < w → m.edge (get_or (part b w xs) j 0) ≡ cell m xs (b + j)
  cell_at j within = ap m.edge (part_at j within)

  cell_start : 1 ≤ w → m.edge (get_or (part b w xs) 0 0) ≡ cell m xs b
  cell_start some = cell_at 0 some ∙ ap (cell m xs) (add-zero b)

  -- the state after j + 1 cells
  arrival_next : (j : ℕ) → arrival m xs b (suc j) ≡ option_map to (cell m xs (b + j))
  arrival_next j =
      let back : b + suc j - 1 ≡ b + j = omega arith in
      rw (ne_eqb (suc j) 0 (omega arith), back) refl

  -- what the tests of a row say of its places
  module _ (pass : row m xs b w ≡ Ok tt) where
    at : (j : ℕ) → j < w → (e : Edge) × (cell m xs (b + j) ≡ Some e) × (leaves (arrival m xs b j) e ≡ true)
    at j within = cell_passes _ _ _ ((first_passes (column m xs b) w).0 pass j within)

    meet : (j : ℕ) → suc j < w → (e f : Edge) → cell m xs (b + j) ≡ Some e → cell m xs (b + suc j) ≡ Some f → to e ≡ from f
    meet j within e f low high =
        let here = at (suc j) within in
        let same : here.0 ≡ f = same_edge m _ _ _ here.1 high in
        let state : arrival m xs b (suc j) ≡ Some (to e) = arrival_next j ∙ ap (option_map to) low in
        let test : leaves (Some (to e)) f ≡ true = subst (λ s. leaves s f ≡ true) state (subst (λ g. leaves (arrival m xs b (suc j)) g ≡ true) same here.2) in
        eqb-true (to e) (from f) test

    chain_of : (p q : ℕ) → ((e : Edge) → cell m xs b ≡ Some e → from e ≡ p) → ((n : ℕ) → w ≡ suc n → (e : Edge) → cell m xs (b + n) ≡ Some e → to e ≡ q) → 1 ≤ w → Chain m (part b w xs) p q
    chain_of p q starts ends some = record {
      edges = λ j within. let h : j < w = rw part_length at within in ((at j h).0, cell_at j h ∙ (at j h).1);
      meets = λ j within e f low high.
          let h : suc j < w = rw part_length at within in
          meet j h e f (sym (cell_at j (omega arith)) ∙ low) (sym (cell_at (suc j) h) ∙ high);
      starts = λ e here. starts e (sym (cell_start some) ∙ here);
      ends = λ n last e here.
          let long : w ≡ suc n = sym part_length ∙ last in
          ends n long e (sym (cell_at n (omega arith)) ∙ here);
    }

    -- the first edge leaves p and the last enters q
    walk_of_row : 1 ≤ w → (p : ℕ) × (q : ℕ) × Walk m (part b w xs) p q × ((e : Edge) → cell m xs b ≡ Some e → from e ≡ p) × ((n : ℕ) → w ≡ suc n → (e : Edge) → cell m xs (b + n) ≡ Some e → to e ≡ q)
    walk_of_row some =
        let low = at 0 some in
        let high = at (w - 1) (omega arith) in
        let starts : (e : Edge) → cell m xs b ≡ Some e → from e ≡ from low.0 = λ e here. ap from (same_edge m _ e low.0 here (ap (cell m xs) (sym (add-zero b)) ∙ low.1)) in
        let ends : (n : ℕ) → w ≡ suc n → (e : Edge) → cell m xs (b + n) ≡ Some e → to e ≡ to high.0 =
        λ n long e here.
        let same : b + (w - 1) ≡ b + n = omega arith in
        ap to (same_edge m _ e high.0 here (ap (cell m xs) (sym same) ∙ high.1)) in
        (from low.0, to high.0, walk_from_chain (part b w xs) (rw part_length some) (chain_of _ _ starts ends some), starts, ends)

  -- what a walk says of the tests
  module _ {p q : ℕ} (c : Chain m (part b w xs) p q) where
    edge_in : (j : ℕ) → j < w → (e : Edge) × (cell m xs (b + j) ≡ Some e)
    edge_in j within =
        let e = c.edges j (rw part_length within) in
        (e.0, sym (cell_at j within) ∙ e.1)

    column_passes : (j : ℕ) → j < w → column m xs b j ≡ Ok tt
    column_passes zero within = let e = edge_in zero within in passes_cell _ _ _ e.0 e.1 refl
    column_passes (suc j) within =
        let e = edge_in j (omega arith) in
        let f = edge_in (suc j) within in
        let meets = c.meets j (rw part_length within) e.0 f.0 (cell_at j (omega arith) ∙ e.1) (cell_at (suc j) within ∙ f.1) in
        let state : arrival m xs b (suc j) ≡ Some (to e.0) = arrival_next j ∙ ap (option_map to) e.1 in
        passes_cell _ _ _ f.0 f.1 (rw state (eq-eqb _ _ meets))

    row_of_walk : row m xs b w ≡ Ok tt
    row_of_walk = (first_passes (column m xs b) w).1 column_passes

  pub row_law : 1 ≤ w → (row m xs b w ≡ Ok tt) ↔ Strip m (part b w xs)
  row_law some =
      (λ pass. let h = walk_of_row pass some in (h.0, h.1, h.2), λ strip. row_of_walk (chain_from_walk strip.2))

  -- the states at the two ends of a row of n + 1 cells
  ends_meet : (n : ℕ) → w ≡ suc n → (e f : Edge) → cell m xs b ≡ Some e → cell m xs (b + n) ≡ Some f → same_state (origin m xs b w) (arrival m xs b w) ≡ eqb (from e) (to f)
  ends_meet n long e f low high =
      let left : origin m xs b w ≡ Some (from e) = rw (long, ne_eqb (suc n) 0 (omega arith), low) refl in
      let right : arrival m xs b w ≡ Some (to f) = ap (arrival m xs b) long ∙ arrival_next n ∙ ap (option_map to) high in
      rw (left, right) refl

  ring_of_row : 1 ≤ w → closed_row m xs b w ≡ Ok tt → Ring m (part b w xs)
  ring_of_row some pass =
      let both = both_pass (row m xs b w) _ pass in
      let n : ℕ = w - 1 in
      let long : w ≡ suc n = omega arith in
      let e = at both.0 0 some in
      let f = at both.0 n (omega arith) in
      let h = walk_of_row both.0 some in
      let low : cell m xs b ≡ Some e.0 = ap (cell m xs) (sym (add-zero b)) ∙ e.1 in
      let closes : from e.0 ≡ to f.0 = eqb-true _ _ (sym (ends_meet n long e.0 f.0 low f.1) ∙ must_true _ _ both.1) in
      let same : h.0 ≡ h.1 = sym (h.3 e.0 low) ∙ closes ∙ h.4 n long f.0 f.1 in
      (h.1, subst (λ p. Walk m (part b w xs) p h.1) same h.2)

  row_of_ring : 1 ≤ w → Ring m (part b w xs) → closed_row m xs b w ≡ Ok tt
  row_of_ring some ring =
      let c = chain_from_walk ring.1 in
      let n : ℕ = w - 1 in
      let long : w ≡ suc n = omega arith in
      let e = edge_in c 0 some in
      let f = edge_in c n (omega arith) in
      let low : cell m xs b ≡ Some e.0 = ap (cell m xs) (sym (add-zero b)) ∙ e.1 in
      let left : from e.0 ≡ ring.0 = c.starts e.0 (cell_at 0 some ∙ e.1) in
      let right : to f.0 ≡ ring.0 = c.ends n (part_length ∙ long) f.0 (cell_at n (omega arith) ∙ f.1) in
      pass_both (row m xs b w) _ (row_of_walk c)
      (true_must _ _ (ends_meet n long e.0 f.0 low f.1 ∙ eq-eqb _ _ (left ∙ sym right)))

  pub closed_law : 1 ≤ w → (closed_row m xs b w ≡ Ok tt) ↔ Ring m (part b w xs)
  closed_law some = (ring_of_row some, row_of_ring some)
