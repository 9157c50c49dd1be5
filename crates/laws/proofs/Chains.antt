-- A walk by its places: an edge in each slot, and each meets the next. Assumes nothing.
use Rattle.std.proofs.Common.{◌≡◌, ℕ, zero, suc, ◌<◌, ◌≤◌, List, [], ◌∷◌, length, get_or, Some, sym, refl, ap, ◌∙◌, subst, subst₂, arith}
use Rattle.transducers.specs.Meaning.{Edge, Meaning, from, to}
use Rattle.laws.proofs.Paths.{walk_some}
use Rattle.laws.specs.Walking.{Walk}
use Rattle.laws.specs.Walking.Walk.{one, more}

pub record Chain (m : Meaning) (is : List ℕ) (p q : ℕ) : Type 0 where
  pub edges : (j : ℕ) → j < length is → (e : Edge) × (m.edge (get_or is j 0) ≡ Some e)
  pub meets : (j : ℕ) → suc j < length is → (e f : Edge) → m.edge (get_or is j 0) ≡ Some e → m.edge (get_or is (suc j) 0) ≡ Some f → to e ≡ from f
  pub starts : (e : Edge) → m.edge (get_or is 0 0) ≡ Some e → from e ≡ p
  pub ends : (n : ℕ) → length is ≡ suc n → (e : Edge) → m.edge (get_or is n 0) ≡ Some e → to e ≡ q

-- one slot holds one edge
pub same_edge : (m : Meaning) (i : ℕ) (e f : Edge) → m.edge i ≡ Some e → m.edge i ≡ Some f → e ≡ f
same_edge m i e f a b = cc

pub walk_from_chain : {m : Meaning} (is : List ℕ) {p q : ℕ} → 1 ≤ length is → Chain m is p q → Walk m is p q
walk_from_chain [] some c = absurd (omega arith)
walk_from_chain {m} (i ∷ []) {p} {q} some c =
    let e = c.edges 0 (omega arith) in
    subst₂ (λ a b. Walk m (i ∷ []) a b) (c.starts e.0 e.1) (c.ends 0 refl e.0 e.1) (one e.0 e.1)
walk_from_chain {m} (i ∷ k ∷ is) {p} {q} some c =
    let e = c.edges 0 (omega arith) in
    subst (λ a. Walk m (i ∷ k ∷ is) a q) (c.starts e.0 e.1)
    (more e.0 e.1 (walk_from_chain (k ∷ is) (omega arith) (record {
      edges = λ j within. c.edges (suc j) (omega arith);
      meets = λ j within d f a b. c.meets (suc j) (omega arith) d f a b;
      starts = λ f at. sym (c.meets 0 (omega arith) e.0 f e.1 at);
      ends = λ n last f at. c.ends (suc n) (omega arith) f at;
    })))

module _ (m : Meaning) (i : ℕ) (e : Edge) (at : m.edge i ≡ Some e) where
  edges_one : (j : ℕ) → j < 1 → (d : Edge) × (m.edge (get_or (i ∷ []) j 0) ≡ Some d)
  edges_one zero within = (e, at)
  edges_one (suc j) within = absurd (omega arith)

  ends_one : (n : ℕ) → 1 ≡ suc n → (d : Edge) → m.edge (get_or (i ∷ []) n 0) ≡ Some d → to d ≡ to e
  ends_one zero last d here = ap to (same_edge m i d e here at)
  ends_one (suc n) last d here = absurd (omega arith)

  chain_one : Chain m (i ∷ []) (from e) (to e)
  chain_one = record {
    edges = edges_one;
    meets = λ j within d f a b. absurd (omega arith);
    starts = λ d here. ap from (same_edge m i d e here at);
    ends = ends_one;
  }

  module _ (is : List ℕ) (q : ℕ) (some : 1 ≤ length is) (c : Chain m is (to e) q) where
    edges_more : (j : ℕ) → j < length (i ∷ is) → (d : Edge) × (m.edge (get_or (i ∷ is) j 0) ≡ Some d)
    edges_more zero within = (e, at)
    edges_more (suc j) within = c.edges j (omega arith)

    meets_more : (j : ℕ) → suc j < length (i ∷ is) → (d f : Edge) → m.edge (get_or (i ∷ is) j 0) ≡ Some d → m.edge (get_or (i ∷ is) (suc j) 0) ≡ Some f → to d ≡ from f
    meets_more zero within d f a b = ap to (same_edge m i d e a at) ∙ sym (c.starts f b)
    meets_more (suc j) within d f a b = c.meets j (omega arith) d f a b

    ends_more : (n : ℕ) → length (i ∷ is) ≡ suc n → (d : Edge) → m.edge (get_or (i ∷ is) n 0) ≡ Some d → to d ≡ q
    ends_more zero last d here = absurd (omega arith)
    ends_more (suc n) last d here = c.ends n (omega arith) d here

    chain_more : Chain m (i ∷ is) (from e) q
    chain_more = record {
      edges = edges_more;
      meets = meets_more;
      starts = λ d here. ap from (same_edge m i d e here at);
      ends = ends_more;
    }

pub chain_from_walk : {m : Meaning} {is : List ℕ} {p q : ℕ} → Walk m is p q → Chain m is p q
chain_from_walk {m} (one {i} e at) = chain_one m i e at
chain_from_walk {m} (more {i} {is} {q} e at w) = chain_more m i e at is q (walk_some w) (chain_from_walk w)
