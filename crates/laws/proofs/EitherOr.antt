-- A finite graph has a closed walk no longer than its states are many, or a rank that falls along every edge. Assumes nothing.
use Rattle.std.proofs.Common.{◌≡◌, ℕ, zero, suc, ◌<◌, ◌≤◌, ◌⊎◌, List, [], ◌∷◌, length, Some, None, Option, sym, refl, ap, subst, inl, inr, arith}
use Rattle.std.proofs.lemmas.Bool.{cases_eq, cases_lt}
use Rattle.transducers.specs.Meaning.{Edge, Meaning, Valid, from, to}
use Rattle.laws.specs.Walking.{Walk, HasStrip, Falls, Ring}
use Rattle.laws.specs.Walking.Walk.{one, more}
use Rattle.laws.proofs.Paths.{edge_slot, visit, visit_inside, walk_part}
use Rattle.laws.proofs.Ranked.{Ranked}
use Rattle.laws.proofs.Searching.{Known, Missing, Greatest, find, greatest, peak, pigeonhole}

-- slot i has an edge that leaves p, and P holds of the state that it enters
abbrev Through : Meaning → (ℕ → Type 0) → ℕ → ℕ → Type 0
Through m P p i = (e : Edge) × (m.edge i ≡ Some e) × (from e ≡ p) × P (to e)

-- k edges can be walked from p
Leaves : Meaning → ℕ → ℕ → Type 0
Leaves m zero p = Unit {0}
Leaves m (suc k) p = (i : ℕ) × Through m (Leaves m k) p i

module _ (m : Meaning) (P : ℕ → Type 0) (known : (q : ℕ) → Known (P q)) (p i : ℕ) where
  known_edge : (e : Edge) → m.edge i ≡ Some e → Known (from e ≡ p) → Known (P (to e)) → Known (Through m P p i)
  known_edge e at (inl leaves) (inl holds) = inl (e, at, leaves, holds)
  known_edge e at (inl leaves) (inr not) = inr (λ t. let same : t.0 ≡ e = cc in not (rw (← same) t.3))
  known_edge e at (inr not) holds = inr (λ t. let same : t.0 ≡ e = cc in not (rw (← same) t.2))

  known_slot : (o : Option Edge) → m.edge i ≡ o → Known (Through m P p i)
  known_slot None nothing = inr (λ t. cc)
  known_slot (Some e) at = known_edge e at (cases_eq (from e) p) (known (to e))

known_leaves : (m : Meaning) → Valid m → (k p : ℕ) → Known (Leaves m k p)
unfolding Leaves
known_leaves m valid zero p = inl tt
known_leaves m valid (suc k) p =
    elim (find (Through m (Leaves m k) p) (λ i. known_slot m (Leaves m k) (known_leaves m valid k) p i (m.edge i) refl) m.slots) [
      | inl r ↦ inl (r.0, r.2)
      | inr none ↦ inr (λ t. none t.0 (edge_slot valid t.0 t.1.0 t.1.1) t.1)
    ]

leaves_state : (m : Meaning) → Valid m → (k p : ℕ) → 1 ≤ k → Leaves m k p → p < m.states
unfolding Leaves
leaves_state m valid zero p some l = absurd (omega arith)
leaves_state m valid (suc k) p some l = omega (arith, l.1.2, (valid.inside l.0 l.1.0 l.1.1).from_state)

leaves_more : (m : Meaning) (k i : ℕ) (e : Edge) → m.edge i ≡ Some e → Leaves m k (to e) → Leaves m (suc k) (from e)
unfolding Leaves
leaves_more m k i e at l = (i, (e, at, refl, l))

-- a walk of k edges from p
abbrev WalkOf : Meaning → ℕ → ℕ → Type 0
WalkOf m k p = (is : List ℕ) × (q : ℕ) × (length is ≡ k) × Walk m is p q

leaves_walk : (m : Meaning) (k p : ℕ) → 1 ≤ k → Leaves m k p → WalkOf m k p
unfolding Leaves
leaves_walk m zero p some l = absurd (omega arith)
leaves_walk m (suc zero) p some l =
    let t = l.1 in
    (l.0 ∷ [], to t.0, refl, rw (← t.2) (one t.0 t.1))
leaves_walk m (suc (suc k)) p some l =
    let t = l.1 in
    let r = leaves_walk m (suc k) (to t.0) (omega arith) t.3 in
    (l.0 ∷ r.0, r.1, ap suc r.2, rw (← t.2) (more t.0 t.1 r.3))

-- a walk of as many edges as there are states is in one state twice
pub walk_ring : {m : Meaning} {is : List ℕ} {p q : ℕ} → Valid m → Walk m is p q → m.states ≤ length is → (js : List ℕ) × (1 ≤ length js) × (length js ≤ m.states) × Ring m js
walk_ring {m} valid w long =
    let r = pigeonhole m.states (visit w) (λ k few. visit_inside valid w k) in
    let part = walk_part w r.0 r.1 r.2 (omega arith) in
    (part.0, omega arith, omega arith, (visit w r.0, subst (λ s. Walk m part.0 (visit w r.0) s) (sym r.4) part.2))

module _ (m : Meaning) (valid : Valid m) where
  longest_from : (p : ℕ) → Greatest (λ k. Leaves m k p) (suc m.states)
  unfolding Leaves
  longest_from p = greatest (λ k. Leaves m k p) (λ k. known_leaves m valid k p) tt m.states

  -- the length of the longest walk from a state, cut off at the number of states
  longest : ℕ → ℕ
  longest p = (longest_from p).0

  longest_leaves : (p : ℕ) → Leaves m (longest p) p
  unfolding longest
  longest_leaves p = (longest_from p).2

  longest_few : (p : ℕ) → longest p ≤ m.states
  unfolding longest
  longest_few p = omega (arith, (longest_from p).1)

  longest_most : (p k : ℕ) → k ≤ m.states → Leaves m k p → k ≤ longest p
  unfolding longest
  longest_most p k few l = (longest_from p).3 k (omega arith) l

  longest_strip : (p : ℕ) → 1 ≤ longest p → HasStrip m (longest p)
  longest_strip p some =
      let w = leaves_walk m (longest p) p some (longest_leaves p) in
      (w.0, w.2, (p, w.1, w.3))

module _ (m : Meaning) (valid : Valid m) (none : Missing (Leaves m m.states) m.states) where
  longest_short : (p : ℕ) → longest m valid p < m.states
  longest_short p =
      elim (cases_lt (longest m valid p) m.states) [
        | inl lt ↦ lt
        | inr ge ↦
            let same : longest m valid p ≡ m.states = omega (arith, longest_few m valid p) in
            let l : Leaves m m.states p = rw same at (longest_leaves m valid p) in
            absurd (none p (leaves_state m valid m.states p valid.some_state l) l)
      ]

  longest_falls : Falls m (longest m valid)
  longest_falls = record {
    falls = λ i e at.
        longest_most m valid (from e) (suc (longest m valid (to e))) (longest_short (to e)) (leaves_more m (longest m valid (to e)) i e at (longest_leaves m valid (to e)));
  }

  ranked : Ranked m
  ranked =
      let top = peak (longest m valid) m.states valid.some_state in
      record {
        rank = longest m valid;
        top = longest m valid top.0;
        falls = longest_falls;
        below = top.2;
        least = longest_short top.0;
        attained = (top.0, top.1, refl);
        reach = longest_strip m valid top.0;
      }

pub either_or : (m : Meaning) → Valid m → ((is : List ℕ) × (1 ≤ length is) × (length is ≤ m.states) × Ring m is) ⊎ Ranked m
either_or m valid =
    elim (find (Leaves m m.states) (known_leaves m valid m.states) m.states) [
      | inl r ↦
          let w = leaves_walk m m.states r.0 valid.some_state r.2 in
          inl (walk_ring valid w.3 (omega arith))
      | inr none ↦ inr (ranked m valid none)
    ]
