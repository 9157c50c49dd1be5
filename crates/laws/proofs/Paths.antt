-- Walks of a graph: the slots and states that they go through, their parts, and a closed walk gone round. Assumes nothing.
use Rattle.std.proofs.Common.{◌≡◌, ℕ, zero, suc, ◌+◌, ◌<◌, ◌≤◌, List, ◌++◌, length, get_or, take, Some, inl, inr, arith}
use Rattle.std.proofs.ByRecursion.{All-get_or}
use Rattle.std.proofs.lemmas.List.{length-append, length-take-le}
use Rattle.std.proofs.lemmas.Bool.{cases_lt}
use Rattle.std.specs.List.{AllByRecursion}
use Rattle.transducers.specs.Meaning.{Edge, Meaning, Valid, to}
use Rattle.laws.specs.Walking.{Walk, HasStrip, Ring}
use Rattle.laws.specs.Walking.Walk.{one, more}

pub walk_some : {m : Meaning} {is : List ℕ} {p q : ℕ} → Walk m is p q → 1 ≤ length is
walk_some (one e at) = omega arith
walk_some (more e at w) = omega arith

pub walk_start : {m : Meaning} {is : List ℕ} {p q : ℕ} → Valid m → Walk m is p q → p < m.states
walk_start valid (one {i} e at) = (valid.inside i e at).from_state
walk_start valid (more {i} e at w) = (valid.inside i e at).from_state

-- a slot with an edge is one of the slots
pub edge_slot : {m : Meaning} → Valid m → (i : ℕ) (e : Edge) → m.edge i ≡ Some e → i < m.slots
edge_slot {m} valid i e at =
    elim (cases_lt i m.slots) [
      | inl lt ↦ lt
      | inr ge ↦
          let nothing = valid.beyond i ge in
          absurd (cc)
    ]

pub walk_slots : {m : Meaning} {is : List ℕ} {p q : ℕ} → Valid m → Walk m is p q → AllByRecursion (λ i. i < m.slots) is
walk_slots valid (one {i} e at) = (edge_slot valid i e at, tt)
walk_slots valid (more {i} e at w) = (edge_slot valid i e at, walk_slots valid w)

pub walk_slot : {m : Meaning} {is : List ℕ} {p q : ℕ} → Valid m → Walk m is p q → (i : ℕ) → i < length is → get_or is i 0 < m.slots
walk_slot {m} {is} valid w i within = All-get_or (λ s. s < m.slots) is i 0 within (walk_slots valid w)

pub walk_append : {m : Meaning} {is js : List ℕ} {p q r : ℕ} → Walk m is p q → Walk m js q r → Walk m (is ++ js) p r
walk_append (one e at) v = more e at v
walk_append (more e at w) v = more e at (walk_append w v)

-- the state that a walk is in after so many edges; once it has ended, the state that it ended in
unfoldable pub visit : {m : Meaning} {is : List ℕ} {p q : ℕ} → Walk m is p q → ℕ → ℕ
visit {p} w zero = p
visit (one e at) (suc n) = to e
visit (more e at w) (suc n) = visit w n

pub visit_inside : {m : Meaning} {is : List ℕ} {p q : ℕ} → Valid m → (w : Walk m is p q) (n : ℕ) → visit w n < m.states
unfolding visit
visit_inside valid w zero = walk_start valid w
visit_inside valid (one {i} e at) (suc n) = (valid.inside i e at).to_state
visit_inside valid (more e at w) (suc n) = visit_inside valid w n

-- the first edges of a walk are a walk
pub walk_take : {m : Meaning} {is : List ℕ} {p q : ℕ} (w : Walk m is p q) (n : ℕ) → 1 ≤ n → n ≤ length is → Walk m (take n is) p (visit w n)
unfolding visit
walk_take w zero some few = absurd (omega arith)
walk_take (one e at) (suc zero) some few = one e at
walk_take (one e at) (suc (suc n)) some few = absurd (omega arith)
walk_take (more e at w) (suc zero) some few = one e at
walk_take (more e at w) (suc (suc n)) some few = more e at (walk_take w (suc n) (omega arith) (omega arith))

-- a part of a walk is a walk
pub walk_part : {m : Meaning} {is : List ℕ} {p q : ℕ} (w : Walk m is p q) (a b : ℕ) → a < b → b ≤ length is → (js : List ℕ) × (length js + a ≡ b) × Walk m js (visit w a) (visit w b)
unfolding visit
walk_part {is} w zero b some few = (take b is, omega (arith, length-take-le b is few), walk_take w b some few)
walk_part w (suc a) zero some few = absurd (omega arith)
walk_part (one e at) (suc a) (suc b) some few = absurd (omega arith)
walk_part (more e at w) (suc a) (suc b) some few =
    let r = walk_part w a b (omega arith) (omega arith) in
    (r.0, omega (arith, r.1), r.2)

-- a closed walk gone round k times more
around : {m : Meaning} {is : List ℕ} {q : ℕ} → Walk m is q q → (k : ℕ) → (js : List ℕ) × (k < length js) × Walk m js q q
around {is = is} w zero = (is, walk_some w, w)
around {is = is} w (suc k) =
    let r = around w k in
    (is ++ r.0, omega (arith, walk_some w, length-append is r.0), walk_append w r.2)

pub ring_strips : {m : Meaning} {is : List ℕ} → Ring m is → (w : ℕ) → 1 ≤ w → HasStrip m w
ring_strips ring w some =
    let r = around ring.1 w in
    let few : w ≤ length r.0 = omega arith in
    (take w r.0, length-take-le w r.0 few, (ring.0, visit r.2 w, walk_take r.2 w some few))
