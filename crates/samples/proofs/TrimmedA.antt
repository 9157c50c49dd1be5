-- No state of set A can go on in both directions, so trimming takes every edge. Assumes nothing.
use Rattle.std.proofs.Common.{◌≡◌, ℕ, zero, suc, ◌+◌, ◌<◌, ◌≤◌, true, Some, None, Option, refl, sym, ◌∙◌, subst, inl, inr, arith, lit<, lit≤}
use mathlib.Core.Path.{fun_ext}
use Rattle.std.proofs.lemmas.Bool.{cases_Bool, cond-false, false≢true, le-ltb}
use Rattle.std.proofs.lemmas.Option.{none-some, same_Some}
use Rattle.transducers.specs.Meaning.{Edge, from, to}
use Rattle.trimming.specs.Trimming.{Largest, States, Thriving, kept_edge}
use Rattle.samples.specs.Samples.{set_a, no_states}

-- an edge of A leads up, at most to state 2
abbrev Rises : Edge → Type 0
Rises e = (from e < to e) × (to e ≤ 2)

edge_rises : (i : ℕ) (e : Edge) → set_a.edge i ≡ Some e → Rises e
edge_rises zero e is = subst Rises (same_Some (0, 1, 0, 0) e is) (lit< tt, lit≤ tt)
edge_rises (suc zero) e is = subst Rises (same_Some (1, 2, 0, 0) e is) (lit< tt, lit≤ tt)
edge_rises (suc (suc i)) e is =
    let none : set_a.edge (suc (suc i)) ≡ None = cond-false _ _ None (le-ltb (suc (suc i)) 2 (omega arith)) in
    absurd (none-some e (sym none ∙ is))

-- a set that thrives would have a higher state for each of its states
nothing_thrives : (S : States) → Thriving set_a S → (n q : ℕ) → 3 ≤ n + q → S q ≡ true → ⊥
nothing_thrives S t zero q high has =
    let by = t.edge_out q has in
    omega (arith, edge_rises by.0 by.1 by.2, by.3)
nothing_thrives S t (suc n) q high has =
    let by = t.edge_out q has in
    nothing_thrives S t n (to by.1) (omega (arith, edge_rises by.0 by.1 by.2, by.3)) by.4

-- so the largest set is that of no states
pub none_is_largest : Largest set_a no_states
none_is_largest =
    record {
      thrives = record { edge_in = λ q has. absurd (false≢true has); edge_out = λ q has. absurd (false≢true has) };
      largest = λ S t q has. absurd (nothing_thrives S t 3 q (omega arith) has);
    }

pub largest_is_none : (K : States) → Largest set_a K → K ≡ no_states
largest_is_none K l =
    fun_ext λ q. elim (cases_Bool (K q)) [
      | inl has ↦ absurd (nothing_thrives K l.thrives 3 q (omega arith) has)
      | inr not ↦ not
    ]

pub none_kept : (o : Option Edge) → kept_edge no_states o ≡ None
none_kept None = refl
none_kept (Some e) = refl
