-- The states from which links can be followed for ever both ways are the largest set that thrives. Assumes nothing.
use Rattle.std.proofs.Common.{◌≡◌, ℕ, ◌+◌, ◌<◌, ◌≤◌, Bool, true, false, ◌&&◌, ◌||◌, eqb, List, length, set, Some, below_more, refl, sym, ap, ◌∙◌, subst, inl, inr, arith}
use mathlib.Core.Path.{fun_ext}
use Rattle.std.proofs.lemmas.Bool.{and_from, and_parts, cases_lt, eq-eqb, eqb-true, or_cases, or_left, or_right}
use Rattle.std.proofs.lemmas.Option.{none-some}
use Rattle.std.proofs.lemmas.List.{get_or_past, get_or-set_same, get_or-set_other}
use Rattle.transducers.specs.Meaning.{Edge, Meaning, Valid, from, to}
use Rattle.trimming.specs.Draining.{Lasting, Left, LinkTo}
use Rattle.trimming.specs.Linking.{IsReverse, LinksOf, links}
use Rattle.trimming.specs.Trimming.{EdgeIn, EdgeOut, Largest, States, listed}
use Rattle.trimming.proofs.Linking.{edge_counted, edge_found}
use Rattle.trimming.proofs.Times.{not_past}

-- a link out of a state of both sets that leads into A leads into B: B lasts with one state more
module _ (ls other : List (List ℕ)) (turned : IsReverse ls other) (A B : States) (one : Left ls A) (back : Left other B) where
  more_lasts : (p q : ℕ) → 1 ≤ links other p q → B q ≡ true → Lasting other (λ x. B x || eqb x p)
  more_lasts p q link in-B x is =
      elim (or_cases (B x) (eqb x p) is) [
        | inl in-set ↦ let by = back.lasts x in-set in (by.0, by.1, or_left (B by.0) _ by.2)
        | inr same ↦ (q, subst (λ y. 1 ≤ links other y q) (sym (eqb-true x p same)) link, or_left (B q) _ in-B)
      ]

  pub into_both : (q : ℕ) → A q ≡ true → B q ≡ true → LinkTo ls (λ x. A x && B x) q
  into_both q in-A in-B =
      let by = one.lasts q in-A in
      let p = by.0 in
      let wider = more_lasts p q (omega (arith, by.1, turned q p)) in-B in
      (p, by.1, and_from (A p) (B p) by.2 (back.largest (λ x. B x || eqb x p) wider p (or_right (B p) _ (eq-eqb p p refl))))

module _ (m : Meaning) (valid : Valid m) (out into : List (List ℕ)) (graph : LinksOf m m.slots out into) where
  within_slots : (i : ℕ) (e : Edge) → m.edge i ≡ Some e → i < m.slots
  within_slots i e is = not_past i m.slots (λ past. none-some e (sym (valid.beyond i past) ∙ is))

  counted : (i : ℕ) (e : Edge) → m.edge i ≡ Some e → (1 ≤ links out (from e) (to e)) × (1 ≤ links into (to e) (from e))
  counted i e is =
      let some = edge_counted m m.slots i e (within_slots i e is) is in
      (omega (arith, graph.leaving (from e) (to e)), omega (arith, graph.entering (from e) (to e)))

  edge_out : (S : States) (q : ℕ) → LinkTo out S q → EdgeOut m S q
  edge_out S q by =
      let f = edge_found m q by.0 m.slots (omega (arith, by.1, graph.leaving q by.0)) in
      (f.0, f.1, f.2, f.3, ap S f.4 ∙ by.2)

  edge_in : (S : States) (q : ℕ) → LinkTo into S q → EdgeIn m S q
  edge_in S q by =
      let f = edge_found m by.0 q m.slots (omega (arith, by.1, graph.entering by.0 q)) in
      (f.0, f.1, f.2, f.4, ap S f.3 ∙ by.2)

  link_out : (S : States) (q : ℕ) → EdgeOut m S q → LinkTo out S q
  link_out S q by = (to by.1, subst (λ x. 1 ≤ links out x (to by.1)) by.3 (counted by.0 by.1 by.2).0, by.4)

  link_in : (S : States) (q : ℕ) → EdgeIn m S q → LinkTo into S q
  link_in S q by = (from by.1, subst (λ x. 1 ≤ links into x (from by.1)) by.3 (counted by.0 by.1 by.2).1, by.4)

  pub turned : IsReverse out into
  turned p q = graph.leaving p q ∙ sym (graph.entering p q)

  module _ (A B : States) (ahead : Left out A) (back : Left into B) where
    both_largest : Largest m (λ q. A q && B q)
    both_largest = record {
      thrives = record {
        edge_in = λ q is.
            let parts = and_parts (A q) (B q) is in
            let by = into_both into out (λ p q. sym (turned q p)) B A back ahead q parts.1 parts.0 in
            edge_in (λ x. A x && B x) q (by.0, by.1, (let both = and_parts (B by.0) (A by.0) by.2 in and_from (A by.0) (B by.0) both.1 both.0));
        edge_out = λ q is.
            let parts = and_parts (A q) (B q) is in
            edge_out (λ x. A x && B x) q (into_both out into turned A B ahead back q parts.0 parts.1);
      };
      largest = λ S thrives q is.
          and_from (A q) (B q)
          (ahead.largest S (λ x in-S. link_out S x (thrives.edge_out x in-S)) q is)
          (back.largest S (λ x in-S. link_in S x (thrives.edge_in x in-S)) q is);
    }

    pub common_largest : (K : States) → ((q : ℕ) → K q ≡ (A q && B q)) → Largest m K
    common_largest K common = subst (Largest m) (sym (fun_ext common)) both_largest

-- the first i states of a list are common with another, and the others are as they were
pub record CommonTo (old other : List Bool) (i : ℕ) (now : List Bool) : Type 0 where
  pub common : (q : ℕ) → q < i → listed now q ≡ (listed old q && listed other q)
  pub rest : (q : ℕ) → i ≤ q → listed now q ≡ listed old q

module _ (old other : List Bool) where
  pub common_none : CommonTo old other 0 old
  common_none = record { common = λ q lt. absurd (omega arith); rest = λ q le. refl }

  pub common_more : (i : ℕ) (now : List Bool) → i < length now → CommonTo old other i now → CommonTo old other (i + 1) (set now i (listed now i && listed other i))
  common_more i now inside done = record {
    common = below_more _ _
        (λ q lt. get_or-set_other now i q _ false (λ same. omega arith) ∙ done.common q lt)
        (get_or-set_same now i _ false inside ∙ ap (λ a. a && listed other i) (done.rest i (omega arith)));
    rest = λ q le. get_or-set_other now i q _ false (λ same. omega arith) ∙ done.rest q (omega arith);
  }

  pub common_all : (i : ℕ) (now : List Bool) → length old ≤ i → CommonTo old other i now → (q : ℕ) → listed now q ≡ (listed old q && listed other q)
  common_all i now all end q =
      elim (cases_lt q i) [
        | inl lt ↦ end.common q lt
        | inr ge ↦
            let past : listed old q ≡ false = get_or_past old q false (omega arith) in
            end.rest q ge ∙ past ∙ sym (ap (λ x. x && listed other q) past)
      ]
