-- The links of a graph are the edges of the slots looked at. Assumes nothing.
use Rattle.std.proofs.Common.{◌≡◌, ℕ, zero, suc, ◌+◌, ◌<◌, ◌≤◌, List, [], ◌∷◌, ◌++◌, length, map, Some, None, Option, Vec, Global, refl, ap, ◌∙◌, subst, inl, inr, add-one, arith}
use Rattle.std.specs.List.{All}
use Rattle.std.specs.Vec.{with_items}
use Rattle.std.proofs.lemmas.Bool.{cases_eq, cases_lt}
use Rattle.std.proofs.lemmas.List.{length-map, length_push, with_items_is}
use Rattle.std.proofs.lemmas.List.Elements.{All-map, All-nil, All-push, All-weaker}
use Rattle.std.proofs.lemmas.List.Sums.{sum_by-cons, sum_by_push}
use Rattle.transducers.specs.Meaning.{Edge, Meaning, Valid, from, to}
use Rattle.trimming.specs.Linking.{LinksOf, edges, joins}
use Rattle.trimming.specs.Links.{AreEdges, joined, turned}
use Rattle.trimming.specs.Lists.{AreLinks}
use Rattle.trimming.specs.declared.link.Link.{Link}
use Rattle.trimming.proofs.Times.{both_at, both_comm, both_here, both_past, one_other, one_same}

module _ (m : Meaning) where
  edges_more : (p q n : ℕ) → edges m p q (n + 1) ≡ edges m p q n + joins p q (m.edge n)
  unfolding edges
  edges_more p q n = rw add-one refl

  pub edges_none : AreEdges m 0 []
  unfolding edges
  edges_none = record { few = omega arith; inside = All-nil _; edges = λ p q. refl }

  -- one slot more
  module _ (n : ℕ) (ls : List Link) (old : AreEdges m n ls) where
    pub edges_pass : m.edge n ≡ None → AreEdges m (n + 1) ls
    edges_pass is = record {
      few = omega (arith, old.few);
      inside = old.inside;
      edges = λ p q. omega (arith, old.edges p q, edges_more p q n, ap (joins p q) is);
    }

    pub edges_push : Valid m → (e : Edge) → m.edge n ≡ Some e → AreEdges m (n + 1) (ls ++ record { from = from e; to = to e } ∷ [])
    edges_push valid e is =
        let inside = valid.inside n e is in
        let link : Link = record { from = from e; to = to e } in
        record {
          few = omega (arith, old.few, length_push ls link);
          inside = All-push (λ (l : Link). (l.from < m.states) × (l.to < m.states)) ls link old.inside (inside.from_state, inside.to_state);
          edges = λ p q. omega (arith, sum_by_push (λ (l : Link). both_at l.from p l.to q) ls link, old.edges p q, edges_more p q n, ap (joins p q) is);
        }

  -- an edge is counted, and what is counted is an edge
  pub edge_counted : (n i : ℕ) (e : Edge) → i < n → m.edge i ≡ Some e → 1 ≤ edges m (from e) (to e) n
  unfolding edges
  edge_counted zero i e lt is = absurd (omega arith)
  edge_counted (suc n) i e lt is =
      elim (cases_lt i n) [
        | inl before ↦ omega (arith, edge_counted n i e before is)
        | inr ge ↦
            let here : i ≡ n = omega arith in
            let one : joins (from e) (to e) (m.edge n) ≡ 1 = ap (joins (from e) (to e)) (subst (λ x. m.edge x ≡ Some e) here is) ∙ both_here (from e) (from e) (to e) (to e) refl ∙ one_same (to e) (to e) refl in
            omega arith
      ]

  edge_here : (p q n : ℕ) (o : Option Edge) → m.edge n ≡ o → 1 ≤ joins p q o → (i : ℕ) × (e : Edge) × (m.edge i ≡ Some e) × (from e ≡ p) × (to e ≡ q)
  edge_here p q n None is one = absurd (omega arith)
  edge_here p q n (Some e) is one =
      elim (cases_eq (from e) p) [
        | inl here ↦ elim (cases_eq (to e) q) [
          | inl same ↦ (n, e, is, here, same)
          | inr other ↦ absurd (omega (arith, one, both_here (from e) p (to e) q here, one_other (to e) q other))
        ]
        | inr past ↦ absurd (omega (arith, one, both_past (from e) p (to e) q past))
      ]

  pub edge_found : (p q n : ℕ) → 1 ≤ edges m p q n → (i : ℕ) × (e : Edge) × (m.edge i ≡ Some e) × (from e ≡ p) × (to e ≡ q)
  unfolding edges
  edge_found p q zero some = absurd (omega arith)
  edge_found p q (suc n) some =
      elim (cases_lt 0 (joins p q (m.edge n))) [
        | inl here ↦ edge_here p q n (m.edge n) refl here
        | inr none ↦ edge_found p q n (omega arith)
      ]

-- links turned round
pub joined_turned : (ls : List Link) (p q : ℕ) → joined (map turned ls) q p ≡ joined ls p q
joined_turned [] p q = refl
joined_turned (l ∷ ls) p q =
    omega (arith, sum_by-cons (λ (k : Link). both_at k.from q k.to p) (turned l) (map turned ls), sum_by-cons (λ (k : Link). both_at k.from p k.to q) l ls, both_comm l.from p l.to q, joined_turned ls p q)

-- the links that `turn_round` leaves in a vector
pub turned_items : (links : Vec Link Global) (lent now left : List Link) → lent ≡ links.items → now ≡ map turned lent → left ≡ (with_items links now).items → left ≡ map turned links.items
turned_items links lent now left lent_is now_is left_is =
    let all : now ≡ map turned links.items = now_is ∙ ap (map turned) lent_is in
    left_is ∙ with_items_is links now (omega (arith, ap length all, length-map links.items turned, links.ok.0)) ∙ all

pub turned_inside : (n : ℕ) (ls : List Link) → All (λ l. (l.from < n) × (l.to < n)) ls → All (λ l. l.from < n) (map turned ls)
turned_inside n ls inside =
    All-map (λ (l : Link). l.from < n) turned ls (All-weaker (λ (l : Link). (l.from < n) × (l.to < n)) (λ l. l.to < n) (λ l both. both.1) ls inside)

-- the lists of the links and of the links turned round are those of a graph
pub links_sorted : (m : Meaning) (ls : List Link) (out into : List (List ℕ)) → AreEdges m m.slots ls → AreLinks m.states ls out → AreLinks m.states (map turned ls) into → LinksOf m m.slots out into
links_sorted m ls out into edges_are leave enter = record {
  out_size = leave.size;
  into_size = enter.size;
  leaving = λ p q. leave.joins p q ∙ edges_are.edges p q;
  entering = λ p q. enter.joins q p ∙ joined_turned ls p q ∙ edges_are.edges p q;
}
