-- Links between states, where each state has a list of those that its links lead to. Assumes nothing.
use Rattle.std.specs.Prelude.{◌≡◌, ℕ, zero, suc, ◌+◌, if◌then◌else◌, ◌&&◌, List, [], ◌∷◌, length, ◌==◌, count_by, Some, None, Option, slice_index_or, slice_range}
use Rattle.transducers.specs.Meaning.{Edge, Meaning, from, to}

-- the lists that stand end to end in one, each from its place to the next
abbrev pub cut : List ℕ → List ℕ → List (List ℕ)
cut [] items = []
cut (a ∷ []) items = []
cut (a ∷ b ∷ bs) items = slice_range items a b ∷ cut (b ∷ bs) items

-- the list of a state
abbrev pub at : List (List ℕ) → ℕ → List ℕ
at ls p = slice_index_or ls p []

-- how many times a list has q
abbrev pub times_in : List ℕ → ℕ → ℕ
times_in qs q = count_by (λ x. x == q) qs

-- how many links lead from p to q
abbrev pub links : List (List ℕ) → ℕ → ℕ → ℕ
links ls p q = times_in (at ls p) q

-- the links of one are those of the other, each turned round
abbrev pub IsReverse : List (List ℕ) → List (List ℕ) → Type 0
IsReverse out into = (p q : ℕ) → links out p q ≡ links into q p

-- one if an edge leads from p to q
abbrev pub joins : ℕ → ℕ → Option Edge → ℕ
joins p q None = 0
joins p q (Some e) = if (from e == p && to e == q) then 1 else 0

-- how many of the first n slots have an edge from p to q
unfoldable pub edges : Meaning → ℕ → ℕ → ℕ → ℕ
edges m p q zero = 0
edges m p q (suc n) = edges m p q n + joins p q (m.edge n)

-- each state has its lists, and the links in them are the edges of the first n slots
pub record LinksOf (m : Meaning) (n : ℕ) (out into : List (List ℕ)) : Type 0 where
  pub out_size : length out ≡ m.states
  pub into_size : length into ≡ m.states
  pub leaving : (p q : ℕ) → links out p q ≡ edges m p q n
  pub entering : (p q : ℕ) → links into q p ≡ edges m p q n
