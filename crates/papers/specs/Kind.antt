-- The number that stands for each kind. Assumes nothing.
use Rattle.std.specs.Prelude.{◌≡◌, ℕ, ◌<◌, ◌⊎◌, Result, MatchResult}
use Rattle.papers.specs.declared.kind.Kind.{Kind}
use Rattle.papers.specs.declared.kind.Kind.TheVariants.{Strip, Ring, Ranking, Torus}
use Rattle.papers.specs.declared.kind.UnknownKind.{UnknownKind}

abbrev pub kind_number : Kind → ℕ
kind_number Strip = 1
kind_number Ring = 2
kind_number Ranking = 3
kind_number Torus = 4

-- the result is the kind with this number, or an error with a number that no kind has
abbrev pub DecodesKind : ℕ → Result Kind UnknownKind → Type 0
DecodesKind n r = MatchResult r (λ kind. kind_number kind ≡ n) (λ e. (e.0 ≡ n) × ((n ≡ 0) ⊎ (4 < n)))
