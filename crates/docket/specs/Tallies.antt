-- Tallies: for each kind of paper, and for papers that could not be read, how many were accepted and how many turned down. Assumes nothing.
use Rattle.std.specs.Prelude.{ℕ, ◌+◌, min, Bool, true, false, List, [], ◌∷◌, is_ok, Some, None, Ok, Err, Option, Result, slice_index_or, slice_set}
use Rattle.papers.specs.Paper.{Contents, contents_of}
use Rattle.papers.specs.declared.fault.PaperFault.{PaperFault}
use Rattle.papers.specs.declared.kind.Kind.{Kind}
use Rattle.papers.specs.declared.kind.Kind.TheVariants.{Strip, Ring, Ranking, Torus}
use Rattle.transducers.specs.Meaning.{Meaning}
use Rattle.rules.specs.Filing.{weighed}
use Rattle.docket.specs.declared.tally.Tally.{Tally}

-- the place of a kind's record in the table
abbrev pub kind_entry : Kind → ℕ
kind_entry Strip = 0
kind_entry Ring = 1
kind_entry Ranking = 2
kind_entry Torus = 3

-- the last record is that of none, the papers that could not be read
abbrev pub entry_of : Option Kind → ℕ
entry_of (Some k) = kind_entry k
entry_of None = 4

abbrev pub no_papers : Tally
no_papers = record { accepted = 0; refused = 0 }

abbrev pub no_tallies : List Tally
no_tallies = no_papers ∷ no_papers ∷ no_papers ∷ no_papers ∷ no_papers ∷ []

-- the record of a kind, or of none
abbrev pub tally_in : List Tally → Option Kind → Tally
tally_in ts k = slice_index_or ts (entry_of k) no_papers

-- a count goes no further than 65,535
abbrev pub one_more : ℕ → ℕ
one_more n = min (n + 1) 65535

-- one paper more in a record, accepted or turned down
abbrev pub counted : Tally → Bool → Tally
counted t true = record { accepted = one_more t.accepted; refused = t.refused }
counted t false = record { accepted = t.accepted; refused = one_more t.refused }

-- one paper more under a kind, or under none; every other record stays
abbrev pub tallied : List Tally → Option Kind → Bool → List Tally
tallied ts k b = slice_set ts (entry_of k) (counted (tally_in ts k) b)

-- a paper that cannot be read is turned down as such; another counts under its kind
abbrev pub tallied_contents : List Tally → Meaning → Result Contents PaperFault → List Tally
tallied_contents ts m (Ok c) = tallied ts (Some c.kind) (is_ok (weighed m c))
tallied_contents ts m (Err f) = tallied ts None false

-- the tallies after bytes were filed as a paper
abbrev pub tallies_after : List Tally → Meaning → List ℕ → List Tally
tallies_after ts m bs = tallied_contents ts m (contents_of bs)
