-- A turned transducer keeps the limits. Assumes nothing.
use Rattle.std.specs.Prelude.{◌≡◌, ℕ, Some, None, Option, refl}
use Rattle.std.proofs.Common.{ap, subst}
use Rattle.std.proofs.lemmas.Option.{none-some, same_Some}
use Rattle.std.specs.Option.{option_map}
use Rattle.transducers.specs.Meaning.{Edge, Meaning, Inside, Valid}
use Rattle.transducers.specs.Turning.{turn, turned_edge}

module _ (m : Meaning) (v : Valid m) where
  turned_inside : (e : Edge) → Inside m.states m.letters e → Inside m.letters m.states (turned_edge e)
  turned_inside e h = record {
    from_state = h.south_letter;
    to_state = h.north_letter;
    south_letter = h.from_state;
    north_letter = h.to_state;
  }

  found :
      (i : ℕ) (o : Option Edge) → m.edge i ≡ o → (e : Edge) → option_map turned_edge o ≡ Some e →
      Inside m.letters m.states e
  found i None is e at = absurd (none-some e at)
  found i (Some d) is e at =
      subst (Inside m.letters m.states) (same_Some _ e at) (turned_inside d (v.inside i d is))

  pub turn_valid : Valid (turn m)
  turn_valid = record {
    some_state = v.some_letter;
    few_states = v.few_letters;
    some_letter = v.some_state;
    few_letters = v.few_states;
    some_slot = v.some_slot;
    few_slots = v.few_slots;
    inside = λ i e at. found i (m.edge i) refl e at;
    beyond = λ i past. ap (option_map turned_edge) (v.beyond i past);
  }
