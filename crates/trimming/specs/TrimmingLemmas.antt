-- A trimmed transducer is one, and how it reads its list. Assumes nothing.
use Rattle.std.specs.Prelude.{◌≡◌, ℕ, ◌&&◌, List, Some, None, Option, slice_index_or}
use Rattle.std.specs.Borrow.{Bor}
use Rattle.std.proofs.Common.{sym, ap}
use Rattle.std.proofs.lemmas.List.{get_or_past, get_or_read}
use Rattle.std.proofs.lemmas.Option.{cond_some}
use Rattle.std.specs.Option.{option_map, unwrap_or}
use Rattle.std.specs.Slice.{IsGetResult}
use Rattle.transducers.specs.Meaning.{Edge, Meaning, Valid, from, to}
use Rattle.trimming.specs.Trimming.{States, kept_edge, trim}

-- an edge that stays was there
stayed : (K : States) (o : Option Edge) (e : Edge) → kept_edge K o ≡ Some e → o ≡ Some e
stayed K None e is = is
stayed K (Some f) e is = ap Some (cond_some (K (from f) && K (to f)) f e is).1

pub trim_valid : (m : Meaning) (K : States) → Valid m → Valid (trim m K)
trim_valid m K valid = record {
  some_state = valid.some_state;
  few_states = valid.few_states;
  some_letter = valid.some_letter;
  few_letters = valid.few_letters;
  some_slot = valid.some_slot;
  few_slots = valid.few_slots;
  inside = λ i e is. valid.inside i e (stayed K (m.edge i) e is);
  beyond = λ i past. ap (kept_edge K) (valid.beyond i past);
}

-- what `get` finds, or a default
pub item_or : {X : Type 0} (xs : List X) (i : ℕ) (r : Option (Bor X)) (d : X) → IsGetResult xs i i r → unwrap_or (option_map (λ x. x.now) r) d ≡ slice_index_or xs i d
item_or xs i None d item = sym (get_or_past xs i d item.3)
item_or xs i (Some x) d item = get_or_read xs i x.now item.3.0 item.1 d
