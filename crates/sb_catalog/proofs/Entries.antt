-- Definitions behind their names in a map.
use Rattle.std.proofs.Common.{◌≡◌, Bool, true, false, cond, List, [], ◌∷◌, ◌++◌, refl, ap, sym, ◌∙◌}
use Rattle.std.specs.Prelude.{Option, Some, None}
use Rattle.std.specs.Cmp.Lexicographic.{nat_list_eq_equiv}
use Rattle.std.specs.Map.{lookup, values_of, set_value}
use Rattle.std.proofs.lemmas.List.{map-append}
use Rattle.std.proofs.lemmas.Option.{none-some, same_Some}
use Rattle.sb_log.specs.declared.definitions.QueueDef.{QueueDef}
use Rattle.sb_model.specs.Sides.{Bytes, same_name}
use Rattle.sb_catalog.specs.Known.{with_on}
use Rattle.sb_catalog.specs.Tables.{found, StandByName}

module _ {K D : Type 0} (key : K → Bytes) (name : D → Bytes) where
  -- a look-up by a name's bytes finds the first definition with that name
  pub lookup_by_name : (wanted : Bytes) (es : List (K × D)) → StandByName key name es
      → lookup (λ k. same_name wanted (key k)) es ≡ found name (values_of es) wanted
  lookup_by_name wanted [] h = refl
  lookup_by_name wanted (e ∷ es) h =
      ap (λ own. cond (same_name wanted own) (Some e.1) (lookup (λ k. same_name wanted (key k)) es)) h.0
      ∙ ap (λ t. cond t (Some e.1) (lookup (λ k. same_name wanted (key k)) es)) (nat_list_eq_equiv.symm wanted (name e.1))
      ∙ ap (cond (same_name (name e.1) wanted) (Some e.1)) (lookup_by_name wanted es h.1)

  pub stand-append : (es : List (K × D)) (k : K) (d : D) → StandByName key name es → key k ≡ name d → StandByName key name (es ++ (k, d) ∷ [])
  stand-append [] k d h own = (own, tt)
  stand-append (e ∷ es) k d h own = (h.0, stand-append es k d h.1 own)

pub values-append : {K D : Type 0} (es : List (K × D)) (k : K) (d : D) → values_of (es ++ (k, d) ∷ []) ≡ values_of es ++ d ∷ []
values-append es k d = map-append (λ e. e.1) es ((k, d) ∷ [])

-- a queue that is told to be on or off stays at its place, under its name
module _ {K : Type 0} (key : K → Bytes) (q : Bytes) (on : Bool) where
  abbrev is_key : K → Bool
  is_key k = same_name q (key k)

  abbrev as_set : QueueDef → QueueDef
  as_set d = record d { on = on }

  at_name : (e : K × QueueDef) → key e.0 ≡ e.1.name → is_key e.0 ≡ same_name e.1.name q
  at_name e own = ap (same_name q) own ∙ nat_list_eq_equiv.symm q e.1.name

  abbrev at : (t : Bool) (e : K × QueueDef) → List (K × QueueDef) → Option QueueDef
  at t e es = cond t (Some e.1) (lookup is_key es)

  pub stand-set : (es : List (K × QueueDef)) (v : QueueDef) → StandByName key (λ d. d.name) es → Some v ≡ lookup is_key es → StandByName key (λ d. d.name) (set_value is_key es (as_set v))
  stand-set [] v h is = absurd (none-some v (sym is))
  stand-set (e ∷ es) v h is = by (is_key e.0) is (stand-set es v h.1)
    where
      by : (t : Bool) → Some v ≡ at t e es → (Some v ≡ lookup is_key es → StandByName key (λ d. d.name) (set_value is_key es (as_set v))) → StandByName key (λ d. d.name) (cond t ((e.0, as_set v) ∷ es) (e ∷ set_value is_key es (as_set v)))
      by true here further = (h.0 ∙ ap (λ d. d.name) (sym (same_Some v e.1 here)), h.1)
      by false there further = (h.0, further there)

  pub values-set : (es : List (K × QueueDef)) (v : QueueDef) → StandByName key (λ d. d.name) es → Some v ≡ lookup is_key es → values_of (set_value is_key es (as_set v)) ≡ with_on q on (values_of es)
  values-set [] v h is = refl
  values-set (e ∷ es) v h is =
      by (is_key e.0) is (values-set es v h.1)
      ∙ ap (λ t. cond t (as_set e.1 ∷ values_of es) (e.1 ∷ with_on q on (values_of es))) (at_name e h.0)
    where
      by : (t : Bool) → Some v ≡ at t e es → (Some v ≡ lookup is_key es → values_of (set_value is_key es (as_set v)) ≡ with_on q on (values_of es))
          → values_of (cond t ((e.0, as_set v) ∷ es) (e ∷ set_value is_key es (as_set v))) ≡ cond t (as_set e.1 ∷ values_of es) (e.1 ∷ with_on q on (values_of es))
      by true here further = ap (λ d. as_set d ∷ values_of es) (same_Some v e.1 here)
      by false there further = ap (λ ds. e.1 ∷ ds) (further there)

  pub values-unset : (es : List (K × QueueDef)) → StandByName key (λ d. d.name) es → None ≡ lookup is_key es → values_of es ≡ with_on q on (values_of es)
  values-unset [] h is = refl
  values-unset (e ∷ es) h is =
      by (is_key e.0) is (values-unset es h.1)
      ∙ ap (λ t. cond t (as_set e.1 ∷ values_of es) (e.1 ∷ with_on q on (values_of es))) (at_name e h.0)
    where
      by : (t : Bool) → None ≡ at t e es → (None ≡ lookup is_key es → values_of es ≡ with_on q on (values_of es))
          → values_of (e ∷ es) ≡ cond t (as_set e.1 ∷ values_of es) (e.1 ∷ with_on q on (values_of es))
      by true here further = absurd (none-some e.1 here)
      by false there further = ap (λ ds. e.1 ∷ ds) (further there)
