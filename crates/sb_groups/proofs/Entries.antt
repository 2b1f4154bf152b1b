-- What a map from groups to transactions holds.
use Rattle.std.proofs.Common.{◌≡◌, ℕ, Bool, true, false, cond, List, [], ◌∷◌, refl, ap, sym, ◌∙◌}
use Rattle.std.specs.Prelude.{Option, Some, ◌==◌, find, option_map}
use Rattle.std.specs.Map.{lookup}
use Rattle.sb_log.specs.declared.identifiers.Handle.{Handle}
use Rattle.sb_groups.specs.Holds.{hold_of, holder_of, holds_in, is_of, SetsHolder}

abbrev same_key : Handle → Handle → Bool
same_key a b = a.0 == b.0

pub holder_is_looked_up : (entries : List (Handle × ℕ)) (group : Handle) → holder_of (holds_in entries) group ≡ lookup (same_key group) entries
holder_is_looked_up [] group = refl
holder_is_looked_up (e ∷ es) group = by (same_key group e.0) (holder_is_looked_up es group)
  where
    by : (t : Bool) → holder_of (holds_in es) group ≡ lookup (same_key group) es
        → option_map (λ h. h.tx) (cond t (Some (hold_of e.0 e.1)) (find (is_of group) (holds_in es))) ≡ cond t (Some e.1) (lookup (same_key group) es)
    by true rest = refl
    by false rest = rest

-- an update of the map at one key sets the holder of that group
pub holder_is_set : (old new : List (Handle × ℕ)) (group : Handle) (tx : Option ℕ)
    → ((other : Handle) → lookup (same_key other) new ≡ cond (same_key group other) tx (lookup (same_key other) old))
    → SetsHolder (holds_in old) (holds_in new) group tx
holder_is_set old new group tx update other =
    holder_is_looked_up new other
    ∙ update other
    ∙ ap (cond (same_key group other) tx) (sym (holder_is_looked_up old other))
