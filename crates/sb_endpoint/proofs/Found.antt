-- Sides and handles as contracts see them, and as they are kept.
use Rattle.std.proofs.Common.{◌≡◌, ℕ, ◌+◌, Bool, true, false, cond, List, [], ◌∷◌, map, refl, ap, sym, subst, ◌∙◌, arith}
use Rattle.std.specs.Prelude.{if◌then◌else◌, Some, find, option_map, unwrap_or}
use Rattle.std.specs.Map.{lookup}
use Rattle.sb_log.specs.declared.identifiers.Handle.{Handle}
use Rattle.sb_log.specs.declared.identifiers.SideId.{SideId}
use Rattle.sb_model.specs.Sides.{same_id, same_side}
use Rattle.sb_endpoint.specs.declared.change.Change.{Change}
use Rattle.sb_endpoint.specs.declared.change.Change.TheVariants as change
use Rattle.sb_endpoint.specs.declared.endpoint.Endpoint.{Endpoint}
use Rattle.sb_endpoint.specs.Changes.{changed, endpoint_told, told}
use Rattle.sb_endpoint.specs.Endpoints.{unknown}
use Rattle.sb_endpoint.specs.Inside.{IsCounted}
use Rattle.sb_endpoint.specs.Seen.{endpoint_in, known_of, named_of, side_in}
use Rattle.sb_endpoint.proofs.Alike.{sides_same}

pub endpoint_in-map : (es : List (SideId × Endpoint)) (s : SideId) → endpoint_in (map known_of es) s ≡ unwrap_or (lookup (same_side s) es) unknown
endpoint_in-map [] s = refl
endpoint_in-map (e ∷ es) s = by (same_side s e.0) (endpoint_in-map es s)
  where
    by : (b : Bool) → endpoint_in (map known_of es) s ≡ unwrap_or (lookup (same_side s) es) unknown
        → unwrap_or (option_map (λ k. k.endpoint) (cond b (Some (known_of e)) (find (λ k. same_side s k.side) (map known_of es)))) unknown ≡ unwrap_or (cond b (Some e.1) (lookup (same_side s) es)) unknown
    by true rest = refl
    by false rest = rest

pub side_in-map : (es : List (Handle × SideId)) (h : Handle) → side_in (map named_of es) h ≡ lookup (same_id h) es
side_in-map [] h = refl
side_in-map (e ∷ es) h = by (same_id h e.0) (side_in-map es h)
  where
    by : (b : Bool) → side_in (map named_of es) h ≡ lookup (same_id h) es
        → option_map (λ n. n.side) (cond b (Some (named_of e)) (find (λ n. same_id h n.handle) (map named_of es))) ≡ cond b (Some e.1) (lookup (same_id h) es)
    by true rest = refl
    by false rest = rest

module _ (old new : List (SideId × Endpoint)) (side : SideId) (c : Change) where
  -- the changed facts are put at the side
  abbrev pub PutsChanged : Type 0
  PutsChanged = (s : SideId) → lookup (same_side s) new ≡ cond (same_side side s) (Some (changed c (endpoint_in (map known_of old) side))) (lookup (same_side s) old)

  pub endpoint_changed : PutsChanged → (s : SideId) → endpoint_in (map known_of new) s ≡ endpoint_told s (endpoint_in (map known_of old) s) (told side c)
  endpoint_changed puts s =
      endpoint_in-map new s
      ∙ ap (λ o. unwrap_or o unknown) (puts s)
      ∙ by (same_side side s) refl
    where
      by : (b : Bool) → same_side side s ≡ b
          → unwrap_or (cond b (Some (changed c (endpoint_in (map known_of old) side))) (lookup (same_side s) old)) unknown ≡ (if b then changed c (endpoint_in (map known_of old) s) else endpoint_in (map known_of old) s)
      by true e = ap (λ x. changed c (endpoint_in (map known_of old) x)) (sides_same side s e)
      by false e = sym (endpoint_in-map old s)

  counted_changed : (n : ℕ) (c : Change) (e : Endpoint) → IsCounted n e → IsCounted (n + 1) (changed c e)
  counted_changed n (change.Made made) e h = record { sends = omega (arith, h.sends); accepted = omega (arith, h.accepted) }
  counted_changed n (change.Moved group) e h = record { sends = omega (arith, h.sends); accepted = omega (arith, h.accepted) }
  counted_changed n change.Sent e h = record { sends = omega (arith, h.sends); accepted = omega (arith, h.accepted) }
  counted_changed n (change.Ended has_final) e h = record { sends = omega (arith, h.sends); accepted = omega (arith, h.accepted) }
  counted_changed n change.Cleaned e h = record { sends = omega (arith, h.sends); accepted = omega (arith, h.accepted) }
  counted_changed n change.Expired e h = record { sends = omega (arith, h.sends); accepted = omega (arith, h.accepted) }
  counted_changed n (change.Accepted is_end is_error) e h = record { sends = omega (arith, h.sends); accepted = omega (arith, h.accepted) }
  counted_changed n (change.Acked upto closed) e h = record { sends = omega (arith, h.sends); accepted = omega (arith, h.accepted) }

  pub counts_changed : (n : ℕ) → PutsChanged → ((s : SideId) → IsCounted n (endpoint_in (map known_of old) s)) → (s : SideId) → IsCounted (n + 1) (endpoint_in (map known_of new) s)
  counts_changed n puts counts s = subst (IsCounted (n + 1)) (sym (endpoint_changed puts s)) (by (same_side side s))
    where
      by : (b : Bool) → IsCounted (n + 1) (if b then changed c (endpoint_in (map known_of old) s) else endpoint_in (map known_of old) s)
      by true = counted_changed n c (endpoint_in (map known_of old) s) (counts s)
      by false = record { sends = omega (arith, (counts s).sends); accepted = omega (arith, (counts s).accepted) }

-- no side is counted without changes
pub none_counted : (s : SideId) → IsCounted 0 (endpoint_in [] s)
none_counted s = record { sends = omega arith; accepted = omega arith }
