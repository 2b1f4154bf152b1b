-- The header of a side, by the log and as makings come.
use Rattle.std.proofs.Common.{◌≡◌, ℕ, Bool, true, false, refl, sym, ap, ◌∙◌, List, [], ◌∷◌, ◌++◌, map, cond, drop}
use Rattle.std.specs.Prelude.{if◌then◌else◌, ◌||◌, flat_map, is_some, Option, Some, None, find, option_map}
use Rattle.std.specs.List.{list_any}
use Rattle.std.specs.Map.{lookup}
use Rattle.std.specs.Option.{option_or}
use Rattle.sb_log.specs.declared.identifiers.SideId.{SideId}
use Rattle.sb_log.specs.declared.entries.Entry.{Entry}
use Rattle.sb_log.specs.declared.entries.Op.{Op}
use Rattle.sb_log.specs.declared.messages.Header.{Header}
use Rattle.sb_model.specs.Sides.{Making, has_side, is_of, made, made_by, made_by_op, makings, same_side}
use Rattle.sb_endpoint.specs.Headers.{header_after, header_at, header_of, headed_of}
use Rattle.sb_endpoint.specs.Seen.{IsReady, Keeps, Readies, SidesAndHandles, header_in, is_made_in}
use Rattle.sb_endpoint.proofs.Alike.{sides_same}
use Rattle.sb_endpoint.proofs.Growth.{made-append, option_or-none}
use Rattle.sb_endpoint.proofs.Judged.{any_found, made_found}

pub header-more : (log : List Entry) (e : Entry) (s : SideId) → header_of (log ++ e ∷ []) s ≡ header_after (has_side log s) (made_by e) s (header_of log s)
header-more log e s =
    ap (option_map (λ m. m.header)) (made-append log (e ∷ []) s ∙ ap (option_or (made log s)) (option_or-none (find (is_of s) (made_by e))))
    ∙ by (made log s)
    ∙ ap (λ b. header_after b (made_by e) s (header_of log s)) (ap is_some (made_found log s) ∙ sym (any_found (is_of s) (makings log)))
  where
    by : (o : Option Making) → option_map (λ m. m.header) (option_or o (find (is_of s) (made_by e))) ≡ header_after (is_some o) (made_by e) s (option_map (λ m. m.header) o)
    by None = refl
    by (Some m) = refl

-- the header of an entry's making, where it makes the side first
pub header_taken : (old new : SidesAndHandles) (e : Entry) → IsReady old e → new.headers ≡ old.headers
    → ((s : SideId) → is_made_in new.endpoints s ≡ (list_any (is_of s) (made_by e) || is_made_in old.endpoints s))
    → (s : SideId) → header_in new s ≡ header_after (is_made_in old.endpoints s) (made_by e) s (header_in old s)
header_taken old new e ready same grown s =
    ap (λ headers. if is_made_in new.endpoints s then header_at headers s else None) same
    ∙ ap (λ b. if b then header_at old.headers s else None) (grown s ∙ ap (λ b. b || is_made_in old.endpoints s) (any_found (is_of s) (made_by e)))
    ∙ by (is_made_in old.endpoints s) refl (find (is_of s) (made_by e)) refl
  where
    by : (b : Bool) → is_made_in old.endpoints s ≡ b → (o : Option Making) → find (is_of s) (made_by e) ≡ o
        → (if is_some o || b then header_at old.headers s else None) ≡ (if b then (if b then header_at old.headers s else None) else option_map (λ m. m.header) o)
    by true made None found = refl
    by true made (Some m) found = refl
    by false made None found = refl
    by false made (Some m) found = ready.headers s m made found

pub header_at-map : (es : List (SideId × Header)) (s : SideId) → header_at (map headed_of es) s ≡ lookup (same_side s) es
header_at-map [] s = refl
header_at-map (e ∷ es) s = by (same_side s e.0) (header_at-map es s)
  where
    by : (b : Bool) → header_at (map headed_of es) s ≡ lookup (same_side s) es
        → option_map (λ k. k.header) (cond b (Some (headed_of e)) (find (λ k. same_side s k.side) (map headed_of es))) ≡ cond b (Some e.1) (lookup (same_side s) es)
    by true rest = refl
    by false rest = rest

not_both : true ≡ false → ⊥
not_both e = cc

-- a header that is put for a side that wasn't made leaves those of the sides that were
pub put_keeps : (was_made : SideId → Bool) (side : SideId) (header : Option Header) (old : SideId → Option Header) → was_made side ≡ false
    → (s : SideId) → was_made s ≡ true → (if same_side side s then header else old s) ≡ old s
put_keeps was_made side header old unmade s made = by (same_side side s) refl
  where
    by : (b : Bool) → same_side side s ≡ b → (if b then header else old s) ≡ old s
    by true e = absurd (not_both (sym made ∙ ap was_made (sym (sides_same side s e)) ∙ unmade))
    by false e = refl

-- nothing is put for a side that was made
pub put_nothing : (was_made : SideId → Bool) (side : SideId) (header : Option Header) (old : SideId → Option Header) → was_made side ≡ true
    → (s : SideId) → was_made s ≡ false → old s ≡ (if same_side side s then header else old s)
put_nothing was_made side header old made s unmade = by (same_side side s) refl
  where
    by : (b : Bool) → same_side side s ≡ b → old s ≡ (if b then header else old s)
    by true e = absurd (not_both (sym made ∙ ap was_made (sides_same side s e) ∙ unmade))
    by false e = refl

-- the headers of the operations from this place on are kept
pub record Prepared (old now : SidesAndHandles) (ops : List Op) (place : ℕ) : Type 0 where
  pub kept : Keeps old now
  pub ready : Readies old (flat_map made_by_op (drop place ops)) now
