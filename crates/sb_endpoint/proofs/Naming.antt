-- Which side a handle names, by the log and as makings come.
use Rattle.std.proofs.Common.{◌≡◌, Bool, true, false, refl, sym, ap, ◌∙◌, List, [], ◌∷◌, ◌++◌}
use Rattle.std.specs.Prelude.{◌||◌, if◌then◌else◌, Option, Some, None, find, option_map}
use Rattle.std.specs.List.{list_any}
use Rattle.std.specs.Option.{option_or}
use Rattle.std.proofs.Math.Bool.{or-false}
use Rattle.std.proofs.lemmas.Grind.{flat_map-append}
use Rattle.sb_log.specs.declared.identifiers.Handle.{Handle}
use Rattle.sb_log.specs.declared.identifiers.SideId.{SideId}
use Rattle.sb_log.specs.declared.entries.Entry.{Entry}
use Rattle.sb_model.specs.Sides.{Making, firsts_after, has_side, is_of, made_by, makings, same_id, same_side, side_of}
use Rattle.sb_endpoint.specs.Handles.{side_after, side_with}
use Rattle.sb_endpoint.proofs.Alike.{side_symm, sides_same}
use Rattle.sb_endpoint.proofs.Growth.{append_nil, option_or-none}

-- the side of the first of these makings that has the handle
abbrev pub side_among : Handle → List Making → Option SideId
side_among h ms = option_map (λ m. m.side) (find (λ m. same_id m.handle h) ms)

-- the sides that were seen are those that were made
abbrev SameMade : List SideId → (SideId → Bool) → Type 0
SameMade seen was_made = (s : SideId) → list_any (same_side s) seen ≡ was_made s

same_made_again : (seen : List SideId) (was_made : SideId → Bool) (x : SideId) → was_made x ≡ true → SameMade seen was_made → SameMade seen (λ s. same_side x s || was_made s)
same_made_again seen was_made x made h = λ s. by s (same_side x s) refl
  where
    by : (s : SideId) (b : Bool) → same_side x s ≡ b → list_any (same_side s) seen ≡ (b || was_made s)
    by s true e = h s ∙ ap was_made (sym (sides_same x s e)) ∙ made
    by s false e = h s

same_made_more : (seen : List SideId) (was_made : SideId → Bool) (x : SideId) → SameMade seen was_made → SameMade (x ∷ seen) (λ s. same_side x s || was_made s)
same_made_more seen was_made x h = λ s. ap (λ b. b || list_any (same_side s) seen) (side_symm s x) ∙ ap (λ b. same_side x s || b) (h s)

-- a first making that is new comes behind what was found
found_more : (b : Bool) (found : Option SideId) (m : Making) (o : Option Making)
    → option_or found (option_map (λ m. m.side) (if b then Some m else o)) ≡ option_or (option_or found (if b then Some m.side else None)) (option_map (λ m. m.side) o)
found_more true None m o = refl
found_more true (Some s) m o = refl
found_more false None m o = refl
found_more false (Some s) m o = refl

firsts_named : (h : Handle) (ms : List Making) (seen : List SideId) (was_made : SideId → Bool) (found : Option SideId) → SameMade seen was_made
    → option_or found (side_among h (firsts_after seen ms)) ≡ side_after was_made ms h found
firsts_named h [] seen was_made found same = option_or-none found
firsts_named h (m ∷ ms) seen was_made found same = by (list_any (same_side m.side) seen) refl
    (λ made. firsts_named h ms seen (λ s. same_side m.side s || was_made s) found (same_made_again seen was_made m.side made same))
    (firsts_named h ms (m.side ∷ seen) (λ s. same_side m.side s || was_made s) (option_or found (if same_id m.handle h then Some m.side else None)) (same_made_more seen was_made m.side same))
  where
    by : (b : Bool) → list_any (same_side m.side) seen ≡ b
        → (was_made m.side ≡ true → option_or found (side_among h (firsts_after seen ms)) ≡ side_after (λ s. same_side m.side s || was_made s) ms h found)
        → option_or (option_or found (if same_id m.handle h then Some m.side else None)) (side_among h (firsts_after (m.side ∷ seen) ms))
        ≡ side_after (λ s. same_side m.side s || was_made s) ms h (option_or found (if same_id m.handle h then Some m.side else None))
        → option_or found (side_among h (if b then firsts_after seen ms else m ∷ firsts_after (m.side ∷ seen) ms))
        ≡ side_after (λ s. same_side m.side s || was_made s) ms h (side_with (was_made m.side) m.side m.handle h found)
    by true e old new =
        let made : was_made m.side ≡ true = sym (same m.side) ∙ e in
        old made ∙ ap (λ b. side_after (λ s. same_side m.side s || was_made s) ms h (side_with b m.side m.handle h found)) (sym made)
    by false e old new =
        let made : was_made m.side ≡ false = sym (same m.side) ∙ e in
        found_more (same_id m.handle h) found m (find (λ m. same_id m.handle h) (firsts_after (m.side ∷ seen) ms))
        ∙ new
        ∙ ap (λ b. side_after (λ s. same_side m.side s || was_made s) ms h (side_with b m.side m.handle h found)) (sym made)

pub or_turned : (a b c : Bool) → (b || (a || c)) ≡ ((a || b) || c)
or_turned true true c = refl
or_turned true false c = refl
or_turned false b c = refl

-- makings behind others come to the sides that these made
pub side_after-append : (ms ns : List Making) (was_made : SideId → Bool) (h : Handle) (found : Option SideId)
    → side_after was_made (ms ++ ns) h found ≡ side_after (λ s. list_any (is_of s) ms || was_made s) ns h (side_after was_made ms h found)
side_after-append [] ns was_made h found = refl
side_after-append (m ∷ ms) ns was_made h found =
    side_after-append ms ns (λ s. same_side m.side s || was_made s) h (side_with (was_made m.side) m.side m.handle h found)
    ∙ (λ i. side_after (λ s. or_turned (same_side m.side s) (list_any (is_of s) ms) (was_made s) i) ns h
    (side_after (λ s. same_side m.side s || was_made s) ms h (side_with (was_made m.side) m.side m.handle h found)))

-- two ways to know which sides were made
pub side_after-same : (was now : SideId → Bool) → ((s : SideId) → was s ≡ now s) → (ms : List Making) (h : Handle) (found : Option SideId) → side_after was ms h found ≡ side_after now ms h found
side_after-same was now same ms h found = λ i. side_after (λ s. same s i) ms h found

named_by : (log : List Entry) (h : Handle) → side_of log h ≡ side_after (λ s. false) (makings log) h None
named_by log h = firsts_named h (makings log) [] (λ s. false) None (λ s. refl)

pub side-more : (log : List Entry) (e : Entry) (h : Handle) → side_of (log ++ e ∷ []) h ≡ side_after (has_side log) (made_by e) h (side_of log h)
side-more log e h =
    named_by (log ++ e ∷ []) h
    ∙ ap (λ ms. side_after (λ s. false) ms h None) (flat_map-append made_by log (e ∷ []) ∙ ap (λ ms. makings log ++ ms) (append_nil (made_by e)))
    ∙ side_after-append (makings log) (made_by e) (λ s. false) h None
    ∙ side_after-same (λ s. list_any (is_of s) (makings log) || false) (has_side log) (λ s. or-false (has_side log s)) (made_by e) h (side_after (λ s. false) (makings log) h None)
    ∙ ap (side_after (has_side log) (made_by e) h) (sym (named_by log h))
