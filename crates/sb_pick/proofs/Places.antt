-- The names of known queues: a name stays at its place, and a known queue stays known.
use Rattle.std.proofs.Common.{◌≡◌, ◌<◌, Bool, true, false, cond, ◌||◌, List, [], ◌∷◌, ◌++◌, length, refl, ap, sym, subst, ◌∙◌, arith, length-append}
use Rattle.std.specs.Prelude.{Option, None, Some, IsTrue}
use Rattle.std.specs.Cmp.Lexicographic.{nat_list_eq_equiv}
use Rattle.std.proofs.Math.ListN.{get_or-append}
use Rattle.std.proofs.lemmas.List.Folds.{list_any-append}
use Rattle.sb_log.specs.declared.entries.Entry.{Entry}
use Rattle.sb_model.specs.Sides.{Bytes, same_name}
use Rattle.sb_pick.specs.Inside.{KeepsPlaces}
use Rattle.sb_pick.specs.Waiting.{is_known, known_after, queue_defined, with_defined, with_queue}

pub keeps_same : (old new : List Bytes) → new ≡ old → KeepsPlaces old new
keeps_same old new e = subst (KeepsPlaces old) (sym e) (λ place h. (h, refl))

pub keeps_pushed : (old new : List Bytes) (q : Bytes) → new ≡ old ++ q ∷ [] → KeepsPlaces old new
keeps_pushed old new q e = subst (KeepsPlaces old) (sym e)
    (λ place h. let within : place < length (old ++ q ∷ []) = omega (arith, length-append old (q ∷ [])) in (within, get_or-append old (q ∷ []) [] place h))

pub learned : (old new : List Bytes) (q : Bytes) → is_known old q ≡ false → new ≡ old ++ q ∷ [] → new ≡ with_queue old q
learned old new q unknown e = e ∙ ap (λ t. cond t old (old ++ q ∷ [])) (sym unknown)

pub known_before : (old new : List Bytes) (q : Bytes) → is_known old q ≡ true → new ≡ old → new ≡ with_queue old q
known_before old new q known e = e ∙ ap (λ t. cond t old (old ++ q ∷ [])) (sym known)

either : (a b : Bool) → IsTrue a → IsTrue (a || b)
either true b h = h
either false b h = cc

or_true : (a : Bool) → (a || true) ≡ true
or_true true = refl
or_true false = refl

with_queue_stays : (queues : List Bytes) (d q : Bytes) → IsTrue (is_known queues q) → IsTrue (is_known (with_queue queues d) q)
with_queue_stays queues d q h = by (is_known queues d)
  where
    by : (t : Bool) → IsTrue (is_known (cond t queues (queues ++ d ∷ [])) q)
    by true = h
    by false = subst IsTrue (sym (list_any-append (same_name q) queues (d ∷ []))) (either (is_known queues q) (is_known (d ∷ []) q) h)

with_queue_has : (queues : List Bytes) (q : Bytes) → is_known (with_queue queues q) q ≡ true
with_queue_has queues q = by (is_known queues q) refl
  where
    by : (t : Bool) → is_known queues q ≡ t → is_known (cond t queues (queues ++ q ∷ [])) q ≡ true
    by true e = e
    by false e =
        list_any-append (same_name q) queues (q ∷ [])
        ∙ ap (λ t. is_known queues q || (t || false)) (nat_list_eq_equiv.refl q)
        ∙ or_true (is_known queues q)

pub stays : (queues : List Bytes) (o : Option Bytes) (q : Bytes) → IsTrue (is_known queues q) → IsTrue (is_known (with_defined queues o) q)
stays queues None q h = h
stays queues (Some d) q h = with_queue_stays queues d q h

pub known_stays : (queues : List Bytes) (entry : Entry) (q : Bytes) → IsTrue (is_known queues q) → IsTrue (is_known (known_after queues entry) q)
known_stays queues entry q h = stays queues (queue_defined entry) q h

pub defined_is_known : (queues : List Bytes) (entry : Entry) (q : Bytes) → queue_defined entry ≡ Some q → IsTrue (is_known (known_after queues entry) q)
defined_is_known queues entry q e =
    subst (λ (o : Option Bytes). IsTrue (is_known (with_defined queues o) q)) (sym e) (with_queue_has queues q)
