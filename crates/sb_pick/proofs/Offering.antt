-- The candidates that are gathered, put in order and chosen from are those of the rule.
use Rattle.std.proofs.Common.{◌≡◌, ℕ, Bool, true, false, cond, ◌&&◌, List, [], ◌∷◌, map, refl, ap, ◌∙◌}
use Rattle.std.specs.Prelude.{Option, None, Some, filter, filter_map}
use Rattle.std.specs.List.{cons_option}
use Rattle.std.proofs.lemmas.Simd.{map-map}
use Rattle.sb_log.specs.declared.entries.Op.{Op}
use Rattle.sb_log.specs.declared.identifiers.Handle.{Handle}
use Rattle.sb_log.specs.declared.requests.Filter.{Filter}
use Rattle.sb_log.specs.declared.seen.Picked.{Picked}
use Rattle.sb_model.specs.Sides.{Bytes, same_id}
use Rattle.sb_model.specs.Sorting.{in_order}
use Rattle.sb_pick.specs.Offered.{brief, chosen, is_free, is_of_group, offered, stands_before}
use Rattle.sb_pick.specs.Picked.{admits, after, before, candidates, group_after, is_free_for, is_left, moved, of_first, picked, stands_in, up_to}
use Rattle.sb_pick.specs.Waiting.{Waiting}
use Rattle.sb_pick.specs.declared.candidates.Candidate.{Candidate}
use Rattle.sb_pick.proofs.Lists.{filter-map, in_order-map, up_to-map}

keep_option : (free : Candidate → Bool) (t : Bool) (c : Candidate) (rest : List Candidate) →
    filter free (cons_option (cond t (Some c) None) rest) ≡ cond t (cond (free c) (c ∷ filter free rest) (filter free rest)) (filter free rest)
keep_option free true c rest = refl
keep_option free false c rest = refl

three_tests : (here admitted free : Bool) (w : Waiting) (cs : List Candidate) (ws : List Waiting) → cs ≡ map brief ws →
    cond (here && true && admitted) (cond free (brief w ∷ cs) cs) cs ≡ map brief (cond (here && admitted && free) (w ∷ ws) ws)
three_tests false admitted free w cs ws e = e
three_tests true false free w cs ws e = e
three_tests true true false w cs ws e = e
three_tests true true true w cs ws e = ap (λ l. brief w ∷ l) e

withdrawn : (here admitted : Bool) (cs ds : List Candidate) → cond (here && false && admitted) cs ds ≡ ds
withdrawn true admitted cs ds = refl
withdrawn false admitted cs ds = refl

module _ (q : Bytes) (filter_by : Filter) (ops : List Op) (holder : Handle → Option ℕ) (tx : ℕ) where
  abbrev free : Candidate → Bool
  free = is_free holder tx

  pub offered_are_candidates : (ws : List Waiting) → filter free (filter_map (offered q filter_by ops) ws) ≡ map brief (candidates q filter_by holder tx (after ops ws))
  offered_are_candidates [] = refl
  offered_are_candidates (w ∷ ws) = by (is_left ops w) (offered_are_candidates ws)
    where
      by : (left : Bool) → filter free (filter_map (offered q filter_by ops) ws) ≡ map brief (candidates q filter_by holder tx (after ops ws)) →
          filter free (cons_option (cond (stands_in q w && left && admits filter_by w.handle (group_after ops w)) (Some (brief (moved ops w))) None) (filter_map (offered q filter_by ops) ws))
          ≡ map brief (candidates q filter_by holder tx (map (moved ops) (cond left (w ∷ filter (is_left ops) ws) (filter (is_left ops) ws))))
      by true rest =
          keep_option free (stands_in q w && true && admits filter_by w.handle (group_after ops w)) (brief (moved ops w)) (filter_map (offered q filter_by ops) ws)
          ∙ three_tests (stands_in q w) (admits filter_by w.handle (group_after ops w)) (is_free_for tx (holder (group_after ops w))) (moved ops w)
          (filter free (filter_map (offered q filter_by ops) ws)) (candidates q filter_by holder tx (after ops ws)) rest
      by false rest =
          keep_option free (stands_in q w && false && admits filter_by w.handle (group_after ops w)) (brief (moved ops w)) (filter_map (offered q filter_by ops) ws)
          ∙ withdrawn (stands_in q w) (admits filter_by w.handle (group_after ops w)) _ (filter free (filter_map (offered q filter_by ops) ws))
          ∙ rest

numbers_of : (top : Option ℕ) (g : Handle) (ws : List Waiting) →
    map (λ c. c.number) (up_to top (filter (is_of_group g) (map brief ws))) ≡ map (λ w. w.item.number) (up_to top (filter (λ w. same_id w.group g) ws))
numbers_of top g ws =
    ap (λ (cs : List Candidate). map (λ c. c.number) (up_to top cs)) (filter-map brief (is_of_group g) ws)
    ∙ ap (map (λ c. c.number)) (up_to-map brief top (filter (λ w. same_id w.group g) ws))
    ∙ map-map (λ c. c.number) brief (up_to top (filter (λ w. same_id w.group g) ws))

abbrev of_group : Handle → List ℕ → Picked
of_group g numbers = record { group = Some g; items = numbers }

chosen_first : (top : Option ℕ) (ws : List Waiting) → chosen top (map brief ws) ≡ of_first top ws
chosen_first top [] = refl
chosen_first top (w ∷ ws) = ap (of_group w.group) (numbers_of top w.group (w ∷ ws))

-- what is chosen of the candidates in order
pub picks : (q : Bytes) (top : Option ℕ) (filter_by : Filter) (ops : List Op) (holder : Handle → Option ℕ) (tx : ℕ) (ws lent : List Waiting) (found kept sorted seen : List Candidate) →
    lent ≡ ws → found ≡ filter_map (offered q filter_by ops) lent → kept ≡ filter (is_free holder tx) found → sorted ≡ in_order stands_before kept → seen ≡ sorted →
    chosen top seen ≡ picked q top filter_by ops holder tx ws
picks q top filter_by ops holder tx ws lent found kept sorted seen are_lent are_found are_kept are_sorted are_seen =
    let cs : List Waiting = candidates q filter_by holder tx (after ops ws) in
    ap (chosen top) (are_seen ∙ are_sorted
    ∙ ap (in_order stands_before) (are_kept ∙ ap (filter (is_free holder tx)) (are_found ∙ ap (filter_map (offered q filter_by ops)) are_lent) ∙ offered_are_candidates q filter_by ops holder tx ws)
    ∙ in_order-map brief stands_before cs)
    ∙ chosen_first top (in_order before cs)
