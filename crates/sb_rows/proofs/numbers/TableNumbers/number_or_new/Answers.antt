use Rattle.std.proofs.Common.{◌≡◌, ◌<◌, length, map, sym, ap, subst, ◌∙◌, position}
use Rattle.std.proofs.lemmas.List.{length-map}
use Rattle.std.specs.Prelude.{string_bytes}
use Rattle.std.specs.List.{position_or_len}
use Rattle.sb_model.specs.Sides.{same_name}
use Rattle.sb_rows.specs.Numbers.{with_name}
use Rattle.sb_rows.proofs.Places.{names-insert, placed, position_or_len-map}
use Rattle.sb_rows.proofs.numbers.TableNumbers.number_or_new.Goals as goal

pub returns-clause-names : goal.returns-clause-names
returns-clause-names c =
    ap (map string_bytes) c.in-Ok.ensures.keys
    ∙ names-insert string_bytes c.self.inside.names.keys c.into_string.result
    ∙ ap (with_name (map string_bytes c.self.inside.names.keys)) c.into_string.ensures
    ∙ ap (λ t. with_name t.names c.args.table) c.self.view_is

pub returns-clause-number : goal.returns-clause-number
returns-clause-number c =
    let names = map string_bytes c.self.inside.names.keys in
    let now = ap (map string_bytes) c.in-Ok.ensures.keys ∙ names-insert string_bytes c.self.inside.names.keys c.into_string.result in
    let within = subst (λ n. c.in-Ok.number < n) (sym (length-map c.insert_full.new.self.keys string_bytes) ∙ ap length now) c.in-Ok.ensures.within in
    let place : c.in-Ok.number ≡ position_or_len (same_name (string_bytes c.into_string.result)) names = c.in-Ok.ensures.index ∙ sym (position_or_len-map (same_name (string_bytes c.into_string.result)) string_bytes c.self.inside.names.keys) in
    ap (λ own. position (same_name own) (map string_bytes c.insert_full.new.self.keys)) (sym c.into_string.ensures)
    ∙ ap (position (same_name (string_bytes c.into_string.result))) now
    ∙ placed names (string_bytes c.into_string.result) c.in-Ok.number place within
