use Rattle.std.proofs.Common.{position, map, sym, ap, ◌∙◌}
use Rattle.std.specs.Prelude.{string_bytes}
use Rattle.sb_model.specs.Sides.{same_name}
use Rattle.sb_rows.proofs.Places.{position-map}
use Rattle.sb_rows.proofs.numbers.TableNumbers.number.Goals as goal

pub returns : goal.returns
returns c =
    c.get_index_of.ensures.index
    ∙ sym (position-map (same_name c.as_str.result.now) string_bytes c.self.inside.names.keys)
    ∙ ap (λ own. position (same_name own) (map string_bytes c.self.inside.names.keys)) c.as_str.ensures
    ∙ ap (λ t. position (same_name c.args.table.now) t.names) c.self.view_is
