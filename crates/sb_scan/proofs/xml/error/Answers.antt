use Rattle.std.proofs.Common.{◌++◌, ap, ◌∙◌}
use Rattle.std.specs.Prelude.{codes, flat_map}
use Rattle.std.specs.Str.{chars}
use Rattle.sb_model.specs.ErrorBody.{utf16_of, escaped_character}
use Rattle.sb_scan.proofs.Texts.{five_pieces}
use Rattle.sb_scan.proofs.xml.error.Goals as goal

pub returns : goal.returns
returns c =
    c.from_vec.ensures
    ∙ c.in_ok-push_ascii-4.ensures
    ∙ ap (λ b. b ++ flat_map utf16_of (codes "</Description></Error>")) (c.in_ok-push_text.ensures
    ∙ ap (λ b. b ++ flat_map utf16_of (flat_map escaped_character (chars c.args.text.now))) (c.in_ok-push_ascii-3.ensures
    ∙ ap (λ b. b ++ flat_map utf16_of (codes "</Code><Description>")) (c.in_ok-push_ascii-2.ensures
    ∙ ap (λ b. b ++ flat_map utf16_of c.args.code.now) (c.in_ok-push_ascii.ensures
    ∙ ap (λ b. b ++ flat_map utf16_of (codes "<Error xmlns=\"http://schemas.microsoft.com/SQL/ServiceBroker/Error\"><Code>")) c.new-body.ensures.items))))
    ∙ five_pieces (codes "<Error xmlns=\"http://schemas.microsoft.com/SQL/ServiceBroker/Error\"><Code>") c.args.code.now (codes "</Code><Description>")
    (flat_map escaped_character (chars c.args.text.now)) (codes "</Description></Error>")
