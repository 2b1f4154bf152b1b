use Rattle.std.proofs.Common.{◌≡◌, List, ◌++◌, Option, Some, None, sym, ap, ◌∙◌}
use Rattle.std.specs.Option.{option_copied, option_or}
use Rattle.std.proofs.lemmas.List.Folds.{find-append}
use Rattle.sb_proc.specs.declared.variables.Variable.{Variable}
use Rattle.sb_proc.specs.Scopes.{find_variable, is_named}
use Rattle.sb_model.specs.Sides.{Bytes}
use Rattle.sb_proc.proofs.seen.Seen.find.Goals as goal

-- a variable declared in the same statement hides one of its name
added_first : (name text : Bytes) (added known : List Variable) (x : Variable) → text ≡ name → Some x ≡ find_variable text added →
    Some x ≡ find_variable name (added ++ known)
added_first name text added known x same found =
    ap (λ o. option_or o (find_variable name known)) (found ∙ ap (λ n. find_variable n added) same) ∙ sym (find-append (is_named name) added known)

known_next : (name text again : Bytes) (added known : List Variable) (found : Option Variable) → text ≡ name → again ≡ name →
    None ≡ find_variable text added → found ≡ find_variable again known → found ≡ find_variable name (added ++ known)
known_next name text again added known found same same_again none is =
    is ∙ ap (λ n. find_variable n known) same_again
    ∙ ap (λ o. option_or o (find_variable name known)) (none ∙ ap (λ n. find_variable n added) same) ∙ sym (find-append (is_named name) added known)

pub returns-in-Some : goal.returns-in-Some
returns-in-Some c = added_first c.args.name.now c.as_str.result.now c.args.self.now.added.now c.args.self.now.known.now c.in-Some.variable.now c.as_str.ensures (c.in-Some.ensures)

pub returns-in-None : goal.returns-in-None
returns-in-None c =
    known_next c.args.name.now c.as_str.result.now c.as_str-in-None.result.now c.args.self.now.added.now c.args.self.now.known.now
    (option_copied c.find-in-None.result) c.as_str.ensures c.as_str-in-None.ensures (c.in-None.ensures) c.find-in-None.ensures
