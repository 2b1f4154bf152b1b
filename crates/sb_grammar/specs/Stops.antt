-- Where every statement may end.
use Rattle.std.specs.Prelude.{◌≡◌, Option, Some, None, if◌then◌else◌}
use Rattle.sb_grammar.specs.declared.lexeme.Lexeme.{Lexeme}
use Rattle.sb_grammar.specs.declared.choice.Barred.{Barred}
use Rattle.sb_grammar.specs.declared.choice.Barred.TheVariants as barreds
use Rattle.sb_grammar.specs.declared.word.Fixed.TheVariants as fixed
use Rattle.sb_grammar.specs.Words.{is_fixed, fixed_at}
use Rattle.sb_grammar.specs.Rules.{Toks, head}
use Rattle.sb_grammar.specs.Exprs.{sign_of}

unfoldable pub into_of : Lexeme → Option Barred
into_of t = if is_fixed fixed.Into t then Some barreds.Into else None

-- TRAN, TRANSACTION or WORK
unfoldable pub work_of : Lexeme → Option (Unit {0})
work_of t = if is_fixed fixed.Tran t then Some tt else (if is_fixed fixed.Transaction t then Some tt else (if is_fixed fixed.Work t then Some tt else None))

-- the first word of a statement that isn't supported
unfoldable pub first_barred : Lexeme → Option Barred
first_barred t =
    if is_fixed fixed.Drop t then Some barreds.Drop
    else (if is_fixed fixed.While t then Some barreds.While
    else (if is_fixed fixed.Print t then Some barreds.Print
    else (if is_fixed fixed.Exec t then Some barreds.Exec
    else (if is_fixed fixed.Execute t then Some barreds.Execute
    else (if is_fixed fixed.Use t then Some barreds.Use
    else (if is_fixed fixed.Save t then Some barreds.Save else None))))))

-- no token that some statement may go on with
pub record Stops (follow : Toks) : Type 0 where
  pub sign : head sign_of follow ≡ None
  pub bracket : head (fixed_at fixed.Open) follow ≡ None
  pub message : head (fixed_at fixed.Message) follow ≡ None
  pub otherwise : head (fixed_at fixed.Else) follow ≡ None
  pub semicolon : head (fixed_at fixed.Semicolon) follow ≡ None
  pub conversation : head (fixed_at fixed.Conversation) follow ≡ None
  pub comma : head (fixed_at fixed.Comma) follow ≡ None
  pub with_part : head (fixed_at fixed.With) follow ≡ None
  pub authorization : head (fixed_at fixed.Authorization) follow ≡ None
  pub validation : head (fixed_at fixed.Validation) follow ≡ None
  pub set_part : head (fixed_at fixed.Set) follow ≡ None
  pub on_part : head (fixed_at fixed.On) follow ≡ None
  pub where_part : head (fixed_at fixed.Where) follow ≡ None
  pub equals : head (fixed_at fixed.Equals) follow ≡ None
  pub work : head work_of follow ≡ None
  pub into_part : head into_of follow ≡ None
  pub barred : head first_barred follow ≡ None
