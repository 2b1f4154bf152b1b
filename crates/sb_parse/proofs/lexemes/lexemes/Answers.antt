use Rattle.std.proofs.Common.{arith, length}
use Rattle.sb_lex.specs.declared.token.TokenKind.TheVariants as tokens
use Rattle.sb_parse.proofs.LexemeLaws.{in_order_at}
use Rattle.sb_parse.proofs.lexemes.lexemes.Goals as goal

pub lexeme-requires-clause-ordered : goal.lexeme-requires-clause-ordered
lexeme-requires-clause-ordered c = (in_order_at 0 (length c.args.text.now) c.args.tokens.now c.requires c.tokens.token-index (record { kind = tokens.Word; start = 0; end = 0 }) (omega arith)).0

pub lexeme-requires-clause-within : goal.lexeme-requires-clause-within
lexeme-requires-clause-within c = rw c.as_bytes.ensures.value ((in_order_at 0 (length c.args.text.now) c.args.tokens.now c.requires c.tokens.token-index (record { kind = tokens.Word; start = 0; end = 0 }) (omega arith)).1)
