use Rattle.std.proofs.Common.{◌≡◌, take}
use Rattle.sb_parse.specs.Lexemes.{lexemes_of}
use Rattle.sb_parse.proofs.lexemes.lexemes.Given as goal

abbrev pub invariant-tokens : goal.invariant-tokens
invariant-tokens l = l.all.items ≡ lexemes_of l.text (take l.token-index l.tokens)
