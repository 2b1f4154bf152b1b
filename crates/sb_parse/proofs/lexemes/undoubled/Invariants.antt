use Rattle.std.proofs.Common.{◌≡◌, ◌++◌, drop, false}
use Rattle.sb_parse.specs.Lexemes.{undoubled}
use Rattle.sb_parse.proofs.lexemes.undoubled.Given as goal

abbrev pub invariant-bytes : goal.invariant-bytes
invariant-bytes l = undoubled l.quote false l.spelling ≡ l.value ++ undoubled l.quote l.is_second (drop l.byte-index l.spelling)
