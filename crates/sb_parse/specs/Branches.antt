-- An IF behind its condition.
use Rattle.sb_grammar.specs.declared.tree.Condition.{Condition}
use Rattle.sb_grammar.specs.declared.tree.Statement.{Statement}
use Rattle.sb_grammar.specs.declared.tree.Statement.TheVariants as s
use Rattle.sb_grammar.specs.Rules.{Rule, bind, map_rule}
use Rattle.sb_grammar.specs.Stops.{Stops}
use Rattle.sb_grammar.specs.Statements.{else_part}

-- behind the first branch
abbrev pub otherwise : Rule Statement → Condition → Statement → Rule Statement
otherwise st c t = map_rule (s.If c t) (else_part st)

-- behind the condition
abbrev pub branches : Rule Statement → Condition → Rule Statement
branches st c = bind st (λ t. otherwise st c t) Stops
