use Rattle.std.proofs.Common.{arith}
use Rattle.sb_grammar.specs.Dialogs.{column}
use Rattle.sb_parse.proofs.Members.{members_start}
use Rattle.sb_parse.proofs.receives.named_columns.Goals as goal

pub members-init : goal.members-init
members-init c = (
  members_start column c.args.tokens.now c.in_ok-first.rest.now c.in_ok-first.first c.new-all.result _ c.in_ok-first.ensures.value (omega (arith, c.in_ok-first.ensures.shorter)) c.new-all.ensures c.in_ok-push.ensures.ok,
  c.in_ok-first.ensures.shorter,
)
