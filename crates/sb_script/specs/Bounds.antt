-- Which numbers commands have.
use Rattle.std.specs.Prelude.{◌≤◌}
use Rattle.sb_script.specs.declared.commands.Command.{Command}
use Rattle.sb_script.specs.declared.commands.Command.TheVariants as command
use Rattle.sb_script.specs.Commands.{most}

-- a session's number is from 1 to 9, and any other at most the greatest
abbrev pub IsWithin : Command → Type 0
IsWithin (command.Connect s) = (1 ≤ s.number) × (s.number ≤ 9)
IsWithin (command.Deliver n) = n ≤ most
IsWithin (command.Lose n) = n ≤ most
IsWithin (command.Tick n) = n ≤ most
IsWithin (command.Clock n) = n ≤ most
IsWithin (command.Fuse n) = n ≤ most
IsWithin (command.Crash n) = n ≤ most
IsWithin _ = Unit {0}
