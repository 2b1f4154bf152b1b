-- Where a statement is computed.
use Rattle.sb_proc.specs.Requests.{Place, place_with}
use Rattle.sb_proc.specs.Scopes.{Scope}
use Rattle.sb_proc.specs.Seen.{scope_of}
use Rattle.sb_proc.specs.declared.request.Asking.{Asking}

abbrev pub place_in : Asking → Place
place_in a = place_with a.who a.text.now

abbrev pub scope_in : Asking → Scope
scope_in a = scope_of a.seen
