-- What is asked of a side, by its facts alone.
use Rattle.std.specs.Prelude.{ℕ, Bool, not, is_some, nat_lt, ◌==◌, ◌&&◌, ◌||◌, ◌+◌, if◌then◌else◌, Option, option_map, unwrap_or}
use Rattle.sb_log.specs.declared.identifiers.Handle.{Handle}
use Rattle.sb_log.specs.declared.identifiers.SideId.{SideId}
use Rattle.sb_log.specs.declared.identifiers.State.{State}
use Rattle.sb_log.specs.declared.identifiers.State.TheVariants.{SO, CO, DI, DO, ER, CD}
use Rattle.sb_endpoint.specs.declared.endpoint.Endpoint.{Endpoint}

abbrev pub is_made : Endpoint → Bool
is_made e = is_some e.made

-- no end sent a final message, or it was acknowledged, or the partner is through too
abbrev pub is_done_by : Endpoint → Bool
is_done_by e = not e.has_final || nat_lt e.sends e.acked || e.closed || e.got_end || e.got_error || e.expired

-- the first row of the table that applies
abbrev pub state_by : SideId → Endpoint → State
state_by s e =
    if e.cleaned || (e.ended && is_done_by e) then CD
    else (if e.ended then DO
    else (if e.got_error || e.expired then ER
    else (if e.got_end then DI
    else (if s.initiator && e.sends == 0 && e.accepted == 0 then SO
    else CO))))

-- the group of the last move, else the one that the side was made with
abbrev pub group_by : Endpoint → Option Handle
group_by e = option_map (λ m. unwrap_or e.moved m.group) e.made

-- it was ended or cleaned, or expired
abbrev pub is_closed_by : Endpoint → Bool
is_closed_by e = e.ended || e.cleaned || e.expired

-- how many messages have a number: the sends, and then the final message
abbrev pub numbered_by : Endpoint → ℕ
numbered_by e = if e.has_final then e.sends + 1 else e.sends
