-- What a log says of one side.
use Rattle.std.specs.Prelude.{false, not, List, None, flat_map, length, option_map}
use Rattle.std.specs.List.{list_any, last_or}
use Rattle.sb_log.specs.declared.identifiers.SideId.{SideId}
use Rattle.sb_log.specs.declared.entries.Entry.{Entry}
use Rattle.sb_model.specs.Sides.{Making, made, ops_of}
use Rattle.sb_model.specs.Messages.{accepted, acked, contents_accepted, final_sent, is_cleaned, is_closed_by_ack, is_ended, is_expired, sends}
use Rattle.sb_model.specs.States.{is_empty, is_end_dialog, is_error}
use Rattle.sb_model.specs.Groups.{group_moved}
use Rattle.sb_endpoint.specs.declared.endpoint.Endpoint.{Endpoint}
use Rattle.sb_endpoint.specs.declared.endpoint.Made.{Made}

-- the facts of a side of which nothing was said
abbrev pub unknown : Endpoint
unknown = record {
  made = None;
  moved = None;
  sends = 0;
  ended = false;
  cleaned = false;
  expired = false;
  has_final = false;
  accepted = 0;
  got_end = false;
  got_error = false;
  acked = 0;
  closed = false;
}

-- the handle and the group that a side is made with
abbrev pub made_as : Making → Made
made_as m = record { handle = m.handle; group = m.group }

-- the facts of the side by this log
abbrev pub endpoint_of : List Entry → SideId → Endpoint
endpoint_of log s = record {
  made = option_map made_as (made log s);
  moved = last_or None (flat_map (group_moved s) (ops_of log));
  sends = length (sends log s);
  ended = is_ended log s;
  cleaned = is_cleaned log s;
  expired = is_expired log s;
  has_final = not (is_empty (final_sent log s));
  accepted = accepted log s;
  got_end = list_any is_end_dialog (contents_accepted log s);
  got_error = list_any is_error (contents_accepted log s);
  acked = acked log s;
  closed = is_closed_by_ack log s;
}
