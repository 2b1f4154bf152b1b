-- How a transcript prints the answer of a step, and the lines of detail behind it.
use Rattle.std.specs.Prelude.{ℕ, Bool, true, false, List, [], ◌++◌, length, flat_map, codes, Option, None, Some}
use Rattle.std.specs.Fmt.{decimal, signed_decimal}
use Rattle.sb_log.specs.Handles.{text_of_handle}
use Rattle.sb_log.specs.declared.messages.Frame.{Frame}
use Rattle.sb_log.specs.declared.messages.Frame.TheVariants as frames
use Rattle.sb_log.specs.declared.messages.ReceivedItem.{ReceivedItem}
use Rattle.sb_log.specs.declared.refusals.Refusal.{Refusal}
use Rattle.sb_log.specs.declared.requests.Reply.{Reply}
use Rattle.sb_log.specs.declared.requests.Reply.TheVariants as reply
use Rattle.sb_log.specs.declared.steps.Answer.{Answer}
use Rattle.sb_log.specs.declared.steps.Answer.TheVariants as answer
use Rattle.sb_log.specs.declared.steps.Arrived.{Arrived}
use Rattle.sb_log.specs.declared.steps.Arrived.TheVariants as arrived
use Rattle.sb_log.specs.declared.steps.DumpLine.{DumpLine}
use Rattle.sb_log.specs.declared.steps.DumpLine.TheVariants as dump
use Rattle.sb_log.specs.declared.steps.Event.{Event}
use Rattle.sb_log.specs.declared.steps.Event.TheVariants as event
use Rattle.sb_log.specs.declared.steps.FrameLine.{FrameLine}
use Rattle.sb_log.specs.declared.steps.Verdict.{Verdict}
use Rattle.sb_log.specs.declared.steps.Verdict.TheVariants as verdict
use Rattle.sb_show.specs.Values.{body_text, group_text, kind_name, letter, name_text, number_or_null, numbered, row_body_text, side_text, state_text}
use Rattle.sb_show.specs.Refusals.{barred_text, refusal_text}

-- ---- the first line

-- a queue that a rollback turned off
unfoldable pub off_text : List ℕ → List ℕ
off_text queue = codes ", off " ++ name_text queue

-- a rollback, and each queue that it turned off
unfoldable pub rolled_back_words : ℕ → List (List ℕ) → List ℕ
rolled_back_words tx off = numbered (codes "rolled back ") tx ++ flat_map off_text off

unfoldable pub reply_words : Reply → List ℕ
reply_words reply.Done = codes "ok"
reply_words (reply.Began tx) = numbered (codes "transaction ") tx
reply_words (reply.Committed tx) = numbered (codes "committed ") tx
reply_words (reply.RolledBack tx off) = rolled_back_words tx off
reply_words (reply.Dialog handle group) = codes "handle " ++ text_of_handle handle ++ codes " group " ++ text_of_handle group
reply_words (reply.Rows count row) = numbered (codes "rows ") count
reply_words (reply.Received items) = numbered (codes "received ") (length items)
reply_words (reply.Group group) = codes "group " ++ group_text group
reply_words (reply.Waiting tx) = numbered (codes "waiting for ") tx

-- what a refusal in a reader rolled back
abbrev pub undone_text : Option Reply → List ℕ
undone_text None = []
undone_text (Some given) = codes ", " ++ reply_words given

abbrev pub refused_words : Refusal → Option Reply → List ℕ
refused_words r undone = codes "refused " ++ refusal_text r ++ undone_text undone

abbrev pub verdict_words : Verdict → List ℕ
verdict_words verdict.New = codes "new"
verdict_words verdict.Next = codes "next"
verdict_words verdict.Repeat = codes "repeat"
verdict_words verdict.Early = codes "early"
verdict_words verdict.Gone = codes "gone"
verdict_words (verdict.NotHere n) = numbered (codes "not here ") n
verdict_words verdict.AckNew = codes "ack new"
verdict_words verdict.AckOld = codes "ack old"

abbrev pub arrived_words : Arrived → List ℕ
arrived_words (arrived.Verdict v) = verdict_words v
arrived_words (arrived.BadFrame at) = numbered (codes "bad frame ") at

-- a timer fires, and a lifetime expires
abbrev pub fired_words : Event → List ℕ
fired_words (event.Lifetime x handle) = codes "expired"
fired_words _ = codes "fired"

unfoldable pub answer_words : Event → Answer → List ℕ
answer_words what (answer.Replied given) = reply_words given
answer_words what (answer.Refused r undone) = refused_words r undone
answer_words what (answer.Barred b) = codes "refused " ++ barred_text b
answer_words what (answer.Started tx) = numbered (codes "transaction ") tx
answer_words what (answer.Pumped lines) = numbered (codes "frames ") (length lines)
answer_words what (answer.Arrived a) = arrived_words a
answer_words what answer.Done = codes "ok"
answer_words what (answer.Moment moment) = numbered (codes "moment ") moment
answer_words what answer.Fired = fired_words what
answer_words what (answer.Entries count) = numbered (codes "entries ") count
answer_words what answer.OpenFailed = codes "disk failed"
answer_words what (answer.OpenRefused at) = numbered (codes "journal refused ") at
answer_words what answer.Settled = codes "settled"
answer_words what (answer.Dumped lines) = codes "ok"

-- ---- lines of detail

-- number, handle, group, type and body of a received message
unfoldable pub received_line : ReceivedItem → List ℕ
received_line r =
    numbered (codes "  ") r.item.sequence ++ codes " " ++ text_of_handle r.handle ++ codes " " ++ text_of_handle r.group ++ codes " "
    ++ name_text (kind_name r.item.message.kind) ++ codes " " ++ body_text r.item.message.body ++ codes "\n"

abbrev pub closed_word : Bool → List ℕ
closed_word true = codes " closed"
closed_word false = codes " open"

unfoldable pub frame_words : Frame → List ℕ
frame_words (frames.Data d) = codes "data " ++ side_text d.side ++ numbered (codes " ") d.number
frame_words (frames.Ack a) = codes "ack " ++ side_text a.side ++ numbered (codes " ") a.upto ++ closed_word a.closed

-- a frame that a pump put: its number, its destination, its side and its number there
unfoldable pub frame_line : FrameLine → List ℕ
frame_line l = numbered (codes "  ") l.number ++ codes " to " ++ letter l.to ++ codes " " ++ frame_words l.frame ++ codes "\n"

abbrev pub on_word : Bool → List ℕ
on_word true = codes " on waiting "
on_word false = codes " off waiting "

unfoldable pub dump_words : DumpLine → List ℕ
dump_words (dump.Queue name on waiting) = codes "queue " ++ name_text name ++ on_word on ++ decimal waiting
dump_words (dump.Side handle state group level outgoing) =
    codes "side " ++ text_of_handle handle ++ codes " " ++ state_text state ++ codes " group " ++ text_of_handle group ++ codes " level "
    ++ decimal level ++ numbered (codes " outgoing ") outgoing
dump_words (dump.Row table key row) =
    codes "row " ++ name_text table ++ codes " " ++ signed_decimal key ++ codes " " ++ number_or_null row.n ++ codes " " ++ row_body_text row.body

unfoldable pub dump_line : DumpLine → List ℕ
dump_line l = codes "  " ++ dump_words l ++ codes "\n"

abbrev pub reply_details : Reply → List ℕ
reply_details (reply.Received items) = flat_map received_line items
reply_details _ = []

unfoldable pub details : Answer → List ℕ
details (answer.Replied given) = reply_details given
details (answer.Pumped lines) = flat_map frame_line lines
details (answer.Dumped lines) = flat_map dump_line lines
details _ = []
