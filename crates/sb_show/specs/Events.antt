-- How a transcript prints what happens in a step.
use Rattle.std.specs.Prelude.{ℕ, List, [], ◌++◌, codes, Option, None, Some}
use Rattle.sb_log.specs.Handles.{text_of_handle}
use Rattle.sb_log.specs.declared.definitions.Ddl.{Ddl}
use Rattle.sb_log.specs.declared.definitions.Ddl.TheVariants as ddl
use Rattle.sb_log.specs.declared.identifiers.Handle.{Handle}
use Rattle.sb_log.specs.declared.identifiers.Who.{Who}
use Rattle.sb_log.specs.declared.requests.Request.{Request}
use Rattle.sb_log.specs.declared.requests.Request.TheVariants as request
use Rattle.sb_log.specs.declared.steps.Event.{Event}
use Rattle.sb_log.specs.declared.steps.Event.TheVariants as event
use Rattle.sb_show.specs.Values.{letter, name_text, numbered, side_text}

-- the fixed words that a definition begins with
abbrev pub definition_words : Ddl → List ℕ
definition_words (ddl.MessageType _) = codes "CREATE MESSAGE TYPE"
definition_words (ddl.Contract _) = codes "CREATE CONTRACT"
definition_words (ddl.Queue _) = codes "CREATE QUEUE"
definition_words (ddl.Service _) = codes "CREATE SERVICE"
definition_words (ddl.Route _) = codes "CREATE ROUTE"
definition_words (ddl.Priority _) = codes "CREATE BROKER PRIORITY"
definition_words (ddl.Table _) = codes "CREATE TABLE"
definition_words (ddl.Procedure _) = codes "CREATE PROCEDURE"

-- the fixed words of a statement
abbrev pub request_words : Request → List ℕ
request_words (request.Define d) = definition_words d
request_words (request.AlterQueue queue on) = codes "ALTER QUEUE"
request_words request.Begin = codes "BEGIN TRANSACTION"
request_words request.Commit = codes "COMMIT"
request_words request.Rollback = codes "ROLLBACK"
request_words (request.BeginDialog from to instance contract relation lifetime) = codes "BEGIN DIALOG"
request_words (request.Send handle type body) = codes "SEND"
request_words (request.Receive queue top filter_by) = codes "RECEIVE"
request_words (request.GetGroup queue) = codes "GET CONVERSATION GROUP"
request_words (request.Move handle group) = codes "MOVE"
request_words (request.End handle how) = codes "END CONVERSATION"
request_words (request.Timer handle seconds) = codes "BEGIN CONVERSATION TIMER"
request_words (request.Insert table key n body) = codes "INSERT"
request_words (request.Update table key n body) = codes "UPDATE"
request_words (request.Delete table key) = codes "DELETE"
request_words (request.Read table key) = codes "SELECT"

-- a word and an instance
abbrev pub at_instance : List ℕ → Who → List ℕ
at_instance word x = word ++ letter x

-- an instance and a number behind a word
unfoldable pub at_instance_numbered : List ℕ → Who → ℕ → List ℕ
at_instance_numbered word x n = word ++ letter x ++ numbered (codes " ") n

-- an instance and a handle behind a word
unfoldable pub at_instance_handle : List ℕ → Who → Handle → List ℕ
at_instance_handle word x h = word ++ letter x ++ codes " " ++ text_of_handle h

-- a frame without a destination is none of the wire's
abbrev pub destination_text : Option Who → List ℕ
destination_text None = []
destination_text (Some x) = codes " to " ++ letter x

unfoldable pub event_text : Event → List ℕ
event_text (event.Asked req) = request_words req
event_text (event.Words words) = words
event_text (event.Start queue group) = codes "start " ++ name_text queue ++ codes " " ++ text_of_handle group
event_text (event.Pump x) = at_instance (codes "pump ") x
event_text (event.Deliver frame to) = numbered (codes "deliver ") frame ++ destination_text to
event_text (event.HandOver side number) = codes "hand over " ++ side_text side ++ numbered (codes " ") number
event_text (event.Lose frame) = numbered (codes "lose ") frame
event_text (event.Tick seconds) = numbered (codes "tick ") seconds
event_text (event.Clock moment) = numbered (codes "clock ") moment
event_text (event.Timer x handle) = at_instance_handle (codes "timer ") x handle
event_text (event.Lifetime x handle) = at_instance_handle (codes "lifetime ") x handle
event_text (event.Fuse x calls) = at_instance_numbered (codes "fuse ") x calls
event_text (event.Crash x pick) = at_instance_numbered (codes "crash ") x pick
event_text (event.Open x) = at_instance (codes "open ") x
event_text event.Serve = codes "serve"
event_text (event.Inject x bytes) = at_instance (codes "inject ") x
event_text (event.Dump x) = at_instance (codes "dump ") x
