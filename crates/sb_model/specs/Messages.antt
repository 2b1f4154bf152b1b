-- What a log says of the messages of one side: sent, ended, accepted, acknowledged, numbered and outgoing.
use Rattle.std.specs.Prelude.{ℕ, Bool, false, ◌||◌, if◌then◌else◌, List, [], ◌∷◌, ◌++◌, flat_map, length, fold, max, drop}
use Rattle.std.specs.List.{list_any}
use Rattle.sb_log.specs.declared.identifiers.SideId.{SideId}
use Rattle.sb_log.specs.declared.entries.Entry.{Entry}
use Rattle.sb_log.specs.declared.entries.Entry.TheVariants.{Accepted, Acked, Expired}
use Rattle.sb_log.specs.declared.entries.Op.{Op}
use Rattle.sb_log.specs.declared.entries.Op.TheVariants.{Send, End, Cleanup}
use Rattle.sb_log.specs.declared.entries.Final.{Final}
use Rattle.sb_log.specs.declared.messages.Content.{Content}
use Rattle.sb_model.specs.Sides.{same_side, ops_of}
use Rattle.sb_log.specs.declared.entries.Final.TheVariants as final
use Rattle.sb_log.specs.declared.messages.Content.TheVariants as content

abbrev pub content_of_send : SideId → Op → List Content
content_of_send s (Send side kind body) = if same_side side s then content.App kind body ∷ [] else []
content_of_send s _ = []

-- what the side sent, in order
abbrev pub sends : List Entry → SideId → List Content
sends log s = flat_map (content_of_send s) (ops_of log)

abbrev pub end_of_op : SideId → Op → List Final
end_of_op s (End side last) = if same_side side s then last ∷ [] else []
end_of_op s _ = []

abbrev pub ends : List Entry → SideId → List Final
ends log s = flat_map (end_of_op s) (ops_of log)

abbrev pub cleans : SideId → Op → Bool
cleans s (Cleanup side) = same_side side s
cleans s _ = false

abbrev pub is_cleaned : List Entry → SideId → Bool
is_cleaned log s = list_any (cleans s) (ops_of log)

abbrev pub ends_side : SideId → Op → Bool
ends_side s (End side last) = same_side side s
ends_side s _ = false

abbrev pub is_ended : List Entry → SideId → Bool
is_ended log s = list_any (ends_side s) (ops_of log)

abbrev pub expires_side : SideId → Entry → Bool
expires_side s (Expired side) = same_side side s
expires_side s _ = false

abbrev pub is_expired : List Entry → SideId → Bool
is_expired log s = list_any (expires_side s) log

abbrev pub accepted_content : SideId → Entry → List Content
accepted_content s (Accepted side number new content) = if same_side side s then content ∷ [] else []
accepted_content s _ = []

abbrev pub contents_accepted : List Entry → SideId → List Content
contents_accepted log s = flat_map (accepted_content s) log

-- how many the side accepted
abbrev pub accepted : List Entry → SideId → ℕ
accepted log s = length (contents_accepted log s)

-- an acknowledgement that the side was told
abbrev pub ack_of : SideId → Entry → List (ℕ × Bool)
ack_of s (Acked side upto closed) = if same_side side s then (upto, closed) ∷ [] else []
ack_of s _ = []

abbrev pub acks : List Entry → SideId → List (ℕ × Bool)
acks log s = flat_map (ack_of s) log

-- the greatest number acknowledged
abbrev pub acked : List Entry → SideId → ℕ
acked log s = fold (λ most ack. max most ack.0) 0 (acks log s)

abbrev pub is_closed_by_ack : List Entry → SideId → Bool
is_closed_by_ack log s = list_any (λ ack. ack.1) (acks log s)

-- the side has an end, a cleanup or an expiry
abbrev pub is_closed : List Entry → SideId → Bool
is_closed log s = is_ended log s || is_cleaned log s || is_expired log s

-- the final message of an end, if it has one
abbrev pub final_content : Final → List Content
final_content final.Silent = []
final_content final.EndDialog = content.EndDialog ∷ []
final_content (final.Error code text) = content.Error code text ∷ []

abbrev pub first_of : List Content → List Content
first_of [] = []
first_of (x ∷ xs) = x ∷ []

-- the final message of the first end that has one
abbrev pub final_sent : List Entry → SideId → List Content
final_sent log s = first_of (flat_map final_content (ends log s))

-- the messages of the side, numbered from 1
abbrev pub numbered : List Entry → SideId → List Content
numbered log s = sends log s ++ final_sent log s

-- those that are still to be sent
abbrev pub outgoing : List Entry → SideId → List Content
outgoing log s =
    if is_cleaned log s || is_expired log s || is_closed_by_ack log s then []
    else drop (acked log s) (numbered log s)
