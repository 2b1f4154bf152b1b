-- An entry's spelling has as many bytes as its size says.
use Rattle.std.proofs.Common.{◌≡◌, ℕ, ℤ, Bool, true, false, Option, Some, None, List, [], ◌∷◌, ◌++◌, length, ◌+◌, refl, ap, ◌∙◌, arith}
use Rattle.std.specs.List.{sum_by}
use Rattle.std.specs.List.{flat_map}
use Rattle.std.proofs.lemmas.List.{length-append}
use Rattle.std.proofs.lemmas.List.Sums.{sum_by-cons}
use Rattle.sb_log.specs.declared.identifiers.Handle.{Handle}
use Rattle.sb_log.specs.declared.identifiers.SideId.{SideId}
use Rattle.sb_log.specs.declared.messages.Header.{Header}
use Rattle.sb_log.specs.declared.messages.Content.{Content}
use Rattle.sb_log.specs.declared.messages.Content.TheVariants as content
use Rattle.sb_log.specs.declared.definitions.SentBy.{SentBy}
use Rattle.sb_log.specs.declared.definitions.Activation.{Activation}
use Rattle.sb_log.specs.declared.definitions.Ddl.{Ddl}
use Rattle.sb_log.specs.declared.definitions.Ddl.TheVariants.{MessageType, Contract, Queue, Service, Route, Priority, Table, Procedure}
use Rattle.sb_log.specs.declared.entries.Final.{Final}
use Rattle.sb_log.specs.declared.entries.Final.TheVariants as final
use Rattle.sb_log.specs.declared.entries.Op.{Op}
use Rattle.sb_log.specs.declared.entries.Op.TheVariants.{Begin, Send, Took, End, Cleanup, Move, Timer, Put, Delete}
use Rattle.sb_log.specs.declared.entries.NewSide.{NewSide}
use Rattle.sb_log.specs.declared.entries.Entry.{Entry}
use Rattle.sb_log.specs.declared.entries.Entry.TheVariants.{Defined, Txn, Accepted, Acked, Fired, Expired, QueueSet}
use Rattle.sb_fields.specs.Spelling.{Bytes, number, text16, bytes32, flag, optional}
use Rattle.sb_fields.proofs.Takings.{length-number}
use Rattle.sb_model.specs.Spelling.{handle_bytes, side_bytes, bigint_bytes, header_bytes, content_bytes, final_bytes, op_bytes, sent_by_bytes, activation_bytes, definition_bytes, made_bytes, entry_bytes}
use Rattle.sb_model.specs.Sizes.{text_size, body_size, optional_size, header_size, content_size, final_size, op_size, sent_by_size, activation_size, definition_size, made_size, entry_size}
use Rattle.sb_entry.proofs.PartLengths.{length-flag}

text_sized : (text : Bytes) → length (text16 text) ≡ text_size text
unfolding text16
text_sized text = simp (length-append, length-number) refl

body_sized : (bytes : Bytes) → length (bytes32 bytes) ≡ body_size bytes
unfolding bytes32
body_sized bytes = simp (length-append, length-number) refl

pub handle_sized : (h : Handle) → length (handle_bytes h) ≡ 16
unfolding handle_bytes
handle_sized h = length-number 16 h.0

bigint_sized : (z : ℤ) → length (bigint_bytes z) ≡ 8
unfolding bigint_bytes
bigint_sized z = length-number 8 _

pub side_sized : (s : SideId) → length (side_bytes s) ≡ 17
unfolding side_bytes
side_sized s = simp (length-append, length-number, handle_sized) refl

optional_sized : {A : Type 0} (spell : A → Bytes) (size : A → ℕ) → ((x : A) → length (spell x) ≡ size x) → (o : Option A) → length (optional spell o) ≡ optional_size size o
unfolding optional
optional_sized spell size sized None = length-flag false
optional_sized spell size sized (Some x) = simp (length-append, length-flag, sized) refl

list_sized : {A : Type 0} (spell : A → Bytes) (size : A → ℕ) → ((x : A) → length (spell x) ≡ size x) → (xs : List A) → length (flat_map spell xs) ≡ sum_by size xs
list_sized spell size sized [] = refl
list_sized spell size sized (x ∷ xs) = simp (length-append, sized, list_sized spell size sized xs, sum_by-cons) refl

pub header_sized : (h : Header) → length (header_bytes h) ≡ header_size h
unfolding header_bytes
header_sized h = simp (length-append, length-number, text_sized, handle_sized, optional_sized handle_bytes (λ to. 16) handle_sized) refl

pub content_sized : (c : Content) → length (content_bytes c) ≡ content_size c
unfolding content_bytes
content_sized (content.App kind body) = simp (length-append, length-number, text_sized, optional_sized bytes32 body_size body_sized) refl
content_sized content.EndDialog = length-number 1 2
content_sized (content.Error code text) = simp (length-append, length-number, text_sized) refl

final_sized : (f : Final) → length (final_bytes f) ≡ final_size f
unfolding final_bytes
final_sized final.Silent = length-number 1 0
final_sized final.EndDialog = length-number 1 1
final_sized (final.Error code text) = simp (length-append, length-number, text_sized) refl

op_sized : (op : Op) → length (op_bytes op) ≡ op_size op
unfolding op_bytes
op_sized (Begin handle group h) = simp (length-append, length-number, handle_sized, header_sized) refl
op_sized (Send side kind body) = simp (length-append, length-number, side_sized, text_sized, optional_sized bytes32 body_size body_sized) refl
op_sized (Took queue item) = simp (length-append, length-number, text_sized) refl
op_sized (End side last) = simp (length-append, length-number, side_sized, final_sized) refl
op_sized (Cleanup side) = simp (length-append, length-number, side_sized) refl
op_sized (Move side group) = simp (length-append, length-number, side_sized, handle_sized) refl
op_sized (Timer side at) = simp (length-append, length-number, side_sized) refl
op_sized (Put table key n body) =
    simp (length-append, length-number, text_sized, bigint_sized, optional_sized bigint_bytes (λ z. 8) bigint_sized, optional_sized bytes32 body_size body_sized) refl
op_sized (Delete table key) = simp (length-append, length-number, text_sized, bigint_sized) refl

sent_by_sized : (sent : SentBy) → length (sent_by_bytes sent) ≡ sent_by_size sent
unfolding sent_by_bytes
sent_by_sized sent = simp (length-append, length-number, text_sized) refl

activation_sized : (a : Activation) → length (activation_bytes a) ≡ activation_size a
unfolding activation_bytes
activation_sized a = simp (length-append, length-number, length-flag, text_sized) refl

definition_sized : (d : Ddl) → length (definition_bytes d) ≡ definition_size d
unfolding definition_bytes
definition_sized (MessageType d) = simp (length-append, length-number, text_sized) refl
definition_sized (Contract d) = simp (length-append, length-number, text_sized, list_sized sent_by_bytes sent_by_size sent_by_sized) refl
definition_sized (Queue d) =
    simp (length-append, length-number, length-flag, text_sized, optional_sized activation_bytes activation_size activation_sized) refl
definition_sized (Service d) = simp (length-append, length-number, text_sized, list_sized text16 text_size text_sized) refl
definition_sized (Route d) =
    simp (length-append, length-number, text_sized, optional_sized text16 text_size text_sized, optional_sized handle_bytes (λ id. 16) handle_sized) refl
definition_sized (Priority d) = simp (length-append, length-number, text_sized, optional_sized text16 text_size text_sized) refl
definition_sized (Table d) = simp (length-append, length-number, text_sized) refl
definition_sized (Procedure d) = simp (length-append, length-number, text_sized, body_sized) refl

made_sized : (m : NewSide) → length (made_bytes m) ≡ made_size m
unfolding made_bytes
made_sized m = simp (length-append, handle_sized, header_sized) refl

pub entry_sized : (e : Entry) → length (entry_bytes e) ≡ entry_size e
unfolding entry_bytes
entry_sized (Defined ddl) = simp (length-append, length-number, definition_sized) refl
entry_sized (Txn tx ops) = simp (length-append, length-number, list_sized op_bytes op_size op_sized) refl
entry_sized (Accepted side number made c) =
    simp (length-append, length-number, side_sized, optional_sized made_bytes made_size made_sized, content_sized) refl
entry_sized (Acked side upto closed) = simp (length-append, length-number, length-flag, side_sized) refl
entry_sized (Fired side) = simp (length-append, length-number, side_sized) refl
entry_sized (Expired side) = simp (length-append, length-number, side_sized) refl
entry_sized (QueueSet queue on) = simp (length-append, length-number, length-flag, text_sized) refl
