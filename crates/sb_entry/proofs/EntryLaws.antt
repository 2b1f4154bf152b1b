-- Operations and entries are read exactly.
use Rattle.std.proofs.Common.{◌≡◌, ℕ, ℤ, pos, negsuc, zero, suc, ◌+◌, ◌^◌, ◌<◌, ◌≤◌, Bool, true, false, cond, eqb, leb, ◌&&◌, List, [], ◌∷◌, ◌++◌, length, Option, Some, None, refl, sym, ap, subst, ◌∙◌, arith, append_assoc, lit<, lit≤}
use Rattle.std.specs.Prelude.{IfSome, FitsSigned, nat_le, nat_abs, ◌==◌, ◌≤ℤ◌, if◌then◌else◌}
use Rattle.std.specs.Int.{w64}
use Rattle.std.specs.List.{flat_map, AllByRecursion}
use Rattle.std.proofs.lemmas.Int.{ints}
use Rattle.std.proofs.lemmas.List.{append-nil}
use Rattle.std.proofs.lemmas.Bool.{eqb-true, eqb-false, leb-true, le-leb}
use Rattle.sb_log.specs.declared.identifiers.Handle.{Handle}
use Rattle.sb_log.specs.declared.identifiers.SideId.{SideId}
use Rattle.sb_log.specs.declared.entries.Final.{Final}
use Rattle.sb_log.specs.declared.entries.Final.TheVariants as final
use Rattle.sb_log.specs.declared.entries.Op.{Op}
use Rattle.sb_log.specs.declared.entries.Op.TheVariants.{Begin, Send, Took, End, Cleanup, Move, Timer, Put, Delete}
use Rattle.sb_log.specs.declared.entries.NewSide.{NewSide}
use Rattle.sb_log.specs.declared.entries.Entry.{Entry}
use Rattle.sb_log.specs.declared.entries.Entry.TheVariants.{Defined, Txn, Accepted, Acked, Fired, Expired, QueueSet}
use Rattle.sb_fields.specs.Spelling.{Bytes, number, text16, bytes32, flag, optional}
use Rattle.sb_fields.specs.Reading.{Reading, read_then, give, such_that, number_at, flag_at, optional_at, list_at}
use Rattle.sb_fields.proofs.Readings.{ReadsOnly, ReadsAgain, ReadsExactly, then_again, give_again, again_is, then_exactly, give_only, if_only, such_that_exactly, number_read, flag_read, optional_read, list_read}
use Rattle.sb_model.specs.Spelling.{handle_bytes, side_bytes, bigint_bytes, header_bytes, content_bytes, final_bytes, op_bytes, definition_bytes, made_bytes, entry_bytes}
use Rattle.sb_model.specs.Reading.{final_error_at, final_of, final_at, begin_at, send_at, took_at, end_at, cleanup_at, move_at, timer_at, put_at, delete_at, op_of, op_at, made_at, defined_at, count_at, txn_at, accepted_at, acked_at, fired_at, expired_at, queue_set_at, entry_of, entry_at}
use Rattle.sb_entry.specs.Values.{IsHandle, IsSide, IsNameText, IsBytes32, IsLongText, IsHeader, IsContent, IsFinal, IsOp, IsDefinition, IsMade, IsEntry}
use Rattle.sb_entry.proofs.MessageLaws.{in_words, text_read, bytes_read, name_read, long_text_read, handle_read, bigint_read, Between, byte_read, side_read, header_read, content_read, Behind, at_kind}
use Rattle.sb_entry.proofs.DefinitionLaws.{ddl_read}

final_again : (x : Final) → IsFinal x → ReadsAgain final_at (final_bytes x) x
unfolding final_bytes final_at final_error_at
final_again (final.Silent) f = again_is final_at (simp (append-nil, append_assoc)) (then_again _ _ ((byte_read 0 2 (lit< tt)).reads 0 (lit≤ tt, lit≤ tt)) (give_again _))
final_again (final.EndDialog) f = again_is final_at (simp (append-nil, append_assoc)) (then_again _ _ ((byte_read 0 2 (lit< tt)).reads 1 (lit≤ tt, lit≤ tt)) (give_again _))
final_again (final.Error code text) f = again_is final_at (simp (append-nil, append_assoc)) (then_again _ _ ((byte_read 0 2 (lit< tt)).reads 2 (lit≤ tt, lit≤ tt)) (then_again _ _ ((number_read 4).reads (code) f.0) (then_again _ _ ((text_read).reads (text) f.1) (give_again _))))

silent_only : ReadsOnly (give final.Silent) (Behind final_bytes IsFinal 0)
unfolding final_bytes
silent_only = give_only _ (append-nil (number 1 0), tt)

end_dialog_only : ReadsOnly (give final.EndDialog) (Behind final_bytes IsFinal 1)
unfolding final_bytes
end_dialog_only = give_only _ (append-nil (number 1 1), tt)

error_only : ReadsOnly final_error_at (Behind final_bytes IsFinal 2)
unfolding final_bytes final_error_at
error_only = then_exactly _ (number_read 4) (λ code fcode. then_exactly _ (text_read) (λ text ftext. give_only _ (simp (append-nil, append_assoc), (fcode, ftext))))

final_only : (kind : ℕ) → Between 0 2 kind → ReadsOnly (final_of kind) (Behind final_bytes IsFinal kind)
final_only kind f =
    if_only (eqb kind 0) _ _ (λ e. at_kind final_bytes IsFinal _ 0 kind (eqb-true kind 0 e) silent_only) (λ n0.
    if_only (eqb kind 1) _ _ (λ e. at_kind final_bytes IsFinal _ 1 kind (eqb-true kind 1 e) end_dialog_only) (λ n1.
    at_kind final_bytes IsFinal _ 2 kind (let a0 = eqb-false kind 0 n0 in let a1 = eqb-false kind 1 n1 in omega (arith, f.0, f.1, a0, a1)) error_only))

pub final_read : ReadsExactly final_bytes final_at IsFinal
unfolding final_at
final_read = record { reads = final_again; spelled = then_exactly _ (byte_read 0 2 (lit< tt)) final_only }

op_again : (x : Op) → IsOp x → ReadsAgain op_at (op_bytes x) x
unfolding op_bytes op_at begin_at send_at took_at end_at cleanup_at move_at timer_at put_at delete_at
op_again (Begin handle group header) f = again_is op_at (simp (append-nil, append_assoc)) (then_again _ _ ((byte_read 1 9 (lit< tt)).reads 1 (lit≤ tt, lit≤ tt)) (then_again _ _ ((handle_read).reads (handle) f.0) (then_again _ _ ((handle_read).reads (group) f.1) (then_again _ _ ((header_read).reads (header) f.2) (give_again _)))))
op_again (Send side kind body) f = again_is op_at (simp (append-nil, append_assoc)) (then_again _ _ ((byte_read 1 9 (lit< tt)).reads 2 (lit≤ tt, lit≤ tt)) (then_again _ _ ((side_read).reads (side) f.0) (then_again _ _ ((name_read).reads (kind) f.1) (then_again _ _ ((optional_read bytes_read).reads (body) f.2) (give_again _)))))
op_again (Took queue item) f = again_is op_at (simp (append-nil, append_assoc)) (then_again _ _ ((byte_read 1 9 (lit< tt)).reads 3 (lit≤ tt, lit≤ tt)) (then_again _ _ ((name_read).reads (queue) f.0) (then_again _ _ ((number_read 8).reads (item) f.1) (give_again _))))
op_again (End side last) f = again_is op_at (simp (append-nil, append_assoc)) (then_again _ _ ((byte_read 1 9 (lit< tt)).reads 4 (lit≤ tt, lit≤ tt)) (then_again _ _ ((side_read).reads (side) f.0) (then_again _ _ ((final_read).reads (last) f.1) (give_again _))))
op_again (Cleanup side) f = again_is op_at (simp (append-nil, append_assoc)) (then_again _ _ ((byte_read 1 9 (lit< tt)).reads 5 (lit≤ tt, lit≤ tt)) (then_again _ _ ((side_read).reads (side) f) (give_again _)))
op_again (Move side group) f = again_is op_at (simp (append-nil, append_assoc)) (then_again _ _ ((byte_read 1 9 (lit< tt)).reads 6 (lit≤ tt, lit≤ tt)) (then_again _ _ ((side_read).reads (side) f.0) (then_again _ _ ((handle_read).reads (group) f.1) (give_again _))))
op_again (Timer side at) f = again_is op_at (simp (append-nil, append_assoc)) (then_again _ _ ((byte_read 1 9 (lit< tt)).reads 7 (lit≤ tt, lit≤ tt)) (then_again _ _ ((side_read).reads (side) f.0) (then_again _ _ ((number_read 8).reads (at) f.1) (give_again _))))
op_again (Put table key n body) f = again_is op_at (simp (append-nil, append_assoc)) (then_again _ _ ((byte_read 1 9 (lit< tt)).reads 8 (lit≤ tt, lit≤ tt)) (then_again _ _ ((name_read).reads (table) f.0) (then_again _ _ ((bigint_read).reads (key) f.1) (then_again _ _ ((optional_read bigint_read).reads (n) f.2) (then_again _ _ ((optional_read long_text_read).reads (body) f.3) (give_again _))))))
op_again (Delete table key) f = again_is op_at (simp (append-nil, append_assoc)) (then_again _ _ ((byte_read 1 9 (lit< tt)).reads 9 (lit≤ tt, lit≤ tt)) (then_again _ _ ((name_read).reads (table) f.0) (then_again _ _ ((bigint_read).reads (key) f.1) (give_again _))))

begin_only : ReadsOnly begin_at (Behind op_bytes IsOp 1)
unfolding op_bytes begin_at
begin_only = then_exactly _ (handle_read) (λ handle fhandle. then_exactly _ (handle_read) (λ group fgroup. then_exactly _ (header_read) (λ header fheader. give_only _ (simp (append-nil, append_assoc), (fhandle, fgroup, fheader)))))

send_only : ReadsOnly send_at (Behind op_bytes IsOp 2)
unfolding op_bytes send_at
send_only = then_exactly _ (side_read) (λ side fside. then_exactly _ (name_read) (λ kind fkind. then_exactly _ (optional_read bytes_read) (λ body fbody. give_only _ (simp (append-nil, append_assoc), (fside, fkind, fbody)))))

took_only : ReadsOnly took_at (Behind op_bytes IsOp 3)
unfolding op_bytes took_at
took_only = then_exactly _ (name_read) (λ queue fqueue. then_exactly _ (number_read 8) (λ item fitem. give_only _ (simp (append-nil, append_assoc), (fqueue, fitem))))

ended_only : ReadsOnly end_at (Behind op_bytes IsOp 4)
unfolding op_bytes end_at
ended_only = then_exactly _ (side_read) (λ side fside. then_exactly _ (final_read) (λ last flast. give_only _ (simp (append-nil, append_assoc), (fside, flast))))

cleanup_only : ReadsOnly cleanup_at (Behind op_bytes IsOp 5)
unfolding op_bytes cleanup_at
cleanup_only = then_exactly _ (side_read) (λ side fside. give_only _ (simp (append-nil, append_assoc), fside))

move_only : ReadsOnly move_at (Behind op_bytes IsOp 6)
unfolding op_bytes move_at
move_only = then_exactly _ (side_read) (λ side fside. then_exactly _ (handle_read) (λ group fgroup. give_only _ (simp (append-nil, append_assoc), (fside, fgroup))))

timer_only : ReadsOnly timer_at (Behind op_bytes IsOp 7)
unfolding op_bytes timer_at
timer_only = then_exactly _ (side_read) (λ side fside. then_exactly _ (number_read 8) (λ at fat. give_only _ (simp (append-nil, append_assoc), (fside, fat))))

put_only : ReadsOnly put_at (Behind op_bytes IsOp 8)
unfolding op_bytes put_at
put_only = then_exactly _ (name_read) (λ table ftable. then_exactly _ (bigint_read) (λ key fkey. then_exactly _ (optional_read bigint_read) (λ n fn. then_exactly _ (optional_read long_text_read) (λ body fbody. give_only _ (simp (append-nil, append_assoc), (ftable, fkey, fn, fbody))))))

delete_only : ReadsOnly delete_at (Behind op_bytes IsOp 9)
unfolding op_bytes delete_at
delete_only = then_exactly _ (name_read) (λ table ftable. then_exactly _ (bigint_read) (λ key fkey. give_only _ (simp (append-nil, append_assoc), (ftable, fkey))))

op_only : (kind : ℕ) → Between 1 9 kind → ReadsOnly (op_of kind) (Behind op_bytes IsOp kind)
op_only kind f =
    if_only (eqb kind 1) _ _ (λ e. at_kind op_bytes IsOp _ 1 kind (eqb-true kind 1 e) begin_only) (λ n1.
    if_only (eqb kind 2) _ _ (λ e. at_kind op_bytes IsOp _ 2 kind (eqb-true kind 2 e) send_only) (λ n2.
    if_only (eqb kind 3) _ _ (λ e. at_kind op_bytes IsOp _ 3 kind (eqb-true kind 3 e) took_only) (λ n3.
    if_only (eqb kind 4) _ _ (λ e. at_kind op_bytes IsOp _ 4 kind (eqb-true kind 4 e) ended_only) (λ n4.
    if_only (eqb kind 5) _ _ (λ e. at_kind op_bytes IsOp _ 5 kind (eqb-true kind 5 e) cleanup_only) (λ n5.
    if_only (eqb kind 6) _ _ (λ e. at_kind op_bytes IsOp _ 6 kind (eqb-true kind 6 e) move_only) (λ n6.
    if_only (eqb kind 7) _ _ (λ e. at_kind op_bytes IsOp _ 7 kind (eqb-true kind 7 e) timer_only) (λ n7.
    if_only (eqb kind 8) _ _ (λ e. at_kind op_bytes IsOp _ 8 kind (eqb-true kind 8 e) put_only) (λ n8.
    at_kind op_bytes IsOp _ 9 kind (let a1 = eqb-false kind 1 n1 in let a2 = eqb-false kind 2 n2 in let a3 = eqb-false kind 3 n3 in let a4 = eqb-false kind 4 n4 in let a5 = eqb-false kind 5 n5 in let a6 = eqb-false kind 6 n6 in let a7 = eqb-false kind 7 n7 in let a8 = eqb-false kind 8 n8 in omega (arith, f.0, f.1, a1, a2, a3, a4, a5, a6, a7, a8)) delete_only))))))))

pub op_read : ReadsExactly op_bytes op_at IsOp
unfolding op_at
op_read = record { reads = op_again; spelled = then_exactly _ (byte_read 1 9 (lit< tt)) op_only }

-- ---- entries

made_read : ReadsExactly made_bytes made_at IsMade
unfolding made_bytes made_at
made_read = record {
  reads = λ m f. again_is made_at (simp (append-nil, append_assoc)) (then_again _ _ (handle_read.reads m.handle f.0) (then_again _ _ (handle_read.reads m.group f.1) (then_again _ _ (header_read.reads m.header f.2) (give_again _))));
  spelled = then_exactly _ handle_read (λ h fh. then_exactly _ handle_read (λ g fg. then_exactly _ header_read (λ d fd. give_only _ (simp (append-nil, append_assoc), (fh, fg, fd)))));
}

-- how many operations there are
count_read : ReadsExactly (number 4) count_at (λ n. (1 ≤ n) × (n < 2 ^ 32))
unfolding count_at
count_read = in_words (such_that_exactly (λ count. nat_le 1 count) (number_read 4)) (λ n g. (g.1, le-leb 1 n g.0)) (λ n f. (leb-true 1 n f.1, f.0))

entry_again : (x : Entry) → IsEntry x → ReadsAgain entry_at (entry_bytes x) x
unfolding entry_bytes entry_at defined_at txn_at accepted_at acked_at fired_at expired_at queue_set_at
entry_again (Defined ddl) f = again_is entry_at (simp (append-nil, append_assoc)) (then_again _ _ ((byte_read 1 7 (lit< tt)).reads 1 (lit≤ tt, lit≤ tt)) (then_again _ _ ((ddl_read).reads (ddl) f) (give_again _)))
entry_again (Txn tx ops) f = again_is entry_at (simp (append-nil, append_assoc)) (then_again _ _ ((byte_read 1 7 (lit< tt)).reads 2 (lit≤ tt, lit≤ tt)) (then_again _ _ ((number_read 8).reads (tx) f.0) (then_again _ _ ((count_read).reads (length ops) (f.1, f.2)) (then_again _ _ ((list_read op_read (length ops)).reads (ops) (refl, f.3)) (give_again _)))))
entry_again (Accepted side count made content) f = again_is entry_at (simp (append-nil, append_assoc)) (then_again _ _ ((byte_read 1 7 (lit< tt)).reads 3 (lit≤ tt, lit≤ tt)) (then_again _ _ ((side_read).reads (side) f.0) (then_again _ _ ((number_read 8).reads (count) f.1) (then_again _ _ ((optional_read made_read).reads (made) f.2) (then_again _ _ ((content_read).reads (content) f.3) (give_again _))))))
entry_again (Acked side upto closed) f = again_is entry_at (simp (append-nil, append_assoc)) (then_again _ _ ((byte_read 1 7 (lit< tt)).reads 4 (lit≤ tt, lit≤ tt)) (then_again _ _ ((side_read).reads (side) f.0) (then_again _ _ ((number_read 8).reads (upto) f.1) (then_again _ _ ((flag_read).reads (closed) tt) (give_again _)))))
entry_again (Fired side) f = again_is entry_at (simp (append-nil, append_assoc)) (then_again _ _ ((byte_read 1 7 (lit< tt)).reads 5 (lit≤ tt, lit≤ tt)) (then_again _ _ ((side_read).reads (side) f) (give_again _)))
entry_again (Expired side) f = again_is entry_at (simp (append-nil, append_assoc)) (then_again _ _ ((byte_read 1 7 (lit< tt)).reads 6 (lit≤ tt, lit≤ tt)) (then_again _ _ ((side_read).reads (side) f) (give_again _)))
entry_again (QueueSet queue on) f = again_is entry_at (simp (append-nil, append_assoc)) (then_again _ _ ((byte_read 1 7 (lit< tt)).reads 7 (lit≤ tt, lit≤ tt)) (then_again _ _ ((name_read).reads (queue) f) (then_again _ _ ((flag_read).reads (on) tt) (give_again _))))

defined_only : ReadsOnly defined_at (Behind entry_bytes IsEntry 1)
unfolding entry_bytes defined_at
defined_only = then_exactly _ (ddl_read) (λ ddl fddl. give_only _ (simp (append-nil, append_assoc), fddl))

txn_text : (tx count : ℕ) (ops : List Op) → length ops ≡ count → number 1 2 ++ (number 8 tx ++ (number 4 count ++ (flat_map op_bytes ops ++ []))) ≡ entry_bytes (Txn tx ops)
unfolding entry_bytes
txn_text tx count ops e = rw (← e) (simp (append-nil, append_assoc))

txn_only : ReadsOnly txn_at (Behind entry_bytes IsEntry 2)
unfolding entry_bytes txn_at
txn_only = then_exactly _ (number_read 8) (λ tx ftx. then_exactly _ (count_read) (λ count fcount. then_exactly _ (list_read op_read count) (λ ops fops. give_only _ (txn_text tx count ops fops.0, (ftx, (let l = fops.0 in omega (arith, fcount.0)), (let l = fops.0 in omega (arith, fcount.1)), fops.1)))))

accepted_only : ReadsOnly accepted_at (Behind entry_bytes IsEntry 3)
unfolding entry_bytes accepted_at
accepted_only = then_exactly _ (side_read) (λ side fside. then_exactly _ (number_read 8) (λ count fcount. then_exactly _ (optional_read made_read) (λ made fmade. then_exactly _ (content_read) (λ content fcontent. give_only _ (simp (append-nil, append_assoc), (fside, fcount, fmade, fcontent))))))

acked_only : ReadsOnly acked_at (Behind entry_bytes IsEntry 4)
unfolding entry_bytes acked_at
acked_only = then_exactly _ (side_read) (λ side fside. then_exactly _ (number_read 8) (λ upto fupto. then_exactly _ (flag_read) (λ closed fclosed. give_only _ (simp (append-nil, append_assoc), (fside, fupto)))))

fired_only : ReadsOnly fired_at (Behind entry_bytes IsEntry 5)
unfolding entry_bytes fired_at
fired_only = then_exactly _ (side_read) (λ side fside. give_only _ (simp (append-nil, append_assoc), fside))

expired_only : ReadsOnly expired_at (Behind entry_bytes IsEntry 6)
unfolding entry_bytes expired_at
expired_only = then_exactly _ (side_read) (λ side fside. give_only _ (simp (append-nil, append_assoc), fside))

queue_set_only : ReadsOnly queue_set_at (Behind entry_bytes IsEntry 7)
unfolding entry_bytes queue_set_at
queue_set_only = then_exactly _ (name_read) (λ queue fqueue. then_exactly _ (flag_read) (λ on fon. give_only _ (simp (append-nil, append_assoc), fqueue)))

entry_only : (kind : ℕ) → Between 1 7 kind → ReadsOnly (entry_of kind) (Behind entry_bytes IsEntry kind)
entry_only kind f =
    if_only (eqb kind 1) _ _ (λ e. at_kind entry_bytes IsEntry _ 1 kind (eqb-true kind 1 e) defined_only) (λ n1.
    if_only (eqb kind 2) _ _ (λ e. at_kind entry_bytes IsEntry _ 2 kind (eqb-true kind 2 e) txn_only) (λ n2.
    if_only (eqb kind 3) _ _ (λ e. at_kind entry_bytes IsEntry _ 3 kind (eqb-true kind 3 e) accepted_only) (λ n3.
    if_only (eqb kind 4) _ _ (λ e. at_kind entry_bytes IsEntry _ 4 kind (eqb-true kind 4 e) acked_only) (λ n4.
    if_only (eqb kind 5) _ _ (λ e. at_kind entry_bytes IsEntry _ 5 kind (eqb-true kind 5 e) fired_only) (λ n5.
    if_only (eqb kind 6) _ _ (λ e. at_kind entry_bytes IsEntry _ 6 kind (eqb-true kind 6 e) expired_only) (λ n6.
    at_kind entry_bytes IsEntry _ 7 kind (let a1 = eqb-false kind 1 n1 in let a2 = eqb-false kind 2 n2 in let a3 = eqb-false kind 3 n3 in let a4 = eqb-false kind 4 n4 in let a5 = eqb-false kind 5 n5 in let a6 = eqb-false kind 6 n6 in omega (arith, f.0, f.1, a1, a2, a3, a4, a5, a6)) queue_set_only))))))

pub entry_read : ReadsExactly entry_bytes entry_at IsEntry
unfolding entry_at
entry_read = record { reads = entry_again; spelled = then_exactly _ (byte_read 1 7 (lit< tt)) entry_only }
