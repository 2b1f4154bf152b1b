-- Frames are read exactly.
use Rattle.std.proofs.Common.{◌≡◌, ℕ, zero, suc, ◌^◌, ◌<◌, ◌≤◌, Bool, true, false, eqb, List, [], ◌∷◌, ◌++◌, Result, Ok, Err, refl, sym, ap, subst, ◌∙◌, arith, append_assoc, lit<, lit≤}
use Rattle.std.specs.Prelude.{IfOk, nat_le}
use Rattle.std.proofs.lemmas.List.{append-nil}
use Rattle.std.proofs.lemmas.Bool.{eqb-true, eqb-false, leb-true, le-leb}
use Rattle.sb_log.specs.declared.messages.Frame.{Frame}
use Rattle.sb_log.specs.declared.messages.Frame.TheVariants.{Data, Ack}
use Rattle.sb_fields.specs.Spelling.{Bytes, number, flag}
use Rattle.sb_fields.specs.Reading.{Reading, read_then, give, such_that, number_at, flag_at, whole}
use Rattle.sb_fields.proofs.Numbers.{AreBytes}
use Rattle.sb_fields.proofs.Readings.{ReadsOnly, ReadsAgain, ReadsExactly, then_again, give_again, again_is, then_exactly, give_only, if_only, such_that_exactly, number_read, flag_read, whole_again, whole_only}
use Rattle.sb_model.specs.Spelling.{handle_bytes, side_bytes, header_bytes, content_bytes}
use Rattle.sb_model.specs.Reading.{byte_at}
use Rattle.sb_entry.proofs.MessageLaws.{in_words, handle_read, Between, byte_read, side_read, header_read, content_read}
use Rattle.sb_model.specs.Spelling.{mark, frame_bytes}
use Rattle.sb_model.specs.FrameReading.{message_number_at, data_at, ack_at, frame_of, frame_at, decode_frame}
use Rattle.sb_entry.proofs.FitsLaws.{header_fits, content_fits}
use Rattle.sb_frame.specs.Fields.{FrameFits}
use Rattle.sb_frame.specs.Values.{IsFrame}
use Rattle.sb_frame.specs.Decodes.{Decodes}
use Rattle.sb_frame.specs.declared.refused.FrameRefused.{FrameRefused}

message_number_read : ReadsExactly (number 8) message_number_at (λ n. (1 ≤ n) × (n < 2 ^ 64))
unfolding message_number_at
message_number_read = in_words (such_that_exactly (λ n. nat_le 1 n) (number_read 8)) (λ n g. (g.1, le-leb 1 n g.0)) (λ n f. (leb-true 1 n f.1, f.0))

-- one byte alone may stand there
fixed : (n : ℕ) → n < 256 → ReadsExactly (number 1) (byte_at n n) (Between n n)
fixed n lt = byte_read n n lt

frame_again : (x : Frame) → IsFrame x → ReadsAgain frame_at (frame_bytes x) x
unfolding frame_bytes mark frame_at data_at ack_at
frame_again (Data d) f = again_is frame_at (simp (append-nil, append_assoc)) (then_again _ _ ((fixed 0x53 (lit< tt)).reads 0x53 (lit≤ tt, lit≤ tt)) (then_again _ _ ((fixed 0x42 (lit< tt)).reads 0x42 (lit≤ tt, lit≤ tt)) (then_again _ _ ((fixed 1 (lit< tt)).reads 1 (lit≤ tt, lit≤ tt))
    (then_again _ _ ((byte_read 1 2 (lit< tt)).reads 1 (lit≤ tt, lit≤ tt)) (then_again _ _ (side_read.reads d.side f.0) (then_again _ _ (message_number_read.reads d.number f.1) (then_again _ _ (header_read.reads d.header f.2) (then_again _ _ (content_read.reads d.content f.3) (give_again _)))))))))
frame_again (Ack a) f = again_is frame_at (simp (append-nil, append_assoc)) (then_again _ _ ((fixed 0x53 (lit< tt)).reads 0x53 (lit≤ tt, lit≤ tt)) (then_again _ _ ((fixed 0x42 (lit< tt)).reads 0x42 (lit≤ tt, lit≤ tt)) (then_again _ _ ((fixed 1 (lit< tt)).reads 1 (lit≤ tt, lit≤ tt))
    (then_again _ _ ((byte_read 1 2 (lit< tt)).reads 2 (lit≤ tt, lit≤ tt)) (then_again _ _ (side_read.reads a.side f.0) (then_again _ _ ((number_read 8).reads a.upto f.1) (then_again _ _ (flag_read.reads a.closed tt) (then_again _ _ (handle_read.reads a.to f.2) (give_again _)))))))))

-- what stands behind the four first bytes
Behind : ℕ → ℕ → ℕ → ℕ → Frame → Bytes → Type 0
Behind s b version kind x more = (number 1 s ++ (number 1 b ++ (number 1 version ++ (number 1 kind ++ more))) ≡ frame_bytes x) × IsFrame x

data_only : ReadsOnly data_at (Behind 0x53 0x42 1 1)
unfolding Behind frame_bytes mark data_at
data_only = then_exactly _ side_read (λ s fs. then_exactly _ message_number_read (λ n fn. then_exactly _ header_read (λ h fh. then_exactly _ content_read (λ c fc. give_only _ (simp (append-nil, append_assoc), (fs, fn, fh, fc))))))

ack_only : ReadsOnly ack_at (Behind 0x53 0x42 1 2)
unfolding Behind frame_bytes mark ack_at
ack_only = then_exactly _ side_read (λ s fs. then_exactly _ (number_read 8) (λ u fu. then_exactly _ flag_read (λ c fc. then_exactly _ handle_read (λ t ft. give_only _ (simp (append-nil, append_assoc), (fs, fu, ft))))))

at_bytes : (read : Reading Frame) (s b version kind known : ℕ) → Between 0x53 0x53 s → Between 0x42 0x42 b → Between 1 1 version → kind ≡ known → ReadsOnly read (Behind 0x53 0x42 1 known) → ReadsOnly read (Behind s b version kind)
at_bytes read s b version kind known fs fb fv e r =
    let es : 0x53 ≡ s = omega (arith, fs.0, fs.1) in
    let eb : 0x42 ≡ b = omega (arith, fb.0, fb.1) in
    let ev : 1 ≡ version = omega (arith, fv.0, fv.1) in
    subst (λ k. ReadsOnly read (Behind s b version k)) (sym e) (subst (λ v. ReadsOnly read (Behind s b v known)) ev (subst (λ c. ReadsOnly read (Behind s c 1 known)) eb (subst (λ a. ReadsOnly read (Behind a 0x42 1 known)) es r)))

frame_only : (s b version kind : ℕ) → Between 0x53 0x53 s → Between 0x42 0x42 b → Between 1 1 version → Between 1 2 kind → ReadsOnly (frame_of kind) (Behind s b version kind)
frame_only s b version kind fs fb fv fk =
    if_only (eqb kind 1) _ _ (λ e. at_bytes _ s b version kind 1 fs fb fv (eqb-true kind 1 e) data_only)
    (λ n1. at_bytes _ s b version kind 2 fs fb fv (let a1 = eqb-false kind 1 n1 in omega (arith, fk.0, fk.1, a1)) ack_only)

pub frame_read : ReadsExactly frame_bytes frame_at IsFrame
unfolding frame_at Behind
frame_read = record {
  reads = frame_again;
  spelled = then_exactly _ (fixed 0x53 (lit< tt)) (λ s fs. then_exactly _ (fixed 0x42 (lit< tt)) (λ b fb. then_exactly _ (fixed 1 (lit< tt)) (λ v fv. then_exactly _ (byte_read 1 2 (lit< tt)) (λ k fk. frame_only s b v k fs fb fv fk))));
}

pub decoded : (bytes : Bytes) (r : Result Frame FrameRefused) → AreBytes bytes → Decodes r (decode_frame bytes) → IfOk r (λ frame. IsFrame frame × (bytes ≡ frame_bytes frame))
decoded bytes (Ok frame) fits given = let p = whole_only frame_at _ frame_read.spelled bytes frame fits given in (p.1, p.0)
decoded bytes (Err e) fits given = tt

pub decodes_again : (bytes : Bytes) (frame : Frame) → IsFrame frame → bytes ≡ frame_bytes frame → decode_frame bytes ≡ Ok frame
decodes_again bytes frame fits e = ap decode_frame e ∙ whole_again frame_at (frame_bytes frame) frame (frame_read.reads frame fits)

-- a frame that was decoded can be encoded
pub frame_fits : (x : Frame) → IsFrame x → FrameFits x
frame_fits (Data d) f = (f.1.0, header_fits d.header f.2, content_fits d.content f.3)
frame_fits (Ack a) f = tt
