-- Sides, headers and contents are read exactly.
use Rattle.std.proofs.Common.{◌≡◌, ℕ, ℤ, zero, suc, ◌+◌, ◌^◌, ◌<◌, ◌≤◌, Bool, true, false, cond, eqb, leb, ◌&&◌, List, [], ◌∷◌, ◌++◌, length, Option, Some, None, refl, sym, ap, subst, ◌∙◌, arith, append_assoc, lit<, lit≤}
use Rattle.std.specs.Prelude.{IfSome, FitsSigned, nat_le, ◌==◌, if◌then◌else◌}
use Rattle.std.specs.Int.{w64, cast_unsigned, cast_signed}
use Rattle.std.specs.Str.{is_utf8}
use Rattle.std.proofs.lemmas.List.{append-nil}
use Rattle.std.proofs.lemmas.Bool.{and_parts, and_from, leb-true, le-leb, eqb-true, eqb-false}
use mir.Facts.{Fits-of_z, of_z-to_z, to_z-of_z, sfits_to_z}
use Rattle.sb_log.specs.Names.{is_name}
use Rattle.sb_log.specs.declared.identifiers.Handle.{Handle}
use Rattle.sb_log.specs.declared.identifiers.SideId.{SideId}
use Rattle.sb_log.specs.declared.messages.Header.{Header}
use Rattle.sb_log.specs.declared.messages.Content.{Content}
use Rattle.sb_log.specs.declared.messages.Content.TheVariants as content
use Rattle.sb_fields.specs.Spelling.{Bytes, number, text16, bytes32, flag, optional, IsText16}
use Rattle.sb_fields.specs.Taking.{take_text16, take_bytes32}
use Rattle.sb_fields.specs.Reading.{Reading, read_then, give, field, such_that, number_at, flag_at, optional_at}
use Rattle.sb_fields.proofs.Takings.{text16_exactly, bytes32_exactly}
use Rattle.sb_fields.proofs.Readings.{ReadsOnly, ReadsAgain, ReadsExactly, then_again, give_again, again_is, then_exactly, give_only, if_only, field_exactly, such_that_exactly, number_read, flag_read, optional_read}
use Rattle.sb_model.specs.Spelling.{handle_bytes, side_bytes, bigint_bytes, header_bytes, content_bytes}
use Rattle.sb_model.specs.Reading.{text_at, bytes_at, name_at, long_text_at, handle_at, bigint_at, byte_at, side_at, header_at, app_at, error_at, content_of, content_at}
use Rattle.sb_entry.specs.Values.{IsHandle, IsSide, IsNameText, IsBytes32, IsLongText, IsHeader, IsContent}

-- values that fit in another wording
pub in_words : {A : Type 0} {spell : A → Bytes} {read : Reading A} {F G : A → Type 0} → ReadsExactly spell read F → ((x : A) → G x → F x) → ((x : A) → F x → G x) → ReadsExactly spell read G
in_words r there back = record {
  reads = λ x g. r.reads x (there x g);
  spelled = record { only = λ bytes x rest fits e. let p = r.spelled.only bytes x rest fits e in (p.0, p.1, (p.2.0, back x p.2.1)) };
}

pub text_read : ReadsExactly text16 text_at IsText16
text_read = field_exactly text16_exactly

pub bytes_read : ReadsExactly bytes32 bytes_at IsBytes32
bytes_read = field_exactly bytes32_exactly

pub name_read : ReadsExactly text16 name_at IsNameText
unfolding name_at
name_read = such_that_exactly is_name text_read

pub long_text_read : ReadsExactly bytes32 long_text_at IsLongText
unfolding long_text_at
long_text_read = such_that_exactly is_utf8 bytes_read

pub handle_read : ReadsExactly handle_bytes handle_at IsHandle
unfolding handle_bytes handle_at
handle_read = record {
  reads = λ h f. again_is handle_at (append-nil (number 16 h.0)) (then_again _ _ ((number_read 16).reads h.0 f) (give_again _));
  spelled = then_exactly _ (number_read 16) (λ n f. give_only _ (append-nil (number 16 n), f));
}

bigint_text : (n : ℕ) → n < 256 ^ 8 → number 8 n ++ [] ≡ bigint_bytes (cast_signed w64 n)
unfolding bigint_bytes
bigint_text n f = append-nil (number 8 n) ∙ ap (number 8) (sym (of_z-to_z {w = w64} (record { fits = f })))

bigint_again : (z : ℤ) → FitsSigned w64 z → ReadsAgain bigint_at (bigint_bytes z) z
unfolding bigint_bytes bigint_at
bigint_again z f = subst (λ (y : ℤ). ReadsAgain bigint_at (number 8 (cast_unsigned w64 z)) y) (to_z-of_z f)
    (again_is bigint_at (append-nil (number 8 (cast_unsigned w64 z))) (then_again _ _ ((number_read 8).reads (cast_unsigned w64 z) (Fits-of_z f).fits) (give_again _)))

pub bigint_read : ReadsExactly bigint_bytes bigint_at (FitsSigned w64)
unfolding bigint_at
bigint_read = record {
  reads = bigint_again;
  spelled = then_exactly _ (number_read 8) (λ n f. give_only _ (bigint_text n f, sfits_to_z (record { fits = f })));
}

-- a byte between two bounds
abbrev pub Between : ℕ → ℕ → ℕ → Type 0
Between least most n = (least ≤ n) × (n ≤ most)

pub byte_read : (least most : ℕ) → most < 256 → ReadsExactly (number 1) (byte_at least most) (Between least most)
unfolding byte_at
byte_read least most lt = in_words (such_that_exactly (λ byte. nat_le least byte && nat_le byte most) (number_read 1))
    (λ n g. (omega (arith, lt, g.1), and_from (leb least n) (leb n most) (le-leb least n g.0) (le-leb n most g.1)))
    (λ n f. let p = and_parts (leb least n) (leb n most) f.1 in (leb-true least n p.0, leb-true n most p.1))

-- ---- sides

side_again : (s : SideId) → (part : Bool) → IsHandle s.conversation → ReadsAgain side_at (side_bytes (record { conversation = s.conversation; initiator = part })) (record { conversation = s.conversation; initiator = part })
unfolding side_bytes side_at
side_again s true f = again_is side_at (simp append-nil) (then_again _ _ (handle_read.reads s.conversation f) (then_again _ _ ((byte_read 1 2 (lit< tt)).reads 1 (lit≤ tt, lit≤ tt)) (give_again _)))
side_again s false f = again_is side_at (simp append-nil) (then_again _ _ (handle_read.reads s.conversation f) (then_again _ _ ((byte_read 1 2 (lit< tt)).reads 2 (lit≤ tt, lit≤ tt)) (give_again _)))

part_is : (n : ℕ) → Between 1 2 n → n ≡ (if n == 1 then 1 else 2)
part_is zero f = absurd (omega (arith, f.0))
part_is (suc zero) f = refl
part_is (suc (suc zero)) f = refl
part_is (suc (suc (suc n))) f = absurd (omega (arith, f.1))

side_text : (c : Handle) (n : ℕ) → Between 1 2 n → handle_bytes c ++ (number 1 n ++ []) ≡ side_bytes (record { conversation = c; initiator = n == 1 })
unfolding side_bytes
side_text c n f = ap (λ (t : List ℕ). handle_bytes c ++ t) (append-nil (number 1 n)) ∙ ap (λ (k : ℕ). handle_bytes c ++ number 1 k) (part_is n f)

pub side_read : ReadsExactly side_bytes side_at IsSide
unfolding side_at
side_read = record {
  reads = λ s f. side_again s s.initiator f;
  spelled = then_exactly _ handle_read (λ c fc. then_exactly _ (byte_read 1 2 (lit< tt)) (λ n fn. give_only _ (side_text c n fn, fc)));
}

-- ---- headers

pub header_read : ReadsExactly header_bytes header_at IsHeader
unfolding header_bytes header_at
header_read = record {
  reads = λ h f. again_is header_at (simp (append-nil, append_assoc)) (then_again _ _ (name_read.reads h.from_service f.0) (then_again _ _ (name_read.reads h.to_service f.1) (then_again _ _ (name_read.reads h.contract f.2)
      (then_again _ _ (handle_read.reads h.from f.3) (then_again _ _ ((optional_read handle_read).reads h.to f.4) (then_again _ _ ((number_read 8).reads h.expires f.5) (give_again _)))))));
  spelled = then_exactly _ name_read (λ a fa. then_exactly _ name_read (λ b fb. then_exactly _ name_read (λ c fc. then_exactly _ handle_read (λ d fd. then_exactly _ (optional_read handle_read) (λ e fe. then_exactly _ (number_read 8) (λ x fx.
      give_only _ (simp (append-nil, append_assoc), (fa, fb, fc, fd, fe, fx))))))));
}

-- ---- contents

content_again : (x : Content) → IsContent x → ReadsAgain content_at (content_bytes x) x
unfolding content_bytes content_at app_at error_at
content_again (content.App kind body) f = again_is content_at (simp (append-nil, append_assoc)) (then_again _ _ ((byte_read 1 3 (lit< tt)).reads 1 (lit≤ tt, lit≤ tt)) (then_again _ _ (name_read.reads kind f.0) (then_again _ _ ((optional_read bytes_read).reads body f.1) (give_again _))))
content_again content.EndDialog f = again_is content_at (append-nil (number 1 2)) (then_again _ _ ((byte_read 1 3 (lit< tt)).reads 2 (lit≤ tt, lit≤ tt)) (give_again _))
content_again (content.Error code text) f = again_is content_at (simp (append-nil, append_assoc)) (then_again _ _ ((byte_read 1 3 (lit< tt)).reads 3 (lit≤ tt, lit≤ tt)) (then_again _ _ ((number_read 4).reads code f.0) (then_again _ _ (text_read.reads text f.1) (give_again _))))

-- what stands behind the byte that tells the kind
abbrev pub Behind : {A : Type 0} → (A → Bytes) → (A → Type 0) → ℕ → A → Bytes → Type 0
Behind spell Fits kind x more = (number 1 kind ++ more ≡ spell x) × Fits x

app_only : ReadsOnly app_at (Behind content_bytes IsContent 1)
unfolding content_bytes app_at
app_only = then_exactly _ name_read (λ k fk. then_exactly _ (optional_read bytes_read) (λ b fb. give_only _ (simp (append-nil, append_assoc), (fk, fb))))

error_only : ReadsOnly error_at (Behind content_bytes IsContent 3)
unfolding content_bytes error_at
error_only = then_exactly _ (number_read 4) (λ c fc. then_exactly _ text_read (λ t ft. give_only _ (simp (append-nil, append_assoc), (fc, ft))))

end_only : ReadsOnly (give content.EndDialog) (Behind content_bytes IsContent 2)
unfolding content_bytes
end_only = give_only _ (append-nil (number 1 2), tt)

-- the kind is the one that was tested
pub at_kind : {A : Type 0} (spell : A → Bytes) (Fits : A → Type 0) (read : Reading A) (known kind : ℕ) → kind ≡ known → ReadsOnly read (Behind spell Fits known) → ReadsOnly read (Behind spell Fits kind)
at_kind spell Fits read known kind e r = subst (λ (k : ℕ). ReadsOnly read (Behind spell Fits k)) (sym e) r

content_only : (kind : ℕ) → Between 1 3 kind → ReadsOnly (content_of kind) (Behind content_bytes IsContent kind)
content_only kind f =
    if_only (eqb kind 1) _ _ (λ e. at_kind content_bytes IsContent _ 1 kind (eqb-true kind 1 e) app_only) (λ n1.
    if_only (eqb kind 2) _ _ (λ e. at_kind content_bytes IsContent _ 2 kind (eqb-true kind 2 e) end_only) (λ n2.
    at_kind content_bytes IsContent _ 3 kind (let a = eqb-false kind 1 n1 in let b = eqb-false kind 2 n2 in omega (arith, f.0, f.1, a, b)) error_only))

pub content_read : ReadsExactly content_bytes content_at IsContent
unfolding content_at
content_read = record { reads = content_again; spelled = then_exactly _ (byte_read 1 3 (lit< tt)) content_only }
