-- What exact reading gives: one spelling, and decoding of all of the bytes.
use Rattle.std.proofs.Common.{◌≡◌, ℕ, List, [], ◌∷◌, ◌++◌, Result, Ok, Err, refl, sym, ap, subst, ◌∙◌}
use Rattle.std.specs.Prelude.{IfOk}
use Rattle.sb_log.specs.declared.entries.Entry.{Entry}
use Rattle.sb_fields.specs.Spelling.{Bytes}
use Rattle.sb_fields.specs.Reading.{Read, Reading, whole}
use Rattle.sb_fields.specs.Laws.{OneSpelling}
use Rattle.sb_fields.proofs.Numbers.{AreBytes}
use Rattle.sb_fields.proofs.Readings.{ReadsExactly, whole_again, whole_only}
use Rattle.sb_model.specs.Reading.{entry_at, decode_entry}
use Rattle.sb_model.specs.Spelling.{entry_bytes}
use Rattle.sb_entry.specs.Values.{IsEntry}
use Rattle.sb_entry.specs.Decodes.{Decodes}
use Rattle.sb_entry.specs.declared.refused.EntryRefused.{EntryRefused}
use Rattle.sb_entry.proofs.EntryLaws.{entry_read}

-- what is read exactly has one spelling
pub one_from : {A : Type 0} {spell : A → Bytes} {read : Reading A} {Fits : A → Type 0} → ReadsExactly spell read Fits → OneSpelling spell Fits
one_from {A = A} {read = read} r a b x y fa fb e =
    let ok : (let got : Read A = Ok (a, x) in got) ≡ Ok (b, y) = sym ((r.reads a fa).again x) ∙ ap read e ∙ (r.reads b fb).again y in
    let same : (let p : A × Bytes = (a, x) in p) ≡ (b, y) = cc in
    (ap (λ (p : A × Bytes). p.0) same, ap (λ (p : A × Bytes). p.1) same)

pub decoded : (bytes : Bytes) (r : Result Entry EntryRefused) → AreBytes bytes → Decodes r (decode_entry bytes) → IfOk r (λ entry. IsEntry entry × (bytes ≡ entry_bytes entry))
decoded bytes (Ok entry) fits given = let p = whole_only entry_at _ entry_read.spelled bytes entry fits given in (p.1, p.0)
decoded bytes (Err e) fits given = tt

pub decodes_again : (bytes : Bytes) (entry : Entry) → IsEntry entry → bytes ≡ entry_bytes entry → decode_entry bytes ≡ Ok entry
decodes_again bytes entry fits e = ap decode_entry e ∙ whole_again entry_at (entry_bytes entry) entry (entry_read.reads entry fits)
