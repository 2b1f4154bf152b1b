-- The BIGINT whose text a text is.
use Rattle.std.proofs.Common.{◌≡◌, ◌<◌, ◌^◌, Bool, true, false, ◌&&◌, Some, None, refl, ap, sym, ◌∙◌, subst, arith, ℤ, pos, negsuc, cond, to_z, of_z}
use Rattle.std.specs.Prelude.{Result, Ok, Err, FitsSigned}
use Rattle.std.specs.Result.{result_ok}
use Rattle.std.specs.Int.{w64}
use Rattle.std.specs.Int.Signed.{mag}
use Rattle.std.specs.Fmt.{signed_decimal}
use Rattle.std.specs.Str.Parse.{signed_digits_value, ParsesSigned}
use Rattle.std.specs.Cmp.Lexicographic.{same_text}
use Rattle.std.proofs.lemmas.Int.{to_z-of_z}
use Rattle.std.proofs.lemmas.Option.{none-some}
use Rattle.std.proofs.lemmas.Fmt.{parse-signed_decimal}
use Rattle.std.proofs.lemmas.Bool.{le-leb, leb-true, and_parts, and_from, and_right, false_from_ne_true}
use Rattle.sb_model.specs.Sides.{Bytes, same_name}
use Rattle.sb_value.specs.Values.{is_bigint, number_of_text}

bigint_from_fits : (z : ℤ) → FitsSigned w64 z → is_bigint z ≡ true
bigint_from_fits (pos n) fits = le-leb n 9223372036854775807 (omega (arith, fits.sfits))
bigint_from_fits (negsuc n) fits = and_from _ _ (le-leb n 9223372036854775807 (omega (arith, fits.sfits))) refl

below_from_bigint : (z : ℤ) → is_bigint z ≡ true → mag z < 2 ^ 63
below_from_bigint (pos n) e = omega (arith, leb-true n 9223372036854775807 e)
below_from_bigint (negsuc n) e = omega (arith, leb-true n 9223372036854775807 (and_parts _ _ e).0)

told : (text : Bytes) (t : Bool) → (is_bigint (signed_digits_value 10 text) && same_name (signed_decimal (signed_digits_value 10 text)) text) ≡ t → cond t (Some (signed_digits_value 10 text)) None ≡ number_of_text text
unfolding number_of_text
told text t e = rw e

module _ {E : Type 0} (text : Bytes) where
  read_as : (r : Result ℤ E) (n : ℤ) → ParsesSigned w64 10 text r → Some n ≡ result_ok r → FitsSigned w64 (signed_digits_value 10 text) × (n ≡ signed_digits_value 10 text)
  read_as (Ok m) n parses is = let same : n ≡ m = cc in (parses.0.1, same ∙ parses.1)
  read_as (Err d) n parses is = cc

  kept : (r : Result ℤ E) (n : ℤ) → ParsesSigned w64 10 text r → Some n ≡ result_ok r → to_z w64 (of_z w64 n) ≡ signed_digits_value 10 text
  kept r n parses is = let h = read_as r n parses is in to_z-of_z w64 n (subst (λ (z : ℤ). FitsSigned w64 z) (sym h.1) h.0) ∙ h.1

  -- a text that was read is its number's own text
  pub its_text : (r : Result ℤ E) (n : ℤ) → ParsesSigned w64 10 text r → Some n ≡ result_ok r → true ≡ same_name (signed_decimal (to_z w64 (of_z w64 n))) text → Some (to_z w64 (of_z w64 n)) ≡ number_of_text text
  its_text r n parses is same = let h = kept r n parses is in
      ap (λ (z : ℤ). Some z) h ∙ told text true (and_from _ _ (bigint_from_fits _ (read_as r n parses is).0) (sym (same ∙ ap (λ (z : ℤ). same_name (signed_decimal z) text) h)))

  -- or another spelling of it
  pub other_spelling : (r : Result ℤ E) (n : ℤ) → ParsesSigned w64 10 text r → Some n ≡ result_ok r → false ≡ same_name (signed_decimal (to_z w64 (of_z w64 n))) text → None ≡ number_of_text text
  other_spelling r n parses is other = told text false (and_right _ _ (sym (other ∙ ap (λ (z : ℤ). same_name (signed_decimal z) text) (kept r n parses is))))

  -- a text that can't be read is none of a BIGINT
  pub unread : (r : Result ℤ E) → ParsesSigned w64 10 text r → None ≡ result_ok r → None ≡ number_of_text text
  unread r parses is = told text false (false_from_ne_true _ (λ e.
      let h = and_parts _ _ e in
      let z = below_from_bigint (signed_digits_value 10 text) h.0 in
      let ok = parse-signed_decimal w64 (signed_digits_value 10 text) text r (record { sfits = z }) z (sym (same_text _ _ (sym h.1))) parses in
      none-some _ (is ∙ ap result_ok ok)))
