-- Where a part of a text stands, the scanner finds it.
use Rattle.std.proofs.Common.{◌≡◌, ℕ, zero, suc, ◌+◌, ◌-◌, ◌%◌, ◌<◌, Bool, true, false, ◌&&◌, ◌||◌, cond, List, [], ◌∷◌, ◌++◌, length, Option, Some, refl, sym, ap, ◌∙◌, append_assoc, arith, inl, inr, ◌⊎◌}
use Rattle.std.proofs.lemmas.Grind.{common_steps}
use Rattle.std.proofs.lemmas.Bool.{eq-eqb, ne_eqb, eqb-true, and_left, and_right, and_parts}
use Rattle.std.proofs.lemmas.Bool.Decides.{nat_tests}
use Rattle.std.specs.Prelude.{slice_index, ◌==◌, codes}
use Rattle.std.specs.List.{list_all}
use Rattle.sb_lex.specs.declared.token.TokenKind.TheVariants.{Word, Bracketed, Quoted, Variable, Text, Binary, Number, Sign}
use Rattle.sb_lex.specs.declared.piece.Class.{Class}
use Rattle.sb_lex.specs.declared.piece.Class.TheVariants as class
use Rattle.sb_lex.specs.declared.piece.Piece.{Piece}
use Rattle.sb_lex.specs.declared.piece.Piece.TheVariants as piece
use Rattle.sb_lex.specs.Lex.{is_in, run, closing, comment, pairs, closed, passed, sign, other_at, piece_at}
use Rattle.sb_lex.specs.Cuts.{Part, blank, line_comment, comment as a_comment, token, doubled, quoted, begins, Closes, all_closed, closes, opens, goes_on, is_sign, AllIn, IsSpelled, AtLineEnd, Ends}
use Rattle.sb_lex.proofs.Spelled.{Stops, run_more, run_none}

abbrev pub piece_of : Part → ℕ → Piece
piece_of blank n = piece.Gap n
piece_of line_comment n = piece.Gap n
piece_of a_comment n = piece.Gap n
piece_of (token kind) n = piece.Token kind n

pub run_fits : (c : Class) (z rest : List ℕ) → AllIn c z → Stops c rest → run c (z ++ rest) ≡ length z
run_fits c [] [] all stops = refl
run_fits c [] (b ∷ rest) all stops = run_none c b rest stops
run_fits c (b ∷ z) rest all stops = let h = and_parts (is_in c b) (list_all (is_in c) z) all in run_more c b (z ++ rest) h.0 ∙ ap suc (run_fits c z rest h.1 stops)

pub stops_by : (c : Class) (rest : List ℕ) → is_in c (slice_index rest 0) ≡ false → Stops c rest
stops_by c [] h = tt
stops_by c (b ∷ rest) h = h

word_letter : (b : ℕ) → is_in class.Letter b ≡ true → is_in class.Word b ≡ true
word_letter b h = grind (arith, nat_tests)

word_not_quote : (b : ℕ) → is_in class.Word b ≡ true → (b == 39) ≡ false
word_not_quote b h = grind (arith, nat_tests)

no_text : (b : ℕ) (z rest : List ℕ) → AllIn class.Word z → (b ∷ z ≡ codes "N" → slice_index rest 0 ≡ 39 → ⊥) → (b == 78 && slice_index (z ++ rest) 0 == 39) ≡ false
no_text b (w ∷ z) rest all ends = and_right (b == 78) (w == 39) (word_not_quote w (and_parts (is_in class.Word w) (list_all (is_in class.Word) z) all).0)
no_text b [] rest all ends = by_test (b == 78) refl
  where
    by_test : (t : Bool) → (b == 78) ≡ t → (b == 78 && slice_index rest 0 == 39) ≡ false
    by_test false h = and_left (b == 78) (slice_index rest 0 == 39) h
    by_test true h = and_right (b == 78) (slice_index rest 0 == 39) (ne_eqb (slice_index rest 0) 39 (λ k. ends (ap (λ (n : ℕ). n ∷ []) (eqb-true b 78 h)) k))

word_fits : (b : ℕ) (z rest : List ℕ) → is_in class.Letter b ≡ true → AllIn class.Word z → is_in class.Word (slice_index rest 0) ≡ false
    → (b ∷ z ≡ codes "N" → slice_index rest 0 ≡ 39 → ⊥) → piece_at (b ∷ (z ++ rest)) ≡ piece.Token Word (suc (length z))
unfolding piece_at
word_fits b z rest letter all stops ends =
    let runs : run class.Word (b ∷ (z ++ rest)) ≡ suc (length z) = run_more class.Word b (z ++ rest) (word_letter b letter) ∙ ap suc (run_fits class.Word z rest all (stops_by class.Word rest stops)) in
    rw (letter, no_text b z rest all ends) (ap (piece.Token Word) runs)

variable_fits : (z rest : List ℕ) → AllIn class.Word z → is_in class.Word (slice_index rest 0) ≡ false → piece_at (64 ∷ (z ++ rest)) ≡ piece.Token Variable (suc (length z))
unfolding piece_at
variable_fits z rest all stops = ap (piece.Token Variable) (run_more class.Word 64 (z ++ rest) refl ∙ ap suc (run_fits class.Word z rest all (stops_by class.Word rest stops)))

no_letter : (b : ℕ) → is_in class.Digit b ≡ true → is_in class.Letter b ≡ false
no_letter b h = grind (arith, nat_tests)

no_at : (b : ℕ) → is_in class.Digit b ≡ true → (b == 64) ≡ false
no_at b h = grind (arith, nat_tests)

digit_not_x : (b : ℕ) → is_in class.Digit b ≡ true → (b == 120) ≡ false
digit_not_x b h = grind (arith, nat_tests)

no_binary : (b : ℕ) (z rest : List ℕ) → AllIn class.Digit z → (b ∷ z ≡ codes "0" → slice_index rest 0 ≡ 120 → ⊥) → (b == 48 && slice_index (z ++ rest) 0 == 120) ≡ false
no_binary b (w ∷ z) rest all ends = and_right (b == 48) (w == 120) (digit_not_x w (and_parts (is_in class.Digit w) (list_all (is_in class.Digit) z) all).0)
no_binary b [] rest all ends = by_test (b == 48) refl
  where
    by_test : (t : Bool) → (b == 48) ≡ t → (b == 48 && slice_index rest 0 == 120) ≡ false
    by_test false h = and_left (b == 48) (slice_index rest 0 == 120) h
    by_test true h = and_right (b == 48) (slice_index rest 0 == 120) (ne_eqb (slice_index rest 0) 120 (λ k. ends (ap (λ (n : ℕ). n ∷ []) (eqb-true b 48 h)) k))

number_fits : (b : ℕ) (z rest : List ℕ) → is_in class.Digit b ≡ true → AllIn class.Digit z → is_in class.Digit (slice_index rest 0) ≡ false
    → (b ∷ z ≡ codes "0" → slice_index rest 0 ≡ 120 → ⊥) → piece_at (b ∷ (z ++ rest)) ≡ piece.Token Number (suc (length z))
unfolding piece_at
number_fits b z rest digit all stops ends =
    let more : run class.Digit (z ++ rest) ≡ length z = run_fits class.Digit z rest all (stops_by class.Digit rest stops) in
    let runs : 1 + run class.Digit (z ++ rest) ≡ suc (length z) = omega arith in
    rw (no_letter b digit, no_at b digit, digit, no_binary b z rest all ends) (ap (piece.Token Number) runs)

no_pair : (at : ℕ) (z : List ℕ) → (is_in class.Hex (slice_index z 0) ≡ true → is_in class.Hex (slice_index z 1) ≡ false) → pairs at z ≡ at
no_pair at [] h = refl
no_pair at (a ∷ []) h = refl
no_pair at (a ∷ b ∷ z) h = by_test (is_in class.Hex a) refl
  where
    by_test : (t : Bool) → is_in class.Hex a ≡ t → pairs at (a ∷ b ∷ z) ≡ at
    by_test false k = ap (λ (v : Bool). cond v (pairs (at + 2) z) at) (and_left (is_in class.Hex a) (is_in class.Hex b) k)
    by_test true k = ap (λ (v : Bool). cond v (pairs (at + 2) z) at) (and_right (is_in class.Hex a) (is_in class.Hex b) (h k))

pairs_fit : (at : ℕ) (z rest : List ℕ) → length z % 2 ≡ 0 → AllIn class.Hex z → (is_in class.Hex (slice_index rest 0) ≡ true → is_in class.Hex (slice_index rest 1) ≡ false) → pairs at (z ++ rest) ≡ at + length z
pairs_fit at [] rest even all ends = let e : at ≡ at + 0 = omega arith in no_pair at rest ends ∙ e
pairs_fit at (a ∷ []) rest even all ends = absurd (omega arith)
pairs_fit at (a ∷ b ∷ z) rest even all ends =
    let h = and_parts (is_in class.Hex a) (list_all (is_in class.Hex) (b ∷ z)) all in
    let k = and_parts (is_in class.Hex b) (list_all (is_in class.Hex) z) h.1 in
    let less : length z % 2 ≡ 0 = omega arith in
    let e : (at + 2) + length z ≡ at + suc (suc (length z)) = omega arith in
    rw (h.0, k.0) (pairs_fit (at + 2) z rest less k.1 ends ∙ e)

binary_fits : (z rest : List ℕ) → length z % 2 ≡ 0 → AllIn class.Hex z → (is_in class.Hex (slice_index rest 0) ≡ true → is_in class.Hex (slice_index rest 1) ≡ false)
    → piece_at (48 ∷ 120 ∷ (z ++ rest)) ≡ piece.Token Binary (suc (suc (length z)))
unfolding piece_at
binary_fits z rest even all ends = let e : 2 + length z ≡ suc (suc (length z)) = omega arith in ap (piece.Token Binary) (pairs_fit 2 z rest even all ends ∙ e)

-- the closing quote is found behind a text with its quotes doubled
closing_fits : (quote at : ℕ) (z rest : List ℕ) → (slice_index rest 0 ≡ quote → ⊥) → closing quote false at (doubled quote z ++ quote ∷ rest) ≡ Some (at + length (doubled quote z) + 1)
closing_fits quote at [] rest ends =
    let same : (quote == quote) ≡ true = eq-eqb quote quote refl in
    let not_next : (slice_index rest 0 == quote) ≡ false = ne_eqb (slice_index rest 0) quote ends in
    let e : at + 1 ≡ at + 0 + 1 = omega arith in
    rw (same, not_next) (ap (λ (n : ℕ). let o : Option ℕ = Some n in o) e)
closing_fits quote at (b ∷ z) rest ends = by_test (λ n. closing_fits quote n z rest ends) (b == quote) refl
  where
    by_test : ((n : ℕ) → closing quote false n (doubled quote z ++ quote ∷ rest) ≡ Some (n + length (doubled quote z) + 1))
        → (t : Bool) → (b == quote) ≡ t → closing quote false at (doubled quote (b ∷ z) ++ quote ∷ rest) ≡ Some (at + length (doubled quote (b ∷ z)) + 1)
    by_test fits false h =
        let e : (at + 1) + length (doubled quote z) + 1 ≡ at + suc (length (doubled quote z)) + 1 = omega arith in
        rw (h, h) (fits (at + 1) ∙ ap (λ (n : ℕ). let o : Option ℕ = Some n in o) e)
    by_test fits true h =
        let same : (quote == quote) ≡ true = eq-eqb quote quote refl in
        let e : (at + 1) + 1 + length (doubled quote z) + 1 ≡ at + suc (suc (length (doubled quote z))) + 1 = omega arith in
        rw (h, same) (fits (at + 1 + 1) ∙ ap (λ (n : ℕ). let o : Option ℕ = Some n in o) e)

-- what is found with so many comments open
abbrev found_end : ℕ → ℕ → List ℕ → Option ℕ
found_end zero at z = Some at
found_end (suc depth) at z = comment (suc depth) false at z

abbrev some_at : ℕ → Option ℕ
some_at n = Some n

ends_one : (depth at : ℕ) (z : List ℕ) → comment (suc depth) false at (42 ∷ 47 ∷ z) ≡ found_end depth (at + 2) z
ends_one zero at z = refl
ends_one (suc depth) at z =
    let e : at + 1 + 1 ≡ at + 2 = omega arith in
    let d : suc (suc depth) - 1 ≡ suc depth = omega arith in
    let more : (suc (suc depth) == 1) ≡ false = ne_eqb (suc (suc depth)) 1 (λ h. absurd (omega arith)) in
    rw (more, d) (ap (λ (n : ℕ). comment (suc depth) false n z) e)

begins_one : (depth at : ℕ) (z : List ℕ) → comment (suc depth) false at (47 ∷ 42 ∷ z) ≡ comment (suc (suc depth)) false (at + 2) z
begins_one depth at z =
    let e : at + 1 + 1 ≡ at + 2 = omega arith in
    let d : suc depth + 1 ≡ suc (suc depth) = omega arith in
    rw d (ap (λ (n : ℕ). comment (suc (suc depth)) false n z) e)

-- an ending is not empty, so what follows it doesn't change its first two bytes
pub begins-append : (a c b : ℕ) (z rest : List ℕ) → 0 < length z → begins a c (b ∷ (z ++ rest)) ≡ begins a c (b ∷ z)
begins-append a c b [] rest some = absurd (omega arith)
begins-append a c b (w ∷ z) rest some = refl

pub some_ending : (depth : ℕ) (z : List ℕ) → Closes (suc depth) z → 0 < length z
some_ending depth z h = elim h as (λ n z _. 0 < n → 0 < length z) [ all_closed ↦ λ k. absurd (omega arith) | closes d z _ ↦ λ k. omega arith | opens d z _ ↦ λ k. omega arith | goes_on d b z _ _ _ ↦ λ k. omega arith ] (omega arith)

pub comment_fits : (depth at : ℕ) (z rest : List ℕ) → Closes depth z → found_end depth at (z ++ rest) ≡ some_at (at + length z)
comment_fits _ at _ rest all_closed = let e : at ≡ at + 0 = omega arith in ap some_at e
comment_fits _ at _ rest (closes depth z h) = let e : at + 2 + length z ≡ at + suc (suc (length z)) = omega arith in ends_one depth at (z ++ rest) ∙ comment_fits depth (at + 2) z rest h ∙ ap some_at e
comment_fits _ at _ rest (opens depth z h) =
    let e : at + 2 + length z ≡ at + suc (suc (length z)) = omega arith in begins_one depth at (z ++ rest) ∙ comment_fits (suc (suc depth)) (at + 2) z rest h ∙ ap some_at e
comment_fits _ at _ rest (goes_on depth b z no_open no_close h) =
    let e : at + 1 + length z ≡ at + suc (length z) = omega arith in
    let some = some_ending depth z h in
    let n : (b == 47 && slice_index (z ++ rest) 0 == 42) ≡ false = begins-append 47 42 b z rest some ∙ no_open in
    let m : (b == 42 && slice_index (z ++ rest) 0 == 47) ≡ false = begins-append 42 47 b z rest some ∙ no_close in
    rw (n, m) (comment_fits (suc depth) (at + 1) z rest h ∙ ap some_at e)

comment_piece : (z rest : List ℕ) → Closes 1 z → piece_at (47 ∷ 42 ∷ (z ++ rest)) ≡ piece.Gap (suc (suc (length z)))
unfolding piece_at other_at
comment_piece z rest h = let e : 2 + length z ≡ suc (suc (length z)) = omega arith in ap passed (comment_fits 1 2 z rest h) ∙ ap piece.Gap e

line_fits : (z rest : List ℕ) → AllIn class.Line z → AtLineEnd rest → piece_at (45 ∷ 45 ∷ (z ++ rest)) ≡ piece.Gap (suc (suc (length z)))
unfolding piece_at other_at
line_fits z rest all ends =
    let stops : Stops class.Line rest = elim rest as (λ rest. AtLineEnd rest → Stops class.Line rest) [ [] ↦ λ _. tt | b ∷ w ↦ λ h. rw h refl ] ends in
    let more : run class.Line (z ++ rest) ≡ length z = run_fits class.Line z rest all stops in
    let e : 1 + (1 + run class.Line (z ++ rest)) ≡ suc (suc (length z)) = omega arith in
    ap piece.Gap e

blank_fits : (b : ℕ) (rest : List ℕ) → is_in class.Blank b ≡ true → piece_at (b ∷ rest) ≡ piece.Gap 1
unfolding piece_at other_at
blank_fits b rest h =
    let letter : is_in class.Letter b ≡ false = grind (arith, nat_tests) in
    let at : (b == 64) ≡ false = grind (arith, nat_tests) in
    let digit : is_in class.Digit b ≡ false = grind (arith, nat_tests) in
    rw (letter, at, digit, h) refl

quoted_end : (first last : ℕ) (z rest : List ℕ) → quoted first last z ++ rest ≡ first ∷ (doubled last z ++ last ∷ rest)
quoted_end first last z rest = ap (λ (w : List ℕ). first ∷ w) (append_assoc (doubled last z) (last ∷ []) rest)

quoted_len : (first last : ℕ) (z : List ℕ) → length (quoted first last z) ≡ 1 + length (doubled last z) + 1
quoted_len first last z = grind (arith, common_steps)

text_fits : (z rest : List ℕ) → (slice_index rest 0 ≡ 39 → ⊥) → piece_at (39 ∷ (doubled 39 z ++ 39 ∷ rest)) ≡ piece.Token Text (1 + length (doubled 39 z) + 1)
unfolding piece_at other_at
text_fits z rest ends = ap (closed Text) (closing_fits 39 1 z rest ends)

national_fits : (z rest : List ℕ) → (slice_index rest 0 ≡ 39 → ⊥) → piece_at (78 ∷ 39 ∷ (doubled 39 z ++ 39 ∷ rest)) ≡ piece.Token Text (suc (1 + length (doubled 39 z) + 1))
unfolding piece_at
national_fits z rest ends = let e : 2 + length (doubled 39 z) + 1 ≡ suc (1 + length (doubled 39 z) + 1) = omega arith in ap (closed Text) (closing_fits 39 2 z rest ends) ∙ ap (piece.Token Text) e

double_fits : (z rest : List ℕ) → (slice_index rest 0 ≡ 34 → ⊥) → piece_at (34 ∷ (doubled 34 z ++ 34 ∷ rest)) ≡ piece.Token Quoted (1 + length (doubled 34 z) + 1)
unfolding piece_at other_at
double_fits z rest ends = ap (closed Quoted) (closing_fits 34 1 z rest ends)

bracket_fits : (z rest : List ℕ) → (slice_index rest 0 ≡ 93 → ⊥) → piece_at (91 ∷ (doubled 93 z ++ 93 ∷ rest)) ≡ piece.Token Bracketed (1 + length (doubled 93 z) + 1)
unfolding piece_at other_at
bracket_fits z rest ends = ap (closed Bracketed) (closing_fits 93 1 z rest ends)

abbrev is_any_sign : ℕ → Bool
is_any_sign b = b == 40 || b == 41 || b == 44 || b == 46 || b == 59 || b == 61 || b == 60 || b == 62 || b == 43 || b == 45 || b == 42

sign_is_any : (b : ℕ) → is_sign b ≡ true → is_any_sign b ≡ true
sign_is_any b h = grind (arith, nat_tests)

-- what a byte that is a sign is not
record NoOther (b : ℕ) : Type 0 where
  letter : is_in class.Letter b ≡ false
  at : (b == 64) ≡ false
  digit : is_in class.Digit b ≡ false
  space : is_in class.Blank b ≡ false
  slash : (b == 47) ≡ false
  quote : (b == 39) ≡ false
  double : (b == 34) ≡ false
  bracket : (b == 91) ≡ false

sign_no_other : (b : ℕ) → is_any_sign b ≡ true → NoOther b
sign_no_other b h = record {
  letter = grind (arith, nat_tests);
  at = grind (arith, nat_tests);
  digit = grind (arith, nat_tests);
  space = grind (arith, nat_tests);
  slash = grind (arith, nat_tests);
  quote = grind (arith, nat_tests);
  double = grind (arith, nat_tests);
  bracket = grind (arith, nat_tests);
}

not_pair : (a b c d : ℕ) → (b ∷ [] ≡ a ∷ [] → c ≡ d → ⊥) → (b == a && c == d) ≡ false
not_pair a b c d h = by_test (b == a) refl
  where
    by_test : (t : Bool) → (b == a) ≡ t → (b == a && c == d) ≡ false
    by_test false k = and_left (b == a) (c == d) k
    by_test true k = and_right (b == a) (c == d) (ne_eqb c d (h (ap (λ (n : ℕ). n ∷ []) (eqb-true b a k))))

sign_fits : (b : ℕ) (rest : List ℕ) → is_sign b ≡ true → (b ∷ [] ≡ codes "<" → slice_index rest 0 ≡ 62 → ⊥) → (b ∷ [] ≡ codes "-" → slice_index rest 0 ≡ 45 → ⊥) → piece_at (b ∷ rest) ≡ piece.Token Sign 1
unfolding piece_at other_at sign
sign_fits b rest h less minus =
    let any = sign_is_any b h in
    let no = sign_no_other b any in
    let line : (b == 45 && slice_index rest 0 == 45) ≡ false = not_pair 45 b (slice_index rest 0) 45 minus in
    let wide : (b == 60 && slice_index rest 0 == 62) ≡ false = not_pair 60 b (slice_index rest 0) 62 less in
    let open_comment : (b == 47 && slice_index rest 0 == 42) ≡ false = and_left (b == 47) (slice_index rest 0 == 42) no.slash in
    rw (no.letter, no.at, no.digit, no.space, line, open_comment, no.quote, no.double, no.bracket, wide, any) refl

wide_fits : (rest : List ℕ) → piece_at (60 ∷ 62 ∷ rest) ≡ piece.Token Sign 2
unfolding piece_at other_at sign
wide_fits rest = refl

-- what a spelling is, put back into the text
put : (part : Part) (s form rest : List ℕ) (n : ℕ) → s ≡ form → piece_at (form ++ rest) ≡ piece_of part n → length form ≡ n → piece_at (s ++ rest) ≡ piece_of part (length s)
put part s form rest n is found len = ap (λ (z : List ℕ). piece_at (z ++ rest)) is ∙ found ∙ ap (piece_of part) (sym len ∙ sym (ap length is))

text_form : (s z rest : List ℕ) → (s ≡ quoted 39 39 z) ⊎ (s ≡ 78 ∷ quoted 39 39 z) → (slice_index rest 0 ≡ 39 → ⊥) → piece_at (s ++ rest) ≡ piece.Token Text (length s)
text_form s z rest (inl is) ends = put (token Text) s (quoted 39 39 z) rest (1 + length (doubled 39 z) + 1) is (ap piece_at (quoted_end 39 39 z rest) ∙ text_fits z rest ends) (quoted_len 39 39 z)
text_form s z rest (inr is) ends =
    put (token Text) s (78 ∷ quoted 39 39 z) rest (suc (1 + length (doubled 39 z) + 1)) is (ap (λ (w : List ℕ). piece_at (78 ∷ w)) (quoted_end 39 39 z rest) ∙ national_fits z rest ends) (ap suc (quoted_len 39 39 z))

number_form : (s rest : List ℕ) → 0 < length s → AllIn class.Digit s → is_in class.Digit (slice_index rest 0) ≡ false → (s ≡ codes "0" → slice_index rest 0 ≡ 120 → ⊥) → piece_at (s ++ rest) ≡ piece.Token Number (length s)
number_form [] rest some all stops ends = absurd (omega arith)
number_form (b ∷ z) rest some all stops ends = let h = and_parts (is_in class.Digit b) (list_all (is_in class.Digit) z) all in number_fits b z rest h.0 h.1 stops ends

one_sign : (s rest : List ℕ) (b : ℕ) → s ≡ b ∷ [] → is_sign b ≡ true → (s ≡ codes "<" → slice_index rest 0 ≡ 62 → ⊥) → (s ≡ codes "-" → slice_index rest 0 ≡ 45 → ⊥) → piece_at (s ++ rest) ≡ piece.Token Sign (length s)
one_sign s rest b is sign less minus = put (token Sign) s (b ∷ []) rest 1 is (sign_fits b rest sign (λ e. less (is ∙ e)) (λ e. minus (is ∙ e))) refl

sign_form : (s rest : List ℕ) → IsSpelled (token Sign) s → (s ≡ codes "<" → slice_index rest 0 ≡ 62 → ⊥) → (s ≡ codes "-" → slice_index rest 0 ≡ 45 → ⊥) → piece_at (s ++ rest) ≡ piece.Token Sign (length s)
sign_form s rest (inl is) less minus = put (token Sign) s (60 ∷ 62 ∷ []) rest 2 is (wide_fits rest) refl
sign_form s rest (inr (b, is, sign)) less minus = one_sign s rest b is sign less minus

-- where a part stands, it is found
pub fits : (part : Part) (s rest : List ℕ) → IsSpelled part s → Ends part s rest → piece_at (s ++ rest) ≡ piece_of part (length s)
fits blank s rest (b, is, space) ends = put blank s (b ∷ []) rest 1 is (blank_fits b rest space) refl
fits line_comment s rest (z, is, all) ends = put line_comment s (45 ∷ 45 ∷ z) rest (suc (suc (length z))) is (line_fits z rest all ends) refl
fits a_comment s rest (z, is, h) ends = put a_comment s (47 ∷ 42 ∷ z) rest (suc (suc (length z))) is (comment_piece z rest h) refl
fits (token Word) s rest (b, z, is, letter, all) ends = put (token Word) s (b ∷ z) rest (suc (length z)) is (word_fits b z rest letter all ends.0 (λ e. ends.1 (is ∙ e))) refl
fits (token Bracketed) s rest (z, is) ends = put (token Bracketed) s (quoted 91 93 z) rest (1 + length (doubled 93 z) + 1) is (ap piece_at (quoted_end 91 93 z rest) ∙ bracket_fits z rest ends) (quoted_len 91 93 z)
fits (token Quoted) s rest (z, is) ends = put (token Quoted) s (quoted 34 34 z) rest (1 + length (doubled 34 z) + 1) is (ap piece_at (quoted_end 34 34 z rest) ∙ double_fits z rest ends) (quoted_len 34 34 z)
fits (token Variable) s rest (z, is, all) ends = put (token Variable) s (64 ∷ z) rest (suc (length z)) is (variable_fits z rest all ends) refl
fits (token Text) s rest (z, is) ends = text_form s z rest is ends
fits (token Binary) s rest (z, is, even, all) ends = put (token Binary) s (48 ∷ 120 ∷ z) rest (suc (suc (length z))) is (binary_fits z rest even all ends) refl
fits (token Number) s rest (some, all) ends = number_form s rest some all ends.0 ends.1
fits (token Sign) s rest is ends = sign_form s rest is ends.0 ends.1
