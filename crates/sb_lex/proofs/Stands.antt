-- What the scanner finds stands there.
use Rattle.std.proofs.Common.{◌≡◌, ℕ, zero, suc, ◌+◌, ◌-◌, ◌%◌, ◌<◌, Bool, true, false, not, ◌&&◌, ◌||◌, cond, List, [], ◌∷◌, ◌++◌, length, take, drop, Option, Some, None, refl, sym, ap, subst, ◌∙◌, append_assoc, arith, inl, inr}
use Rattle.std.proofs.lemmas.Grind.{common_steps}
use Rattle.std.proofs.lemmas.List.{take-append-drop}
use Rattle.std.proofs.lemmas.List.Folds.{length-prefix_len}
use Rattle.std.proofs.lemmas.Bool.{true≢false, eq-eqb, ne_eqb, eqb-true, eqb-false, and_parts, and_from, cond_both}
use Rattle.std.proofs.lemmas.Bool.Decides.{nat_tests}
use Rattle.std.specs.Prelude.{slice_index, ◌==◌, codes, if◌then◌else◌}
use Rattle.std.specs.List.{list_all}
use Rattle.sb_lex.specs.declared.token.TokenKind.TheVariants.{Word, Bracketed, Quoted, Variable, Text, Binary, Number, Sign}
use Rattle.sb_lex.specs.declared.piece.Class.{Class}
use Rattle.sb_lex.specs.declared.piece.Class.TheVariants as class
use Rattle.sb_lex.specs.declared.piece.Piece.{Piece}
use Rattle.sb_lex.specs.declared.piece.Piece.TheVariants as piece
use Rattle.sb_lex.specs.Lex.{is_in, run, closing, comment, pairs, closed, passed, letter_at, digit_at, sign, other_at, piece_at}
use Rattle.sb_lex.specs.Cuts.{Part, blank, line_comment, comment as a_comment, token, doubled, quoted, begins, Closes, all_closed, closes, opens, goes_on, is_sign, AllIn, IsSpelled, AtLineEnd, Ends}
use Rattle.sb_lex.proofs.Spelled.{Stops, run_more, run_all, run_stops}
use Rattle.sb_lex.proofs.Fits.{piece_of, begins-append, some_ending}

-- a part stands in front, and this piece says so
pub record Stands (p : Piece) (z : List ℕ) : Type 0 where
  pub part : Part
  pub bytes : List ℕ
  pub rest : List ℕ
  pub whole : z ≡ bytes ++ rest
  pub spelled : IsSpelled part bytes
  pub ends : Ends part bytes rest
  pub is : p ≡ piece_of part (length bytes)

abbrev pub IsFound : Piece → List ℕ → Type 0
IsFound piece.Unlexed z = Unit {0}
IsFound (piece.Gap len) z = Stands (piece.Gap len) z
IsFound (piece.Token kind len) z = Stands (piece.Token kind len) z

abbrev some_is : ℕ → Option ℕ
some_is n = Some n

some_parts : (n m : ℕ) → some_is n ≡ some_is m → n ≡ m
some_parts n m e = cc

none_is_not : (n : ℕ) → None ≡ some_is n → ⊥
none_is_not n e = cc

-- a text with its quotes doubled, its closing quote, and no quote behind
record IsClosed (quote at : ℕ) (z : List ℕ) (end : ℕ) : Type 0 where
  text : List ℕ
  rest : List ℕ
  whole : z ≡ doubled quote text ++ quote ∷ rest
  len : end ≡ at + length (doubled quote text) + 1
  next : slice_index rest 0 ≡ quote → ⊥

-- the same behind the second of a doubled quote
record SecondClosed (quote at : ℕ) (z : List ℕ) (end : ℕ) : Type 0 where
  second : ℕ
  tail : List ℕ
  whole : z ≡ second ∷ tail
  closed_then : IsClosed quote (at + 1) tail end

abbrev ClosedBy : Bool → ℕ → ℕ → List ℕ → ℕ → Type 0
ClosedBy false quote at z end = IsClosed quote at z end
ClosedBy true quote at z end = SecondClosed quote at z end

not_false : (t : Bool) → not t ≡ true → t ≡ false
not_false true h = absurd (true≢false (sym h))
not_false false h = refl

closed_first : (quote at b : ℕ) (z : List ℕ) (end : ℕ) → (b == quote && not (slice_index z 0 == quote)) ≡ true → some_is (at + 1) ≡ some_is end → IsClosed quote at (b ∷ z) end
closed_first quote at b z end t e =
    let h = and_parts (b == quote) (not (slice_index z 0 == quote)) t in
    let is : end ≡ at + 1 = sym (some_parts (at + 1) end e) in
    record { text = []; rest = z; whole = ap (λ (n : ℕ). n ∷ z) (eqb-true b quote h.0); len = omega arith; next = eqb-false (slice_index z 0) quote (not_false (slice_index z 0 == quote) h.1) }

closed_other : (quote at b : ℕ) (z : List ℕ) (end : ℕ) → (b == quote) ≡ false → IsClosed quote (at + 1) z end → IsClosed quote at (b ∷ z) end
closed_other quote at b z end apart C =
    let form : doubled quote (b ∷ C.text) ≡ b ∷ doubled quote C.text = ap (λ (t : Bool). cond t (quote ∷ quote ∷ doubled quote C.text) (b ∷ doubled quote C.text)) apart in
    let n : length (doubled quote (b ∷ C.text)) ≡ suc (length (doubled quote C.text)) = ap length form in
    let l = C.len in
    record { text = b ∷ C.text; rest = C.rest; whole = ap (λ (w : List ℕ). b ∷ w) C.whole ∙ ap (λ (w : List ℕ). w ++ quote ∷ C.rest) (sym form); len = omega arith; next = C.next }

first_of_cons : (c : ℕ) (z w : List ℕ) → z ≡ c ∷ w → slice_index z 0 ≡ c
first_of_cons c z w e = ap (λ (v : List ℕ). slice_index v 0) e

closed_doubled : (quote at b : ℕ) (z : List ℕ) (end : ℕ) → (b == quote) ≡ true → (slice_index z 0 == quote) ≡ true → SecondClosed quote (at + 1) z end → IsClosed quote at (b ∷ z) end
closed_doubled quote at b z end first second S =
    let C = S.closed_then in
    let form : doubled quote (b ∷ C.text) ≡ quote ∷ quote ∷ doubled quote C.text = ap (λ (t : Bool). cond t (quote ∷ quote ∷ doubled quote C.text) (b ∷ doubled quote C.text)) first in
    let n : length (doubled quote (b ∷ C.text)) ≡ suc (suc (length (doubled quote C.text))) = ap length form in
    let l = C.len in
    let is_b : b ≡ quote = eqb-true b quote first in
    let is_c : S.second ≡ quote = sym (first_of_cons S.second z S.tail S.whole) ∙ eqb-true (slice_index z 0) quote second in
    record {
      text = b ∷ C.text;
      rest = C.rest;
      whole = ap (λ (n : ℕ). n ∷ z) is_b ∙ ap (λ (w : List ℕ). quote ∷ w) (S.whole ∙ ap (λ (n : ℕ). n ∷ S.tail) is_c ∙ ap (λ (w : List ℕ). quote ∷ w) C.whole) ∙ ap (λ (w : List ℕ). w ++ quote ∷ C.rest) (sym form);
      len = omega arith;
      next = C.next;
    }

closing_found : (quote : ℕ) (second : Bool) (at : ℕ) (z : List ℕ) (end : ℕ) → closing quote second at z ≡ some_is end → ClosedBy second quote at z end
closing_found quote true at [] end e = absurd (none_is_not end e)
closing_found quote true at (b ∷ z) end e = record { second = b; tail = z; whole = refl; closed_then = closing_found quote false (at + 1) z end e }
closing_found quote false at [] end e = absurd (none_is_not end e)
closing_found quote false at (b ∷ z) end e = by_end (closing_found quote (b == quote) (at + 1) z end) (b == quote && not (slice_index z 0 == quote)) refl
  where
    by_quote : (t : Bool) → (b == quote) ≡ t → (b == quote && not (slice_index z 0 == quote)) ≡ false → ClosedBy t quote (at + 1) z end → IsClosed quote at (b ∷ z) end
    by_quote false h k C = closed_other quote at b z end h C
    by_quote true h k S = closed_doubled quote at b z end h (grind arith) S

    by_end : (closing quote (b == quote) (at + 1) z ≡ some_is end → ClosedBy (b == quote) quote (at + 1) z end) → (t : Bool) → (b == quote && not (slice_index z 0 == quote)) ≡ t → IsClosed quote at (b ∷ z) end
    by_end rec true t = closed_first quote at b z end t (sym (ap (λ (v : Bool). cond v (Some (at + 1)) (closing quote (b == quote) (at + 1) z)) t) ∙ e)
    by_end rec false t = by_quote (b == quote) refl t (rec (sym (ap (λ (v : Bool). cond v (Some (at + 1)) (closing quote (b == quote) (at + 1) z)) t) ∙ e))

-- an ending of so many comments, and what stands behind
record IsEnded (depth at : ℕ) (z : List ℕ) (end : ℕ) : Type 0 where
  ending : List ℕ
  rest : List ℕ
  whole : z ≡ ending ++ rest
  len : end ≡ at + length ending
  is : Closes depth ending

record SecondEnded (depth at : ℕ) (z : List ℕ) (end : ℕ) : Type 0 where
  second : ℕ
  tail : List ℕ
  whole : z ≡ second ∷ tail
  ended_then : IsEnded depth (at + 1) tail end

abbrev EndedBy : Bool → ℕ → ℕ → List ℕ → ℕ → Type 0
EndedBy false depth at z end = IsEnded depth at z end
EndedBy true depth at z end = SecondEnded depth at z end

second_is : (c d : ℕ) (z w : List ℕ) → z ≡ c ∷ w → (slice_index z 0 == d) ≡ true → c ≡ d
second_is c d z w e t = sym (first_of_cons c z w e) ∙ eqb-true (slice_index z 0) d t

comment_opens : (depth at b : ℕ) (z : List ℕ) (end : ℕ) → (b == 47 && slice_index z 0 == 42) ≡ true → SecondEnded (suc (suc depth)) (at + 1) z end → IsEnded (suc depth) at (b ∷ z) end
comment_opens depth at b z end t S =
    let h = and_parts (b == 47) (slice_index z 0 == 42) t in
    let E = S.ended_then in
    let l = E.len in
    record {
      ending = 47 ∷ 42 ∷ E.ending;
      rest = E.rest;
      whole = ap (λ (n : ℕ). n ∷ z) (eqb-true b 47 h.0) ∙ ap (λ (w : List ℕ). 47 ∷ w) (S.whole ∙ ap (λ (n : ℕ). n ∷ S.tail) (second_is S.second 42 z S.tail S.whole h.1) ∙ ap (λ (w : List ℕ). 42 ∷ w) E.whole);
      len = omega arith;
      is = opens depth E.ending E.is;
    }

comment_closes : (depth at b : ℕ) (z : List ℕ) (end : ℕ) → (b == 42 && slice_index z 0 == 47) ≡ true → SecondEnded depth (at + 1) z end → IsEnded (suc depth) at (b ∷ z) end
comment_closes depth at b z end t S =
    let h = and_parts (b == 42) (slice_index z 0 == 47) t in
    let E = S.ended_then in
    let l = E.len in
    record {
      ending = 42 ∷ 47 ∷ E.ending;
      rest = E.rest;
      whole = ap (λ (n : ℕ). n ∷ z) (eqb-true b 42 h.0) ∙ ap (λ (w : List ℕ). 42 ∷ w) (S.whole ∙ ap (λ (n : ℕ). n ∷ S.tail) (second_is S.second 47 z S.tail S.whole h.1) ∙ ap (λ (w : List ℕ). 47 ∷ w) E.whole);
      len = omega arith;
      is = closes depth E.ending E.is;
    }

-- the last `*/`
comment_ends : (at : ℕ) (z : List ℕ) (end : ℕ) → (slice_index z 0 == 47) ≡ true → some_is (at + 2) ≡ some_is end → SecondEnded 0 (at + 1) z end
comment_ends at [] end t e = absurd (true≢false (sym t))
comment_ends at (c ∷ w) end t e =
    let is : at + 2 ≡ end = some_parts (at + 2) end e in
    record { second = c; tail = w; whole = refl; ended_then = record { ending = []; rest = w; whole = refl; len = omega arith; is = all_closed } }

comment_on : (depth at b : ℕ) (z : List ℕ) (end : ℕ) → (b == 47 && slice_index z 0 == 42) ≡ false → (b == 42 && slice_index z 0 == 47) ≡ false → IsEnded (suc depth) (at + 1) z end → IsEnded (suc depth) at (b ∷ z) end
comment_on depth at b z end no_open no_close E =
    let l = E.len in
    let some = some_ending depth E.ending E.is in
    let same_open = begins-append 47 42 b E.ending E.rest some in
    let same_close = begins-append 42 47 b E.ending E.rest some in
    record {
      ending = b ∷ E.ending;
      rest = E.rest;
      whole = ap (λ (w : List ℕ). b ∷ w) E.whole;
      len = omega arith;
      is = goes_on depth b E.ending (sym same_open ∙ ap (λ (w : List ℕ). begins 47 42 (b ∷ w)) (sym E.whole) ∙ no_open) (sym same_close ∙ ap (λ (w : List ℕ). begins 42 47 (b ∷ w)) (sym E.whole) ∙ no_close) E.is;
    }

abbrev comment_rest : ℕ → ℕ → ℕ → List ℕ → Option ℕ
comment_rest depth at b z =
    if b == 42 && slice_index z 0 == 47 then (if depth == 1 then Some (at + 2) else comment (depth - 1) true (at + 1) z) else comment depth false (at + 1) z

-- what each way on finds
record Ways (z : List ℕ) : Type 0 where
  deeper : (depth at end : ℕ) → comment (suc depth) true at z ≡ some_is end → SecondEnded (suc depth) at z end
  level : (depth at end : ℕ) → comment (suc depth) false at z ≡ some_is end → IsEnded (suc depth) at z end

closing_way : (depth at b : ℕ) (z : List ℕ) (end : ℕ) → Ways z → (b == 42 && slice_index z 0 == 47) ≡ true → (if suc depth == 1 then Some (at + 2) else comment (suc depth - 1) true (at + 1) z) ≡ some_is end → SecondEnded depth (at + 1) z end
closing_way zero at b z end W t e = comment_ends at z end (and_parts (b == 42) (slice_index z 0 == 47) t).1 e
closing_way (suc depth) at b z end W t e =
    let more : (suc (suc depth) == 1) ≡ false = ne_eqb (suc (suc depth)) 1 (λ h. absurd (omega arith)) in
    let d : suc (suc depth) - 1 ≡ suc depth = omega arith in
    W.deeper depth (at + 1) end (sym (ap (λ (v : Bool). cond v (Some (at + 2)) (comment (suc (suc depth) - 1) true (at + 1) z)) more ∙ ap (λ (n : ℕ). comment n true (at + 1) z) d) ∙ e)

comment_ways : (depth at b : ℕ) (z : List ℕ) (end : ℕ) → Ways z → comment (suc depth) false at (b ∷ z) ≡ some_is end → IsEnded (suc depth) at (b ∷ z) end
comment_ways depth at b z end W e = by_open (b == 47 && slice_index z 0 == 42) refl
  where
    by_close : (t : Bool) → (b == 42 && slice_index z 0 == 47) ≡ t → (b == 47 && slice_index z 0 == 42) ≡ false → comment_rest (suc depth) at b z ≡ some_is end → IsEnded (suc depth) at (b ∷ z) end
    by_close true t k r = comment_closes depth at b z end t (closing_way depth at b z end W t
        (sym (ap (λ (v : Bool). cond v (if suc depth == 1 then Some (at + 2) else comment (suc depth - 1) true (at + 1) z) (comment (suc depth) false (at + 1) z)) t) ∙ r))
    by_close false t k r = comment_on depth at b z end k t (W.level depth (at + 1) end
        (sym (ap (λ (v : Bool). cond v (if suc depth == 1 then Some (at + 2) else comment (suc depth - 1) true (at + 1) z) (comment (suc depth) false (at + 1) z)) t) ∙ r))

    by_open : (t : Bool) → (b == 47 && slice_index z 0 == 42) ≡ t → IsEnded (suc depth) at (b ∷ z) end
    by_open true t =
        let d : suc depth + 1 ≡ suc (suc depth) = omega arith in
        comment_opens depth at b z end t (W.deeper (suc depth) (at + 1) end
        (sym (ap (λ (v : Bool). cond v (comment (suc depth + 1) true (at + 1) z) (comment_rest (suc depth) at b z)) t ∙ ap (λ (n : ℕ). comment n true (at + 1) z) d) ∙ e))
    by_open false t = by_close (b == 42 && slice_index z 0 == 47) refl t (sym (ap (λ (v : Bool). cond v (comment (suc depth + 1) true (at + 1) z) (comment_rest (suc depth) at b z)) t) ∙ e)

comment_found : (z : List ℕ) → Ways z
comment_found [] = record { deeper = λ depth at end e. absurd (none_is_not end e); level = λ depth at end e. absurd (none_is_not end e) }
comment_found (b ∷ z) =
    let W = comment_found z in
    record {
      deeper = λ depth at end e. record { second = b; tail = z; whole = refl; ended_then = W.level depth (at + 1) end e };
      level = λ depth at end e. comment_ways depth at b z end W e;
    }

-- pairs of hexadecimal digits, and none behind
record ArePairs (at : ℕ) (z : List ℕ) : Type 0 where
  digits : List ℕ
  rest : List ℕ
  whole : z ≡ digits ++ rest
  len : pairs at z ≡ at + length digits
  even : length digits % 2 ≡ 0
  all : AllIn class.Hex digits
  ends : is_in class.Hex (slice_index rest 0) ≡ true → is_in class.Hex (slice_index rest 1) ≡ false

no_pairs : (at : ℕ) (z : List ℕ) → pairs at z ≡ at → (is_in class.Hex (slice_index z 0) ≡ true → is_in class.Hex (slice_index z 1) ≡ false) → ArePairs at z
no_pairs at z e h = record { digits = []; rest = z; whole = refl; len = let n : at ≡ at + 0 = omega arith in e ∙ n; even = refl; all = refl; ends = h }

pairs_found : (at : ℕ) (z : List ℕ) → ArePairs at z
pairs_found at [] = no_pairs at [] refl (λ h. refl)
pairs_found at (a ∷ []) = no_pairs at (a ∷ []) refl (λ h. refl)
pairs_found at (a ∷ b ∷ z) = by_test (pairs_found (at + 2) z) (is_in class.Hex a && is_in class.Hex b) refl
  where
    hex_b : is_in class.Hex a ≡ true → (is_in class.Hex a && is_in class.Hex b) ≡ false → is_in class.Hex b ≡ false
    hex_b h t = sym (ap (λ (v : Bool). v && is_in class.Hex b) h) ∙ t

    by_test : ArePairs (at + 2) z → (t : Bool) → (is_in class.Hex a && is_in class.Hex b) ≡ t → ArePairs at (a ∷ b ∷ z)
    by_test P false t = no_pairs at (a ∷ b ∷ z) (ap (λ (v : Bool). cond v (pairs (at + 2) z) at) t) (λ h. hex_b h t)
    by_test P true t =
        let h = and_parts (is_in class.Hex a) (is_in class.Hex b) t in
        let l = P.len in
        let n : at + 2 + length P.digits ≡ at + suc (suc (length P.digits)) = omega arith in
        let e : length P.digits % 2 ≡ 0 = P.even in
        record {
          digits = a ∷ b ∷ P.digits;
          rest = P.rest;
          whole = ap (λ (w : List ℕ). a ∷ b ∷ w) P.whole;
          len = ap (λ (v : Bool). cond v (pairs (at + 2) z) at) t ∙ l ∙ n;
          even = omega arith;
          all = and_from (is_in class.Hex a) (list_all (is_in class.Hex) (b ∷ P.digits)) h.0 (and_from (is_in class.Hex b) (list_all (is_in class.Hex) P.digits) h.1 P.all);
          ends = P.ends;
        }

-- ---- what stands in front

run_front : (c : Class) (z : List ℕ) → z ≡ take (run c z) z ++ drop (run c z) z
run_front c z = sym (take-append-drop (run c z) z)

run_len : (c : Class) (z : List ℕ) → length (take (run c z) z) ≡ run c z
run_len c z = length-prefix_len (is_in c) z

not_in_first : (c : Class) (rest : List ℕ) → is_in c 0 ≡ false → Stops c rest → is_in c (slice_index rest 0) ≡ false
not_in_first c [] zero_out h = zero_out
not_in_first c (b ∷ rest) zero_out h = h

letter_is_word : (b : ℕ) → is_in class.Letter b ≡ true → is_in class.Word b ≡ true
letter_is_word b h = grind (arith, nat_tests)

closed_text : (z : List ℕ) (end : Option ℕ) → ((n : ℕ) → end ≡ some_is n → Stands (piece.Token Text n) z) → IsFound (closed Text end) z
closed_text z None h = tt
closed_text z (Some n) h = h n refl

closed_quoted : (z : List ℕ) (end : Option ℕ) → ((n : ℕ) → end ≡ some_is n → Stands (piece.Token Quoted n) z) → IsFound (closed Quoted end) z
closed_quoted z None h = tt
closed_quoted z (Some n) h = h n refl

closed_bracketed : (z : List ℕ) (end : Option ℕ) → ((n : ℕ) → end ≡ some_is n → Stands (piece.Token Bracketed n) z) → IsFound (closed Bracketed end) z
closed_bracketed z None h = tt
closed_bracketed z (Some n) h = h n refl

passed_comment : (z : List ℕ) (end : Option ℕ) → ((n : ℕ) → end ≡ some_is n → Stands (piece.Gap n) z) → IsFound (passed end) z
passed_comment z None h = tt
passed_comment z (Some n) h = h n refl

quoted_whole : (first last : ℕ) (z text rest : List ℕ) → z ≡ doubled last text ++ last ∷ rest → first ∷ z ≡ quoted first last text ++ rest
quoted_whole first last z text rest e = ap (λ (w : List ℕ). first ∷ w) (e ∙ sym (append_assoc (doubled last text) (last ∷ []) rest))

quoted_size : (first last : ℕ) (text : List ℕ) → length (quoted first last text) ≡ length (doubled last text) + 2
quoted_size first last text = grind (arith, common_steps)

text_stands : (z : List ℕ) (n : ℕ) → closing 39 false 1 z ≡ some_is n → Stands (piece.Token Text n) (39 ∷ z)
text_stands z n e =
    let C = closing_found 39 false 1 z n e in
    let l = C.len in
    let s = quoted_size 39 39 C.text in
    let len : n ≡ length (quoted 39 39 C.text) = omega arith in
    record { part = token Text; bytes = quoted 39 39 C.text; rest = C.rest; whole = quoted_whole 39 39 z C.text C.rest C.whole; spelled = (C.text, inl refl); ends = C.next; is = ap (piece.Token Text) len }

national_stands : (z : List ℕ) (n : ℕ) → closing 39 false 2 z ≡ some_is n → Stands (piece.Token Text n) (78 ∷ 39 ∷ z)
national_stands z n e =
    let C = closing_found 39 false 2 z n e in
    let l = C.len in
    let s = quoted_size 39 39 C.text in
    let len : n ≡ suc (length (quoted 39 39 C.text)) = omega arith in
    record { part = token Text; bytes = 78 ∷ quoted 39 39 C.text; rest = C.rest; whole = ap (λ (w : List ℕ). 78 ∷ w) (quoted_whole 39 39 z C.text C.rest C.whole); spelled = (C.text, inr refl); ends = C.next; is = ap (piece.Token Text) len }

quoted_stands : (z : List ℕ) (n : ℕ) → closing 34 false 1 z ≡ some_is n → Stands (piece.Token Quoted n) (34 ∷ z)
quoted_stands z n e =
    let C = closing_found 34 false 1 z n e in
    let l = C.len in
    let s = quoted_size 34 34 C.text in
    let len : n ≡ length (quoted 34 34 C.text) = omega arith in
    record { part = token Quoted; bytes = quoted 34 34 C.text; rest = C.rest; whole = quoted_whole 34 34 z C.text C.rest C.whole; spelled = (C.text, refl); ends = C.next; is = ap (piece.Token Quoted) len }

bracketed_stands : (z : List ℕ) (n : ℕ) → closing 93 false 1 z ≡ some_is n → Stands (piece.Token Bracketed n) (91 ∷ z)
bracketed_stands z n e =
    let C = closing_found 93 false 1 z n e in
    let l = C.len in
    let s = quoted_size 91 93 C.text in
    let len : n ≡ length (quoted 91 93 C.text) = omega arith in
    record { part = token Bracketed; bytes = quoted 91 93 C.text; rest = C.rest; whole = quoted_whole 91 93 z C.text C.rest C.whole; spelled = (C.text, refl); ends = C.next; is = ap (piece.Token Bracketed) len }

comment_stands : (z : List ℕ) (n : ℕ) → comment 1 false 2 z ≡ some_is n → Stands (piece.Gap n) (47 ∷ 42 ∷ z)
comment_stands z n e =
    let E = (comment_found z).level 0 2 n e in
    let l = E.len in
    let len : n ≡ suc (suc (length E.ending)) = omega arith in
    record { part = a_comment; bytes = 47 ∷ 42 ∷ E.ending; rest = E.rest; whole = ap (λ (w : List ℕ). 47 ∷ 42 ∷ w) E.whole; spelled = (E.ending, refl, E.is); ends = tt; is = ap piece.Gap len }

-- a word, where no text with an N begins
word_stands : (b : ℕ) (z : List ℕ) → is_in class.Letter b ≡ true → (b == 78 && slice_index z 0 == 39) ≡ false → Stands (piece.Token Word (run class.Word (b ∷ z))) (b ∷ z)
word_stands b z letter text =
    let n = run class.Word z in
    let front = run_front class.Word z in
    let runs : run class.Word (b ∷ z) ≡ suc n = run_more class.Word b z (letter_is_word b letter) in
    let next : is_in class.Word (slice_index (drop n z) 0) ≡ false = not_in_first class.Word (drop n z) refl (run_stops class.Word z) in
    record {
      part = token Word;
      bytes = b ∷ take n z;
      rest = drop n z;
      whole = ap (λ (w : List ℕ). b ∷ w) front;
      spelled = (b, take n z, refl, letter, run_all class.Word z);
      ends = (next, λ is quote. no_text n z text front is quote);
      is = ap (piece.Token Word) (runs ∙ ap suc (sym (run_len class.Word z)));
    }
  where
    no_text : (n : ℕ) (z : List ℕ) → (b == 78 && slice_index z 0 == 39) ≡ false → z ≡ take n z ++ drop n z → b ∷ take n z ≡ codes "N" → slice_index (drop n z) 0 ≡ 39 → ⊥
    no_text n z text front is quote =
        let first : b ≡ 78 = cc in
        let none : take n z ≡ [] = cc in
        let rest : z ≡ drop n z = front ∙ ap (λ (w : List ℕ). w ++ drop n z) none in
        let second : slice_index z 0 ≡ 39 = ap (λ (w : List ℕ). slice_index w 0) rest ∙ quote in
        true≢false (sym (and_from (b == 78) (slice_index z 0 == 39) (eq-eqb b 78 first) (eq-eqb (slice_index z 0) 39 second)) ∙ text)

variable_stands : (z : List ℕ) → Stands (piece.Token Variable (run class.Word (64 ∷ z))) (64 ∷ z)
variable_stands z =
    let n = run class.Word z in
    let runs : run class.Word (64 ∷ z) ≡ suc n = run_more class.Word 64 z refl in
    record {
      part = token Variable;
      bytes = 64 ∷ take n z;
      rest = drop n z;
      whole = ap (λ (w : List ℕ). 64 ∷ w) (run_front class.Word z);
      spelled = (take n z, refl, run_all class.Word z);
      ends = not_in_first class.Word (drop n z) refl (run_stops class.Word z);
      is = ap (piece.Token Variable) (runs ∙ ap suc (sym (run_len class.Word z)));
    }

number_stands : (b : ℕ) (z : List ℕ) → is_in class.Digit b ≡ true → (b == 48 && slice_index z 0 == 120) ≡ false → Stands (piece.Token Number (run class.Digit (b ∷ z))) (b ∷ z)
number_stands b z digit binary =
    let n = run class.Digit z in
    let front = run_front class.Digit z in
    let runs : run class.Digit (b ∷ z) ≡ suc n = run_more class.Digit b z digit in
    record {
      part = token Number;
      bytes = b ∷ take n z;
      rest = drop n z;
      whole = ap (λ (w : List ℕ). b ∷ w) front;
      spelled = (omega arith, and_from (is_in class.Digit b) (list_all (is_in class.Digit) (take n z)) digit (run_all class.Digit z));
      ends = (not_in_first class.Digit (drop n z) refl (run_stops class.Digit z), λ is x. no_binary n z binary front is x);
      is = ap (piece.Token Number) (runs ∙ ap suc (sym (run_len class.Digit z)));
    }
  where
    no_binary : (n : ℕ) (z : List ℕ) → (b == 48 && slice_index z 0 == 120) ≡ false → z ≡ take n z ++ drop n z → b ∷ take n z ≡ codes "0" → slice_index (drop n z) 0 ≡ 120 → ⊥
    no_binary n z binary front is x =
        let first : b ≡ 48 = cc in
        let none : take n z ≡ [] = cc in
        let rest : z ≡ drop n z = front ∙ ap (λ (w : List ℕ). w ++ drop n z) none in
        let second : slice_index z 0 ≡ 120 = ap (λ (w : List ℕ). slice_index w 0) rest ∙ x in
        true≢false (sym (and_from (b == 48) (slice_index z 0 == 120) (eq-eqb b 48 first) (eq-eqb (slice_index z 0) 120 second)) ∙ binary)

binary_stands : (z : List ℕ) → Stands (piece.Token Binary (pairs 2 z)) (48 ∷ 120 ∷ z)
binary_stands z =
    let P = pairs_found 2 z in
    let l = P.len in
    let len : pairs 2 z ≡ suc (suc (length P.digits)) = omega arith in
    record { part = token Binary; bytes = 48 ∷ 120 ∷ P.digits; rest = P.rest; whole = ap (λ (w : List ℕ). 48 ∷ 120 ∷ w) P.whole; spelled = (P.digits, refl, P.even, P.all); ends = P.ends; is = ap (piece.Token Binary) len }

blank_stands : (b : ℕ) (z : List ℕ) → is_in class.Blank b ≡ true → Stands (piece.Gap 1) (b ∷ z)
blank_stands b z h = record { part = blank; bytes = b ∷ []; rest = z; whole = refl; spelled = (b, refl, h); ends = tt; is = refl }

line_end : (rest : List ℕ) → Stops class.Line rest → AtLineEnd rest
line_end [] h = tt
line_end (b ∷ rest) h = eqb-true b 10 (not_not (b == 10) h)
  where
    not_not : (t : Bool) → not t ≡ false → t ≡ true
    not_not true h = refl
    not_not false h = absurd (true≢false h)

line_stands : (z : List ℕ) → Stands (piece.Gap (run class.Line (45 ∷ 45 ∷ z))) (45 ∷ 45 ∷ z)
line_stands z =
    let n = run class.Line z in
    let runs : run class.Line (45 ∷ 45 ∷ z) ≡ suc (suc n) = run_more class.Line 45 (45 ∷ z) refl ∙ ap suc (run_more class.Line 45 z refl) in
    record {
      part = line_comment;
      bytes = 45 ∷ 45 ∷ take n z;
      rest = drop n z;
      whole = ap (λ (w : List ℕ). 45 ∷ 45 ∷ w) (run_front class.Line z);
      spelled = (take n z, refl, run_all class.Line z);
      ends = line_end (drop n z) (run_stops class.Line z);
      is = ap piece.Gap (runs ∙ ap (λ (m : ℕ). suc (suc m)) (sym (run_len class.Line z)));
    }

-- the two bytes that a test found
record Pair (a c b : ℕ) (z : List ℕ) : Type 0 where
  tail : List ℕ
  is : b ∷ z ≡ a ∷ c ∷ tail

pair_form : (a c b : ℕ) (z : List ℕ) → 0 < c → (b == a && slice_index z 0 == c) ≡ true → Pair a c b z
pair_form a c b [] some t = let h = and_parts (b == a) (0 == c) t in let e : 0 ≡ c = eqb-true 0 c h.1 in absurd (omega arith)
pair_form a c b (d ∷ z) some t =
    let h = and_parts (b == a) (d == c) t in
    record { tail = z; is = ap (λ (n : ℕ). n ∷ d ∷ z) (eqb-true b a h.0) ∙ ap (λ (n : ℕ). a ∷ n ∷ z) (eqb-true d c h.1) }

letter_found : (b : ℕ) (z : List ℕ) → is_in class.Letter b ≡ true → IsFound (letter_at b (slice_index z 0) (b ∷ z)) (b ∷ z)
letter_found b z letter =
    cond_both (b == 78 && slice_index z 0 == 39) (closed Text (closing 39 false 2 (drop 2 (b ∷ z)))) (piece.Token Word (run class.Word (b ∷ z))) (λ p. IsFound p (b ∷ z))
    (λ t. let P = pair_form 78 39 b z (omega arith) t in subst (λ (y : List ℕ). IsFound (closed Text (closing 39 false 2 (drop 2 y))) y) (sym P.is) (closed_text (78 ∷ 39 ∷ P.tail) (closing 39 false 2 P.tail) (national_stands P.tail)))
    (λ t. word_stands b z letter t)

digit_found : (b : ℕ) (z : List ℕ) → is_in class.Digit b ≡ true → IsFound (digit_at b (slice_index z 0) (b ∷ z)) (b ∷ z)
digit_found b z digit =
    cond_both (b == 48 && slice_index z 0 == 120) (piece.Token Binary (pairs 2 (drop 2 (b ∷ z)))) (piece.Token Number (run class.Digit (b ∷ z))) (λ p. IsFound p (b ∷ z))
    (λ t. let P = pair_form 48 120 b z (omega arith) t in subst (λ (y : List ℕ). IsFound (piece.Token Binary (pairs 2 (drop 2 y))) y) (sym P.is) (binary_stands P.tail))
    (λ t. number_stands b z digit t)

abbrev is_any_sign : ℕ → Bool
is_any_sign b = b == 40 || b == 41 || b == 44 || b == 46 || b == 59 || b == 61 || b == 60 || b == 62 || b == 43 || b == 45 || b == 42

any_is_sign : (b : ℕ) → is_any_sign b ≡ true → is_sign b ≡ true
any_is_sign b h = grind (arith, nat_tests)

not_both : (a c b d : ℕ) → (b == a && d == c) ≡ false → b ∷ [] ≡ a ∷ [] → d ≡ c → ⊥
not_both a c b d t is e =
    let first : b ≡ a = cc in
    true≢false (sym (and_from (b == a) (d == c) (eq-eqb b a first) (eq-eqb d c e)) ∙ t)

sign_found : (b : ℕ) (z : List ℕ) → (b == 45 && slice_index z 0 == 45) ≡ false → IsFound (sign b (slice_index z 0)) (b ∷ z)
unfolding sign
sign_found b z line =
    cond_both (b == 60 && slice_index z 0 == 62) (piece.Token Sign 2) (cond (is_any_sign b) (piece.Token Sign 1) piece.Unlexed) (λ p. IsFound p (b ∷ z))
    (λ t. let P = pair_form 60 62 b z (omega arith) t in record { part = token Sign; bytes = 60 ∷ 62 ∷ []; rest = P.tail; whole = P.is; spelled = inl refl; ends = (λ is. absurd cc, λ is. absurd cc); is = refl })
    (λ t. cond_both (is_any_sign b) (piece.Token Sign 1) piece.Unlexed (λ p. IsFound p (b ∷ z))
    (λ any. record { part = token Sign; bytes = b ∷ []; rest = z; whole = refl; spelled = inr (b, refl, any_is_sign b any); ends = (not_both 60 62 b (slice_index z 0) t, not_both 45 45 b (slice_index z 0) line); is = refl })
    (λ other. tt))

first_form : (a b : ℕ) (z : List ℕ) → (b == a) ≡ true → b ∷ z ≡ a ∷ z
first_form a b z t = ap (λ (n : ℕ). n ∷ z) (eqb-true b a t)

other_found : (b : ℕ) (z : List ℕ) → IsFound (other_at b (slice_index z 0) (b ∷ z)) (b ∷ z)
unfolding other_at
other_found b z =
    let c = slice_index z 0 in
    let y = b ∷ z in
    let from_bracket : Piece = cond (b == 91) (closed Bracketed (closing 93 false 1 (drop 1 y))) (sign b c) in
    let from_double : Piece = cond (b == 34) (closed Quoted (closing 34 false 1 (drop 1 y))) from_bracket in
    let from_text : Piece = cond (b == 39) (closed Text (closing 39 false 1 (drop 1 y))) from_double in
    let from_comment : Piece = cond (b == 47 && c == 42) (passed (comment 1 false 2 (drop 2 y))) from_text in
    let from_line : Piece = cond (b == 45 && c == 45) (piece.Gap (run class.Line y)) from_comment in
    cond_both (is_in class.Blank b) (piece.Gap 1) from_line (λ p. IsFound p y) (λ t. blank_stands b z t)
    (λ _. cond_both (b == 45 && c == 45) (piece.Gap (run class.Line y)) from_comment (λ p. IsFound p y)
    (λ t. let P = pair_form 45 45 b z (omega arith) t in subst (λ (w : List ℕ). IsFound (piece.Gap (run class.Line w)) w) (sym P.is) (line_stands P.tail))
    (λ line. cond_both (b == 47 && c == 42) (passed (comment 1 false 2 (drop 2 y))) from_text (λ p. IsFound p y)
    (λ t. let P = pair_form 47 42 b z (omega arith) t in subst (λ (w : List ℕ). IsFound (passed (comment 1 false 2 (drop 2 w))) w) (sym P.is) (passed_comment (47 ∷ 42 ∷ P.tail) (comment 1 false 2 P.tail) (comment_stands P.tail)))
    (λ _. cond_both (b == 39) (closed Text (closing 39 false 1 (drop 1 y))) from_double (λ p. IsFound p y)
    (λ t. subst (λ (w : List ℕ). IsFound (closed Text (closing 39 false 1 (drop 1 w))) w) (sym (first_form 39 b z t)) (closed_text (39 ∷ z) (closing 39 false 1 z) (text_stands z)))
    (λ _. cond_both (b == 34) (closed Quoted (closing 34 false 1 (drop 1 y))) from_bracket (λ p. IsFound p y)
    (λ t. subst (λ (w : List ℕ). IsFound (closed Quoted (closing 34 false 1 (drop 1 w))) w) (sym (first_form 34 b z t)) (closed_quoted (34 ∷ z) (closing 34 false 1 z) (quoted_stands z)))
    (λ _. cond_both (b == 91) (closed Bracketed (closing 93 false 1 (drop 1 y))) (sign b c) (λ p. IsFound p y)
    (λ t. subst (λ (w : List ℕ). IsFound (closed Bracketed (closing 93 false 1 (drop 1 w))) w) (sym (first_form 91 b z t)) (closed_bracketed (91 ∷ z) (closing 93 false 1 z) (bracketed_stands z)))
    (λ _. sign_found b z line))))))

-- what the scanner finds in front stands there
pub found : (z : List ℕ) → 0 < length z → IsFound (piece_at z) z
unfolding piece_at
found [] some = absurd (omega arith)
found (b ∷ z) some =
    let c = slice_index z 0 in
    let y = b ∷ z in
    let from_digit : Piece = cond (is_in class.Digit b) (digit_at b c y) (other_at b c y) in
    let from_variable : Piece = cond (b == 64) (piece.Token Variable (run class.Word y)) from_digit in
    cond_both (is_in class.Letter b) (letter_at b c y) from_variable (λ p. IsFound p y) (λ t. letter_found b z t)
    (λ _. cond_both (b == 64) (piece.Token Variable (run class.Word y)) from_digit (λ p. IsFound p y)
    (λ t. subst (λ (w : List ℕ). IsFound (piece.Token Variable (run class.Word w)) w) (sym (first_form 64 b z t)) (variable_stands z))
    (λ _. cond_both (is_in class.Digit b) (digit_at b c y) (other_at b c y) (λ p. IsFound p y) (λ t. digit_found b z t) (λ _. other_found b z)))
