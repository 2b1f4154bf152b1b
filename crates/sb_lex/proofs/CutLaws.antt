-- The scanner cuts a text as the rule says, and there is one way to cut it.
use Rattle.std.proofs.Common.{◌≡◌, ℕ, zero, suc, ◌+◌, ◌<◌, ◌≤◌, List, [], ◌∷◌, ◌++◌, length, Option, Some, None, refl, sym, ap, subst, ◌∙◌, zero-add, length-append, arith, inl, inr}
use Rattle.std.proofs.Math.Seq.{drop-append_seam}
use Rattle.sb_lex.specs.declared.token.TokenKind.TheVariants.{Word, Bracketed, Quoted, Variable, Text, Binary, Number, Sign}
use Rattle.sb_lex.specs.declared.token.Token.{Token}
use Rattle.sb_lex.specs.declared.piece.Piece.{Piece}
use Rattle.sb_lex.specs.declared.piece.Piece.TheVariants as piece
use Rattle.sb_lex.specs.Lex.{piece_at, Tokens, tokens_by, tokens_from, tokens_of}
use Rattle.sb_lex.specs.Cuts.{Part, blank, line_comment, comment, token, quoted, IsSpelled, Ends, Slice, joined, AreParts, with_token, tokens_at, IsUnlexed, Stops, IsCut, InOrder}
use Rattle.sb_lex.proofs.Fits.{piece_of, fits}
use Rattle.sb_lex.proofs.Stands.{Stands, IsFound, found}
use Rattle.sb_lex.proofs.Goes.{gap_goes, token_goes}

by_form : (s form : List ℕ) → s ≡ form → 0 < length form → 0 < length s
by_form s form e some = subst (λ (n : ℕ). 0 < n) (sym (ap length e)) some

-- no part is empty
spelled_some : (part : Part) (s : List ℕ) → IsSpelled part s → 0 < length s
spelled_some blank s (b, is, h) = by_form s (b ∷ []) is (omega arith)
spelled_some line_comment s (z, is, h) = by_form s (45 ∷ 45 ∷ z) is (omega arith)
spelled_some comment s (z, is, h) = by_form s (47 ∷ 42 ∷ z) is (omega arith)
spelled_some (token Word) s (b, z, is, h, k) = by_form s (b ∷ z) is (omega arith)
spelled_some (token Bracketed) s (z, is) = by_form s (quoted 91 93 z) is (omega arith)
spelled_some (token Quoted) s (z, is) = by_form s (quoted 34 34 z) is (omega arith)
spelled_some (token Variable) s (z, is, h) = by_form s (64 ∷ z) is (omega arith)
spelled_some (token Text) s (z, inl is) = by_form s (quoted 39 39 z) is (omega arith)
spelled_some (token Text) s (z, inr is) = by_form s (78 ∷ quoted 39 39 z) is (omega arith)
spelled_some (token Binary) s (z, is, h, k) = by_form s (48 ∷ 120 ∷ z) is (omega arith)
spelled_some (token Number) s (some, h) = some
spelled_some (token Sign) s (inl is) = by_form s (60 ∷ 62 ∷ []) is (omega arith)
spelled_some (token Sign) s (inr (b, is, h)) = by_form s (b ∷ []) is (omega arith)

-- no part is unlexed
part_lexed : (part : Part) (n : ℕ) → piece_of part n ≡ piece.Unlexed → ⊥
part_lexed blank n e = cc
part_lexed line_comment n e = cc
part_lexed comment n e = cc
part_lexed (token kind) n e = cc

-- a part's tokens before those behind it
abbrev with_part : Part → ℕ → ℕ → Tokens → Tokens
with_part part start end more = record { tokens = with_token part start end more.tokens; unlexed = more.unlexed }

some_append : (s rest : List ℕ) → 0 < length s → 0 < length (s ++ rest)
some_append s rest some = omega (arith, length-append s rest)

gap_next : (at : ℕ) (s rest : List ℕ) → 0 < length s → piece_at (s ++ rest) ≡ piece.Gap (length s) → tokens_from 0 at (s ++ rest) ≡ tokens_from 0 (at + length s) rest
gap_next at s rest some is = gap_goes at (length s) (s ++ rest) (some_append s rest some) is some ∙ ap (tokens_from 0 (at + length s)) (drop-append_seam s rest)

-- the tokens from a part on
part_next : (part : Part) (at : ℕ) (s rest : List ℕ) → 0 < length s → piece_at (s ++ rest) ≡ piece_of part (length s)
    → tokens_from 0 at (s ++ rest) ≡ with_part part at (at + length s) (tokens_from 0 (at + length s) rest)
part_next blank at s rest some is = gap_next at s rest some is
part_next line_comment at s rest some is = gap_next at s rest some is
part_next comment at s rest some is = gap_next at s rest some is
part_next (token kind) at s rest some is =
    token_goes at (length s) kind (s ++ rest) (some_append s rest some) is some ∙ ap (λ (z : List ℕ). with_part (token kind) at (at + length s) (tokens_from 0 (at + length s) z)) (drop-append_seam s rest)

-- how a text is cut from a place on
record CutFrom (at : ℕ) (z : List ℕ) (all : Tokens) : Type 0 where
  slices : List Slice
  rest : List ℕ
  whole : z ≡ joined slices rest
  parts : AreParts slices rest
  tokens_are : all.tokens ≡ tokens_at at slices
  stops : Stops all.unlexed (at + length (joined slices [])) rest

unlexed_here : (at : ℕ) (z : List ℕ) → 0 < length z → piece_at z ≡ piece.Unlexed → tokens_from 0 at z ≡ record { tokens = []; unlexed = Some at }
unlexed_here at [] some is = absurd (omega arith)
unlexed_here at (b ∷ z) some is = ap (λ (p : Piece). tokens_by p at (λ left. tokens_from left (at + 1) z)) is

no_part : (z : List ℕ) → piece_at z ≡ piece.Unlexed → (part : Part) (s rest : List ℕ) → z ≡ s ++ rest → IsSpelled part s → Ends part s rest → ⊥
no_part z is part s rest whole spelled ends = part_lexed part (length s) (sym (fits part s rest spelled ends) ∙ ap piece_at (sym whole) ∙ is)

cut_stop : (at : ℕ) (z : List ℕ) → 0 < length z → piece_at z ≡ piece.Unlexed → CutFrom at z (tokens_from 0 at z)
cut_stop at z some is =
    let e : at ≡ at + 0 = omega arith in
    subst (CutFrom at z) (sym (unlexed_here at z some is)) (record { slices = []; rest = z; whole = refl; parts = tt; tokens_are = refl; stops = (e, record { some = some; none = no_part z is }) })

cut_part : (at : ℕ) (z : List ℕ) (p : Piece) → piece_at z ≡ p → (S : Stands p z) → CutFrom (at + length S.bytes) S.rest (tokens_from 0 (at + length S.bytes) S.rest) → CutFrom at z (tokens_from 0 at z)
cut_part at z p is S C =
    let some = spelled_some S.part S.bytes S.spelled in
    let next = part_next S.part at S.bytes S.rest some (ap piece_at (sym S.whole) ∙ is ∙ S.is) in
    let len : (at + length S.bytes) + length (joined C.slices []) ≡ at + length (S.bytes ++ joined C.slices []) = omega (arith, length-append S.bytes (joined C.slices [])) in
    let one : CutFrom at z (with_part S.part at (at + length S.bytes) (tokens_from 0 (at + length S.bytes) S.rest)) = record {
      slices = record { part = S.part; bytes = S.bytes } ∷ C.slices;
      rest = C.rest;
      whole = S.whole ∙ ap (λ (w : List ℕ). S.bytes ++ w) C.whole;
      parts = (S.spelled, subst (Ends S.part S.bytes) C.whole S.ends, C.parts);
      tokens_are = ap (with_token S.part at (at + length S.bytes)) C.tokens_are;
      stops = subst (λ (n : ℕ). Stops (tokens_from 0 (at + length S.bytes) S.rest).unlexed n C.rest) len C.stops;
    } in
    subst (CutFrom at z) (sym (ap (tokens_from 0 at) S.whole ∙ next)) one

rest_shorter : (z s rest : List ℕ) (n : ℕ) → z ≡ s ++ rest → 0 < length s → length z ≤ suc n → length rest ≤ n
rest_shorter z s rest n e some most = omega (arith, ap length e, length-append s rest)

-- with so much fuel
cut_from : (n at : ℕ) (z : List ℕ) → length z ≤ n → CutFrom at z (tokens_from 0 at z)
cut_from n at [] most = record { slices = []; rest = []; whole = refl; parts = tt; tokens_are = refl; stops = refl }
cut_from zero at (b ∷ z) most = absurd (omega arith)
cut_from (suc n) at (b ∷ z) most = by_piece (cut_from n) (piece_at (b ∷ z)) refl (found (b ∷ z) (omega arith))
  where
    stands : ((at : ℕ) (z : List ℕ) → length z ≤ n → CutFrom at z (tokens_from 0 at z)) → (p : Piece) → piece_at (b ∷ z) ≡ p → Stands p (b ∷ z) → CutFrom at (b ∷ z) (tokens_from 0 at (b ∷ z))
    stands rec p is S = cut_part at (b ∷ z) p is S (rec (at + length S.bytes) S.rest (rest_shorter (b ∷ z) S.bytes S.rest n S.whole (spelled_some S.part S.bytes S.spelled) most))

    by_piece : ((at : ℕ) (z : List ℕ) → length z ≤ n → CutFrom at z (tokens_from 0 at z)) → (p : Piece) → piece_at (b ∷ z) ≡ p → IsFound p (b ∷ z) → CutFrom at (b ∷ z) (tokens_from 0 at (b ∷ z))
    by_piece rec piece.Unlexed is F = cut_stop at (b ∷ z) (omega arith) is
    by_piece rec (piece.Gap len) is F = stands rec (piece.Gap len) is F
    by_piece rec (piece.Token kind len) is F = stands rec (piece.Token kind len) is F

-- the scanner's tokens are those of the rule
pub is_cut : (z : List ℕ) → IsCut z (tokens_of z).tokens (tokens_of z).unlexed
unfolding tokens_of
is_cut z =
    let C = cut_from (length z) 0 z (omega arith) in
    record { slices = C.slices; rest = C.rest; whole = C.whole; parts = C.parts; tokens_are = C.tokens_are; stops = subst (λ (n : ℕ). Stops (tokens_from 0 0 z).unlexed n C.rest) (zero-add (length (joined C.slices []))) C.stops }

-- where nothing stands, nothing is found
unlexed_found : (z : List ℕ) → IsUnlexed z → piece_at z ≡ piece.Unlexed
unlexed_found z U = by_piece (piece_at z) refl (found z U.some)
  where
    stands : (p : Piece) → Stands p z → p ≡ piece.Unlexed
    stands p S = absurd (U.none S.part S.bytes S.rest S.whole S.spelled S.ends)

    by_piece : (p : Piece) → piece_at z ≡ p → IsFound p z → piece_at z ≡ piece.Unlexed
    by_piece piece.Unlexed is F = is
    by_piece (piece.Gap len) is F = is ∙ stands (piece.Gap len) F
    by_piece (piece.Token kind len) is F = is ∙ stands (piece.Token kind len) F

stop_is : (at : ℕ) (rest : List ℕ) (u : Option ℕ) → Stops u (at + 0) rest → tokens_from 0 at rest ≡ record { tokens = []; unlexed = u }
stop_is at rest None stop = ap (tokens_from 0 at) stop
stop_is at rest (Some place) (is, U) =
    let e : at ≡ place = omega arith in
    unlexed_here at rest U.some (unlexed_found rest U) ∙ ap (λ (n : ℕ). let t : Tokens = record { tokens = []; unlexed = Some n } in t) e

cut_only : (slices : List Slice) (rest : List ℕ) (at : ℕ) (u : Option ℕ) → AreParts slices rest → Stops u (at + length (joined slices [])) rest
    → tokens_from 0 at (joined slices rest) ≡ record { tokens = tokens_at at slices; unlexed = u }
cut_only [] rest at u parts stop = stop_is at rest u stop
cut_only (p ∷ ps) rest at u (spelled, ends, parts) stop =
    let len : at + length (p.bytes ++ joined ps []) ≡ (at + length p.bytes) + length (joined ps []) = omega (arith, length-append p.bytes (joined ps [])) in
    part_next p.part at p.bytes (joined ps rest) (spelled_some p.part p.bytes spelled) (fits p.part p.bytes (joined ps rest) spelled ends)
    ∙ ap (with_part p.part at (at + length p.bytes)) (cut_only ps rest (at + length p.bytes) u parts (subst (λ (n : ℕ). Stops u n rest) len stop))

-- what the rule cuts is what the scanner finds
pub only_cut : (z : List ℕ) (ts : List Token) (u : Option ℕ) → IsCut z ts u → tokens_of z ≡ record { tokens = ts; unlexed = u }
unfolding tokens_of
only_cut z ts u C =
    ap (tokens_from 0 0) C.whole ∙ cut_only C.slices C.rest 0 u C.parts (subst (λ (n : ℕ). Stops u n C.rest) (sym (zero-add (length (joined C.slices [])))) C.stops)
    ∙ ap (λ (x : List Token). let t : Tokens = record { tokens = x; unlexed = u } in t) (sym C.tokens_are)

-- ---- in order

lower : (at more : ℕ) (ts : List Token) (len : ℕ) → InOrder (at + more) ts len → InOrder at ts len
lower at more [] len h = omega arith
lower at more (t ∷ ts) len (first, some, h) = (omega arith, some, h)

slices_in_order : (slices : List Slice) (rest : List ℕ) (at len : ℕ) → AreParts slices rest → at + length (joined slices rest) ≤ len → InOrder at (tokens_at at slices) len
slices_in_order [] rest at len parts most = omega arith
slices_in_order (p ∷ ps) rest at len (spelled, ends, parts) most =
    by_part p.part (spelled_some p.part p.bytes spelled) (slices_in_order ps rest (at + length p.bytes) len parts (omega (arith, length-append p.bytes (joined ps rest))))
  where
    by_part : (part : Part) → 0 < length p.bytes → InOrder (at + length p.bytes) (tokens_at (at + length p.bytes) ps) len → InOrder at (with_token part at (at + length p.bytes) (tokens_at (at + length p.bytes) ps)) len
    by_part blank some h = lower at (length p.bytes) (tokens_at (at + length p.bytes) ps) len h
    by_part line_comment some h = lower at (length p.bytes) (tokens_at (at + length p.bytes) ps) len h
    by_part comment some h = lower at (length p.bytes) (tokens_at (at + length p.bytes) ps) len h
    by_part (token kind) some h = (omega arith, omega arith, h)

pub cut_in_order : (z : List ℕ) (ts : List Token) (u : Option ℕ) → IsCut z ts u → InOrder 0 ts (length z)
cut_in_order z ts u C =
    subst (λ (x : List Token). InOrder 0 x (length z)) (sym C.tokens_are) (slices_in_order C.slices C.rest 0 (length z) C.parts (omega (arith, ap length C.whole)))
