-- How the tokens of a text go on behind its first piece.
use Rattle.std.proofs.Common.{◌≡◌, ℕ, zero, suc, ◌+◌, ◌-◌, ◌<◌, ◌≤◌, Bool, true, ◌&&◌, cond, List, [], ◌∷◌, ◌++◌, length, drop, slice_index, Some, None, refl, sym, ap, ◌∙◌, append_assoc, arith}
use Rattle.std.proofs.lemmas.List.{append-nil}
use Rattle.sb_lex.specs.declared.token.TokenKind.{TokenKind}
use Rattle.sb_lex.specs.declared.token.Token.{Token}
use Rattle.sb_lex.specs.declared.piece.Class.TheVariants as class
use Rattle.sb_lex.specs.declared.piece.Piece.{Piece}
use Rattle.sb_lex.specs.declared.piece.Piece.TheVariants as piece
use Rattle.sb_lex.specs.Lex.{is_in, pairs, piece_at, Tokens, before, after, tokens_by, tokens_from}

pub pairs_go : (at : ℕ) (z : List ℕ) → 2 ≤ length z → is_in class.Hex (slice_index z 0) ≡ true → is_in class.Hex (slice_index z 1) ≡ true → pairs at z ≡ pairs (at + 2) (drop 2 z)
pairs_go at [] long h k = absurd (omega arith)
pairs_go at (a ∷ []) long h k = absurd (omega arith)
pairs_go at (a ∷ b ∷ z) long h k = ap (λ (t : Bool). cond (t && is_in class.Hex b) (pairs (at + 2) z) at) h ∙ ap (λ (t : Bool). cond (true && t) (pairs (at + 2) z) at) k

tokens_from-drop : (n at : ℕ) (z : List ℕ) → tokens_from n at z ≡ tokens_from 0 (at + n) (drop n z)
tokens_from-drop zero at z = let e : at ≡ at + 0 = omega arith in ap (λ (k : ℕ). tokens_from 0 k z) e
tokens_from-drop (suc n) at [] = refl
tokens_from-drop (suc n) at (b ∷ z) =
    let e : (at + 1) + n ≡ at + suc n = omega arith in tokens_from-drop n (at + 1) z ∙ ap (λ (k : ℕ). tokens_from 0 k (drop n z)) e

behind : (len at b : ℕ) (z : List ℕ) → 0 < len → tokens_from (len - 1) (at + 1) z ≡ tokens_from 0 (at + len) (drop len (b ∷ z))
behind zero at b z some = absurd (omega arith)
behind (suc n) at b z some =
    let e : suc n - 1 ≡ n = omega arith in
    let f : (at + 1) + n ≡ at + suc n = omega arith in
    ap (λ (k : ℕ). tokens_from k (at + 1) z) e ∙ tokens_from-drop n (at + 1) z ∙ ap (λ (k : ℕ). tokens_from 0 k (drop n z)) f

pub gap_goes : (at len : ℕ) (z : List ℕ) → 0 < length z → piece_at z ≡ piece.Gap len → 0 < len → tokens_from 0 at z ≡ tokens_from 0 (at + len) (drop len z)
gap_goes at len [] long e some = absurd (omega arith)
gap_goes at len (b ∷ z) long e some = ap (λ (p : Piece). tokens_by p at (λ left. tokens_from left (at + 1) z)) e ∙ behind len at b z some

pub token_goes : (at len : ℕ) (kind : TokenKind) (z : List ℕ) → 0 < length z → piece_at z ≡ piece.Token kind len → 0 < len
    → tokens_from 0 at z ≡ before (record { kind = kind; start = at; end = at + len }) (tokens_from 0 (at + len) (drop len z))
token_goes at len kind [] long e some = absurd (omega arith)
token_goes at len kind (b ∷ z) long e some =
    ap (λ (p : Piece). tokens_by p at (λ left. tokens_from left (at + 1) z)) e ∙ ap (before (record { kind = kind; start = at; end = at + len })) (behind len at b z some)

pub unlexed_ends : (ts : List Token) (at : ℕ) (z : List ℕ) (all : Tokens) → 0 < length z → piece_at z ≡ piece.Unlexed → after ts (tokens_from 0 at z) ≡ all → record { tokens = ts; unlexed = Some at } ≡ all
unlexed_ends ts at [] all long e so_far = absurd (omega arith)
unlexed_ends ts at (b ∷ z) all long e so_far =
    let stop : after ts (tokens_from 0 at (b ∷ z)) ≡ record { tokens = ts ++ []; unlexed = Some at } = ap (λ (p : Piece). after ts (tokens_by p at (λ left. tokens_from left (at + 1) z))) e in
    ap (λ (x : List Token). let t : Tokens = record { tokens = x; unlexed = Some at } in t) (sym (append-nil ts)) ∙ sym stop ∙ so_far

pub ends : (ts : List Token) (at : ℕ) (z : List ℕ) (all : Tokens) → length z ≡ 0 → after ts (tokens_from 0 at z) ≡ all → record { tokens = ts; unlexed = None } ≡ all
ends ts at [] all short so_far = ap (λ (x : List Token). let t : Tokens = record { tokens = x; unlexed = None } in t) (sym (append-nil ts)) ∙ so_far
ends ts at (b ∷ z) all short so_far = absurd (omega arith)

pub after_gap : (ts : List Token) (at len : ℕ) (z : List ℕ) (all : Tokens) → 0 < length z → piece_at z ≡ piece.Gap len → 0 < len
    → after ts (tokens_from 0 at z) ≡ all → after ts (tokens_from 0 (at + len) (drop len z)) ≡ all
after_gap ts at len z all long e some so_far = ap (after ts) (sym (gap_goes at len z long e some)) ∙ so_far

pub after_token : (ts : List Token) (at len : ℕ) (kind : TokenKind) (z : List ℕ) (all : Tokens) → 0 < length z → piece_at z ≡ piece.Token kind len → 0 < len
    → after ts (tokens_from 0 at z) ≡ all → after (ts ++ record { kind = kind; start = at; end = at + len } ∷ []) (tokens_from 0 (at + len) (drop len z)) ≡ all
after_token ts at len kind z all long e some so_far =
    let t : Token = record { kind = kind; start = at; end = at + len } in
    let rest : Tokens = tokens_from 0 (at + len) (drop len z) in
    let one : after (ts ++ t ∷ []) rest ≡ after ts (before t rest) = ap (λ (x : List Token). let r : Tokens = record { tokens = x; unlexed = rest.unlexed } in r) (append_assoc ts (t ∷ []) rest.tokens) in
    one ∙ ap (after ts) (sym (token_goes at len kind z long e some)) ∙ so_far
