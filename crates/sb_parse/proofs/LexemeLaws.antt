-- Steps of the loops that find what tokens stand for.
use Rattle.std.proofs.Common.{◌≡◌, ℕ, zero, suc, ◌+◌, ◌*◌, ◌<◌, ◌≤◌, ◌==◌, Bool, true, false, List, [], ◌∷◌, ◌++◌, length, drop, get_or, refl, sym, ap, ◌∙◌, append_assoc, arith, add-one, drop-cons}
use Rattle.sb_lex.specs.declared.token.Token.{Token}
use Rattle.sb_lex.specs.Cuts.{InOrder}
use Rattle.sb_parse.specs.Lexemes.{undoubled, byte_pairs, digit_value}

second_skipped : (q : ℕ) (s : List ℕ) (i : ℕ) → i < length s → undoubled q true (drop i s) ≡ undoubled q false (drop (i + 1) s)
second_skipped q s i h = rw (add-one, drop-cons s i 0)

first_kept : (q : ℕ) (s : List ℕ) (i : ℕ) → i < length s → undoubled q false (drop i s) ≡ get_or s i 0 ∷ undoubled q (get_or s i 0 == q) (drop (i + 1) s)
first_kept q s i h = rw (add-one, drop-cons s i 0)

cons_at_end : (value rest : List ℕ) (b : ℕ) → value ++ (b ∷ rest) ≡ (value ++ b ∷ []) ++ rest
cons_at_end value rest b = sym (append_assoc value (b ∷ []) rest)

-- past the second of two quotes
pub undoubled_second : (q : ℕ) (s value : List ℕ) (i : ℕ) (second : Bool) → second ≡ true → i < length s → undoubled q false s ≡ value ++ undoubled q second (drop i s) → undoubled q false s ≡ value ++ undoubled q false (drop (i + 1) s)
undoubled_second q s value i second is h e =
    e ∙ ap (λ (b : Bool). value ++ undoubled q b (drop i s)) is ∙ ap (λ (z : List ℕ). value ++ z) (second_skipped q s i h)

-- past any other byte
pub undoubled_first : (q : ℕ) (s value more : List ℕ) (i b : ℕ) (second : Bool) → second ≡ false → i < length s → b ≡ get_or s i 0 → more ≡ value ++ b ∷ [] → undoubled q false s ≡ value ++ undoubled q second (drop i s)
    → undoubled q false s ≡ more ++ undoubled q (b == q) (drop (i + 1) s)
undoubled_first q s value more i b second is h at pushed e =
    let step : undoubled q false (drop i s) ≡ b ∷ undoubled q (b == q) (drop (i + 1) s) = first_kept q s i h ∙ ap (λ (c : ℕ). c ∷ undoubled q (c == q) (drop (i + 1) s)) (sym at) in
    e ∙ ap (λ (b : Bool). value ++ undoubled q b (drop i s)) is ∙ ap (λ (z : List ℕ). value ++ z) step ∙ cons_at_end value (undoubled q (b == q) (drop (i + 1) s)) b
    ∙ ap (λ (z : List ℕ). z ++ undoubled q (b == q) (drop (i + 1) s)) (sym pushed)

pub pairs_step : (z value more whole : List ℕ) (a b : ℕ) → 2 ≤ length z → a ≡ get_or z 0 0 → b ≡ get_or z 1 0 → more ≡ value ++ (digit_value a * 16 + digit_value b) ∷ [] → whole ≡ value ++ byte_pairs z → whole ≡ more ++ byte_pairs (drop 2 z)
pairs_step [] value more whole a b some is_a is_b pushed e = absurd (omega arith)
pairs_step (c ∷ []) value more whole a b some is_a is_b pushed e = absurd (omega arith)
pairs_step (c ∷ d ∷ z) value more whole a b some is_a is_b pushed e =
    e ∙ ap (λ (v : ℕ). value ++ ((digit_value v * 16 + digit_value d) ∷ byte_pairs z)) (sym is_a) ∙ ap (λ (v : ℕ). value ++ ((digit_value a * 16 + digit_value v) ∷ byte_pairs z)) (sym is_b)
    ∙ cons_at_end value (byte_pairs z) (digit_value a * 16 + digit_value b) ∙ ap (λ (y : List ℕ). y ++ byte_pairs z) (sym pushed)

no_pair : (z : List ℕ) → length z < 2 → byte_pairs z ≡ []
no_pair [] h = refl
no_pair (a ∷ []) h = refl
no_pair (a ∷ b ∷ z) h = absurd (omega arith)

append_none : (value : List ℕ) → value ++ [] ≡ value
append_none [] = refl
append_none (b ∷ value) = ap (λ (z : List ℕ). b ∷ z) (append_none value)

pub pairs_end : (z value whole : List ℕ) → length z < 2 → whole ≡ value ++ byte_pairs z → value ≡ whole
pairs_end z value whole h e = sym (e ∙ ap (λ (y : List ℕ). value ++ y) (no_pair z h) ∙ append_none value)

in_order_le : (at len : ℕ) (ts : List Token) → InOrder at ts len → at ≤ len
in_order_le at len [] h = h
in_order_le at len (t ∷ ts) h = let more = in_order_le t.end len ts h.2 in let a = h.0 in let b = h.1 in omega arith

-- each token lies in the text
pub in_order_at : (at len : ℕ) (ts : List Token) → InOrder at ts len → (i : ℕ) (t : Token) → i < length ts → ((get_or ts i t).start ≤ (get_or ts i t).end) × ((get_or ts i t).end ≤ len)
in_order_at at len [] h i t short = absurd (omega arith)
in_order_at at len (u ∷ us) h zero t short = let within = in_order_le u.end len us h.2 in let some = h.1 in (omega arith, omega arith)
in_order_at at len (u ∷ us) h (suc i) t short = in_order_at u.end len us h.2 i t (omega arith)
