-- Numbers and the bytes that spell them, for any width.
use Rattle.std.proofs.Common.{◌≡◌, ℕ, zero, suc, ◌+◌, ◌*◌, ◌^◌, ◌%◌, ◌/◌, ◌<◌, ◌≤◌, List, [], ◌∷◌, ◌++◌, length, take, drop, slice_index, refl, sym, ap, ◌∙◌, arith, inl, inr}
use Rattle.std.proofs.Math.Nat.{mul-add-mod_self_right, mod-eq_of_lt, mod-lt, one-le-pow, mul-le-mul_right}
use Rattle.std.proofs.lemmas.Bool.{cases_lt}
use Rattle.std.proofs.lemmas.List.{append-nil}
use Rattle.std.specs.Int.{byte_at, bytes_high_first}
use Rattle.byteorder.specs.Endian.{big_from}
use Rattle.byteorder.specs.Numbers.{big_from-cons, big_from-lt, big_number-reads_back, length-bytes_high_first}

-- each number of the list is a byte
abbrev pub AreBytes : List ℕ → Type 0
AreBytes bytes = (i : ℕ) → slice_index bytes i < 256

AreBytes-rest : (b : ℕ) (bytes : List ℕ) → AreBytes (b ∷ bytes) → AreBytes bytes
AreBytes-rest b bytes fits i = fits (suc i)

below-pow256 : (n : ℕ) → zero < 256 ^ n
below-pow256 n = let h = one-le-pow n 256 (omega arith) in omega arith

-- a product with a number above zero is larger where its other factor is
same_factor : (a b m x y : ℕ) → a * m + x ≡ b * m + y → x < m → y < m → a ≡ b
same_factor a b m x y e lx ly = elim (cases_lt a b) [
  | inl lt ↦ let h : (a + 1) * m ≤ b * m = mul-le-mul_right m (omega arith) in absurd (omega arith)
  | inr ge ↦ elim (cases_lt b a) [
    | inl lt ↦ let h : (b + 1) * m ≤ a * m = mul-le-mul_right m (omega arith) in absurd (omega arith)
    | inr le ↦ omega arith
  ]
]

-- bytes of one length that make one number are the same
same_bytes : (n : ℕ) (xs ys : List ℕ) → length xs ≡ n → length ys ≡ n → AreBytes xs → AreBytes ys → big_from 0 n xs ≡ big_from 0 n ys → xs ≡ ys
same_bytes zero [] [] lx ly fx fy e = refl
same_bytes zero [] (y ∷ ys) lx ly fx fy e = absurd (omega arith)
same_bytes zero (x ∷ xs) ys lx ly fx fy e = absurd (omega arith)
same_bytes (suc n) [] ys lx ly fx fy e = absurd (omega arith)
same_bytes (suc n) (x ∷ xs) [] lx ly fx fy e = absurd (omega arith)
same_bytes (suc n) (x ∷ xs) (y ∷ ys) lx ly fx fy e =
    let mx = big_from-cons 0 n x xs in
    let my = big_from-cons 0 n y ys in
    let bx = big_from-lt 0 n xs (AreBytes-rest x xs fx) in
    let below_y = big_from-lt 0 n ys (AreBytes-rest y ys fy) in
    let first : x ≡ y = same_factor x y (256 ^ n) (big_from 0 n xs) (big_from 0 n ys) (omega arith) bx below_y in
    let product : x * 256 ^ n ≡ y * 256 ^ n = ap (λ (t : ℕ). t * 256 ^ n) first in
    let later : xs ≡ ys = same_bytes n xs ys (omega arith) (omega arith) (AreBytes-rest x xs fx) (AreBytes-rest y ys fy) (omega arith) in
    cc

byte_below : (i x : ℕ) → byte_at i x < 256
byte_below zero x = mod-lt x (omega arith)
byte_below (suc i) x = mod-lt (x / 256 ^ suc i) (omega arith)

-- the bytes of a number are bytes
pub AreBytes-number : (n x : ℕ) → AreBytes (bytes_high_first n x)
AreBytes-number zero x i = omega arith
AreBytes-number (suc n) x zero = byte_below n x
AreBytes-number (suc n) x (suc i) = AreBytes-number n x i

-- bytes are the spelling of the number that they make
pub spelled_back : (n : ℕ) (xs : List ℕ) → length xs ≡ n → AreBytes xs → bytes_high_first n (big_from 0 n xs) ≡ xs
spelled_back n xs len fits =
    let x : ℕ = big_from 0 n xs in
    let again : big_from 0 n (bytes_high_first n x) ≡ x = ap (big_from 0 n) (sym (append-nil (bytes_high_first n x))) ∙ big_number-reads_back n x [] (big_from-lt 0 n xs fits) in
    same_bytes n (bytes_high_first n x) xs (length-bytes_high_first n x) len (AreBytes-number n x) fits again
