-- What is taken was put, and what was put is taken again.
use Rattle.std.proofs.Common.{◌≡◌, ℕ, zero, suc, ◌+◌, ◌^◌, ◌<◌, ◌≤◌, Bool, true, false, cond, ltb, List, [], ◌∷◌, ◌++◌, length, take, drop, Option, Some, None, refl, sym, ap, subst, ◌∙◌, arith, inl, inr, append_assoc}
use Rattle.std.proofs.lemmas.Bool.{cases_lt, ltb-false, le-ltb}
use Rattle.std.proofs.lemmas.List.{append-nil, take_at, drop_at, take-append-drop, length-append, length-take, get_or-drop, get_or-take, get_or_past}
use Rattle.std.specs.Prelude.{IfSome, IfNone}
use Rattle.std.proofs.lemmas.Option.{none-some, same_Some}
use Rattle.std.specs.Str.{IsUtf8, is_utf8}
use Rattle.std.proofs.lemmas.Str.{IsUtf8-from_is_utf8, is_utf8-from_IsUtf8}
use Rattle.byteorder.specs.Endian.{big_bytes, big_number}
use Rattle.byteorder.specs.Numbers.{big_from-lt, big_number-reads_back, length-bytes_high_first}
use Rattle.sb_fields.specs.Spelling.{Bytes, number, text16, bytes32, IsText16}
use Rattle.sb_fields.specs.Taking.{Taken, Takes, ◌>>=◌, take_front, take_number, take_counted, take_text16, take_bytes32}
use Rattle.sb_fields.specs.Laws.{OneSpelling}
use Rattle.sb_fields.proofs.Numbers.{AreBytes, spelled_back}

-- values that fit are taken exactly: what was put is taken again, whatever follows it, and what is taken was put
pub record TakesExactly {A : Type 0} (spell : A → Bytes) (take_it : Bytes → Taken A) (Fits : A → Type 0) : Type 0 where
  pub again : (x : A) (rest : Bytes) → Fits x → take_it (spell x ++ rest) ≡ Some (x, rest)
  pub put : (bytes : Bytes) (x : A) (rest : Bytes) → AreBytes bytes → take_it bytes ≡ Some (x, rest) → (bytes ≡ spell x ++ rest) × Fits x

-- a test that did not fail
guard_some : {A : Type 0} (b : Bool) (x y : A) → cond b None (Some x) ≡ Some y → (b ≡ false) × (x ≡ y)
guard_some true x y e = absurd cc
guard_some false x y e = (refl, cc)

guard_none : {A : Type 0} (b : Bool) (x : A) → cond b None (Some x) ≡ None → b ≡ true
guard_none true x e = refl
guard_none false x e = absurd cc

AreBytes-take : (n : ℕ) (bytes : List ℕ) → AreBytes bytes → AreBytes (take n bytes)
AreBytes-take n bytes fits i =
    elim (cases_lt i n) [
      | inl lt ↦ rw (get_or-take n bytes i 0 lt) (fits i)
      | inr le ↦ rw (get_or_past (take n bytes) i 0 (omega (arith, length-take n bytes))) (omega arith)
    ]

pub AreBytes-drop : (n : ℕ) (bytes : List ℕ) → AreBytes bytes → AreBytes (drop n bytes)
AreBytes-drop n bytes fits i = rw get_or-drop (fits (n + i))

-- what stands behind a text within bytes
pub AreBytes-behind : (text rest bytes : List ℕ) → bytes ≡ text ++ rest → AreBytes bytes → AreBytes rest
AreBytes-behind text rest bytes e fits = let same : drop (length text) bytes ≡ rest = ap (drop (length text)) e ∙ drop_at text rest (length text) refl in subst AreBytes same (AreBytes-drop (length text) bytes fits)

pub length-number : (width n : ℕ) → length (number width n) ≡ width
unfolding number
length-number width n = length-bytes_high_first width n

-- ---- numbers

number_again : (width n : ℕ) (rest : Bytes) → n < 256 ^ width → take_number width (number width n ++ rest) ≡ Some (n, rest)
unfolding take_number
number_again width n rest fits =
    let len = length-number width n in
    let long : ltb (length (number width n ++ rest)) width ≡ false = le-ltb _ _ (omega (arith, length-append (number width n) rest)) in
    let read : big_number width (number width n) ≡ n = unfold number in ap (big_number width) (sym (append-nil (big_bytes width n))) ∙ big_number-reads_back width n [] fits in
    rw (long, take_at (number width n) rest width len, drop_at (number width n) rest width len, read) refl

number_put : (width : ℕ) (bytes : Bytes) (n : ℕ) (rest : Bytes) → AreBytes bytes → take_number width bytes ≡ Some (n, rest) → (bytes ≡ number width n ++ rest) × (n < 256 ^ width)
unfolding take_number number
number_put width bytes n rest fits e =
    let front : Bytes = take width bytes in
    let g = guard_some (ltb (length bytes) width) (big_number width front, drop width bytes) (n, rest) e in
    let long : width ≤ length bytes = ltb-false _ _ g.0 in
    let n-is : big_number width front ≡ n = ap (λ (p : ℕ × List ℕ). p.0) g.1 in
    let rest-is : drop width bytes ≡ rest = ap (λ (p : ℕ × List ℕ). p.1) g.1 in
    let back : big_bytes width n ≡ front = rw (← n-is) (spelled_back width front (omega (arith, length-take width bytes)) (AreBytes-take width bytes fits)) in
    (rw (back, ← rest-is) (sym (take-append-drop width bytes)), rw (← n-is) (big_from-lt 0 width front (AreBytes-take width bytes fits)))

pub number_exactly : (width : ℕ) → TakesExactly (number width) (take_number width) (λ n. n < 256 ^ width)
number_exactly width = record { again = number_again width; put = number_put width }

-- ---- bytes behind their length

counted : ℕ → Bytes → Bytes
counted width bytes = number width (length bytes) ++ bytes

counted_again : (width : ℕ) (bytes rest : Bytes) → length bytes < 256 ^ width → take_counted width (counted width bytes ++ rest) ≡ Some (bytes, rest)
unfolding take_counted counted
counted_again width bytes rest fits =
    let long : ltb (length (bytes ++ rest)) (length bytes) ≡ false = le-ltb _ _ (omega (arith, length-append bytes rest)) in
    rw (append_assoc, number_again width (length bytes) (bytes ++ rest) fits, long, take_at bytes rest (length bytes) refl, drop_at bytes rest (length bytes) refl) refl

-- the value of a taking that gave one
bind_some : {A B : Type 0} (taken : Taken A) (next : A × Bytes → Taken B) (y : B × Bytes) → (taken >>= next) ≡ Some y → (x : A × Bytes) × (taken ≡ Some x) × (next x ≡ Some y)
bind_some (Some x) next y e = (x, refl, e)
bind_some None next y e = absurd cc

counted_put : (width : ℕ) (bytes x rest : Bytes) → AreBytes bytes → take_counted width bytes ≡ Some (x, rest) → (bytes ≡ counted width x ++ rest) × (length x < 256 ^ width)
unfolding take_counted counted
counted_put width bytes x rest fits e =
    let b = bind_some (take_number width bytes) (λ count. take_front count.0 count.1) (x, rest) e in
    let n : ℕ = b.0.0 in
    let after : Bytes = b.0.1 in
    let first = number_put width bytes n after fits b.1 in
    let g = guard_some (ltb (length after) n) (take n after, drop n after) (x, rest) b.2 in
    let long : n ≤ length after = ltb-false _ _ g.0 in
    let x-is : take n after ≡ x = ap (λ (p : List ℕ × List ℕ). p.0) g.1 in
    let rest-is : drop n after ≡ rest = ap (λ (p : List ℕ × List ℕ). p.1) g.1 in
    let taken : length (take n after) ≡ n = omega (arith, length-take n after) in
    let len : length x ≡ n = ap length (sym x-is) ∙ taken in
    let parts : after ≡ x ++ rest = sym (take-append-drop n after) ∙ ap (λ (t : List ℕ). t ++ drop n after) x-is ∙ ap (λ (t : List ℕ). x ++ t) rest-is in
    (first.0 ∙ rw (len, append_assoc, parts) refl, omega (arith, first.1))

-- ---- texts and bytes

pub bytes32_exactly : TakesExactly bytes32 take_bytes32 (λ bytes. length bytes < 2 ^ 32)
unfolding bytes32 take_bytes32 counted
bytes32_exactly = record { again = counted_again 4; put = counted_put 4 }

text16_again : (text rest : Bytes) → (length text < 2 ^ 16) × IsUtf8 text → take_text16 (text16 text ++ rest) ≡ Some (text, rest)
unfolding text16 take_text16 counted
text16_again text rest fits =
    rw (counted_again 2 text rest fits.0, is_utf8-from_IsUtf8 text fits.1) refl

chosen : {A : Type 0} (b : Bool) (x y : A) → cond b (Some x) None ≡ Some y → (b ≡ true) × (x ≡ y)
chosen true x y e = (refl, cc)
chosen false x y e = absurd cc

text16_put : (bytes text rest : Bytes) → AreBytes bytes → take_text16 bytes ≡ Some (text, rest) → (bytes ≡ text16 text ++ rest) × ((length text < 2 ^ 16) × IsUtf8 text)
unfolding text16 take_text16 counted
text16_put bytes text rest fits e =
    let b = bind_some (take_counted 2 bytes) (λ t. cond (is_utf8 t.0) (Some t) None) (text, rest) e in
    let c = chosen (is_utf8 b.0.0) b.0 (text, rest) b.2 in
    let put = counted_put 2 bytes b.0.0 b.0.1 fits b.1 in
    subst (λ (p : List ℕ × List ℕ). (bytes ≡ text16 p.0 ++ p.1) × ((length p.0 < 2 ^ 16) × IsUtf8 p.0)) c.1 (put.0, (put.1, IsUtf8-from_is_utf8 b.0.0 c.0))

pub text16_exactly : TakesExactly text16 take_text16 IsText16
text16_exactly = record { again = text16_again; put = text16_put }

-- ---- what a function that takes gives

pub none_is : {X : Type 0} (r : Option X) (P : Type 0) → P → IfNone r P
none_is None P p = p
none_is (Some x) P p = tt

-- fewer bytes than a number has spell none
pub too_short : (width : ℕ) (bytes : Bytes) → length bytes < width → (n : ℕ) (rest : Bytes) → bytes ≡ number width n ++ rest → ⊥
too_short width bytes short n rest e = let len = length-number width n in let both = length-append (number width n) rest in let same : length bytes ≡ length (number width n ++ rest) = ap length e in omega arith

-- a number and the bytes behind it were put
pub number_front : (width : ℕ) (bytes front rest : Bytes) (n : ℕ) → AreBytes bytes → width ≤ length bytes → front ≡ take width bytes → rest ≡ drop width bytes → n ≡ big_number width front → bytes ≡ number width n ++ rest
unfolding take_number
number_front width bytes front rest n fits long front-is rest-is n-is =
    let enough : ltb (length bytes) width ≡ false = le-ltb _ _ long in
    (number_put width bytes n rest fits (rw (enough, rest-is, n-is, front-is) refl)).0

pub put_from : {A X : Type 0} {spell : A → Bytes} {take_it : Bytes → Taken A} {Fits : A → Type 0} → TakesExactly spell take_it Fits → (view : X → A × Bytes) (bytes : Bytes) (r : Option X) → AreBytes bytes → Takes view r (take_it bytes) → IfSome r (λ x. bytes ≡ spell (view x).0 ++ (view x).1)
put_from t view bytes None fits given = tt
put_from t view bytes (Some x) fits given = (t.put bytes (view x).0 (view x).1 fits given).0

pub none_from : {A X : Type 0} {spell : A → Bytes} {take_it : Bytes → Taken A} {Fits : A → Type 0} → TakesExactly spell take_it Fits → (view : X → A × Bytes) (bytes : Bytes) (r : Option X) → Takes view r (take_it bytes) → IfNone r ((x : A) (rest : Bytes) → Fits x → bytes ≡ spell x ++ rest → ⊥)
none_from {take_it = take_it} t view bytes None given = λ x rest fits e. let found : take_it bytes ≡ Some (x, rest) = ap take_it e ∙ t.again x rest fits in none-some (x, rest) (sym given ∙ found)
none_from t view bytes (Some x) given = tt

-- ---- no spelling begins another one

pub one_from : {A : Type 0} {spell : A → Bytes} {take_it : Bytes → Taken A} {Fits : A → Type 0} → TakesExactly spell take_it Fits → OneSpelling spell Fits
one_from {A = A} {take_it = take_it} t a b x y fa fb e =
    let same : (let p : A × Bytes = (a, x) in p) ≡ (b, y) = same_Some (a, x) (b, y) (sym (t.again a x fa) ∙ ap take_it e ∙ t.again b y fb) in
    (ap (λ (p : A × Bytes). p.0) same, ap (λ (p : A × Bytes). p.1) same)
