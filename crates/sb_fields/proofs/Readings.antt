-- Reading and spelling, field by field.
use Rattle.std.proofs.Common.{◌≡◌, ℕ, zero, suc, ◌+◌, ◌^◌, ◌<◌, ◌≤◌, Bool, true, false, cond, List, [], ◌∷◌, ◌++◌, length, Option, Some, None, Result, Ok, Err, refl, sym, ap, subst, ◌∙◌, arith, append_assoc}
use Rattle.std.proofs.Common.{lit<, eqb, ◌-◌}
use Rattle.std.specs.Prelude.{IfSome, nat_le, ◌==◌}
use Rattle.std.specs.List.{flat_map, AllByRecursion}
use Rattle.std.proofs.lemmas.List.{append-nil, nil_from_length}
use Rattle.std.proofs.lemmas.List.Concat.{flat_map-cons}
use Rattle.std.proofs.lemmas.Bool.{leb-true, eqb-true}
use Rattle.sb_fields.specs.Spelling.{Bytes, number, flag, optional}
use Rattle.sb_fields.specs.Reading.{Read, Reading, go_on, read_then, give, found, field, such_that, number_at, flag_at, some_at, optional_at, list_at, whole, ended}
use Rattle.sb_fields.specs.Taking.{Taken}
use Rattle.sb_fields.proofs.Numbers.{AreBytes}
use Rattle.sb_fields.proofs.Takings.{TakesExactly, AreBytes-behind, number_exactly}

-- what is read has the text that P tells
pub record ReadsOnly {A : Type 0} (read : Reading A) (P : A → Bytes → Type 0) : Type 0 where
  pub only : (bytes : Bytes) (x : A) (rest : Bytes) → AreBytes bytes → read bytes ≡ Ok (x, rest) → (text : Bytes) × (bytes ≡ text ++ rest) × P x text

-- the text is read as x, whatever follows it
pub record ReadsAgain {A : Type 0} (read : Reading A) (text : Bytes) (x : A) : Type 0 where
  pub again : (rest : Bytes) → read (text ++ rest) ≡ Ok (x, rest)

-- values that fit are read exactly
pub record ReadsExactly {A : Type 0} (spell : A → Bytes) (read : Reading A) (Fits : A → Type 0) : Type 0 where
  pub reads : (x : A) → Fits x → ReadsAgain read (spell x) x
  pub spelled : ReadsOnly read (λ x text. (text ≡ spell x) × Fits x)

pub then_again : {A B : Type 0} (read : Reading A) (next : A → Reading B) {text more : Bytes} {a : A} {b : B} → ReadsAgain read text a → ReadsAgain (next a) more b → ReadsAgain (read_then read next) (text ++ more) b
unfolding read_then
then_again read next {text = text} {more = more} first second = record {
  again = λ rest. rw (append_assoc, first.again) (second.again rest);
}

pub give_again : {A : Type 0} (x : A) → ReadsAgain (give x) [] x
unfolding give
give_again x = record { again = λ rest. refl }

-- the value of a step that did not fail
go_on_ok : {A B : Type 0} (got : Read A) (next : A → Reading B) (y : B × Bytes) → go_on got next ≡ Ok y → (x : A × Bytes) × (got ≡ Ok x) × (next x.0 x.1 ≡ Ok y)
go_on_ok (Ok x) next y e = (x, refl, e)
go_on_ok (Err left) next y e = absurd cc

then_put : {A B : Type 0} (spell : A → Bytes) (read : Reading A) (Fits : A → Type 0) (next : A → Reading B) (Q : B → Bytes → Type 0) → ReadsExactly spell read Fits → ((a : A) → Fits a → ReadsOnly (next a) (λ b more. Q b (spell a ++ more)))
    → (bytes : Bytes) (y : B) (rest : Bytes) → AreBytes bytes → read_then read next bytes ≡ Ok (y, rest) → (text : Bytes) × (bytes ≡ text ++ rest) × Q y text
unfolding read_then
then_put spell read Fits next Q first second bytes y rest fits e =
    let s = go_on_ok (read bytes) next (y, rest) e in
    let p = first.spelled.only bytes s.0.0 s.0.1 fits s.1 in
    let here : bytes ≡ spell s.0.0 ++ s.0.1 = p.1 ∙ ap (λ (t : List ℕ). t ++ s.0.1) p.2.0 in
    let q = (second s.0.0 p.2.1).only s.0.1 y rest (AreBytes-behind (spell s.0.0) s.0.1 bytes here fits) s.2 in
    (spell s.0.0 ++ q.0, here ∙ ap (λ (t : List ℕ). spell s.0.0 ++ t) q.1 ∙ sym (append_assoc (spell s.0.0) q.0 rest), q.2)

-- one field, and then what reads the rest
pub then_exactly : {A B : Type 0} {spell : A → Bytes} {read : Reading A} {Fits : A → Type 0} (next : A → Reading B) {Q : B → Bytes → Type 0}
    → ReadsExactly spell read Fits → ((a : A) → Fits a → ReadsOnly (next a) (λ b more. Q b (spell a ++ more))) → ReadsOnly (read_then read next) Q
then_exactly {spell = spell} {read = read} {Fits = Fits} next {Q = Q} first second = record { only = then_put spell read Fits next Q first second }

same_ok : {A : Type 0} (x y : A) (a b : Bytes) → (let r : Read A = Ok (x, a) in r) ≡ Ok (y, b) → (x ≡ y) × (a ≡ b)
same_ok {A = A} x y a b e = let same : (let p : A × Bytes = (x, a) in p) ≡ (y, b) = cc in (ap (λ (p : A × Bytes). p.0) same, ap (λ (p : A × Bytes). p.1) same)

pub give_only : {A : Type 0} (x : A) {Q : A → Bytes → Type 0} → Q x [] → ReadsOnly (give x) Q
unfolding give
give_only x {Q = Q} q = record { only = λ bytes y rest fits e. let s = same_ok x y bytes rest e in ([], s.1, subst (λ z. Q z []) s.0 q) }

-- a field
found_ok : {A : Type 0} (taken : Taken A) (bytes : Bytes) (y : A × Bytes) → found taken bytes ≡ Ok y → taken ≡ Some y
found_ok None bytes y e = absurd cc
found_ok (Some x) bytes y e = cc

pub field_exactly : {A : Type 0} {spell : A → Bytes} {take_it : Bytes → Taken A} {Fits : A → Type 0} → TakesExactly spell take_it Fits → ReadsExactly spell (field take_it) Fits
unfolding field
field_exactly {spell = spell} {take_it = take_it} t = record {
  reads = λ x fits. record { again = λ rest. rw (t.again x rest fits) refl };
  spelled = record { only = λ bytes x rest fits e. let p = t.put bytes x rest fits (found_ok (take_it bytes) bytes (x, rest) e) in (spell x, p.0, (refl, p.1)) };
}

-- a field under a test
tested_ok : {A : Type 0} (b : Bool) (left : ℕ) (x y : A) → cond b (let r : Result A ℕ = Ok x in r) (Err left) ≡ Ok y → (b ≡ true) × (x ≡ y)
tested_ok true left x y e = (refl, cc)
tested_ok false left x y e = absurd cc

such_that_put : {A : Type 0} (test : A → Bool) (read : Reading A) (P : A → Bytes → Type 0) → ReadsOnly read P
    → (bytes : Bytes) (y : A) (rest : Bytes) → AreBytes bytes → such_that test read bytes ≡ Ok (y, rest) → (text : Bytes) × (bytes ≡ text ++ rest) × (P y text × (test y ≡ true))
unfolding such_that
such_that_put {A = A} test read P r bytes y rest fits e =
    let s = go_on_ok (read bytes) (λ x after. cond (test x) (Ok (x, after)) (Err (length bytes))) (y, rest) e in
    let c = tested_ok (test s.0.0) (length bytes) s.0 (y, rest) s.2 in
    let p = r.only bytes y rest fits (s.1 ∙ ap Ok c.1) in
    (p.0, p.1, (p.2, subst (λ (x : A × Bytes). test x.0 ≡ true) c.1 c.0))

pub such_that_exactly : {A : Type 0} {spell : A → Bytes} {read : Reading A} {Fits : A → Type 0} (test : A → Bool) → ReadsExactly spell read Fits → ReadsExactly spell (such_that test read) (λ x. Fits x × (test x ≡ true))
unfolding such_that
such_that_exactly {spell = spell} {read = read} {Fits = Fits} test r = record {
  reads = λ x fits. record { again = λ rest. rw ((r.reads x fits.0).again rest, fits.1) refl };
  spelled = record { only = λ bytes x rest fits e. let p = such_that_put test read (λ x text. (text ≡ spell x) × Fits x) r.spelled bytes x rest fits e in (p.0, p.1, (p.2.0.0, (p.2.0.1, p.2.1))) };
}

pub again_is : {A : Type 0} (read : Reading A) {text same : Bytes} {x : A} → text ≡ same → ReadsAgain read text x → ReadsAgain read same x
again_is read {x = x} e r = subst (λ (t : Bytes). ReadsAgain read t x) e r

-- a reading that goes by a test
pub if_only : {A : Type 0} (b : Bool) (one other : Reading A) {P : A → Bytes → Type 0} → (b ≡ true → ReadsOnly one P) → (b ≡ false → ReadsOnly other P) → ReadsOnly (cond b one other) P
if_only true one other here there = here refl
if_only false one other here there = there refl

pub number_read : (width : ℕ) → ReadsExactly (number width) (number_at width) (λ n. n < 256 ^ width)
number_read width = field_exactly (number_exactly width)

-- ---- flags

flag_byte : (n : ℕ) → nat_le n 1 ≡ true → number 1 n ≡ flag (n == 1)
unfolding flag
flag_byte zero h = refl
flag_byte (suc zero) h = refl
flag_byte (suc (suc n)) h = absurd (omega (arith, leb-true (suc (suc n)) 1 h))

flag_again : (b : Bool) → ReadsAgain flag_at (flag b) b
unfolding flag flag_at
flag_again true = again_is flag_at (append-nil (number 1 1)) (then_again _ _ ((such_that_exactly (λ byte. nat_le byte 1) (number_read 1)).reads 1 (lit< tt, refl)) (give_again _))
flag_again false = again_is flag_at (append-nil (number 1 0)) (then_again _ _ ((such_that_exactly (λ byte. nat_le byte 1) (number_read 1)).reads 0 (lit< tt, refl)) (give_again _))

pub flag_read : ReadsExactly flag flag_at (λ b. Unit {0})
unfolding flag_at
flag_read = record {
  reads = λ b fits. flag_again b;
  spelled = then_exactly _ (such_that_exactly (λ byte. nat_le byte 1) (number_read 1)) (λ n f. give_only _ (append-nil (number 1 n) ∙ flag_byte n f.1, tt));
}

-- ---- values that may be missing

optional_again : {A : Type 0} (spell : A → Bytes) (read : Reading A) (Fits : A → Type 0) → ReadsExactly spell read Fits → (o : Option A) → IfSome o Fits → ReadsAgain (optional_at read) (optional spell o) o
unfolding optional optional_at some_at
optional_again spell read Fits r None fits = again_is (optional_at read) (append-nil (flag false)) (then_again _ _ (flag_read.reads false tt) (give_again _))
optional_again spell read Fits r (Some x) fits = again_is (optional_at read) (ap (λ (t : List ℕ). flag true ++ t) (append-nil (spell x))) (then_again _ _ (flag_read.reads true tt) (then_again _ _ (r.reads x fits) (give_again _)))

optional_text : {A : Type 0} (spell : A → Bytes) (there : Bool) (x : A) → there ≡ true → flag there ++ (spell x ++ []) ≡ optional spell (Some x)
unfolding optional
optional_text spell there x e = rw (e, append-nil) refl

no_text : {A : Type 0} (spell : A → Bytes) (there : Bool) → there ≡ false → flag there ++ [] ≡ optional spell None
unfolding optional
no_text spell there e = rw (e, append-nil) refl

pub optional_read : {A : Type 0} {spell : A → Bytes} {read : Reading A} {Fits : A → Type 0} → ReadsExactly spell read Fits → ReadsExactly (optional spell) (optional_at read) (λ o. IfSome o Fits)
unfolding optional_at some_at
optional_read {spell = spell} {read = read} {Fits = Fits} r = record {
  reads = optional_again spell read Fits r;
  spelled = then_exactly _ flag_read (λ there f. if_only there _ _ (λ e. then_exactly _ r (λ x fx. give_only _ (optional_text spell there x e, fx))) (λ e. give_only _ (no_text spell there e, tt)));
}

-- ---- lists

list_again : {A : Type 0} (spell : A → Bytes) (read : Reading A) (Fits : A → Type 0) → ReadsExactly spell read Fits → (xs : List A) → AllByRecursion Fits xs → ReadsAgain (list_at read (length xs)) (flat_map spell xs) xs
unfolding list_at
list_again spell read Fits r [] fits = give_again _
list_again spell read Fits r (x ∷ xs) fits =
    again_is (list_at read (suc (length xs))) (ap (λ (t : List ℕ). spell x ++ t) (append-nil (flat_map spell xs)) ∙ sym (flat_map-cons spell x xs))
    (then_again _ _ (r.reads x fits.0) (then_again _ _ (list_again spell read Fits r xs fits.1) (give_again _)))

list_reads : {A : Type 0} (spell : A → Bytes) (read : Reading A) (Fits : A → Type 0) → ReadsExactly spell read Fits → (count : ℕ) (xs : List A) → (length xs ≡ count) × AllByRecursion Fits xs → ReadsAgain (list_at read count) (flat_map spell xs) xs
list_reads spell read Fits r count xs fits = subst (λ (n : ℕ). ReadsAgain (list_at read n) (flat_map spell xs) xs) fits.0 (list_again spell read Fits r xs fits.1)

pub list_read : {A : Type 0} {spell : A → Bytes} {read : Reading A} {Fits : A → Type 0} → ReadsExactly spell read Fits → (count : ℕ) → ReadsExactly (flat_map spell) (list_at read count) (λ xs. (length xs ≡ count) × AllByRecursion Fits xs)
unfolding list_at
list_read {spell = spell} {read = read} {Fits = Fits} r zero = record {
  reads = list_reads spell read Fits r zero;
  spelled = give_only _ (refl, (refl, tt));
}
list_read {spell = spell} {read = read} {Fits = Fits} r (suc count) = record {
  reads = list_reads spell read Fits r (suc count);
  spelled = then_exactly _ r (λ x fx. then_exactly _ (list_read r count) (λ xs fxs. give_only _ (ap (λ (t : List ℕ). spell x ++ t) (append-nil (flat_map spell xs)) ∙ sym (flat_map-cons spell x xs), (ap suc fxs.0, (fx, fxs.1)))));
}

-- ---- all of the bytes

pub whole_again : {A : Type 0} (read : Reading A) (text : Bytes) (x : A) → ReadsAgain read text x → whole read text ≡ Ok x
unfolding whole
whole_again read text x r = let e : read text ≡ Ok (x, []) = ap read (sym (append-nil text)) ∙ r.again [] in rw e refl

ended_ok : {A : Type 0} (len : ℕ) (got : Read A) (x : A) → ended len got ≡ Ok x → got ≡ Ok (x, [])
ended_ok {A = A} len (Ok got) x e =
    let c = tested_ok (eqb (length got.1) 0) (len - length got.1) got.0 x e in
    let nothing : got.1 ≡ [] = nil_from_length got.1 (eqb-true _ _ c.0) in
    let same : (let p : A × Bytes = got in p) ≡ (x, []) = rw (← nothing, ← c.1) refl in
    ap Ok same
ended_ok len (Err left) x e = absurd cc

pub whole_only : {A : Type 0} (read : Reading A) (P : A → Bytes → Type 0) → ReadsOnly read P → (bytes : Bytes) (x : A) → AreBytes bytes → whole read bytes ≡ Ok x → P x bytes
unfolding whole
whole_only read P r bytes x fits e =
    let p = r.only bytes x [] fits (ended_ok (length bytes) (read bytes) x e) in
    subst (λ (t : Bytes). P x t) (sym (append-nil p.0) ∙ sym p.1) p.2
